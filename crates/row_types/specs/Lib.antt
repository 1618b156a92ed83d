pub mod SalesByPlace
