pub mod PricedExecutions
pub mod KeptSales
pub mod ExactSelections
