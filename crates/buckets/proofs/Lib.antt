pub mod ProductsOfSales
pub mod PricedParts
pub mod RowsOfPartitions
pub mod RisingRows
