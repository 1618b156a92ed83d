pub mod Bars
pub mod BarsOfSales
pub mod JoinedTables
pub mod LastBar
pub mod Seconds
pub mod StartsAlike
pub mod SumsAreBounded
pub mod Ticks
