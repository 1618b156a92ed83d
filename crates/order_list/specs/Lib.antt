pub mod Bits
pub mod Filters
pub mod SameOrders
pub mod ShortRows
