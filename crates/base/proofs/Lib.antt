pub mod Lists
pub mod Least
pub mod Parts
pub mod Order
pub mod Among
pub mod Exact
