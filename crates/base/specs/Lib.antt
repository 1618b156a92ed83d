pub mod Least
pub mod Among
