pub mod Repeats
pub mod RowsInOrder
pub mod PartRows
mod SearchedRows
