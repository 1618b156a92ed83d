pub mod FilteredOrders
mod SearchedRows
