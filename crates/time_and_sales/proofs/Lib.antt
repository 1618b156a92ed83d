pub mod Decimals
pub mod InRanges
pub mod LastRows
pub mod MergedListings
pub mod SortedByPlace
