pub mod MergedSlices
pub mod RangesJoined
pub mod SalesInRanges
pub mod SalesInTurn
pub mod TakenInTurn
