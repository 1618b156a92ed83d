pub mod CountedMessages
pub mod JoinedRows
pub mod RowsByPlace
pub mod RowsOfFrames
pub mod Stamped
pub mod TradesOfRows
