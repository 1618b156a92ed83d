pub mod JoinedBatches
pub mod ScannedBatches
