pub mod Batches
pub mod Readings
pub mod ScannedBatches
pub mod ScannedSoFar
