pub mod Partitions
pub mod MoreRows
pub mod SameRows
pub mod TakenPartitions
