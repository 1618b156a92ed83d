pub mod JoinedPartitions
pub mod MessagesOfPartition
pub mod JoinedInPartitions
mod Divided
mod TakenRows
