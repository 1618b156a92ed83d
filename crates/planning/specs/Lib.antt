pub mod AllBuckets
pub mod Lines
pub mod Planned
