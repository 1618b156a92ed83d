pub mod Walked
pub mod Filled
pub mod Chained
pub mod BlocksAndAttempts
pub mod KnownFiles
