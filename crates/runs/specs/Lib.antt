pub mod Ends
pub mod Made
pub mod Runs
pub mod Steps
