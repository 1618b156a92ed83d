pub mod Joined
pub mod Kept
pub mod Laws
pub mod Readings
pub mod Walks
