pub mod Counted
pub mod Followed
pub mod TextParts
pub mod Written
