pub mod FollowedShares
pub mod TextParts
pub mod Written
