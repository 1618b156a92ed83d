pub mod Attempts
pub mod Blocks
pub mod Noting
pub mod Pieces
