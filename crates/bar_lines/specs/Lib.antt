pub mod BarParts
pub mod Grids
pub mod NextBar
pub mod Told
