mod Examples
mod Found
mod LineParts
pub mod FoundValues
mod Whole
