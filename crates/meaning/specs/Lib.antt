pub mod Meaning
pub mod Selected
