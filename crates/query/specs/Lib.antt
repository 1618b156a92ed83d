pub mod Words
pub mod Values
pub mod Grammar
pub mod Faults
