pub mod Pricing
pub mod Selection
