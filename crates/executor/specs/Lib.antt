pub mod Collected
pub mod Outcomes
pub mod Rehearsals
pub mod Steps
