-- What the contracts speak of, and the rule that they follow from.
pub mod Rule
pub mod Seats
