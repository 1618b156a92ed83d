pub mod CutAnswers
pub mod Answered
pub mod BlocksScanned
pub mod RunOutcomes
pub mod TextsHandedOver
