mod CollectedTexts
mod RehearsalLaws
mod RunLaws
pub mod Steps
