-- Lemmas that several proofs share, those of crates above among them.
pub mod OneOutcome
