-- Lemmas that several proofs share.
pub mod Occurrences
pub mod Rising
pub mod RuleIsKept
