-- Lemmas that several proofs share.
pub mod CoveredTasks
pub mod EqualInputs
pub mod Folding
