-- Lemmas on what a worker's turns leave.
pub mod Workers
