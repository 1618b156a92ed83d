pub mod Canonical
pub mod WrongWords
