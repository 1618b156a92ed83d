-- The layout of a body, and the message that a body is.
pub mod Body
pub mod Layout
