pub mod Messages
pub mod DayRows
