-- What the contracts speak of: schedules, and what a pair of pipelines gives by two of them.
pub mod Rehearsals
pub mod Schedules
