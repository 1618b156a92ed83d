pub mod CutsAt
pub mod CutsBy
pub mod Fed
pub mod FirstRuns
pub mod LeftFrames
