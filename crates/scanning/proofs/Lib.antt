pub mod PickedFrames
pub mod InputFrames
pub mod MorselInputs
pub mod TotalOfScans
pub mod JoinedRuns
