pub mod BarsInRanges
pub mod Grids
pub mod LinesOneByOne
pub mod NextAnywhere
pub mod NextBar
pub mod RangeTexts
