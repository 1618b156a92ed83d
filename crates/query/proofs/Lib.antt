pub mod MeaningOrFault
pub mod CutAtSeparator
pub mod ValueLists
pub mod WordByWord
