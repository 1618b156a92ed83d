pub mod MorselsOfCuts
pub mod FittingRows
pub mod LinkedBuckets
pub mod PlannedLists
pub mod AnswerOfBuckets
pub mod BucketsOfMessages
pub mod ProductsJoined
