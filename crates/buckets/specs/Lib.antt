pub mod Products
pub mod FoundRows
pub mod SameQuestions
pub mod BucketRows
pub mod Buckets
pub mod RisingLists
pub mod Plans
