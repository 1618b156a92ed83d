pub mod FieldsOfBodies
pub mod Laws
pub mod NineTypes
pub mod Numbers
