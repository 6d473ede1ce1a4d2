pub mod PartsTyped
pub mod CoresTyped
pub mod Whole
pub mod ReadingsWhole
pub mod Finals
pub mod Stores
pub mod SameTypes
pub mod Keeping
