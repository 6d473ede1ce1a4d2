pub mod StoreTypes
pub mod Gathered
pub mod Declarations
pub mod DirectiveInstances
