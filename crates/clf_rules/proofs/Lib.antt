pub mod Longer
pub mod Signatures
pub mod Held
pub mod OneType
pub mod TypedExamples
pub mod FormedExamples
pub mod UsedParts
pub mod Leavings
