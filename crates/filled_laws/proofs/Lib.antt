pub mod FinalIndices
pub mod Families
pub mod FreshTypes
pub mod Places
pub mod Determined
pub mod NewFamilies
pub mod FilledFamilies
