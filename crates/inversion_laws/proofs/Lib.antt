pub mod Misfits
pub mod Readings
pub mod Inversions
pub mod Cores
pub mod Masks
pub mod Counterexamples
