pub mod Grown
pub mod Parts
pub mod Wholes
pub mod Steps
pub mod Left
