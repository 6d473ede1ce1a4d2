pub mod Sources
pub mod InTurn
pub mod Worked
pub mod Patterned
