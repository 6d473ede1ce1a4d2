pub mod Names
pub mod Added
