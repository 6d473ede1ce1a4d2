pub mod Replacements
pub mod Laws
