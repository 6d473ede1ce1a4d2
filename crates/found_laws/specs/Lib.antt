pub mod Laws
pub mod Directives
