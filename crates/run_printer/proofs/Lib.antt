pub mod RunLines
pub mod Binding
