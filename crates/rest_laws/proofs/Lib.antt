pub mod Fewer
pub mod Growing
pub mod Absorbing
pub mod Calls
