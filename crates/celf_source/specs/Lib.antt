pub mod Calls
pub mod Count
pub mod Fault
pub mod Files
pub mod Shelf
pub mod Sink
pub mod Written
