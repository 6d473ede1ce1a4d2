pub mod More
pub mod Puts
pub mod Gathered
pub mod Starts
pub mod Settled
pub mod After
pub mod Answers
