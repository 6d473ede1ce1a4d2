pub mod Standings
pub mod OneReading
pub mod Marking
pub mod Finding
pub mod StandingTyped
pub mod Reaching
pub mod Fitted
pub mod Premising
