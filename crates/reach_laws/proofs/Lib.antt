pub mod Reached
pub mod Down
pub mod PartsUnder
pub mod Rests
pub mod Tightness
pub mod Tight
pub mod Again
pub mod Decides
