pub mod Settled
pub mod Scenes
pub mod Laws
pub mod Puts
