pub use Rattle.reach_laws.specs.Reach
pub use Rattle.reach_laws.specs.Rest
pub use Rattle.reach_laws.specs.Sources
pub use Rattle.reach_laws.specs.Unified
pub mod Laws
pub mod Worked
