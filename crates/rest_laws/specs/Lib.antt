pub use Rattle.reach_laws.specs.Rest
pub use Rattle.reach_laws.specs.Unified
pub use Rattle.solver_laws.specs.Solving
pub mod Together
pub mod Laws
