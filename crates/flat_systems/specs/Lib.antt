pub use Rattle.flat_laws.specs.Flat
pub use Rattle.solver_laws.specs.Solving
pub mod Systems
pub mod Laws
