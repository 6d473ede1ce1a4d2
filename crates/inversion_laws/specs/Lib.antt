pub use Rattle.pattern_laws.specs.Instantiations
pub use Rattle.pattern_laws.specs.Equations
pub use Rattle.pattern_laws.specs.Patterns
pub mod Laws
