pub use Rattle.celf_elaboration.specs.Readings
pub use Rattle.celf_elaboration.specs.Declarations
pub mod Becoming
pub mod Trees
pub mod Fronts
pub mod Laws
pub mod Examples
