pub use Rattle.celf_explicit.specs.Explicit
pub use Rattle.celf_spelling.specs.Printed
pub use Rattle.celf_spelling.specs.Placeless
pub use Rattle.clf_rules.specs.WellFormed
pub mod ReadingBack
pub mod Laws
