pub use Rattle.clf_syntax.specs.Renaming
pub use Rattle.clf_syntax.specs.Occurs
pub use Rattle.clf_syntax.specs.Plain
pub use Rattle.clf_syntax.specs.PlainTypes
pub use Rattle.clf_syntax.specs.PlainSimple
pub mod Laws
