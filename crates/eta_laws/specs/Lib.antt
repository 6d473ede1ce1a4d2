pub use Rattle.clf_syntax.specs.Tree
pub use Rattle.clf_syntax.specs.TypeTree
pub use Rattle.clf_syntax.specs.Simple
pub use Rattle.hered_subst.specs.Substitution
pub mod Eta
pub mod Laws
pub mod Worked
