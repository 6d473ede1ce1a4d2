pub use Rattle.clf_syntax.specs.Tree
pub use Rattle.clf_syntax.specs.TypeTree
pub use Rattle.clf_syntax.specs.Renaming
pub use Rattle.clf_syntax.specs.Simple
pub use Rattle.hered_subst.specs.Substitution
pub use Rattle.hered_subst.specs.TypedEnvironments
pub mod Environments
pub mod Laws
