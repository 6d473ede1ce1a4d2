pub use Rattle.clf_syntax.specs.Tree
pub use Rattle.clf_syntax.specs.TypeTree
pub use Rattle.clf_syntax.specs.Simple
pub use Rattle.hered_subst.specs.Substitution
pub use Rattle.trace_equal.specs.Exchange
pub mod JoinedTypes
pub mod Environments
pub mod Laws
