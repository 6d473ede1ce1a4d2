pub use Rattle.clf_syntax.specs.Renaming
pub use Rattle.clf_syntax.specs.TypeTree
pub mod Context
pub mod Holding
pub mod Marks
pub mod Rows
pub mod Laws
