pub use Rattle.clf_syntax.specs.Tree
pub use Rattle.clf_syntax.specs.TypeTree
pub use Rattle.clf_sig.specs.Signature
pub use Rattle.clf_printer.specs.Text
pub use Rattle.clf_printer.specs.Judgment
pub mod Runs
pub mod Laws
