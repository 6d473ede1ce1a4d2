pub use Rattle.clf_syntax.specs.Word
pub use Rattle.clf_sig.specs.Entry
pub use Rattle.celf_sugar.specs.Plain
pub mod Names
