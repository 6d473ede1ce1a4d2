pub use Rattle.clf_syntax.specs.Word
pub use Rattle.clf_syntax.specs.TypeTree
pub use Rattle.clf_syntax.specs.PlainTypes
pub mod Entry
pub mod Keys
pub mod Signature
pub mod Core
