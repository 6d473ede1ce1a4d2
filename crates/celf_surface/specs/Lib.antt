pub use Rattle.clf_syntax.specs.Word
pub mod Surface
