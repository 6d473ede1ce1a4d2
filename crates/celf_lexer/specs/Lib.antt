pub use Rattle.clf_syntax.specs.Word
pub mod Gap
pub mod Sign
pub mod Tokens
pub mod SignAt
pub mod Spelling
pub mod Worked
