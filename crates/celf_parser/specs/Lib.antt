pub use Rattle.clf_syntax.specs.Word
pub use Rattle.celf_lexer.specs.Gap
pub use Rattle.celf_lexer.specs.Tokens
pub use Rattle.celf_surface.specs.Surface
pub use Rattle.celf_grammar.specs.State
pub use Rattle.celf_grammar.specs.Grammar
pub use Rattle.celf_grammar.specs.Machine
pub use Rattle.celf_grammar.specs.Faults
pub use Rattle.celf_cursor.specs.Cursor
pub use Rattle.celf_cursor.specs.Faults as ReadingFaults
pub mod Product
pub mod Enclosed
pub mod Fault
pub mod Place
pub mod Going
