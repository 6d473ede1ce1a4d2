pub use Rattle.clf_syntax.specs.Word
pub use Rattle.celf_lexer.specs.Gap
pub use Rattle.celf_lexer.specs.Tokens
pub use Rattle.celf_surface.specs.Surface
pub use Rattle.celf_grammar.specs.State
pub use Rattle.celf_grammar.specs.Grammar
pub use Rattle.celf_cursor.specs.Cursor
