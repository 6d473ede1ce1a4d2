-- Inner: what a search for a sign answers.
use Rattle.std.specs.Prelude.{Option, Some, None}
use Rattle.celf_lexer.specs.declared.sign.Sign.{Sign}
use Rattle.celf_lexer.specs.Sign.{Front, token, bad}

-- the sign that was found, or no token
abbrev pub sign_here : Option Sign → Front
sign_here (Some s) = token s.kind s.length
sign_here None = bad
