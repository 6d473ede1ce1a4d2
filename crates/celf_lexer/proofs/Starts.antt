-- Where the next token begins, or the byte where none does.
use Rattle.std.proofs.Common.{◌≡◌, ◌≤◌, ◌<◌, ◌+◌, ℕ, List, [], ◌∷◌, length, drop, Ok, Err, arith}
use Rattle.std.proofs.lemmas.List.{length-drop}
use Rattle.celf_lexer.specs.declared.token.Token.{Token}
use Rattle.celf_lexer.specs.declared.token.LexFault.{LexFault}
use Rattle.celf_lexer.specs.declared.token.LexFault.TheVariants.{BadByte, LongName}
use Rattle.celf_lexer.specs.Gap.{gap}
use Rattle.celf_lexer.specs.Sign.{Front, token, long, bad, front}
use Rattle.celf_lexer.specs.Tokens.{placed, fault_byte, first_of, next_token}
use Rattle.celf_lexer.proofs.Bounds.{gap-bound}

placed-start : (at : ℕ) (f : Front) (t : Token) → placed at f ≡ Ok t → t.start ≡ at
placed-start at (token k n) t e = cc
placed-start at long t e = cc
placed-start at bad t e = cc

pub next_token-start : (text : List ℕ) (at : ℕ) (t : Token) → next_token text at ≡ Ok t → t.start ≡ at + gap (drop at text)
unfolding first_of
next_token-start text at t e = placed-start (at + gap (drop at text)) (front (drop (gap (drop at text)) (drop at text))) t e
