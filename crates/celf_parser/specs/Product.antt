-- Inner: products, factor by factor.
use Rattle.std.specs.Prelude.{ℕ, List, [], ◌∷◌, ◌++◌}
use Rattle.celf_lexer.specs.declared.token.TokenKind.TheVariants.{Star}
use Rattle.celf_surface.specs.Surface.{WrittenType, tensor, surface}
use Rattle.celf_grammar.specs.State.{State, span_to, Takes}
use Rattle.celf_grammar.specs.Grammar.{IsFactor}
use Rattle.celf_cursor.specs.Cursor.{state_of}
use Rattle.celf_parser.specs.declared.product.Factor.{Factor}

-- where a factor begins, and its tree
abbrev pub factor_of : List ℕ → Factor → State × WrittenType
factor_of text f = (state_of text f.at, surface f.ty)

-- Factors, each with a * after it.
pub data IsFactors : State → List (State × WrittenType) → State → Type 0 where
  factors_none : {s : State} → IsFactors s [] s
  factors_more : {s u v w : State} {fs : List (State × WrittenType)} {a : WrittenType}
      → IsFactors s fs u → IsFactor u a v → Takes Star v w → IsFactors s (fs ++ ((u, a) ∷ [])) w

-- the product of factors and of the last one, after which the product ends; it nests to the right
abbrev pub product_of : List (State × WrittenType) → WrittenType → State → WrittenType
product_of [] last u = last
product_of (f ∷ fs) last u = tensor (span_to f.0 u) f.1 (product_of fs last u)
