-- The taking of arrows.
use Rattle.std.proofs.Common.{◌≡◌, false, Some, None, is_some, sym, ap, ◌∙◌}
use Rattle.celf_lexer.specs.declared.token.TokenKind.{TokenKind}
use Rattle.celf_lexer.specs.declared.token.TokenKind.TheVariants.{End}
use Rattle.celf_surface.specs.declared.surface.Arrow.{Arrow}
use Rattle.celf_grammar.specs.State.{State, Opens, next_kind}
use Rattle.celf_grammar.specs.Grammar.{OpensArrow, forward_of, backward_of, is_forward, is_backward}

-- the end is no arrow
pub forward-not_end : (k : TokenKind) (a : Arrow) → Some a ≡ forward_of k → k ≡ End → ⊥
forward-not_end k a e f = let g : forward_of k ≡ None = ap forward_of f in cc

pub backward-not_end : (k : TokenKind) (a : Arrow) → Some a ≡ backward_of k → k ≡ End → ⊥
backward-not_end k a e f = let g : backward_of k ≡ None = ap backward_of f in cc

pub forward-opened : (k : TokenKind) (a : Arrow) (s u : State) → Some a ≡ forward_of k → Opens k s u → OpensArrow forward_of a s u
forward-opened k a s u e h = record { kind = k; sign = h; is = sym e }

pub backward-opened : (k : TokenKind) (a : Arrow) (s u : State) → Some a ≡ backward_of k → Opens k s u → OpensArrow backward_of a s u
backward-opened k a s u e h = record { kind = k; sign = h; is = sym e }

pub forward-ends : (k : TokenKind) (s : State) → None ≡ forward_of k → k ≡ next_kind s.rest → is_forward (next_kind s.rest) ≡ false
forward-ends k s e f = sym (ap is_forward f) ∙ ap is_some (sym e)

pub backward-ends : (k : TokenKind) (s : State) → None ≡ backward_of k → k ≡ next_kind s.rest → is_backward (next_kind s.rest) ≡ false
backward-ends k s e f = sym (ap is_backward f) ∙ ap is_some (sym e)

pub ruleset forward_steps = (forward-not_end, forward-opened, forward-ends)

pub ruleset backward_steps = (backward-not_end, backward-opened, backward-ends)
