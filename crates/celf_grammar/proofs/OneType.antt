-- A type has one tree.
use Rattle.std.proofs.Common.{◌≡◌, ℕ, true, refl, sym, ap, ◌∙◌, Option, is_some}
use Rattle.std.proofs.lemmas.Bool.{true≢false}
use Rattle.celf_lexer.specs.declared.token.TokenKind.{TokenKind}
use Rattle.celf_lexer.specs.declared.token.TokenKind.TheVariants as token
use Rattle.celf_surface.specs.declared.surface.Arrow.{Arrow}
use Rattle.celf_surface.specs.Surface.{WrittenType, arrow}
use Rattle.celf_grammar.specs.State.{State, next_kind, span_to, Opens}
use Rattle.celf_grammar.specs.Grammar.{is_amp, is_star, is_forward, is_backward, backward_of, OpensArrow, IsType, type_all, IsBackward, back_first, back_more, IsForward, forward_pi, forward_alone, forward_arrow, IsSync, sync_exists, sync_alone, sync_product, IsFactor, factor_persistent, factor_affine, factor_bare, IsWith, with_alone, with_pair, IsTypeAtom, atomty_word, atomty_family, atomty_top, atomty_one, atomty_braces, atomty_group}
use Rattle.celf_grammar.specs.Machine.{is_pi, is_exists}
use Rattle.celf_grammar.proofs.ObjectRuns.{begins_family}
use Rattle.celf_grammar.proofs.Begins.{kind-taken, family-begins, with-no_mark, factor-no_exists, sync-no_pi}
use Rattle.celf_grammar.proofs.OneToken.{Same, apart, same-kind, same-room, takes-same, opens-same, closes-same, name-same, word-same, none-begins, mark_at, unmarked}
use Rattle.celf_grammar.proofs.Goes.{Goes, goes_end, goes_on, goes-from, goes-next, goes-none}
use Rattle.celf_grammar.proofs.OneObject.{indices-same, family-same}

arrow-same : {of : TokenKind → Option Arrow} {s r u v : State} {k l : Arrow} → OpensArrow of k s u → OpensArrow of l r v → s ≡ r → Same k u l v
arrow-same {of} h g e =
    let i = sym (kind-taken h.sign.taken h.sign.kind) ∙ same-kind e ∙ kind-taken g.sign.taken g.sign.kind in
    let j = sym h.is ∙ ap of i ∙ g.is in (cc, opens-same h.sign g.sign e)

arrow-begins : {of : TokenKind → Option Arrow} {s u : State} {k : Arrow} → OpensArrow of k s u → is_some (of (next_kind s.rest)) ≡ true
arrow-begins {of} h = ap is_some (ap of (kind-taken h.sign.taken h.sign.kind) ∙ h.is)

pi-alone : {T : Type 0} {s r u v : State} {a : WrittenType} → Opens token.KwPi s u → IsSync r a v → s ≡ r → T
pi-alone h x e = none-begins is_pi (sync-no_pi x) (sym e) (ap is_pi (kind-taken h.taken h.kind))

exists-alone : {T : Type 0} {s r u v : State} {a : WrittenType} → Opens token.KwExists s u → IsFactor r a v → s ≡ r → T
exists-alone h f e = none-begins is_exists (factor-no_exists f) (sym e) (ap is_exists (kind-taken h.taken h.kind))

abbrev factor_form : {s u : State} {a : WrittenType} → IsFactor s a u → ℕ
factor_form (factor_persistent h w) = 1
factor_form (factor_affine h w) = 2
factor_form (factor_bare w) = 0

factor-form : {s u : State} {a : WrittenType} (d : IsFactor s a u) → mark_at (next_kind s.rest) ≡ factor_form d
factor-form (factor_persistent h w) = ap mark_at (kind-taken h.taken h.kind)
factor-form (factor_affine h w) = ap mark_at (kind-taken h.taken h.kind)
factor-form {s} (factor_bare w) = unmarked (next_kind s.rest) (with-no_mark w)

abbrev type_atom_at : TokenKind → ℕ
type_atom_at token.KwType = 1
type_atom_at token.TopSign = 2
type_atom_at token.Number = 3
type_atom_at token.LeftBrace = 4
type_atom_at token.LeftParen = 5
type_atom_at _ = 0

abbrev type_atom_form : {s u : State} {a : WrittenType} → IsTypeAtom s a u → ℕ
type_atom_form (atomty_word h) = 1
type_atom_form (atomty_family f xs e) = 0
type_atom_form (atomty_top h) = 2
type_atom_form (atomty_one h) = 3
type_atom_form (atomty_braces h x c) = 4
type_atom_form (atomty_group h x c) = 5

family_alone : (c : TokenKind) → begins_family c ≡ true → type_atom_at c ≡ 0
family_alone (token.Name b) e = refl
family_alone token.ConstName e = refl
family_alone _ e = absurd (true≢false (sym e))

type_atom-form : {s u : State} {a : WrittenType} (d : IsTypeAtom s a u) → type_atom_at (next_kind s.rest) ≡ type_atom_form d
type_atom-form (atomty_word h) = ap type_atom_at (kind-taken h.taken h.kind)
type_atom-form {s} (atomty_family f xs e) = family_alone (next_kind s.rest) (family-begins f)
type_atom-form (atomty_top h) = ap type_atom_at (kind-taken h.taken h.kind)
type_atom-form (atomty_one h) = ap type_atom_at (kind-taken h.taken h.kind)
type_atom-form (atomty_braces h x c) = ap type_atom_at (kind-taken h.taken h.kind)
type_atom-form (atomty_group h x c) = ap type_atom_at (kind-taken h.taken h.kind)

-- one more arrow to the left after a type that begins at s
abbrev BackStep : State → WrittenType → State → WrittenType → State → Type 0
BackStep s a u b w = (k : Arrow) × (c : WrittenType) × (v : State) × OpensArrow backward_of k u v × IsForward v c w × (b ≡ arrow (span_to s w) k a c)

abbrev GoesBack : State → WrittenType → State → WrittenType → State → Type 0
GoesBack s = Goes WrittenType (BackStep s) is_backward

backward-goes : {s u v : State} {a b : WrittenType} → IsBackward s a u → GoesBack s a u b v → (c : WrittenType) × (w : State) × IsForward s c w × GoesBack s c w b v
backward-goes (back_first f) g = (_, _, f, g)
backward-goes (back_more b o f) g = backward-goes b (goes_on (_, _, _, o, f, refl) g)

mutual
  pub type-same : {s r u v : State} {a b : WrittenType} → IsType s a u → IsType r b v → s ≡ r → Same a u b v
  type-same (type_all b h) (type_all c g) e =
      let f = backward-goes c (goes_end g) in goes-none (backward-same b f.2 f.3 e) h (λ x y step. arrow-begins step.3)

  backward-same : {s r w u v : State} {a b c : WrittenType} → IsBackward s a u → IsForward r c w → GoesBack r c w b v → s ≡ r → GoesBack r a u b v
  backward-same (back_first f) d g e = let i = forward-same f d e in goes-from g i.0 i.1
  backward-same (back_more b o f) d g e =
      goes-next (backward-same b d g e) (arrow-begins o)
      (λ x y step. let i = arrow-same o step.3 refl in let j = forward-same f step.4 i.1 in (cc, j.1))

  forward-same : {s r u v : State} {a b : WrittenType} → IsForward s a u → IsForward r b v → s ≡ r → Same a u b v
  forward-same (forward_pi h n c x d y) (forward_pi g m k z l w) e =
      let i = name-same n m (opens-same h g e) in let j = type-same x z (takes-same c k i.1) in let f = type-same y w (takes-same d l j.1) in (cc, f.1)
  forward-same (forward_alone x h) (forward_alone y g) e = sync-same x y e
  forward-same (forward_arrow x o f) (forward_arrow y p g) e =
      let i = sync-same x y e in let j = arrow-same o p i.1 in let k = forward-same f g j.1 in (cc, k.1)
  forward-same (forward_alone x h) (forward_arrow y o f) e = none-begins is_forward h (sync-same x y e).1 (arrow-begins o)
  forward-same (forward_arrow x o f) (forward_alone y h) e = none-begins is_forward h (sym (sync-same x y e).1) (arrow-begins o)
  forward-same (forward_pi h n c x d y) (forward_alone z g) e = pi-alone h z e
  forward-same (forward_pi h n c x d y) (forward_arrow z o f) e = pi-alone h z e
  forward-same (forward_alone z g) (forward_pi h n c x d y) e = pi-alone h z (sym e)
  forward-same (forward_arrow z o f) (forward_pi h n c x d y) e = pi-alone h z (sym e)

  sync-same : {s r u v : State} {a b : WrittenType} → IsSync s a u → IsSync r b v → s ≡ r → Same a u b v
  sync-same (sync_exists h n c x d y) (sync_exists g m k z l w) e =
      let i = name-same n m (opens-same h g e) in let j = type-same x z (takes-same c k i.1) in let f = sync-same y w (takes-same d l j.1) in (cc, f.1)
  sync-same (sync_alone x h) (sync_alone y g) e = factor-same x y e
  sync-same (sync_product x o f) (sync_product y p g) e =
      let i = factor-same x y e in let j = sync-same f g (takes-same o p i.1) in (cc, j.1)
  sync-same (sync_alone x h) (sync_product y o f) e = none-begins is_star h (factor-same x y e).1 (ap is_star (kind-taken o.taken o.kind))
  sync-same (sync_product x o f) (sync_alone y h) e = none-begins is_star h (sym (factor-same x y e).1) (ap is_star (kind-taken o.taken o.kind))
  sync-same (sync_exists h n c x d y) (sync_alone z g) e = exists-alone h z e
  sync-same (sync_exists h n c x d y) (sync_product z o f) e = exists-alone h z e
  sync-same (sync_alone z g) (sync_exists h n c x d y) e = exists-alone h z (sym e)
  sync-same (sync_product z o f) (sync_exists h n c x d y) e = exists-alone h z (sym e)

  factor-same : {s r u v : State} {a b : WrittenType} → IsFactor s a u → IsFactor r b v → s ≡ r → Same a u b v
  factor-same (factor_persistent h x) (factor_persistent g y) e = let i = with-same x y (takes-same h g e) in (cc, i.1)
  factor-same (factor_affine h x) (factor_affine g y) e = let i = with-same x y (takes-same h g e) in (cc, i.1)
  factor-same (factor_bare x) (factor_bare y) e = with-same x y e
  factor-same d g e = absurd (apart refl (sym (factor-form d) ∙ ap mark_at (same-kind e) ∙ factor-form g))

  with-same : {s r u v : State} {a b : WrittenType} → IsWith s a u → IsWith r b v → s ≡ r → Same a u b v
  with-same (with_alone x h) (with_alone y g) e = type_atom-same x y e
  with-same (with_pair x o f) (with_pair y p g) e = let i = type_atom-same x y e in let j = with-same f g (opens-same o p i.1) in (cc, j.1)
  with-same (with_alone x h) (with_pair y o f) e = none-begins is_amp h (type_atom-same x y e).1 (ap is_amp (kind-taken o.taken o.kind))
  with-same (with_pair x o f) (with_alone y h) e = none-begins is_amp h (sym (type_atom-same x y e).1) (ap is_amp (kind-taken o.taken o.kind))

  type_atom-same : {s r u v : State} {a b : WrittenType} → IsTypeAtom s a u → IsTypeAtom r b v → s ≡ r → Same a u b v
  type_atom-same (atomty_word h) (atomty_word g) e = let i = takes-same h g e in (cc, i)
  type_atom-same (atomty_family f xs h) (atomty_family g ys k) e = let i = family-same f g e in let j = indices-same xs ys h k i.2 in (cc, j.1)
  type_atom-same (atomty_top h) (atomty_top g) e = let i = takes-same h g e in (cc, i)
  type_atom-same (atomty_one h) (atomty_one g) e = let i = word-same h g e in (cc, i.1)
  type_atom-same (atomty_braces h x c) (atomty_braces g y d) e = let i = type-same x y (opens-same h g e) in let j = closes-same c d (same-room e) i.1 in (cc, j)
  type_atom-same (atomty_group h x c) (atomty_group g y d) e = let i = type-same x y (opens-same h g e) in (i.0, closes-same c d (same-room e) i.1)
  type_atom-same d g e = absurd (apart refl (sym (type_atom-form d) ∙ ap type_atom_at (same-kind e) ∙ type_atom-form g))
