-- A repetition, read from its first part on until nothing goes on with it.
use Rattle.std.proofs.Common.{◌≡◌, Bool, true, refl, sym, ◌∙◌, subst}
use Rattle.std.proofs.lemmas.Bool.{true≢false}
use Rattle.celf_lexer.specs.declared.token.TokenKind.{TokenKind}
use Rattle.celf_grammar.specs.State.{State, next_kind, Ends}
use Rattle.celf_grammar.proofs.OneToken.{Same}

-- From what was read up to a state, steps lead to what was read up to another, where the next token begins no step.
pub data Goes (T : Type 0) (Step : T → State → T → State → Type 0) (kinds : TokenKind → Bool) : T → State → T → State → Type 0 where
  goes_end : {x : T} {u : State} → Ends kinds u → Goes T Step kinds x u x u
  goes_on : {x y z : T} {u v w : State} → Step x u y v → Goes T Step kinds y v z w → Goes T Step kinds x u z w

module _ {T : Type 0} {Step : T → State → T → State → Type 0} {kinds : TokenKind → Bool} where
  pub goes-from : {x y z : T} {u v w : State} → Goes T Step kinds x u z w → y ≡ x → v ≡ u → Goes T Step kinds y v z w
  goes-from {y = y} {z = z} {u = u} {w = w} g e f = subst (λ r. Goes T Step kinds y r z w) (sym f) (subst (λ a. Goes T Step kinds a u z w) (sym e) g)

  -- Where one step is the only one, it was taken.
  pub goes-next : {x y z : T} {u v w : State} → Goes T Step kinds x u z w → kinds (next_kind u.rest) ≡ true
      → ((a : T) (r : State) → Step x u a r → Same y v a r) → Goes T Step kinds y v z w
  goes-next (goes_end e) b f = absurd (true≢false (sym b ∙ e))
  goes-next (goes_on step more) b f = let s = f _ _ step in goes-from more s.0 s.1

  -- Where none begins, none was taken.
  pub goes-none : {x z : T} {u w : State} → Goes T Step kinds x u z w → Ends kinds u
      → ((a : T) (r : State) → Step x u a r → kinds (next_kind u.rest) ≡ true) → Same x u z w
  goes-none (goes_end e) h f = (refl, refl)
  goes-none (goes_on step more) h f = absurd (true≢false (sym (f _ _ step) ∙ h))
