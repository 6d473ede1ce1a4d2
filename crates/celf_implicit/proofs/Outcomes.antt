-- What a round comes to, from what has been noted in it.
use Rattle.std.specs.Prelude.{ℕ, suc, ◌≡◌, ◌<◌, true, List, [], ◌∷◌, ◌++◌, map, ◌⊎◌, Option, Some, None, Result, refl}
use Rattle.std.specs.List.{find}
use Rattle.std.proofs.Common.{ap, sym, ◌∙◌, inl, inr}
use Rattle.std.proofs.lemmas.List.{map-append}
use Rattle.clf_sig.specs.Entry.{PlainSignature}
use Rattle.celf_sugar.specs.Earliest.{sooner, earliest}
use Rattle.celf_sugar.specs.PlainTree.{DesugaredBody}
use Rattle.celf_implicit.specs.declared.variable.Implicit.{Implicit}
use Rattle.celf_implicit.specs.declared.variable.Variable.{Variable}
use Rattle.celf_implicit.specs.Variables.{PlainImplicit, has_name}
use Rattle.celf_implicit.specs.Occurrences.{occurrences}
use Rattle.celf_implicit.specs.Rounds.{start, begins, standing, open_occurrences, found, first_of_each, round, after_rounds, determined, undetermined}
use Rattle.celf_implicit.specs.Answers.{plain_implicit, IsOutcome, unless_left}
use Rattle.celf_implicit.specs.Noting.{PlainNotes, nothing_noted, noted}
use Rattle.celf_implicit.proofs.Names.{first_named}
use Rattle.celf_implicit.proofs.Firsts.{noted_firsts, noted_first}
use Rattle.celf_implicit.proofs.RoundLaws.{left, each_round, reached}

pub none_mapped : (xs : List Implicit) → map plain_implicit xs ≡ [] → xs ≡ []
none_mapped [] e = refl
none_mapped (x ∷ xs) e = absurd (cc)

no_firsts : (xs : List PlainImplicit) → first_of_each xs ≡ [] → xs ≡ []
no_firsts [] e = refl
no_firsts (x ∷ xs) e =
    let u : (u : PlainImplicit) × (sooner start (Some x) (find (has_name x.name) (first_of_each xs)) ≡ Some u) × (has_name x.name u ≡ true) = first_named x (first_of_each xs) in
    let never = rw u.1 at e in
    absurd (cc)

module _ (sig : PlainSignature) (body : DesugaredBody) (before : List Implicit) (ns : PlainNotes) (all : ns ≡ noted (map plain_implicit before) nothing_noted (occurrences sig (map plain_implicit before) body)) where
  firsts : ns.determined ≡ first_of_each (found sig body (map plain_implicit before))
  firsts = ap (λ (m : PlainNotes). m.determined) all ∙ noted_firsts (map plain_implicit before) (occurrences sig (map plain_implicit before) body)

  first_left : ns.open_one ≡ earliest begins (map standing (open_occurrences sig body (map plain_implicit before)))
  first_left = ap (λ (m : PlainNotes). m.open_one) all ∙ noted_first (map plain_implicit before) (occurrences sig (map plain_implicit before) body)

  pub outcome_is : (n : ℕ) (r : Result (List Implicit) Variable) → map plain_implicit before ≡ after_rounds sig body n → ns.determined ≡ [] → r ≡ unless_left before ns.open_one → IsOutcome sig body r
  outcome_is n r e d q =
      let none : found sig body (map plain_implicit before) ≡ [] = no_firsts (found sig body (map plain_implicit before)) (sym firsts ∙ d) in
      let none_after : found sig body (after_rounds sig body n) ≡ [] = rw e at none in
      let whole : map plain_implicit before ≡ determined sig body = e ∙ reached sig body n none_after in
      let left_over : ns.open_one ≡ undetermined sig body = first_left ∙ ap (λ xs. earliest begins (map standing (open_occurrences sig body xs))) whole in
      rw q (by_left whole ns.open_one left_over)
    where
      by_left : map plain_implicit before ≡ determined sig body → (v : Option Variable) → v ≡ undetermined sig body → IsOutcome sig body (unless_left before v)
      by_left w None l = record { determined_all = sym l; found = w }
      by_left w (Some v) l = sym l

  pub next_is : (n : ℕ) (new more : List Implicit) → map plain_implicit before ≡ after_rounds sig body n → new ≡ before ++ more → map plain_implicit more ≡ ns.determined → map plain_implicit new ≡ after_rounds sig body (suc n)
  next_is n new more e p q = rw (p, map-append plain_implicit before more, q, firsts, e) refl

  pub fewer_left : (new more : List Implicit) → new ≡ before ++ more → map plain_implicit more ≡ ns.determined → (ns.determined ≡ [] → ⊥) → left sig body (map plain_implicit new) < left sig body (map plain_implicit before)
  fewer_left new more p q some = by_part (each_round sig body (map plain_implicit before))
    where
      by_part : (found sig body (map plain_implicit before) ≡ []) ⊎ (left sig body (round sig body (map plain_implicit before)) < left sig body (map plain_implicit before)) → left sig body (map plain_implicit new) < left sig body (map plain_implicit before)
      by_part (inl e) = absurd (some (firsts ∙ ap first_of_each e))
      by_part (inr e) =
          let same : map plain_implicit new ≡ round sig body (map plain_implicit before) = rw (p, map-append plain_implicit before more, q, firsts) refl in
          rw same e
