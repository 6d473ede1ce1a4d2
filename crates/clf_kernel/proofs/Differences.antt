-- The first index at which what is found differs from what is wanted.
use Rattle.std.proofs.Common.{◌≡◌, ◌≤◌, ◌<◌, ℕ, zero, suc, Bool, true, false, if◌then◌else◌, List, [], ◌∷◌, length, map, get_or, slice_get, Some, None, refl, sym, ap, ◌∙◌, arith}
use Rattle.std.proofs.Math.Logic.{◌⊎◌, inl, inr}
use Rattle.std.proofs.lemmas.Bool.{cond-true, cond-false}
use Rattle.std.proofs.lemmas.List.{length-map}
use Rattle.clf_syntax.specs.declared.tree.Obj.{Obj}
use Rattle.clf_syntax.specs.Tree.{PlainObject}
use Rattle.clf_syntax.specs.Plain.{plain_obj}
use Rattle.use_contexts.specs.Context.{Context}
use Rattle.use_contexts.specs.Rows.{Leftover}
use Rattle.trace_equal.specs.Exchange.{Joined, JoinedEach}
use Rattle.trace_equal.specs.Search.{is_joined}
use Rattle.trace_equal.specs.Difference.{DiffersAt}
use Rattle.trace_equal.proofs.FirstMatching.{same_is_joined}
use Rattle.clf_rules.specs.Refusal.{index_differs, family_differs}
use Rattle.clf_decision.specs.Outcome.{passed, refused}
use Rattle.clf_decision.specs.Checking.{first_unjoined, indices_left, same_family_left}
use Rattle.clf_decision.proofs.Tests.{itself-number}

joined_test : (o u : PlainObject) → Joined o u → is_joined o u ≡ true
joined_test o u j = (same_is_joined o u).1 j

unjoined_test : (o u : PlainObject) → (Joined o u → ⊥) → is_joined o u ≡ false
unjoined_test o u n = by (is_joined o u) (same_is_joined o u).0
  where
    by : (b : Bool) → (b ≡ true → Joined o u) → b ≡ false
    by false f = refl
    by true f = absurd (n (f refl))

pub none_differs : (os us : List PlainObject) → JoinedEach os us → first_unjoined os us ≡ None
none_differs [] us j = refl
none_differs (o ∷ os) [] j = absurd j
none_differs (o ∷ os) (u ∷ us) j = cond-true (is_joined o u) (first_unjoined os us) (Some (o, u)) (joined_test o u j.0) ∙ none_differs os us j.1

pub one_differs : (i : ℕ) (os us : List PlainObject) (o u : PlainObject) → DiffersAt i os us → slice_get os i ≡ Some o → slice_get us i ≡ Some u → first_unjoined os us ≡ Some (o, u)
one_differs i [] us o u d e f = cc
one_differs i (x ∷ os) [] o u d e f = cc
one_differs zero (x ∷ os) (y ∷ us) o u d e f =
    let p : x ≡ o = cc in
    let q : y ≡ u = cc in
    cond-false (is_joined x y) (first_unjoined os us) (Some (x, y)) (unjoined_test x y d) ∙ ap (λ z. Some (z, y)) p ∙ ap (λ z. Some (o, z)) q
one_differs (suc i) (x ∷ os) (y ∷ us) o u d e f = cond-true (is_joined x y) (first_unjoined os us) (Some (x, y)) (joined_test x y d.0) ∙ one_differs i os us o u d.1 e f

-- Where one list has no object at the place, there is nothing to compare.
pub one_ends : (i : ℕ) (os us : List PlainObject) → DiffersAt i os us → (length os ≤ i) ⊎ (length us ≤ i) → first_unjoined os us ≡ None
one_ends i [] us d e = refl
one_ends i (x ∷ os) [] d e = refl
one_ends zero (x ∷ os) (y ∷ us) d (inl l) = absurd (omega arith)
one_ends zero (x ∷ os) (y ∷ us) d (inr l) = absurd (omega arith)
one_ends (suc i) (x ∷ os) (y ∷ us) d (inl l) = cond-true (is_joined x y) (first_unjoined os us) (Some (x, y)) (joined_test x y d.0) ∙ one_ends i os us d.1 (inl (omega arith))
one_ends (suc i) (x ∷ os) (y ∷ us) d (inr l) = cond-true (is_joined x y) (first_unjoined os us) (Some (x, y)) (joined_test x y d.0) ∙ one_ends i os us d.1 (inr (omega arith))

-- ---- the lists of the program
there : (xs : List Obj) (i : ℕ) (x : Obj) → i < length xs → x ≡ get_or xs i x → slice_get (map plain_obj xs) i ≡ Some (plain_obj x)
there [] i x l e = absurd (omega arith)
there (y ∷ xs) zero x l e = ap (λ z. Some (plain_obj z)) (sym e)
there (y ∷ xs) (suc i) x l e = there xs i x (omega arith) e

module _ (g : Context) (a : Leftover) (i : ℕ) (os us : List Obj) (d : DiffersAt i (map plain_obj os) (map plain_obj us)) where
  pub found_ends : length os ≤ i → indices_left g (first_unjoined (map plain_obj os) (map plain_obj us)) a ≡ passed a
  found_ends l = let n = length-map os plain_obj in ap (λ o. indices_left g o a) (one_ends i (map plain_obj os) (map plain_obj us) d (inl (omega (arith, n, l))))

  pub wanted_ends : length us ≤ i → indices_left g (first_unjoined (map plain_obj os) (map plain_obj us)) a ≡ passed a
  wanted_ends l = let n = length-map us plain_obj in ap (λ o. indices_left g o a) (one_ends i (map plain_obj os) (map plain_obj us) d (inr (omega (arith, n, l))))

  pub index_refused : (x y : Obj) → i < length os → x ≡ get_or os i x → i < length us → y ≡ get_or us i y
      → indices_left g (first_unjoined (map plain_obj os) (map plain_obj us)) a ≡ refused [] (index_differs (length g) (plain_obj x) (plain_obj y))
  index_refused x y l e k f = ap (λ o. indices_left g o a) (one_differs i (map plain_obj os) (map plain_obj us) (plain_obj x) (plain_obj y) d (there os i x l e) (there us i y k f))

-- a family of the number that is wanted
pub own_family : (g : Context) (wanted : ℕ) (ns os : List PlainObject) (a : Leftover) → same_family_left g wanted ns wanted os a ≡ indices_left g (first_unjoined os ns) a
own_family g wanted ns os a = ap (λ b. if b then indices_left g (first_unjoined os ns) a else refused [] (family_differs wanted wanted)) (itself-number wanted)
