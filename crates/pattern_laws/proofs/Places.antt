-- Places of a metavariable: which they are, which ways from them end, and where variables that occur have one.
use Rattle.std.specs.Prelude.{ℕ, Bool, true, false, suc, ◌+◌, ◌≡◌, ◌⊎◌, nat_eq, List, [], ◌∷◌, length, Option, Some, None, refl}
use Rattle.std.proofs.Common.{ap, sym, subst, ◌∙◌, arith, inl, inr, ⊎_elim, add-one}
use Rattle.clf_syntax.specs.declared.tree.Mode.{Mode}
use Rattle.clf_syntax.specs.declared.tree.Head.TheVariants.{Const, Var, Meta}
use Rattle.clf_syntax.specs.Tree.{PlainObject, PlainNeutral, PlainExpression, PlainTuple}
use Rattle.clf_syntax.specs.TypeTree.{SimpleType, arrow, SimpleTelescope}
use Rattle.clf_syntax.specs.Simple.{Assignment, extended, simple_modes}
use Rattle.clf_syntax.specs.Occurs.{occurs, occurs_neutral, occurs_expression, occurs_tuple}
use Rattle.clf_syntax.proofs.OccursLaws.{either, not_both}
use Rattle.hered_subst.proofs.SimpleTyping.{Typed, typed_lam, typed_pair, typed_unit, typed_monadic, typed_metavariable, typed_atomic, TypedNeutral, typed_bare, typed_app, typed_fst, typed_snd, TypedExpression, typed_step, typed_done, TypedTuple, typed_empty, typed_entry, to_typed, extended_out}
use Rattle.pattern_laws.specs.Patterns.{Place, arrows, local_at, Distinct, inverse, SameTypes, Ends, ends_here, ends_later, IsFinal, functions}
use Rattle.pattern_laws.specs.Instantiations.{closed}
use Rattle.pattern_laws.specs.Equations.{scoped}
use Rattle.pattern_laws.specs.Laws.{SamePlaces, CoversWhereNoForeign}
use Rattle.pattern_laws.proofs.Inverse.{inverse_there}
use Rattle.pattern_laws.proofs.Instances.{scoped_in}

functions_of : (ps : List Place) (a : SimpleType) → functions (arrows ps a) ≡ length ps + functions a
functions_of [] a = none (functions a)
  where
    none : (n : ℕ) → n ≡ 0 + n
    none n = omega arith
functions_of (p ∷ ps) a = functions_of ps (arrow p.0 p.1 a) ∙ sum (length ps) (functions a)
  where
    sum : (n k : ℕ) → n + suc k ≡ suc n + k
    sum n k = omega arith

final_functions : (a : SimpleType) → IsFinal a → functions a ≡ 0
final_functions a f = ⊎_elim (λ u. ap functions u.1) (λ u. ap functions u.1) f

mode_of : {m k : Mode} {d c e f : SimpleType} → arrow m d c ≡ arrow k e f → m ≡ k
mode_of h = cc

domain_of : {m k : Mode} {d c e f : SimpleType} → arrow m d c ≡ arrow k e f → d ≡ e
domain_of h = cc

result_of : {m k : Mode} {d c e f : SimpleType} → arrow m d c ≡ arrow k e f → c ≡ f
result_of h = cc

same_arrows : (ps zs : List Place) (a c : SimpleType) → length ps ≡ length zs → arrows ps a ≡ arrows zs c → SameTypes ps zs × (a ≡ c)
same_arrows [] [] a c l e = (tt, e)
same_arrows [] (z ∷ zs) a c l e = absurd (omega arith)
same_arrows (p ∷ ps) [] a c l e = absurd (omega arith)
same_arrows (p ∷ ps) (z ∷ zs) a c l e = let (s, f) = same_arrows ps zs (arrow p.0 p.1 a) (arrow z.0 z.1 c) (omega arith) e in ((mode_of f, domain_of f, s), result_of f)

-- Two lists of places of one metavariable, with results that are no functions, have the same modes and types.
pub same_types : SamePlaces
same_types ps zs a c f g e = same_arrows ps zs a c (lengths (sym (functions_of ps a) ∙ ap functions e ∙ functions_of zs c) (final_functions a f) (final_functions c g)) e
  where
    lengths : length ps + functions a ≡ length zs + functions c → functions a ≡ 0 → functions c ≡ 0 → length ps ≡ length zs
    lengths e f g = omega arith

-- A set of places that holds each place without a next one, and each one whose next it holds, holds all from which the way comes to an end.
-- So the set that grows until nothing is added is exactly these.
pub ends_held : (ps zs : List Place) (held : ℕ → Bool) → Distinct zs
    → ((j v : ℕ) → local_at ps j ≡ Some v → ((i : ℕ) → local_at zs i ≡ Some v → ⊥) → held j ≡ true)
    → ((j i v : ℕ) → local_at ps j ≡ Some v → local_at zs i ≡ Some v → held i ≡ true → held j ≡ true)
    → {j : ℕ} → Ends ps zs j → held j ≡ true
ends_held ps zs held d f g (ends_here {j = j} {v = v} e h) = f j v e h
ends_held ps zs held d f g (ends_later {j = j} {i = i} {v = v} e h n) = g j i v e h (ends_held ps zs held d f g n)

the_number : (i v : ℕ) → nat_eq i v ≡ true → i ≡ v
the_number i v e = grind arith

-- A variable that occurs in a typed tree has a type.
mutual
  pub occurring : {w : Bool} {g : Assignment} {o : PlainObject} {t : SimpleType} → Typed w g o t → (j : ℕ) → occurs j o ≡ true → (u : SimpleType) × (g (Var j) ≡ Some u)
  occurring (typed_lam {g = g} {d = d} p) j e = let (u, f) = occurring p (j + 1) e in (u, ap (λ i. extended d g (Var i)) (sym (add-one j)) ∙ f)
  occurring (typed_pair {l = l} {r = r} p q) j e = ⊎_elim (λ f. occurring p j f) (λ f. occurring q j f) (either (occurs j l) (occurs j r) e)
  occurring typed_unit j e = absurd (cc)
  occurring (typed_monadic p) j e = occurring_expression p j e
  occurring (typed_metavariable i p k) j e = occurring_neutral p j e
  occurring (typed_atomic p) j e = occurring_neutral p j e

  pub occurring_neutral : {w : Bool} {g : Assignment} {n : PlainNeutral} {t : SimpleType} → TypedNeutral w g n t → (j : ℕ) → occurs_neutral j n ≡ true → (u : SimpleType) × (g (Var j) ≡ Some u)
  occurring_neutral (typed_bare {h = Const c} f) j e = absurd (cc)
  occurring_neutral (typed_bare {g = g} {h = Var i} {t = t} f) j e = (t, ap (λ k. g (Var k)) (sym (the_number i j e)) ∙ f)
  occurring_neutral (typed_bare {h = Meta m} f) j e = absurd (cc)
  occurring_neutral (typed_app {r = r} {o = o} p q) j e = ⊎_elim (λ f. occurring_neutral p j f) (λ f. occurring q j f) (either (occurs_neutral j r) (occurs j o) e)
  occurring_neutral (typed_fst p) j e = occurring_neutral p j e
  occurring_neutral (typed_snd p) j e = occurring_neutral p j e

  pub occurring_expression : {w : Bool} {g : Assignment} {x : PlainExpression} {ts : SimpleTelescope} → TypedExpression w g x ts → (j : ℕ) → occurs_expression j x ≡ true → (u : SimpleType) × (g (Var j) ≡ Some u)
  occurring_expression (typed_step {g = g} {ms = ms} {r = r} {e = x} {ts = ts} p m q) j e = ⊎_elim (λ f. occurring_neutral p j f)
      (λ f. let (u, h) = occurring_expression q (j + length (simple_modes ts)) (subst (λ k. occurs_expression (j + k) x ≡ true) (ap length m) f) in (u, sym (extended_out ts g j) ∙ h))
      (either (occurs_neutral j r) (occurs_expression (j + length ms) x) e)
  occurring_expression (typed_done p) j e = occurring_tuple p j e

  pub occurring_tuple : {w : Bool} {g : Assignment} {x : PlainTuple} {ts : SimpleTelescope} → TypedTuple w g x ts → (j : ℕ) → occurs_tuple j x ≡ true → (u : SimpleType) × (g (Var j) ≡ Some u)
  occurring_tuple typed_empty j e = absurd (cc)
  occurring_tuple (typed_entry {o = o} {t = t} p q) j e = ⊎_elim (λ f. occurring p j f) (λ f. occurring_tuple q j f) (either (occurs j o) (occurs_tuple j t) e)

-- whether a place holds the variable
pub holds : (o : Option ℕ) (j : ℕ) → (o ≡ Some j) ⊎ (o ≡ Some j → ⊥)
holds None j = inr (λ e. cc)
holds (Some i) j = of (nat_eq i j) (the_number i j) (λ e. ap (nat_eq i) (sym e) ∙ own i)
  where
    own : (i : ℕ) → nat_eq i i ≡ true
    own i = grind arith

    number : {i j : ℕ} → Some i ≡ Some j → i ≡ j
    number e = cc

    of : (b : Bool) → (b ≡ true → i ≡ j) → (i ≡ j → b ≡ true) → (Some i ≡ Some j) ⊎ (Some i ≡ Some j → ⊥)
    of true f g = inl (ap (λ n. Some n) (f refl))
    of false f g = inr (λ e. not_both (g (number e)) refl)

-- Where no foreign local occurs, each variable that occurs stands at a place.
pub covers : CoversWhereNoForeign
covers constants metas ls ps x a p f j o = let (u, e) = occurring (to_typed true (scoped ls (closed constants metas)) x a p) j o in
    ⊎_elim (λ h. (inverse (length ls) ps j, h)) (λ h. absurd (f j o (j, none j, (scoped_in constants metas metas ls j u e).0, (λ i k. h (inverse_there (length ls) ps i j k)))))
    (holds (local_at ps (inverse (length ls) ps j)) j)
  where
    none : (j : ℕ) → j ≡ j + 0
    none j = omega arith
