-- The mask of a metavariable on distinct locals, of which the marked ones are taken away.
use Rattle.std.specs.Prelude.{ℕ, Bool, true, false, zero, suc, ◌+◌, ◌≡◌, ◌<◌, ◌⊎◌, ◌↔◌, ◌||◌, not, if◌then◌else◌, List, [], ◌∷◌, ◌++◌, length, map, Option, Some, None, refl}
use Rattle.std.specs.List.{list_any}
use Rattle.std.proofs.Common.{ap, sym, subst, ◌∙◌, arith, inl, inr, ⊎_elim}
use Rattle.std.proofs.lemmas.List.{length-map}
use Rattle.clf_syntax.specs.declared.tree.Head.TheVariants.{Var}
use Rattle.clf_syntax.specs.Tree.{atomic, PlainNeutral, head_alone}
use Rattle.clf_syntax.specs.TypeTree.{SimpleType}
use Rattle.clf_syntax.specs.Simple.{Assignment}
use Rattle.clf_syntax.specs.Occurs.{occurs_neutral}
use Rattle.clf_syntax.proofs.OccursLaws.{not_both, own_number}
use Rattle.pattern_laws.specs.Equations.{Locals, scoped}
use Rattle.pattern_laws.specs.Patterns.{Place, blank, local_at, mask_at, OnDistinct, Foreign}
use Rattle.reach_laws.specs.Reach.{standing_here}
use Rattle.reach_walk.specs.Answers.{TakesForeign}
use Rattle.reach_walk.specs.Marks.{is_marked, MarksForeign}
use Rattle.reach_walk.specs.Walked.{IsPruned}
use Rattle.reach_walk.proofs.Fitted.{occurs_on}
use Rattle.reach_walk.proofs.Marking.{marked_out_neutral, marked_there_neutral, marked_foreign, foreign_marked}
use Rattle.celf_reach.specs.Masks.{is_kept, PrunesTo}

-- A variable is marked exactly where it is foreign.
pub variable_marked : (n : ℕ) (ps : List Place) (bs : List Bool) → MarksForeign n ps bs → (d i : ℕ) → (is_marked bs d (Var i) ≡ true) ↔ Foreign n ps d i
variable_marked n ps bs k d i = (
  λ e. let (v, m, o) = marked_out_neutral bs d (head_alone (Var i)) e in subst (Foreign n ps d) (sym (the_number i (v + d) o)) (marked_foreign n ps bs k d v m),
  λ f. let (v, h, m) = foreign_marked n ps bs k d i f in marked_there_neutral bs d (head_alone (Var i)) v m (subst (λ j. occurs_neutral j (head_alone (Var i)) ≡ true) h (own_number i)),
)
  where
    the_number : (i v : ℕ) → occurs_neutral v (head_alone (Var i)) ≡ true → i ≡ v
    the_number i v e = grind arith

cases_of : (b : Bool) → (b ≡ true) ⊎ (b ≡ false)
cases_of true = inl refl
cases_of false = inr refl

false_kept : (b m : Bool) → (if b then true else not m) ≡ false → (b ≡ false) × (m ≡ true)
false_kept true m e = absurd (cc)
false_kept false true e = (refl, refl)
false_kept false false e = absurd (cc)

none_there : (b : Bool) (x : ℕ) (m : Bool) → (if b then None else Some x) ≡ None → (if b then true else not m) ≡ true
none_there true x m e = refl
none_there false x m e = absurd (cc)

some_there : (b : Bool) (x w : ℕ) → (if b then None else Some x) ≡ Some w → (b ≡ false) × (x ≡ w)
some_there true x w e = absurd (cc)
some_there false x w e = (refl, one e)
  where
    one : {i j : ℕ} → Some i ≡ Some j → i ≡ j
    one e = cc

shown_kept : (b m : Bool) → b ≡ false → (if b then true else not m) ≡ not m
shown_kept true m e = absurd (cc)
shown_kept false m e = refl

module _ (bs : List Bool) (d : ℕ) where
  mask_blank : (zs : List Place) (u : ℕ) → u < length zs → local_at zs u ≡ None → mask_at (map (is_kept bs d) zs) u ≡ true
  mask_blank [] u h e = absurd (omega arith)
  mask_blank (z ∷ zs) zero h e = none_there (blank z.1) z.2 (is_marked bs d (Var z.2)) e
  mask_blank (z ∷ zs) (suc u) h e = mask_blank zs u (omega arith) e

  mask_local : (zs : List Place) (u w : ℕ) → local_at zs u ≡ Some w → mask_at (map (is_kept bs d) zs) u ≡ not (is_marked bs d (Var w))
  mask_local [] u w e = absurd (cc)
  mask_local (z ∷ zs) zero w e = let (b, x) = some_there (blank z.1) z.2 w e in shown_kept (blank z.1) (is_marked bs d (Var z.2)) b ∙ ap (λ v. not (is_marked bs d (Var v))) x
  mask_local (z ∷ zs) (suc u) w e = mask_local zs u w e

  one_taken : (zs : List Place) → list_any not (map (is_kept bs d) zs) ≡ true → (u w : ℕ) × (local_at zs u ≡ Some w) × (is_marked bs d (Var w) ≡ true)
  one_taken [] e = absurd (cc)
  one_taken (z ∷ zs) e = of (is_kept bs d z) refl (one_taken zs)
    where
      shown : (b : Bool) (x : ℕ) → b ≡ false → (if b then None else Some x) ≡ Some x
      shown true x e = absurd (cc)
      shown false x e = refl

      later : (a c : Bool) → not a || c ≡ true → a ≡ true → c ≡ true
      later true c e h = e
      later false c e h = absurd (cc)

      of : (b : Bool) → is_kept bs d z ≡ b → (list_any not (map (is_kept bs d) zs) ≡ true → (u w : ℕ) × (local_at zs u ≡ Some w) × (is_marked bs d (Var w) ≡ true)) → (u w : ℕ) × (local_at (z ∷ zs) u ≡ Some w) × (is_marked bs d (Var w) ≡ true)
      of true h g = let (u, w, k, m) = g (later (is_kept bs d z) (list_any not (map (is_kept bs d) zs)) e h) in (suc u, w, k, m)
      of false h g = let (b, m) = false_kept (blank z.1) (is_marked bs d (Var z.2)) h in (0, z.2, shown (blank z.1) z.2 b, m)

  first_left : (a c : Bool) → a ≡ false → not a || c ≡ true
  first_left true c e = absurd (cc)
  first_left false c e = refl

  later_left : (a c : Bool) → c ≡ true → a || c ≡ true
  later_left true c e = refl
  later_left false c e = e

  taken : (zs : List Place) (u w : ℕ) → mask_at (map (is_kept bs d) zs) u ≡ false → local_at zs u ≡ Some w → list_any not (map (is_kept bs d) zs) ≡ true
  taken [] u w m h = absurd (cc)
  taken (z ∷ zs) zero w m h = first_left (is_kept bs d z) (list_any not (map (is_kept bs d) zs)) m
  taken (z ∷ zs) (suc u) w m h = later_left (not (is_kept bs d z)) (list_any not (map (is_kept bs d) zs)) (taken zs u w m h)

  none_taken : (zs : List Place) → list_any not (map (is_kept bs d) zs) ≡ false → (u w : ℕ) → local_at zs u ≡ Some w → is_marked bs d (Var w) ≡ false
  none_taken zs e u w h = ⊎_elim (λ m. absurd (not_both (taken zs u w (mask_local zs u w h ∙ ap not m) h) e)) (λ m. m) (cases_of (is_marked bs d (Var w)))

pub takes_foreign : (n : ℕ) (ps : List Place) (bs : List Bool) → MarksForeign n ps bs → (d : ℕ) (zs : List Place) → list_any not (map (is_kept bs d) zs) ≡ true → TakesForeign n ps d zs (map (is_kept bs d) zs)
takes_foreign n ps bs k d zs e = record {
  long = length-map zs (is_kept bs d);
  blank = λ u h f. mask_blank bs d zs u h f;
  sorts = λ u w h. ⊎_elim
      (λ m. inl ((variable_marked n ps bs k d w).0 m, mask_local bs d zs u w h ∙ ap not m))
      (λ m. inr (λ f. not_both ((variable_marked n ps bs k d w).1 f) m, mask_local bs d zs u w h ∙ ap not m)) (cases_of (is_marked bs d (Var w)));
  takes = let (u, w, h, m) = one_taken bs d zs e in (u, w, h, (variable_marked n ps bs k d w).0 m);
}

pub pruned_to : (g : Assignment) (ls : Locals) (ps : List Place) (ds : Locals) (bs : List Bool) → MarksForeign (length ls) ps bs → (n : PlainNeutral) (k : ℕ) (zs : List Place) (t : SimpleType) → OnDistinct (scoped (ds ++ ls) g) n k zs t
    → (o : Option (ℕ × List Bool)) → PrunesTo bs (length ds) k zs o → IsPruned g ls ps ds (atomic n) t o
pruned_to g ls ps ds bs m n k zs t d None e = λ w o f. let (i, h) = occurs_on zs k w (subst (λ y. occurs_neutral w y ≡ true) d.neutral o) in
    not_both ((variable_marked (length ls) ps bs m (length ds) w).1 f) (none_taken bs (length ds) zs e i w h)
pruned_to g ls ps ds bs m n k zs t d (Some p) e = (
  [],
  n,
  t,
  standing_here,
  (zs, subst (λ j. OnDistinct (scoped (ds ++ ls) g) n j zs t) (sym e.0) d, subst (TakesForeign (length ls) ps (length ds) zs) (sym e.1) (takes_foreign (length ls) ps bs m (length ds) zs (subst (λ y. list_any not y ≡ true) e.1 e.2))),
)
