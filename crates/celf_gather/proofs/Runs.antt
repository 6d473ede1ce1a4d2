-- Gathering of expressions and tuples, step by step and entry by entry.
use Rattle.std.proofs.Common.{◌≡◌, ℕ, ◌+◌, ◌-◌, ◌<◌, ◌≤◌, Bool, true, false, ◌&&◌, List, [], ◌∷◌, length, map, drop, get_or, Result, Err, refl, sym, ap, subst, ◌∙◌, arith}
use Rattle.std.proofs.lemmas.List.{drop_all}
use Rattle.clf_syntax.specs.declared.tree.Mode.{Mode}
use Rattle.clf_syntax.specs.declared.tree.Expr.{Expr, out-Expr}
use Rattle.clf_syntax.specs.declared.tree.Step.{Step}
use Rattle.clf_syntax.specs.declared.tree.Tele.{Tele, out-Tele}
use Rattle.clf_syntax.specs.declared.tree.TupleEntry.{TupleEntry}
use Rattle.clf_syntax.specs.declared.tree.TeleEntry.{TeleEntry}
use Rattle.clf_syntax.specs.Modes.{same_mode}
use Rattle.clf_syntax.specs.Tree.{PlainNeutral, PlainTuple, done, steps_on, tuple_of}
use Rattle.clf_syntax.specs.TypeTree.{family, function, both, top, monad, PlainTelescope, end, binding, telescope_of}
use Rattle.clf_syntax.specs.Plain.{plain_expr, plain_step, plain_entry, plain-expr}
use Rattle.clf_syntax.specs.PlainTypes.{plain_tele, plain_tele_entry, plain-tele}
use Rattle.clf_syntax.specs.Renaming.{ren_telescope, up}
use Rattle.clf_syntax.proofs.RenamingLaws.{ext}
use Rattle.clf_syntax.proofs.TypeRenaming.{composed_telescope, identity_telescope}
use Rattle.use_contexts.specs.Context.{Context, with_entries}
use Rattle.hered_put.specs.Function.{Answer, made, untyped, too_far, after}
use Rattle.pattern_laws.specs.Equations.{Equation}
use Rattle.celf_gather.specs.declared.stop.Stop.{Stop}
use Rattle.celf_gather.specs.Scene.{Scene}
use Rattle.celf_gather.specs.Gathered.{Inferred, Reached, inferred, modes_fit, entered, entered_if, expression_after, tuple_after, none_left, each_after, step_after, tuple_entry_after}
use Rattle.celf_gather.specs.Stops.{Stops, Gives}
use Rattle.celf_gather.specs.declared.walk.Walk.{Walk}
use Rattle.celf_gather.specs.Walks.{context_of, found_of}
use Rattle.celf_gather.proofs.Stopping.{then_stops}
use Rattle.celf_gather.proofs.Lists.{from_place}

pub gives_stop : {X A : Type 0} (plain : X → A) (want : Answer A) {s : Stop} {r : Result X Stop} → r ≡ Err s → Stops want s → Gives plain want r
gives_stop plain want e p = subst (Gives plain want) (sym e) p

-- ---- steps
-- how many entries a telescope has
width_of : (s : PlainTelescope) (ms : List Mode) (g : Context) → modes_fit s ms ≡ true → length (with_entries s g) ≡ length g + length ms
width_of end [] g e = omega arith
width_of end (m ∷ ms) g e = absurd (cc)
width_of (binding m a s) [] g e = absurd (cc)
width_of (binding m a s) (o ∷ os) g e = let k = width_of s os ((m, a) ∷ g) (second_of (same_mode o m) (modes_fit s os) e) in omega (arith, k)
  where
    second_of : (b c : Bool) → (b && c) ≡ true → c ≡ true
    second_of true c e = e
    second_of false c e = absurd (cc)

renumbered : (a b c : ℕ) (s : PlainTelescope) → c ≡ b + a → ren_telescope (up a) (ren_telescope (up b) s) ≡ ren_telescope (up c) s
renumbered a b c s e = composed_telescope (up a) (up b) s ∙ ap (λ r. ren_telescope r s) (ext (λ i. same i))
  where
    same : (i : ℕ) → i + b + a ≡ i + c
    same i = omega (arith, e)

-- a step adds as many variables as it has modes
fitting_width : (u : PlainTelescope) (ms : List Mode) (g : Context) (q : List Equation) (y : Reached) (c : Bool) → modes_fit u ms ≡ c
    → entered_if c (with_entries u g, q) ≡ made y → length y.0 ≡ length g + length ms
fitting_width u ms g q y true e p = let i : (with_entries u g, q) ≡ y = cc in ap (λ (x : Reached). length x.0) (sym i) ∙ width_of u ms g e
fitting_width u ms g q y false e p = absurd (cc)

entered_width : (ms : List Mode) (g : Context) (x : Inferred) (y : Reached) → entered ms g x ≡ made y → length y.0 ≡ length g + length ms
entered_width ms g ((monad u), q) y p = fitting_width u ms g q y (modes_fit u ms) refl p
entered_width ms g ((family f ns), q) y p = absurd (cc)
entered_width ms g ((function m a c), q) y p = absurd (cc)
entered_width ms g ((both a c), q) y p = absurd (cc)
entered_width ms g (top, q) y p = absurd (cc)

step_width : (ms : List Mode) (g : Context) (w : Answer Inferred) (y : Reached) → after w (entered ms g) ≡ made y → length y.0 ≡ length g + length ms
step_width ms g (made x) y p = entered_width ms g x y p
step_width ms g untyped y p = absurd (cc)
step_width ms g too_far y p = absurd (cc)

module _ (k : Scene) (t : PlainTuple) (s : PlainTelescope) (b : ℕ) where
  -- the tuple at the telescope past all variables since there were b
  abbrev ending : Reached → Answer (List Equation)
  ending x = tuple_after k x.0 t (ren_telescope (up (length x.0 - b)) s) x.1

  abbrev Done : List (List Mode × PlainNeutral) → Type 0
  Done ss = (g : Context) (p : List Equation) → b ≤ length g
      → expression_after k g (steps_on ss (done t)) (ren_telescope (up (length g - b)) s) p ≡ after (each_after (step_after k) ss (g, p)) ending

  step_entered : (x : List Mode × PlainNeutral) (ss : List (List Mode × PlainNeutral)) → Done ss → (g : Context) → b ≤ length g → (w : Answer Reached) → ((y : Reached) → w ≡ made y → length y.0 ≡ length g + length x.0)
      → after w (λ y. expression_after k y.0 (steps_on ss (done t)) (ren_telescope (up (length x.0)) (ren_telescope (up (length g - b)) s)) y.1)
      ≡ after (after w (each_after (step_after k) ss)) ending
  step_entered x ss d g l (made y) n =
      let m = n y refl in
      ap (λ v. expression_after k y.0 (steps_on ss (done t)) v y.1) (renumbered (length x.0) (length g - b) (length y.0 - b) s (omega (arith, m, l)))
      ∙ d y.0 y.1 (omega (arith, m, l))
  step_entered x ss d g l untyped n = refl
  step_entered x ss d g l too_far n = refl

  steps_done : (ss : List (List Mode × PlainNeutral)) → Done ss
  steps_done [] g p l = refl
  steps_done (x ∷ ss) g p l = step_entered x ss (steps_done ss) g l (after (inferred k g x.1 p) (entered x.0 g)) (λ y. step_width x.0 g (inferred k g x.1 p) y)

unmoved : (a : ℕ) (s : PlainTelescope) → ren_telescope (up (a - a)) s ≡ s
unmoved a s = ap (λ r. ren_telescope r s) (ext (λ i. same i)) ∙ identity_telescope s
  where
    same : (i : ℕ) → i + (a - a) ≡ i
    same i = omega arith

module _ (k : Scene) (e : Expr) (steps : List Step) (i : steps ≡ (out-Expr e).steps) where
  -- an expression is its steps, and then its tuple
  expression_done : (g : Context) (s : PlainTelescope) (p : List Equation)
      → expression_after k g (plain_expr e) s p
      ≡ after (each_after (step_after k) (map plain_step steps) (g, p)) (λ x. tuple_after k x.0 (tuple_of (map plain_entry (out-Expr e).result)) (ren_telescope (up (length x.0 - length g)) s) x.1)
  expression_done g s p = ap (λ x. expression_after k g x s p) (plain-expr e) ∙ ap (λ x. expression_after k g (steps_on (map plain_step x) (done (tuple_of (map plain_entry (out-Expr e).result)))) s p) (sym i)
      ∙ ap (λ v. expression_after k g (steps_on (map plain_step steps) (done (tuple_of (map plain_entry (out-Expr e).result)))) v p) (sym (unmoved (length g) s))
      ∙ steps_done k (tuple_of (map plain_entry (out-Expr e).result)) s (length g) (map plain_step steps) g p (omega arith)

  pub expression_stops : (g : Context) (s : PlainTelescope) (p : List Equation) (stop : Stop) → Stops (each_after (step_after k) (map plain_step steps) (g, p)) stop → Stops (expression_after k g (plain_expr e) s p) stop
  expression_stops g s p stop o = subst (λ w. Stops w stop) (sym (expression_done g s p))
      (then_stops (each_after (step_after k) (map plain_step steps) (g, p)) (λ x. tuple_after k x.0 (tuple_of (map plain_entry (out-Expr e).result)) (ren_telescope (up (length x.0 - length g)) s) x.1) stop o)

  pub expression_past : (result : List TupleEntry) → result ≡ (out-Expr e).result → (outer inner : Walk) (s : PlainTelescope) (n : ℕ) (types : Tele) → each_after (step_after k) (map plain_step steps) (context_of outer, found_of outer) ≡ made (context_of inner, found_of inner)
      → n ≡ length (context_of inner) - length (context_of outer) → plain_tele types ≡ ren_telescope (up n) s
      → expression_after k (context_of outer) (plain_expr e) s (found_of outer) ≡ tuple_after k (context_of inner) (tuple_of (map plain_entry result)) (telescope_of (map plain_tele_entry (out-Tele types).entries)) (found_of inner)
  expression_past result r outer inner s n types o m q = expression_done (context_of outer) s (found_of outer)
      ∙ ap (λ w. after w (λ x. tuple_after k x.0 (tuple_of (map plain_entry (out-Expr e).result)) (ren_telescope (up (length x.0 - length (context_of outer))) s) x.1)) o
      ∙ ap (λ v. tuple_after k (context_of inner) (tuple_of (map plain_entry (out-Expr e).result)) v (found_of inner)) (ap (λ c. ren_telescope (up c) s) (sym m) ∙ sym q ∙ plain-tele types)
      ∙ ap (λ l. tuple_after k (context_of inner) (tuple_of (map plain_entry l)) (telescope_of (map plain_tele_entry (out-Tele types).entries)) (found_of inner)) (sym r)

-- ---- tuples
module _ (k : Scene) (g : Context) (es : List TupleEntry) (i : ℕ) (e : TupleEntry) (l : i < length es) (q : e ≡ get_or es i e) where
  from_here : tuple_of (map plain_entry (drop i es)) ≡ tuple_of (plain_entry e ∷ map plain_entry (drop (i + 1) es))
  from_here = ap tuple_of (from_place plain_entry es i e l q)

  pub tuple_stops : (s : PlainTelescope) (p : List Equation) (stop : Stop) → Stops (tuple_entry_after k g (plain_entry e) (s, p)) stop → Stops (tuple_after k g (tuple_of (map plain_entry (drop i es))) s p) stop
  tuple_stops s p stop o = subst (λ x. Stops (tuple_after k g x s p) stop) (sym from_here)
      (then_stops (tuple_entry_after k g (plain_entry e) (s, p)) (λ x. tuple_after k g (tuple_of (map plain_entry (drop (i + 1) es))) x.0 x.1) stop o)

-- what is left of the types when all entries are done
pub tuple_ends : (k : Scene) (g : Context) (es : List TupleEntry) (i : ℕ) (ts : List TeleEntry) (p : List Equation) → length es ≤ i
    → tuple_after k g (tuple_of (map plain_entry (drop i es))) (telescope_of (map plain_tele_entry ts)) p ≡ none_left (telescope_of (map plain_tele_entry ts), p)
tuple_ends k g es i ts p l = ap (λ x. tuple_after k g (tuple_of (map plain_entry x)) (telescope_of (map plain_tele_entry ts)) p) (drop_all i es l)

pub some_left : (ts : List TeleEntry) (p : List Equation) → (ts ≡ [] → ⊥) → none_left (telescope_of (map plain_tele_entry ts), p) ≡ untyped
some_left [] p n = absurd (n refl)
some_left (t ∷ ts) p n = refl
