-- Expressions and tuples, whole: what their steps and entries come to.
use Rattle.std.proofs.Common.{◌≡◌, ◌<◌, ℕ, suc, ◌+◌, true, false, if◌then◌else◌, List, [], ◌∷◌, length, map, take, drop, get_or, ◌-◌, Result, Ok, Err, IfOk, refl, sym, ap, subst, ◌∙◌, arith}
use Rattle.std.proofs.Math.Seq.{drop-cons, take-length}
use Rattle.std.proofs.lemmas.Bool.{cond-true, cond-false}
use Rattle.std.proofs.lemmas.List.{length-map, length-drop}
use Rattle.clf_syntax.specs.declared.tree.Mode.{Mode}
use Rattle.clf_syntax.specs.declared.tree.Expr.{Expr, out-Expr}
use Rattle.clf_syntax.specs.declared.tree.Step.{Step}
use Rattle.clf_syntax.specs.declared.tree.Tele.{Tele, out-Tele}
use Rattle.clf_syntax.specs.declared.tree.TeleEntry.{TeleEntry, out-TeleEntry}
use Rattle.clf_syntax.specs.declared.tree.TupleEntry.{TupleEntry}
use Rattle.clf_syntax.specs.Tree.{PlainObject, PlainNeutral, PlainExpression, PlainTuple, done, empty, steps_on, tuple_of}
use Rattle.clf_syntax.specs.TypeTree.{PlainType, PlainTelescope, end, binding, telescope_of}
use Rattle.clf_syntax.specs.Plain.{plain_expr, plain_step, plain_entry, plain-expr}
use Rattle.clf_syntax.specs.PlainTypes.{plain_ty, plain_tele, plain_tele_entry, plain-tele, plain-tele-entry}
use Rattle.clf_syntax.specs.Renaming.{ren_telescope, up}
use Rattle.clf_syntax.proofs.TypeRenaming.{identity_telescope}
use Rattle.use_contexts.specs.Context.{Context, telescope_modes, with_entries}
use Rattle.use_contexts.specs.Holding.{Holding, all_held}
use Rattle.use_contexts.specs.Rows.{Leftover}
use Rattle.clf_sig.specs.Entry.{PlainSignature}
use Rattle.clf_syntax.specs.Modes.{same_mode}
use Rattle.typing_laws.proofs.Carried.{square_telescope}
use Rattle.clf_rules.specs.Refusal.{mode_differs, width}
use Rattle.clf_decision.specs.Outcome.{Outcome, passed, refused, at_part, and_then}
use Rattle.clf_decision.specs.Checking.{Puts, step_left, checked, inferred, checked_expression, checked_tuple}
use Rattle.clf_decision.proofs.DecidedOutcomes.{Decided}
use Rattle.clf_decision.proofs.AgreementOfMonads.{pattern-decided}
use Rattle.clf_kernel.specs.declared.refusal.Stop.{Stop}
use Rattle.clf_kernel.specs.declared.trail.Opened.{Opened}
use Rattle.clf_kernel.specs.declared.trail.Entered.{Entered}
use Rattle.clf_kernel.specs.Spine.{argument_used}
use Rattle.clf_kernel.specs.Stops.{Stops}
use Rattle.clf_kernel.specs.Trail.{EntersStep, OpensStep, closed_step, closed_steps, opened_by, opened_width}
use Rattle.clf_kernel.specs.TupleEntries.{entry_behind}
use Rattle.clf_kernel.proofs.Opening.{opens}
use Rattle.clf_kernel.proofs.TupleSteps.{tuple_rest, entry_more, entry_stops, too_short}

-- ---- lists that are not empty
pub some_entries : {X : Type 0} (xs : List X) → (xs ≡ [] → ⊥) → 0 < length xs
some_entries [] n = absurd (n refl)
some_entries (x ∷ xs) n = omega arith

pub first_entry : (ts : List TeleEntry) (x : TeleEntry) → 0 < length ts → x ≡ get_or ts 0 x → ts ≡ x ∷ drop 1 ts
first_entry ts x l e = drop-cons ts 0 x l ∙ ap (λ y. y ∷ drop 1 ts) (sym e)

-- a slice without its first element
pub tail_slice : {X : Type 0} (l : List X) → take (length l - 1) (drop 1 l) ≡ drop 1 l
tail_slice l = ap (λ n. take n (drop 1 l)) (sym (length-drop 1 l)) ∙ take-length (drop 1 l)

module _ (puts : Puts) (sig : PlainSignature) where
  -- ---- the steps of an expression, and its tuple
  pub expression_stops : (e : Expr) (steps : List Step) → steps ≡ (out-Expr e).steps → (g : Context) (h : Holding) (s : PlainTelescope) (q : Stop)
      → ((t : PlainTuple) (s : PlainTelescope) → Stops (checked_expression puts sig g h 0 (steps_on (map plain_step steps) (done t)) s) q)
      → Stops (checked_expression puts sig g h 0 (plain_expr e) s) q
  expression_stops e steps a g h s q f =
      let t = tuple_of (map plain_entry (out-Expr e).result) in
      subst (λ x. Stops (checked_expression puts sig g h 0 x s) q) (ap (λ l. steps_on (map plain_step l) (done t)) a ∙ sym (plain-expr e)) (f t s)

  pub expression_closed : (e : Expr) (steps : List Step) → steps ≡ (out-Expr e).steps → (entries : List TupleEntry) → entries ≡ (out-Expr e).result
      → (g inner : Context) (h row : Holding) (os : List Opened) (types : Tele) (s : PlainTelescope) (by count n : ℕ)
      → ((t : PlainTuple) (s : PlainTelescope) → checked_expression puts sig g h 0 (steps_on (map plain_step steps) (done t)) s
      ≡ closed_steps (length g) (opened_by os) (checked_tuple puts sig inner row (length (map plain_step steps)) 0 t (ren_telescope (up (opened_width (opened_by os))) s)))
      → plain_tele types ≡ ren_telescope (up by) s → by ≡ opened_width (opened_by os) → count ≡ length steps → n ≡ length g
      → checked_expression puts sig g h 0 (plain_expr e) s
      ≡ closed_steps n (opened_by os) (checked_tuple puts sig inner row count 0 (tuple_of (map plain_entry entries)) (telescope_of (map plain_tele_entry (out-Tele types).entries)))
  expression_closed e steps a entries b g inner h row os types s by count n f y w k l =
      let ds = opened_by os in
      let t = tuple_of (map plain_entry entries) in
      ap (λ x. checked_expression puts sig g h 0 x s)
      (plain-expr e ∙ ap (λ l. steps_on (map plain_step l) (done (tuple_of (map plain_entry (out-Expr e).result)))) (sym a) ∙ ap (λ l. steps_on (map plain_step steps) (done (tuple_of (map plain_entry l)))) (sym b))
      ∙ f t s
      ∙ ap (λ j. closed_steps (length g) ds (checked_tuple puts sig inner row j 0 t (ren_telescope (up (opened_width ds)) s))) (length-map steps plain_step ∙ sym k)
      ∙ ap (λ j. closed_steps (length g) ds (checked_tuple puts sig inner row count 0 t (ren_telescope (up j) s))) (sym w)
      ∙ ap (λ v. closed_steps (length g) ds (checked_tuple puts sig inner row count 0 t v)) (sym y ∙ plain-tele types)
      ∙ ap (λ j. closed_steps j ds (checked_tuple puts sig inner row count 0 t (telescope_of (map plain_tele_entry (out-Tele types).entries)))) (sym l)

  -- ---- one step
  pub step_opens : (r : Result Entered Stop) (place : ℕ) (d : List Mode × PlainNeutral) (g inner : Context) (h : Holding) (found : PlainType × Leftover) → inferred puts sig g h d.1 ≡ passed found
      → EntersStep place d.0 g found inner r → OpensStep puts sig place d g h inner r
  step_opens (Ok e) place d g inner h found i x =
      let p = subst (λ (o : Outcome (Unit {0})). Decided o (telescope_modes x.entries ≡ d.0)) x.pattern (pattern-decided d.0 x.entries) in (
        x.modes,
        (λ y s.
            opens puts sig place d.0 d.1 g h x.entries found.1 (i ∙ ap (λ a. passed (a, found.1)) x.type) x.pattern p y s
            ∙ ap (λ b. closed_step place d.0 (length g) b (checked_expression puts sig (with_entries x.entries g) (all_held d.0 found.1.0) (suc place) y (ren_telescope (up (length d.0)) s))) (sym x.slack)
            ∙ ap (λ k. closed_step place d.0 (length g) e.opened.slack (checked_expression puts sig k (all_held d.0 found.1.0) (suc place) y (ren_telescope (up (length d.0)) s))) (sym x.context)
            ∙ ap (λ k. closed_step place d.0 (length g) e.opened.slack (checked_expression puts sig inner k (suc place) y (ren_telescope (up (length d.0)) s))) (sym x.held)),
      )
  step_opens (Err q) place d g inner h found i x = λ y s.
      let rest = λ (v : PlainTelescope) (row : Holding). checked_expression puts sig (with_entries v g) row (suc place) y (ren_telescope (up (length d.0)) s) in
      subst (λ (w : Outcome (PlainType × Leftover)). Stops (and_then (at_part place w) (λ f. step_left place d.0 g f rest)) q) (sym i) (x rest)

  entered_length : (u : PlainTelescope) (g : Context) → length (with_entries u g) ≡ length (telescope_modes u) + length g
  entered_length end g = omega arith
  entered_length (binding m a s) g = let e = entered_length s ((m, a) ∷ g) in omega (arith, e)

  pub entered_width : (r : Result Entered Stop) (place : ℕ) (ms : List Mode) (g inner : Context) (found : PlainType × Leftover) → EntersStep place ms g found inner r
      → IfOk r (λ e. length inner ≡ length e.opened.modes + length g)
  entered_width (Err q) place ms g inner found x = tt
  entered_width (Ok e) place ms g inner found x =
      let p = subst (λ (o : Outcome (Unit {0})). Decided o (telescope_modes x.entries ≡ ms)) x.pattern (pattern-decided ms x.entries) in
      ap length x.context ∙ entered_length x.entries g ∙ ap (λ ns. length ns + length g) (p ∙ sym x.modes)

  -- ---- no step
  unrisen : (s : PlainTelescope) → ren_telescope (up 0) s ≡ s
  unrisen s = ap (ren_telescope (up 0)) (sym (identity_telescope s)) ∙ square_telescope (up 0) (λ i. i) (λ i. i) (λ i. i) (λ i. omega arith) s ∙ identity_telescope (ren_telescope (λ i. i) s) ∙ identity_telescope s

  pub none_opened : (os : List Opened) → os ≡ [] → (g : Context) (h : Holding) (n : ℕ) (e : PlainExpression) (s : PlainTelescope)
      → checked_expression puts sig g h 0 e s ≡ closed_steps n (opened_by os) (checked_expression puts sig g h 0 e (ren_telescope (up (opened_width (opened_by os))) s))
  none_opened os a g h n e s =
      ap (checked_expression puts sig g h 0 e) (sym (unrisen s))
      ∙ ap (λ l. closed_steps n (opened_by l) (checked_expression puts sig g h 0 e (ren_telescope (up (opened_width (opened_by l))) s))) (sym a)

  -- ---- the entries of a tuple
  -- one entry, and the types that it leaves
  pub behind_first : (g : Context) (place : ℕ) (e : Mode × PlainObject) (ts later : List TeleEntry) (x : TeleEntry) (y : Leftover) → ts ≡ x ∷ later
      → entry_behind puts sig g place e (telescope_of (map plain_tele_entry ts), y)
      ≡ (if same_mode e.0 (out-TeleEntry x).mode
      then and_then (argument_used e.0 g place y (λ row. checked puts sig g row e.1 (plain_ty (out-TeleEntry x).ty))) (λ z. passed (puts.into_telescope e.1 (plain_ty (out-TeleEntry x).ty) (telescope_of (map plain_tele_entry later)), z))
      else refused (place ∷ []) (mode_differs (out-TeleEntry x).mode e.0))
  behind_first g place e ts later x y a =
      ap (λ l. entry_behind puts sig g place e (telescope_of (map plain_tele_entry l), y)) a
      ∙ ap (λ p. entry_behind puts sig g place e (binding p.0 p.1 (telescope_of (map plain_tele_entry later)), y)) (plain-tele-entry x)

  module _ (g : Context) (place : ℕ) (e : Mode × PlainObject) (ts later : List TeleEntry) (x : TeleEntry) (y : Leftover) (a : ts ≡ x ∷ later) where
    pub behind_other : same_mode e.0 (out-TeleEntry x).mode ≡ false → entry_behind puts sig g place e (telescope_of (map plain_tele_entry ts), y) ≡ refused (place ∷ []) (mode_differs (out-TeleEntry x).mode e.0)
    behind_other b = behind_first g place e ts later x y a ∙ cond-false (same_mode e.0 (out-TeleEntry x).mode) _ (refused (place ∷ []) (mode_differs (out-TeleEntry x).mode e.0)) b

    pub behind_same : same_mode e.0 (out-TeleEntry x).mode ≡ true → entry_behind puts sig g place e (telescope_of (map plain_tele_entry ts), y)
        ≡ and_then (argument_used e.0 g place y (λ row. checked puts sig g row e.1 (plain_ty (out-TeleEntry x).ty))) (λ z. passed (puts.into_telescope e.1 (plain_ty (out-TeleEntry x).ty) (telescope_of (map plain_tele_entry later)), z))
    behind_same b = behind_first g place e ts later x y a
        ∙ cond-true (same_mode e.0 (out-TeleEntry x).mode) (and_then (argument_used e.0 g place y (λ row. checked puts sig g row e.1 (plain_ty (out-TeleEntry x).ty))) (λ z. passed (puts.into_telescope e.1 (plain_ty (out-TeleEntry x).ty) (telescope_of (map plain_tele_entry later)), z)))
        (refused (place ∷ []) (mode_differs (out-TeleEntry x).mode e.0)) b

  module _ (g : Context) (steps : ℕ) where
    pub more_entries : (entries : List TupleEntry) (i : ℕ) (x : TupleEntry) → i < length entries → x ≡ get_or entries i x → (types : List TeleEntry) (y : Leftover) (f : PlainTelescope × Leftover) → 0 < length types
        → entry_behind puts sig g (steps + i) (plain_entry x) (telescope_of (map plain_tele_entry types), y) ≡ passed f
        → tuple_rest puts sig g steps i (tuple_of (map plain_entry (drop i entries))) (telescope_of (map plain_tele_entry types), y) ≡ tuple_rest puts sig g steps (i + 1) (tuple_of (map plain_entry (drop (i + 1) entries))) f
    more_entries entries i x l e [] y f n p = absurd (omega arith)
    more_entries entries i x l e (t ∷ types) y f n p = entry_more puts sig g steps entries i x l e (plain_tele_entry t).0 (plain_tele_entry t).1 (telescope_of (map plain_tele_entry types)) y f p

    pub stopped_entries : (entries : List TupleEntry) (i : ℕ) (x : TupleEntry) → i < length entries → x ≡ get_or entries i x → (types : List TeleEntry) (y : Leftover) (q : Stop) → 0 < length types
        → Stops (entry_behind puts sig g (steps + i) (plain_entry x) (telescope_of (map plain_tele_entry types), y)) q
        → Stops (tuple_rest puts sig g steps i (tuple_of (map plain_entry (drop i entries))) (telescope_of (map plain_tele_entry types), y)) q
    stopped_entries entries i x l e [] y q n p = absurd (omega arith)
    stopped_entries entries i x l e (t ∷ types) y q n p = entry_stops puts sig g steps entries i x l e (plain_tele_entry t).0 (plain_tele_entry t).1 (telescope_of (map plain_tele_entry types)) y q p

    pub short_entries : (i : ℕ) (types : List TeleEntry) (y : Leftover) → 0 < length types → tuple_rest puts sig g steps i empty (telescope_of (map plain_tele_entry types), y) ≡ refused [] (width (i + length types) i)
    short_entries i [] y n = absurd (omega arith)
    short_entries i (t ∷ types) y n = too_short puts sig g steps i t types y
