-- The entries of a tuple, one after the other.
use Rattle.std.proofs.Common.{◌≡◌, ℕ, suc, ◌+◌, ◌-◌, ◌<◌, Bool, true, false, ◌||◌, if◌then◌else◌, List, [], ◌∷◌, length, map, drop, get_or, refl, sym, ap, subst, ◌∙◌, add-one, arith}
use Rattle.std.proofs.Math.Seq.{drop-cons}
use Rattle.std.proofs.Math.Bool.{or_assoc}
use Rattle.std.proofs.lemmas.List.{length-map, length-drop}
use Rattle.clf_syntax.specs.declared.tree.Mode.{Mode}
use Rattle.clf_syntax.specs.declared.tree.TupleEntry.{TupleEntry}
use Rattle.clf_syntax.specs.declared.tree.TeleEntry.{TeleEntry}
use Rattle.clf_syntax.specs.Tree.{PlainObject, PlainTuple, empty, entry, tuple_of}
use Rattle.clf_syntax.specs.TypeTree.{PlainType, PlainTelescope, end, binding, telescope_of}
use Rattle.clf_syntax.specs.Plain.{plain_entry}
use Rattle.clf_syntax.specs.PlainTypes.{plain_tele_entry}
use Rattle.use_contexts.specs.Context.{Context, modes}
use Rattle.use_contexts.specs.Holding.{Holding, allowed}
use Rattle.use_contexts.specs.Rows.{outside, slack_outside, Leftover}
use Rattle.clf_syntax.specs.Modes.{same_mode}
use Rattle.clf_sig.specs.Entry.{PlainSignature}
use Rattle.clf_rules.specs.Refusal.{mode_differs, width}
use Rattle.clf_rules.specs.Explained.{tuple_width, telescope_width}
use Rattle.clf_decision.specs.Outcome.{Outcome, passed, refused, at_part, and_then}
use Rattle.clf_decision.specs.Checking.{Puts, with_slack, checked, checked_tuple}
use Rattle.clf_kernel.specs.declared.refusal.Stop.{Stop}
use Rattle.clf_kernel.specs.Stops.{Stops}
use Rattle.clf_kernel.specs.TupleEntries.{entry_behind}
use Rattle.clf_kernel.proofs.Stops.{then_stops}

no_more : (a : Bool) → a || false ≡ a
no_more true = refl
no_more false = refl

-- slack of one part and of another
slacks : (a b : Bool) (w : Outcome Leftover) → and_then (and_then w (with_slack a)) (with_slack b) ≡ and_then w (with_slack (b || a))
slacks a b (passed z) = ap (λ s. passed (z.0, s)) (sym (or_assoc b a z.1))
slacks a b (refused path cause) = refl

pub width_of : (xs : List (Mode × PlainObject)) → tuple_width (tuple_of xs) ≡ length xs
width_of [] = refl
width_of (x ∷ xs) = ap suc (width_of xs)

pub entries_of : (xs : List (Mode × PlainType)) → telescope_width (telescope_of xs) ≡ length xs
entries_of [] = refl
entries_of (x ∷ xs) = ap suc (entries_of xs)

module _ (puts : Puts) (sig : PlainSignature) (g : Context) (steps : ℕ) where
  -- what the entries from a place on leave, with the slack of those before
  abbrev pub tuple_rest : ℕ → PlainTuple → PlainTelescope × Leftover → Outcome Leftover
  tuple_rest i t f = and_then (checked_tuple puts sig g f.1.0 steps i t f.0) (with_slack f.1.1)

  -- the entry at a place, and then those after it
  behind : (i : ℕ) (m : Mode) (n : PlainObject) (t : PlainTuple) (k : Mode) (a : PlainType) (u : PlainTelescope) (x : Leftover)
      → tuple_rest i (entry m n t) (binding k a u, x) ≡ and_then (entry_behind puts sig g (steps + i) (m, n) (binding k a u, x)) (tuple_rest (suc i) t)
  behind i m n t k a u x = by (same_mode m k) (checked puts sig g (allowed m (modes g) x.0) n a)
    where
      later : Holding → Outcome Leftover
      later row = checked_tuple puts sig g row steps (suc i) t (puts.into_telescope n a u)

      by : (b : Bool) (w : Outcome Leftover)
          → and_then (if b then and_then (at_part (steps + i) w) (λ y. and_then (later (outside m (modes g) x.0 y.0)) (with_slack (slack_outside m y.1))) else refused ((steps + i) ∷ []) (mode_differs k m)) (with_slack x.1)
          ≡ and_then (if b then and_then (and_then (at_part (steps + i) w) (λ y. passed (outside m (modes g) x.0 y.0, x.1 || slack_outside m y.1))) (λ y. passed (puts.into_telescope n a u, y)) else refused ((steps + i) ∷ []) (mode_differs k m)) (tuple_rest (suc i) t)
      by true (passed y) = slacks (slack_outside m y.1) x.1 (later (outside m (modes g) x.0 y.0))
      by true (refused path cause) = refl
      by false w = refl

  module _ (entries : List TupleEntry) (i : ℕ) (x : TupleEntry) (l : i < length entries) (e : x ≡ get_or entries i x) where
    from_here : tuple_of (map plain_entry (drop i entries)) ≡ entry (plain_entry x).0 (plain_entry x).1 (tuple_of (map plain_entry (drop (suc i) entries)))
    from_here = ap (λ xs. tuple_of (map plain_entry xs)) (drop-cons entries i x l ∙ ap (λ y. y ∷ drop (suc i) entries) (sym e))

    pub entry_more : (k : Mode) (a : PlainType) (u : PlainTelescope) (y : Leftover) (f : PlainTelescope × Leftover) → entry_behind puts sig g (steps + i) (plain_entry x) (binding k a u, y) ≡ passed f
        → tuple_rest i (tuple_of (map plain_entry (drop i entries))) (binding k a u, y) ≡ tuple_rest (i + 1) (tuple_of (map plain_entry (drop (i + 1) entries))) f
    entry_more k a u y f p = rw (from_here, add-one)
        (behind i (plain_entry x).0 (plain_entry x).1 (tuple_of (map plain_entry (drop (suc i) entries))) k a u y
        ∙ ap (λ w. and_then w (tuple_rest (suc i) (tuple_of (map plain_entry (drop (suc i) entries))))) p)

    pub entry_stops : (k : Mode) (a : PlainType) (u : PlainTelescope) (y : Leftover) (s : Stop) → Stops (entry_behind puts sig g (steps + i) (plain_entry x) (binding k a u, y)) s
        → Stops (tuple_rest i (tuple_of (map plain_entry (drop i entries))) (binding k a u, y)) s
    entry_stops k a u y s p = subst (λ w. Stops w s) (sym (ap (λ t. tuple_rest i t (binding k a u, y)) from_here ∙ behind i (plain_entry x).0 (plain_entry x).1 (tuple_of (map plain_entry (drop (suc i) entries))) k a u y))
        (then_stops (entry_behind puts sig g (steps + i) (plain_entry x) (binding k a u, y)) (tuple_rest (suc i) (tuple_of (map plain_entry (drop (suc i) entries)))) s p)

    -- an entry where no type is left
    pub too_long : (y : Leftover) → tuple_rest i (tuple_of (map plain_entry (drop i entries))) (end, y) ≡ refused [] (width i (length entries))
    too_long y =
        let n : i + (length entries - i) ≡ length entries = omega arith in
        let w = ap (λ t. i + tuple_width t) (sym from_here) ∙ ap (λ k. i + k) (width_of (map plain_entry (drop i entries)) ∙ length-map (drop i entries) plain_entry ∙ length-drop i entries) ∙ n in
        ap (λ t. tuple_rest i t (end, y)) from_here ∙ ap (λ k. refused [] (width i k)) w

  -- all entries
  pub at_end : (i : ℕ) (y : Leftover) → tuple_rest i empty (end, y) ≡ passed y
  at_end i y = ap (λ s. passed (y.0, s)) (no_more y.1)

  pub too_short : (i : ℕ) (e : TeleEntry) (es : List TeleEntry) (y : Leftover) → tuple_rest i empty (telescope_of (map plain_tele_entry (e ∷ es)), y) ≡ refused [] (width (i + length (e ∷ es)) i)
  too_short i e es y = ap (λ n. refused [] (width (i + n) i)) (entries_of (map plain_tele_entry (e ∷ es)) ∙ length-map (e ∷ es) plain_tele_entry)
