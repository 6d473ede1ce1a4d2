-- The check of steps and tuples agrees with the rules, where that of their parts does.
use Rattle.std.proofs.Common.{◌≡◌, ℕ, ◌+◌, ◌==◌, Bool, true, false, if◌then◌else◌, List, [], ◌∷◌, length, Option, None, Some, refl, sym, ap, subst, ◌∙◌}
use Rattle.std.proofs.lemmas.Option.{none-some}
use Rattle.clf_syntax.specs.declared.tree.Mode.{Mode}
use Rattle.clf_syntax.specs.Tree.{PlainObject, PlainTuple}
use Rattle.clf_syntax.specs.TypeTree.{PlainType, family, function, both, top, monad, PlainTelescope, end, binding}
use Rattle.use_contexts.specs.Context.{Context, modes, telescope_modes, with_entries}
use Rattle.use_contexts.specs.Holding.{Holding, WellMarked, is_weak, may_use, allowed, all_held}
use Rattle.use_contexts.specs.Rows.{Answer, Agrees, Shared, Leftover, outside, slack_outside}
use Rattle.use_contexts.proofs.RowAnswers.{in_turn, closed, closed_all, entered}
use Rattle.use_contexts.proofs.RowLaws.{agrees-same, turn-agrees, IsSubholding-first}
use Rattle.use_contexts.proofs.UseLaws.{IsSubholding-self, idle-agrees, scopes-agree}
use Rattle.use_contexts.proofs.ArgumentLaws.{entry-refused, entry-agrees}
use Rattle.hered_subst.specs.Substitution.{single, SubstitutedTelescope}
use Rattle.hered_subst.proofs.Types.{is_determined}
use Rattle.clf_syntax.specs.Modes.{same_mode}
use Rattle.clf_rules.specs.Explained.{telescope_width}
use Rattle.clf_rules.specs.Typing.{StepRule, TupleEntryRule}
use Rattle.clf_rules.specs.Refusal.{mode_differs, width}
use Rattle.clf_rules.proofs.Held.{same_number}
use Rattle.clf_rules.proofs.UsedParts.{some-part}
use Rattle.clf_decision.specs.Outcome.{Outcome, passed, refused, at_part, and_then, answer_of}
use Rattle.clf_decision.specs.Checking.{Puts, monadic_left, with_slack, first_other_mode, same_modes_left, pattern_left, closed_scopes, rest_left, step_left, end_left, entry_left}
use Rattle.clf_decision.proofs.AgreesWith.{AgreesWithType}
use Rattle.clf_decision.proofs.AgreementOfObjects.{closed-answer, part-answer}
use Rattle.clf_decision.proofs.DecidedOutcomes.{Decided}
use Rattle.clf_decision.proofs.FirstPlaces.{same-modes, no-other-mode}
use Rattle.trace_equal.proofs.FirstMatching.{mode_sound}
use Rattle.clf_decision.proofs.Tests.{other-mode, other-number}

-- ---- monadic objects
monad-entries : {s u : PlainTelescope} → monad s ≡ monad u → s ≡ u
monad-entries e = cc

pub monadic-left-agrees : (g : Context) (h : Holding) (t : PlainType) (expression : PlainTelescope → Outcome Leftover) (P : PlainTelescope → Holding → Type 0)
    → ((s : PlainTelescope) → t ≡ monad s → Agrees (modes g) h (answer_of (expression s)) (P s))
    → Agrees (modes g) h (answer_of (monadic_left t expression)) (λ p. (s : PlainTelescope) × (t ≡ monad s) × P s p)
monadic-left-agrees g h (monad s) expression P f =
    agrees-same (modes g) h (answer_of (expression s)) (P s) (λ p. (u : PlainTelescope) × (monad s ≡ monad u) × P u p) (λ p y. (s, refl, y)) (λ p y. subst (λ u. P u p) (sym (monad-entries y.1)) y.2) (f s refl)
monadic-left-agrees g h (family i ns) expression P f = λ p w y. let e = y.1 in absurd (cc)
monadic-left-agrees g h (function m a c) expression P f = λ p w y. let e = y.1 in absurd (cc)
monadic-left-agrees g h (both a c) expression P f = λ p w y. let e = y.1 in absurd (cc)
monadic-left-agrees g h top expression P f = λ p w y. let e = y.1 in absurd (cc)

-- ---- patterns
other-modes : (ks ms : List Mode) → length ks ≡ length ms → Decided (same_modes_left (first_other_mode ks ms)) (ks ≡ ms)
other-modes ks ms e = by (first_other_mode ks ms) refl
  where
    by : (o : Option (Mode × Mode)) → first_other_mode ks ms ≡ o → Decided (same_modes_left o) (ks ≡ ms)
    by None q = same-modes ks ms (sym e) q
    by (Some d) q = λ p. none-some d (sym (no-other-mode ks) ∙ ap (first_other_mode ks) p ∙ q)

pub pattern-decided : (ms : List Mode) (u : PlainTelescope) → Decided (pattern_left ms u) (telescope_modes u ≡ ms)
pattern-decided ms u = by (length ms == telescope_width u) refl
  where
    by : (b : Bool) → (length ms == telescope_width u) ≡ b
        → Decided (if b then same_modes_left (first_other_mode (telescope_modes u) ms) else refused [] (width (telescope_width u) (length ms))) (telescope_modes u ≡ ms)
    by true e = other-modes (telescope_modes u) ms (sym (same_number (length ms) (telescope_width u) e))
    by false e = λ q. other-number (length ms) (telescope_width u) e (sym (ap length q))

-- ---- the end of several scopes
pub slack-answer : (s : Bool) (r : Outcome Leftover) → answer_of (and_then r (with_slack s)) ≡ in_turn (answer_of r) s
slack-answer s (passed a) = refl
slack-answer s (refused path cause) = refl

closed-scopes-answer : (u : PlainTelescope) (g : Context) (a : Leftover) → answer_of (closed_scopes u g a) ≡ closed_all (telescope_modes u) (Some a)
closed-scopes-answer end g a = refl
closed-scopes-answer (binding m t s) g a = closed-answer m g (closed_scopes s ((m, t) ∷ g) a) ∙ ap (closed m) (closed-scopes-answer s ((m, t) ∷ g) a)

closed_none : (ns : List Mode) → closed_all ns None ≡ None
closed_none [] = refl
closed_none (n ∷ ns) = ap (closed n) (closed_none ns)

pub entered-modes : (u : PlainTelescope) (g : Context) → modes (with_entries u g) ≡ entered (telescope_modes u) (modes g)
entered-modes end g = refl
entered-modes (binding m t s) g = entered-modes s ((m, t) ∷ g)

rest-answer : (place : ℕ) (u : PlainTelescope) (g : Context) (s : Bool) (r : Outcome Leftover) → answer_of (rest_left place u g s r) ≡ in_turn (closed_all (telescope_modes u) (answer_of r)) s
rest-answer place u g s (refused path cause) = sym (ap (λ a. in_turn a s) (closed_none (telescope_modes u)))
rest-answer place u g s (passed y) =
    slack-answer s (at_part place (closed_scopes u g y)) ∙ ap (λ a. in_turn a s) (part-answer place (closed_scopes u g y) ∙ closed-scopes-answer u g y)

rest-agrees : (place : ℕ) (u : PlainTelescope) (ms : List Mode) (g : Context) (h : Holding) (x : Leftover) (r : Outcome Leftover) (P R : Holding → Type 0) → telescope_modes u ≡ ms
    → Agrees (modes g) h (Some x) P → Agrees (modes (with_entries u g)) (all_held ms x.0) (answer_of r) R
    → Agrees (modes g) h (answer_of (rest_left place u g x.1 r)) (Shared (modes g) P (λ p. R (all_held ms p)))
rest-agrees place u ms g h x r P R e a b =
    let inner = subst (λ (ns : List Mode). Agrees ns (all_held (telescope_modes u) x.0) (answer_of r) R) (entered-modes u g)
    (subst (λ (ns : List Mode). Agrees (modes (with_entries u g)) (all_held ns x.0) (answer_of r) R) (sym e) b) in
    let outer = turn-agrees (modes g) h x.0 x.1 (closed_all (telescope_modes u) (answer_of r)) P (λ p. R (all_held (telescope_modes u) p)) a
    (scopes-agree (telescope_modes u) (modes g) x.0 (answer_of r) R inner) in
    subst (λ (y : Answer). Agrees (modes g) h y (Shared (modes g) P (λ p. R (all_held ms p)))) (sym (rest-answer place u g x.1 r))
    (subst (λ (ns : List Mode). Agrees (modes g) h (in_turn (closed_all (telescope_modes u) (answer_of r)) x.1) (Shared (modes g) P (λ p. R (all_held ns p)))) e outer)

-- ---- steps
-- the rule of a step, of any properties of its right side and of the rest
abbrev StepHas : List Mode → Context → (Holding → PlainType → Type 0) → (PlainTelescope → Holding → Type 0) → Holding → Type 0
StepHas ms g P R p = StepRule g p ms P (λ u q. R u (all_held ms q))

module _ (place : ℕ) (ms : List Mode) (g : Context) (h : Holding) (P : Holding → PlainType → Type 0) (R : PlainTelescope → Holding → Type 0) where
  step-monad : (u : PlainTelescope) (x : Leftover) (same : Outcome (Unit {0})) → Decided same (telescope_modes u ≡ ms) → (rest : Outcome Leftover) → AgreesWithType g h (passed (monad u, x)) P
      → (telescope_modes u ≡ ms → Agrees (modes (with_entries u g)) (all_held ms x.0) (answer_of rest) (R u))
      → Agrees (modes g) h (answer_of (and_then (at_part place same) (λ s. rest_left place u g x.1 rest))) (StepHas ms g P R)
  step-monad u x (passed s) d rest a b =
      agrees-same (modes g) h (answer_of (rest_left place u g x.1 rest)) (Shared (modes g) (λ p. P p (monad u)) (λ p. R u (all_held ms p))) (StepHas ms g P R)
      (λ p y. record { entries = u; for_right = y.0; for_rest = y.1; split = y.2; right = y.3; pattern = d; rest = y.4 })
      (λ p y.
      let e = monad-entries (a.1 y.for_right (monad y.entries) y.right) in
      (y.for_right, y.for_rest, y.split, subst (λ v. P y.for_right (monad v)) e y.right, subst (λ v. R v (all_held ms y.for_rest)) e y.rest))
      (rest-agrees place u ms g h x rest (λ p. P p (monad u)) (R u) d a.0 (b d))
  step-monad u x (refused path cause) d rest a b = λ p w y. d (subst (λ v. telescope_modes v ≡ ms) (monad-entries (a.1 y.for_right (monad y.entries) y.right)) y.pattern)

  step-left-agrees : (f : PlainType) (x : Leftover) (rest : PlainTelescope → Holding → Outcome Leftover) → AgreesWithType g h (passed (f, x)) P
      → ((u : PlainTelescope) → f ≡ monad u → telescope_modes u ≡ ms → Agrees (modes (with_entries u g)) (all_held ms x.0) (answer_of (rest u (all_held ms x.0))) (R u))
      → Agrees (modes g) h (answer_of (step_left place ms g (f, x) rest)) (StepHas ms g P R)
  step-left-agrees (monad u) x rest a b = step-monad u x (pattern_left ms u) (pattern-decided ms u) (rest u (all_held ms x.0)) a (b u refl)
  step-left-agrees (family i ns) x rest a b = λ p w y. let e = a.1 y.for_right (monad y.entries) y.right in absurd (cc)
  step-left-agrees (function m d c) x rest a b = λ p w y. let e = a.1 y.for_right (monad y.entries) y.right in absurd (cc)
  step-left-agrees (both d c) x rest a b = λ p w y. let e = a.1 y.for_right (monad y.entries) y.right in absurd (cc)
  step-left-agrees top x rest a b = λ p w y. let e = a.1 y.for_right (monad y.entries) y.right in absurd (cc)

  pub step-agrees : (r : Outcome (PlainType × Leftover)) (rest : PlainTelescope → Holding → Outcome Leftover) → AgreesWithType g h r P
      → ((u : PlainTelescope) (x : Leftover) → r ≡ passed (monad u, x) → telescope_modes u ≡ ms → Agrees (modes (with_entries u g)) (all_held ms x.0) (answer_of (rest u (all_held ms x.0))) (R u))
      → Agrees (modes g) h (answer_of (and_then (at_part place r) (λ f. step_left place ms g f rest))) (StepHas ms g P R)
  step-agrees (refused path cause) rest a b = λ p w y. a y.for_right (monad y.entries) (IsSubholding-first (modes g) h p y.for_right y.for_rest y.split w) y.right
  step-agrees (passed f) rest a b = step-left-agrees f.0 f.1 rest a (λ u e. b u f.1 (ap (λ t. passed (t, f.1)) e))

-- ---- tuples
pub end-agrees : (before : ℕ) (g : Context) (h : Holding) (s : PlainTelescope) → WellMarked (modes g) h
    → Agrees (modes g) h (answer_of (end_left before h s)) (λ p. (s ≡ end) × (is_weak (modes g) p ≡ true))
end-agrees before g h end w =
    agrees-same (modes g) h (Some (h, false)) (λ p. is_weak (modes g) p ≡ true) (λ p. (end ≡ end) × (is_weak (modes g) p ≡ true)) (λ p x. (refl, x)) (λ p x. x.1)
    (idle-agrees (modes g) h (IsSubholding-self (modes g) h w))
end-agrees before g h (binding m a s) w = λ p u y. let e = y.0 in absurd (cc)

binding-mode : {m k : Mode} {a b : PlainType} {s u : PlainTelescope} → binding m a s ≡ binding k b u → m ≡ k
binding-mode e = cc

binding-type : {m k : Mode} {a b : PlainType} {s u : PlainTelescope} → binding m a s ≡ binding k b u → a ≡ b
binding-type e = cc

binding-later : {m k : Mode} {a b : PlainType} {s u : PlainTelescope} → binding m a s ≡ binding k b u → s ≡ u
binding-later e = cc

-- the rule of an entry of a tuple, of any properties of the entry and of the later ones
abbrev EntryHas : Mode → Context → PlainObject → (PlainType → Holding → Type 0) → (PlainTelescope → Holding → Type 0) → PlainTelescope → Holding → Type 0
EntryHas m g n P Q s p = TupleEntryRule g p m n s (λ q a. P a q) (λ q v. Q v q)

module _ (place : ℕ) (m : Mode) (g : Context) (h : Holding) (marked : WellMarked (modes g) h) (n : PlainObject) (P : PlainType → Holding → Type 0) (Q : PlainTelescope → Holding → Type 0) where
  entry-same : (a : PlainType) (u after : PlainTelescope) (object : Outcome Leftover) (later : Holding → Outcome Leftover) → ((p : Holding) → P a p → SubstitutedTelescope (single n 0) u after)
      → Agrees (modes g) (allowed m (modes g) h) (answer_of object) (P a)
      → ((y : Leftover) → object ≡ passed y → Agrees (modes g) (outside m (modes g) h y.0) (answer_of (later (outside m (modes g) h y.0))) (Q after))
      → Agrees (modes g) h (answer_of (and_then (at_part place object) (λ y. and_then (later (outside m (modes g) h y.0)) (with_slack (slack_outside m y.1))))) (EntryHas m g n P Q (binding m a u))
  entry-same a u after (refused path cause) later puts x l = λ p w y.
      entry-refused m (modes g) h (P a) (λ k. Unit {0}) (IsSubholding-self (modes g) h marked) x p w
      (y.for_first, y.for_later, y.split, (y.usable, subst (λ c. P c y.for_first) (sym (binding-type y.type)) y.first), tt)
  entry-same a u after (passed b) later puts x l =
      let rest = later (outside m (modes g) h b.0) in
      let part = some-part (modes g) (allowed m (modes g) h) b (P a) x in
      let put = puts part.0 part.2 in
      subst (λ (z : Answer). Agrees (modes g) h z (EntryHas m g n P Q (binding m a u))) (sym (slack-answer (slack_outside m b.1) rest))
      (agrees-same (modes g) h (in_turn (answer_of rest) (slack_outside m b.1)) (Shared (modes g) (λ k. (may_use m (modes g) k ≡ true) × P a k) (Q after)) (EntryHas m g n P Q (binding m a u))
      (λ p y. record {
        first_type = a;
        later_types = u;
        after_put = after;
        for_first = y.0;
        for_later = y.1;
        type = refl;
        split = y.2;
        usable = y.3.0;
        first = y.3.1;
        put = put;
        later = y.4;
      })
      (λ p y.
      let e = (is_determined (single n 0)).5 u y.after_put after (subst (λ v. SubstitutedTelescope (single n 0) v y.after_put) (sym (binding-later y.type)) y.put) put in
      (y.for_first, y.for_later, y.split, (y.usable, subst (λ c. P c y.for_first) (sym (binding-type y.type)) y.first), subst (λ v. Q v y.for_later) e y.later))
      (entry-agrees m (modes g) h b.0 b.1 (answer_of rest) (P a) (Q after) (IsSubholding-self (modes g) h marked) x (l b refl)))

  entry-mode : (k : Mode) (b : Bool) → same_mode m k ≡ b → (a : PlainType) (u after : PlainTelescope) (object : Outcome Leftover) (later : Holding → Outcome Leftover)
      → ((p : Holding) → P a p → SubstitutedTelescope (single n 0) u after)
      → Agrees (modes g) (allowed m (modes g) h) (answer_of object) (P a)
      → ((y : Leftover) → object ≡ passed y → Agrees (modes g) (outside m (modes g) h y.0) (answer_of (later (outside m (modes g) h y.0))) (Q after))
      → Agrees (modes g) h
      (answer_of (if b then and_then (at_part place object) (λ y. and_then (later (outside m (modes g) h y.0)) (with_slack (slack_outside m y.1))) else refused (place ∷ []) (mode_differs k m)))
      (EntryHas m g n P Q (binding k a u))
  entry-mode k true e a u after object later puts x l =
      subst (λ j. Agrees (modes g) h (answer_of (and_then (at_part place object) (λ y. and_then (later (outside m (modes g) h y.0)) (with_slack (slack_outside m y.1))))) (EntryHas m g n P Q (binding j a u)))
      (mode_sound m k e) (entry-same a u after object later puts x l)
  entry-mode k false e a u after object later puts x l = λ p w y. other-mode m k e (binding-mode y.type)

-- The entry is checked in the row that its mode allows, the later ones start from what it left outside, and what is put is the
-- substitution where some part types it.
pub entry-left-agrees : (puts : Puts) (steps before : ℕ) (m : Mode) (g : Context) (h : Holding) → WellMarked (modes g) h → (n : PlainObject) (t : PlainTuple) (s : PlainTelescope)
    (object : Holding → PlainType → Outcome Leftover) (later : Holding → PlainTelescope → Outcome Leftover) (P : PlainType → Holding → Type 0) (Q : PlainTelescope → Holding → Type 0)
    → ((k : Mode) (a : PlainType) (u : PlainTelescope) → s ≡ binding k a u → (p : Holding) → P a p → SubstitutedTelescope (single n 0) u (puts.into_telescope n a u))
    → ((k : Mode) (a : PlainType) (u : PlainTelescope) → s ≡ binding k a u → Agrees (modes g) (allowed m (modes g) h) (answer_of (object (allowed m (modes g) h) a)) (P a))
    → ((k : Mode) (a : PlainType) (u : PlainTelescope) → s ≡ binding k a u → (y : Leftover) → object (allowed m (modes g) h) a ≡ passed y
    → Agrees (modes g) (outside m (modes g) h y.0) (answer_of (later (outside m (modes g) h y.0) (puts.into_telescope n a u))) (Q (puts.into_telescope n a u)))
    → Agrees (modes g) h (answer_of (entry_left puts steps before m g h n t s object later)) (EntryHas m g n P Q s)
entry-left-agrees puts steps before m g h w n t end object later P Q put x l = λ p u y. let e = y.type in absurd (cc)
entry-left-agrees puts steps before m g h w n t (binding k a u) object later P Q put x l =
    entry-mode (steps + before) m g h w n P Q k (same_mode m k) refl a u (puts.into_telescope n a u) (object (allowed m (modes g) h) a) (λ row. later row (puts.into_telescope n a u))
    (put k a u refl) (x k a u refl) (l k a u refl)
