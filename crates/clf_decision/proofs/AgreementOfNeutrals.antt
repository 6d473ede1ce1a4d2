-- The check of heads, applications and projections agrees with the rules, where that of their parts does.
use Rattle.std.proofs.Common.{◌≡◌, ℕ, ◌+◌, Bool, true, false, ◌||◌, if◌then◌else◌, [], ◌∷◌, Option, None, Some, slice_get, refl, sym, ap, subst, ◌∙◌}
use Rattle.std.proofs.lemmas.Option.{none-some, same_Some}
use Rattle.clf_syntax.specs.declared.tree.Mode.{Mode}
use Rattle.clf_syntax.specs.declared.tree.Head.{Head}
use Rattle.clf_syntax.specs.declared.tree.Head.TheVariants.{Const, Var, Meta}
use Rattle.clf_syntax.specs.Tree.{PlainObject}
use Rattle.clf_syntax.specs.TypeTree.{PlainType, family, function, both, top, monad}
use Rattle.clf_syntax.specs.Renaming.{ren_type, up}
use Rattle.use_contexts.specs.Context.{Context, modes}
use Rattle.use_contexts.specs.Holding.{Holding, WellMarked, Uses, is_weak, may_use, allowed}
use Rattle.use_contexts.specs.Rows.{Agrees, Shared, Leftover, taken, outside, slack_outside}
use Rattle.use_contexts.proofs.RowLaws.{agrees-same, IsSubholding-first}
use Rattle.use_contexts.proofs.UseLaws.{IsSubholding-self, WellMarked-part, idle-agrees, take-refused, take-agrees}
use Rattle.use_contexts.proofs.ArgumentLaws.{argument-agrees}
use Rattle.hered_subst.specs.Substitution.{single, SubstitutedType}
use Rattle.hered_subst.proofs.Types.{is_determined}
use Rattle.clf_syntax.specs.Modes.{same_mode}
use Rattle.clf_sig.specs.Entry.{PlainSignature, constant_type}
use Rattle.clf_rules.specs.Typing.{HeadHasType, ApplicationRule}
use Rattle.clf_rules.specs.Refusal.{mode_differs}
use Rattle.clf_rules.proofs.UsedParts.{some-part}
use Rattle.clf_decision.specs.Outcome.{Outcome, passed, refused, at_part, and_then, answer_of}
use Rattle.clf_decision.specs.Checking.{Puts, constant_left, held_left, variable_left, head_left, argument_left, first_left, second_left}
use Rattle.clf_decision.proofs.AgreesWith.{AgreesWithType}
use Rattle.clf_decision.proofs.AgreementOfObjects.{function-mode, function-argument, function-result, both-left, both-right}
use Rattle.trace_equal.proofs.FirstMatching.{mode_sound}
use Rattle.clf_decision.proofs.Tests.{other-mode}
use Rattle.clf_decision.proofs.Marked.{marked-there}

-- ---- heads
constant-agrees : (sig : PlainSignature) (g : Context) (h : Holding) → WellMarked (modes g) h → (c : ℕ) (o : Option PlainType) → constant_type sig c ≡ o
    → AgreesWithType g h (constant_left c h o) (λ p a. HeadHasType sig g p (Const c) a)
constant-agrees sig g h w c None e = λ p a u y. none-some a (sym e ∙ y.0)
constant-agrees sig g h w c (Some a) e = (
  agrees-same (modes g) h (Some (h, false)) (λ p. is_weak (modes g) p ≡ true) (λ p. HeadHasType sig g p (Const c) a) (λ p y. (e, y)) (λ p y. y.1)
      (idle-agrees (modes g) h (IsSubholding-self (modes g) h w)),
  (λ p b y. same_Some b a (sym y.0 ∙ e)),
)

held-agrees : (sig : PlainSignature) (g : Context) (h : Holding) → WellMarked (modes g) h → (i : ℕ) (e : Mode × PlainType) → slice_get g i ≡ Some e
    → (o : Option Bool) → slice_get h i ≡ o → AgreesWithType g h (held_left g h i e.1 o) (λ p a. HeadHasType sig g p (Var i) a)
held-agrees sig g h w i e q (Some true) x = (
  agrees-same (modes g) h (Some (taken (modes g) i h, false)) (λ p. Uses (modes g) p i) (λ p. HeadHasType sig g p (Var i) (ren_type (up (i + 1)) e.1))
      (λ p y. (y, (e.0, e.1, q, refl)))
      (λ p y. y.0)
      (take-agrees (modes g) h i (IsSubholding-self (modes g) h w) x),
  (λ p a y.
      let same : (y.1.0, y.1.1) ≡ e = same_Some (y.1.0, y.1.1) e (sym y.1.2 ∙ q) in
      y.1.3 ∙ ap (λ d. ren_type (up (i + 1)) d.1) same),
)
held-agrees sig g h w i e q (Some false) x = λ p a u y. take-refused (modes g) h i x p u y.0
held-agrees sig g h w i e q None x = λ p a u y. marked-there g h i w e q x

variable-agrees : (sig : PlainSignature) (g : Context) (h : Holding) → WellMarked (modes g) h → (i : ℕ) (o : Option (Mode × PlainType)) → slice_get g i ≡ o
    → AgreesWithType g h (variable_left g h i o) (λ p a. HeadHasType sig g p (Var i) a)
variable-agrees sig g h w i None q = λ p a u y. none-some (y.1.0, y.1.1) (sym q ∙ y.1.2)
variable-agrees sig g h w i (Some e) q = held-agrees sig g h w i e q (slice_get h i) refl

pub head-agrees : (sig : PlainSignature) (g : Context) (h : Holding) → WellMarked (modes g) h → (x : Head) → AgreesWithType g h (head_left sig g h x) (λ p a. HeadHasType sig g p x a)
head-agrees sig g h w (Const k) = constant-agrees sig g h w k (constant_type sig k) refl
head-agrees sig g h w (Var i) = variable-agrees sig g h w i (slice_get g i) refl
head-agrees sig g h w (Meta k) = λ p a u y. y

-- ---- applications
-- the rule of an application, of any properties of its function and its argument
abbrev ApplicationHas : Mode → Context → PlainObject → (Holding → PlainType → Type 0) → (PlainType → Holding → Type 0) → Holding → PlainType → Type 0
ApplicationHas m g n P Q p t = ApplicationRule g p m n t P (λ k a. Q a k)

-- the parts of the function and of its argument, where the function has the one type
abbrev SharedAt : Mode → Context → PlainType → PlainType → (Holding → PlainType → Type 0) → (PlainType → Holding → Type 0) → Holding → Type 0
SharedAt m g a c P Q p = Shared (modes g) (λ q. P q (function m a c)) (λ k. (may_use m (modes g) k ≡ true) × Q a k) p

module _ (m : Mode) (g : Context) (h : Holding) (place : ℕ) (n : PlainObject) (P : Holding → PlainType → Type 0) (Q : PlainType → Holding → Type 0) where
  shared-at : (a c : PlainType) → ((p : Holding) (b : PlainType) → P p b → b ≡ function m a c) → (p : Holding) (t : PlainType) → ApplicationHas m g n P Q p t → SharedAt m g a c P Q p
  shared-at a c one p t y =
      let e = one y.for_function (function m y.domain y.range) y.applied in
      (y.for_function, y.for_argument, y.split, subst (P y.for_function) e y.applied, (y.usable, subst (λ d. Q d y.for_argument) (function-argument e) y.argument))

  application-type : (a c after : PlainType) → SubstitutedType (single n 0) c after → ((p : Holding) (b : PlainType) → P p b → b ≡ function m a c) → (p : Holding) (t : PlainType)
      → ApplicationHas m g n P Q p t → t ≡ after
  application-type a c after put one p t y =
      let e : y.range ≡ c = function-result (one y.for_function (function m y.domain y.range) y.applied) in
      (is_determined (single n 0)).4 c t after (subst (λ d. SubstitutedType (single n 0) d t) e y.type) put

  application-same : (a c after : PlainType) (x : Leftover) (r : Outcome Leftover) → ((p : Holding) → Q a p → SubstitutedType (single n 0) c after)
      → AgreesWithType g h (passed (function m a c, x)) P → Agrees (modes g) (allowed m (modes g) x.0) (answer_of r) (Q a)
      → AgreesWithType g h (and_then (at_part place r) (λ y. passed (after, (outside m (modes g) x.0 y.0, x.1 || slack_outside m y.1)))) (ApplicationHas m g n P Q)
  application-same a c after x (refused path cause) puts u v =
      let self = IsSubholding-self (modes g) x.0 (WellMarked-part (modes g) h x.0 u.0.0) in
      let none = argument-agrees m (modes g) h x.0 x.1 None (λ q. P q (function m a c)) (Q a) self u.0 v in
      λ p t w y. none p w (shared-at a c u.1 p t y)
  application-same a c after x (passed b) puts u v =
      let self = IsSubholding-self (modes g) x.0 (WellMarked-part (modes g) h x.0 u.0.0) in
      let some = argument-agrees m (modes g) h x.0 x.1 (Some b) (λ q. P q (function m a c)) (Q a) self u.0 v in
      let part = some-part (modes g) (allowed m (modes g) x.0) b (Q a) v in
      let put = puts part.0 part.2 in (
        agrees-same (modes g) h (Some (outside m (modes g) x.0 b.0, x.1 || slack_outside m b.1)) (SharedAt m g a c P Q) (λ p. ApplicationHas m g n P Q p after)
            (λ p y. record {
              domain = a;
              range = c;
              for_function = y.0;
              for_argument = y.1;
              split = y.2;
              applied = y.3;
              usable = y.4.0;
              argument = y.4.1;
              type = put;
            })
            (λ p y. shared-at a c u.1 p after y)
            some,
        (λ p t y. application-type a c after put u.1 p t y),
      )

  application-function : (k : Mode) (b : Bool) → same_mode m k ≡ b → (a c after : PlainType) (x : Leftover) (r : Outcome Leftover) → ((p : Holding) → Q a p → SubstitutedType (single n 0) c after)
      → AgreesWithType g h (passed (function k a c, x)) P → Agrees (modes g) (allowed m (modes g) x.0) (answer_of r) (Q a)
      → AgreesWithType g h (if b then and_then (at_part place r) (λ y. passed (after, (outside m (modes g) x.0 y.0, x.1 || slack_outside m y.1))) else refused (place ∷ []) (mode_differs k m))
      (ApplicationHas m g n P Q)
  application-function k true e a c after x r puts u v =
      application-same a c after x r puts (subst (λ j. AgreesWithType g h (passed (function j a c, x)) P) (sym (mode_sound m k e)) u) v
  application-function k false e a c after x r puts u v = λ p t w y.
      other-mode m k e (sym (function-mode (u.1 y.for_function (function m y.domain y.range) y.applied)))

  -- The argument is checked in the row that its mode allows, and what is put is the substitution where some part types it.
  argument-left-agrees : (puts : Puts) (f : PlainType) (x : Leftover) (argument : Holding → PlainType → Outcome Leftover) → AgreesWithType g h (passed (f, x)) P
      → ((k : Mode) (a c : PlainType) → f ≡ function k a c → Agrees (modes g) (allowed m (modes g) x.0) (answer_of (argument (allowed m (modes g) x.0) a)) (Q a))
      → ((k : Mode) (a c : PlainType) → f ≡ function k a c → (p : Holding) → Q a p → SubstitutedType (single n 0) c (puts.into_type n a c))
      → AgreesWithType g h (argument_left puts m g n place (f, x) argument) (ApplicationHas m g n P Q)
  argument-left-agrees puts (function k a c) x argument u v put =
      application-function k (same_mode m k) refl a c (puts.into_type n a c) x (argument (allowed m (modes g) x.0) a) (put k a c refl) u (v k a c refl)
  argument-left-agrees puts (family i ns) x argument u v put = λ p t w y. let e = u.1 y.for_function (function m y.domain y.range) y.applied in absurd (cc)
  argument-left-agrees puts (both a c) x argument u v put = λ p t w y. let e = u.1 y.for_function (function m y.domain y.range) y.applied in absurd (cc)
  argument-left-agrees puts top x argument u v put = λ p t w y. let e = u.1 y.for_function (function m y.domain y.range) y.applied in absurd (cc)
  argument-left-agrees puts (monad s) x argument u v put = λ p t w y. let e = u.1 y.for_function (function m y.domain y.range) y.applied in absurd (cc)

  pub application-agrees : (puts : Puts) (r : Outcome (PlainType × Leftover)) (argument : Holding → PlainType → Outcome Leftover) → AgreesWithType g h r P
      → ((k : Mode) (a c : PlainType) (x : Leftover) → r ≡ passed (function k a c, x) → Agrees (modes g) (allowed m (modes g) x.0) (answer_of (argument (allowed m (modes g) x.0) a)) (Q a))
      → ((k : Mode) (a c : PlainType) (x : Leftover) → r ≡ passed (function k a c, x) → (p : Holding) → Q a p → SubstitutedType (single n 0) c (puts.into_type n a c))
      → AgreesWithType g h (and_then r (λ f. argument_left puts m g n place f argument)) (ApplicationHas m g n P Q)
  application-agrees puts (refused path cause) argument u v put = λ p t w y. u y.for_function (function m y.domain y.range) (IsSubholding-first (modes g) h p y.for_function y.for_argument y.split w) y.applied
  application-agrees puts (passed f) argument u v put =
      argument-left-agrees puts f.0 f.1 argument u (λ k a c e. v k a c f.1 (ap (λ t. passed (t, f.1)) e)) (λ k a c e. put k a c f.1 (ap (λ t. passed (t, f.1)) e))

-- ---- projections
pub first-agrees : (g : Context) (h : Holding) (place : ℕ) (r : Outcome (PlainType × Leftover)) (P : Holding → PlainType → Type 0)
    → AgreesWithType g h r P → AgreesWithType g h (and_then r (first_left place)) (λ p t. (c : PlainType) × P p (both t c))
first-agrees g h place (refused path cause) P u = λ p t w y. u p (both t y.0) w y.1
first-agrees g h place (passed ((both a c), x)) P u = (
  agrees-same (modes g) h (Some x) (λ p. P p (both a c)) (λ p. (b : PlainType) × P p (both a b)) (λ p y. (c, y)) (λ p y. subst (P p) (u.1 p (both a y.0) y.1) y.1) u.0,
  (λ p t y. both-left (u.1 p (both t y.0) y.1)),
)
first-agrees g h place (passed ((family i ns), x)) P u = λ p t w y. let e = u.1 p (both t y.0) y.1 in absurd (cc)
first-agrees g h place (passed ((function m a c), x)) P u = λ p t w y. let e = u.1 p (both t y.0) y.1 in absurd (cc)
first-agrees g h place (passed (top, x)) P u = λ p t w y. let e = u.1 p (both t y.0) y.1 in absurd (cc)
first-agrees g h place (passed ((monad s), x)) P u = λ p t w y. let e = u.1 p (both t y.0) y.1 in absurd (cc)

pub second-agrees : (g : Context) (h : Holding) (place : ℕ) (r : Outcome (PlainType × Leftover)) (P : Holding → PlainType → Type 0)
    → AgreesWithType g h r P → AgreesWithType g h (and_then r (second_left place)) (λ p t. (a : PlainType) × P p (both a t))
second-agrees g h place (refused path cause) P u = λ p t w y. u p (both y.0 t) w y.1
second-agrees g h place (passed ((both a c), x)) P u = (
  agrees-same (modes g) h (Some x) (λ p. P p (both a c)) (λ p. (b : PlainType) × P p (both b c)) (λ p y. (a, y)) (λ p y. subst (P p) (u.1 p (both y.0 c) y.1) y.1) u.0,
  (λ p t y. both-right (u.1 p (both y.0 t) y.1)),
)
second-agrees g h place (passed ((family i ns), x)) P u = λ p t w y. let e = u.1 p (both y.0 t) y.1 in absurd (cc)
second-agrees g h place (passed ((function m a c), x)) P u = λ p t w y. let e = u.1 p (both y.0 t) y.1 in absurd (cc)
second-agrees g h place (passed (top, x)) P u = λ p t w y. let e = u.1 p (both y.0 t) y.1 in absurd (cc)
second-agrees g h place (passed ((monad s), x)) P u = λ p t w y. let e = u.1 p (both y.0 t) y.1 in absurd (cc)
