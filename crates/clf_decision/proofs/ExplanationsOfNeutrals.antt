-- Refusals of neutrals tell the truth, construct by construct.
use Rattle.std.proofs.Common.{◌≡◌, ℕ, Bool, true, false, ◌||◌, if◌then◌else◌, [], ◌∷◌, Option, None, Some, slice_get, refl, sym, subst}
use Rattle.clf_syntax.specs.declared.tree.Mode.{Mode}
use Rattle.clf_syntax.specs.declared.tree.Head.{Head}
use Rattle.clf_syntax.specs.declared.tree.Head.TheVariants.{Const, Var, Meta}
use Rattle.clf_syntax.specs.Tree.{PlainObject, PlainNeutral, head_alone, app, fst, snd}
use Rattle.clf_syntax.specs.TypeTree.{PlainType, family, function, both, top, monad}
use Rattle.clf_syntax.specs.Simple.{SimplyFormed}
use Rattle.use_contexts.specs.Context.{Context, modes}
use Rattle.use_contexts.specs.Holding.{Holding, WellMarked, allowed}
use Rattle.use_contexts.specs.Rows.{Agrees, outside, slack_outside, Leftover}
use Rattle.clf_sig.specs.Entry.{PlainSignature, constant_type}
use Rattle.clf_rules.specs.Typing.{Synthesizes}
use Rattle.clf_rules.specs.Refusal.{mode_differs, eliminations}
use Rattle.clf_rules.specs.Explained.{neutral_with, at_head, at_argument, at_first, at_second, before_argument, before_first, before_second, in_argument_part, argument_to_none, first_of_none, second_of_none, metavariable_stands, argument_differs, variable_not_held, no_variable, no_constant}
use Rattle.clf_rules.proofs.UsedParts.{some-part}
use Rattle.clf_rules.proofs.Leavings.{row-leaves}
use Rattle.clf_syntax.specs.Modes.{same_mode}
use Rattle.typing_laws.specs.SimpleTyping.{simple_of, families_of}
use Rattle.clf_decision.specs.Outcome.{Outcome, passed, refused, at_part, and_then}
use Rattle.clf_decision.specs.Checking.{Puts, constant_left, held_left, variable_left, head_left, argument_left, first_left, second_left}
use Rattle.clf_decision.specs.Starts.{Starts}
use Rattle.clf_decision.proofs.AgreesWith.{AgreesWithType}
use Rattle.clf_decision.proofs.Starting.{starts-part, starts-allowed, formed-synthesized}
use Rattle.clf_decision.proofs.ExplanationForms.{Explained, NeutralExplained, synthesized}
use Rattle.trace_equal.proofs.FirstMatching.{mode_sound}
use Rattle.clf_decision.proofs.Tests.{other-mode}
use Rattle.clf_decision.proofs.Marked.{marked-there}

module _ (puts : Puts) (sig : PlainSignature) (g : Context) (h : Holding) where
  -- ---- applications
  argument-explained : (m : Mode) (r : PlainNeutral) (n : PlainObject) (a c : PlainType) (x : Leftover) (o : Outcome Leftover)
      → Agrees (modes g) h (Some x) (λ p. Synthesizes sig g p r (function m a c)) → Explained sig g (allowed m (modes g) x.0) n a o
      → NeutralExplained sig g h (app m r n) (and_then (at_part (eliminations r) o) (λ y. passed (puts.into_type n a c, (outside m (modes g) x.0 y.0, x.1 || slack_outside m y.1))))
  argument-explained m r n a c x (refused path why) u v =
      (v.0, v.1, v.2, in_argument_part a c x.0 (some-part (modes g) h x (λ p. Synthesizes sig g p r (function m a c)) u) (row-leaves g h x (λ p. Synthesizes sig g p r (function m a c)) u) v.3, v.4)
  argument-explained m r n a c x (passed y) u v = tt

  mode-explained : (m k : Mode) (z : Bool) → same_mode m k ≡ z → (r : PlainNeutral) (n : PlainObject) (a c : PlainType) (x : Leftover) (o : Outcome Leftover)
      → AgreesWithType g h (passed (function k a c, x)) (λ p t. Synthesizes sig g p r t) → Explained sig g (allowed m (modes g) x.0) n a o
      → NeutralExplained sig g h (app m r n)
      (if z then and_then (at_part (eliminations r) o) (λ y. passed (puts.into_type n a c, (outside m (modes g) x.0 y.0, x.1 || slack_outside m y.1))) else refused (eliminations r ∷ []) (mode_differs k m))
  mode-explained m k true e r n a c x o u v =
      argument-explained m r n a c x o (subst (λ j. Agrees (modes g) h (Some x) (λ p. Synthesizes sig g p r (function j a c))) (sym (mode_sound m k e)) u.0) v
  mode-explained m k false e r n a c x o u v =
      (g, h, neutral_with (app m r n), at_argument, argument_differs a c (synthesized sig g h r (function k a c, x) u) (other-mode m k e))

  argument-left-explained : (m : Mode) (r : PlainNeutral) (n : PlainObject) (f : PlainType) (x : Leftover) (argument : Holding → PlainType → Outcome Leftover) → Starts sig g h
      → AgreesWithType g h (passed (f, x)) (λ p a. Synthesizes sig g p r a)
      → ((row : Holding) (a : PlainType) → Starts sig g row → SimplyFormed (families_of sig) (simple_of sig g) a → Explained sig g row n a (argument row a))
      → NeutralExplained sig g h (app m r n) (argument_left puts m g n (eliminations r) (f, x) argument)
  argument-left-explained m r n (function k a c) x argument s u v =
      let row = allowed m (modes g) x.0 in
      let from = starts-allowed sig g x.0 m (starts-part sig g h x.0 s u.0.0) in
      let formed = formed-synthesized sig g h r (function k a c) s (synthesized sig g h r (function k a c, x) u) in
      mode-explained m k (same_mode m k) refl r n a c x (argument row a) u (v row a from formed.0)
  argument-left-explained m r n (family i ns) x argument s u v = (g, h, neutral_with (app m r n), at_argument, argument_to_none (synthesized sig g h r (family i ns, x) u) (λ k a c q. absurd (cc)))
  argument-left-explained m r n (both d f) x argument s u v = (g, h, neutral_with (app m r n), at_argument, argument_to_none (synthesized sig g h r (both d f, x) u) (λ k a c q. absurd (cc)))
  argument-left-explained m r n top x argument s u v = (g, h, neutral_with (app m r n), at_argument, argument_to_none (synthesized sig g h r (top, x) u) (λ k a c q. absurd (cc)))
  argument-left-explained m r n (monad t) x argument s u v = (g, h, neutral_with (app m r n), at_argument, argument_to_none (synthesized sig g h r (monad t, x) u) (λ k a c q. absurd (cc)))

  pub application-explained : (m : Mode) (r : PlainNeutral) (n : PlainObject) (o : Outcome (PlainType × Leftover)) (argument : Holding → PlainType → Outcome Leftover) → Starts sig g h
      → AgreesWithType g h o (λ p a. Synthesizes sig g p r a) → NeutralExplained sig g h r o
      → ((row : Holding) (a : PlainType) → Starts sig g row → SimplyFormed (families_of sig) (simple_of sig g) a → Explained sig g row n a (argument row a))
      → NeutralExplained sig g h (app m r n) (and_then o (λ f. argument_left puts m g n (eliminations r) f argument))
  application-explained m r n (refused path why) argument s u v w = (v.0, v.1, v.2, before_argument v.3, v.4)
  application-explained m r n (passed f) argument s u v w = argument-left-explained m r n f.0 f.1 argument s u w

module _ (sig : PlainSignature) (g : Context) (h : Holding) where
  -- ---- projections
  pub first-explained : (r : PlainNeutral) (o : Outcome (PlainType × Leftover)) → AgreesWithType g h o (λ p a. Synthesizes sig g p r a) → NeutralExplained sig g h r o
      → NeutralExplained sig g h (fst r) (and_then o (first_left (eliminations r)))
  first-explained r (refused path why) u v = (v.0, v.1, v.2, before_first v.3, v.4)
  first-explained r (passed ((both a c), x)) u v = tt
  first-explained r (passed ((family i ns), x)) u v = (g, h, neutral_with (fst r), at_first, first_of_none (synthesized sig g h r (family i ns, x) u) (λ a c q. absurd (cc)))
  first-explained r (passed ((function m d f), x)) u v = (g, h, neutral_with (fst r), at_first, first_of_none (synthesized sig g h r (function m d f, x) u) (λ a c q. absurd (cc)))
  first-explained r (passed (top, x)) u v = (g, h, neutral_with (fst r), at_first, first_of_none (synthesized sig g h r (top, x) u) (λ a c q. absurd (cc)))
  first-explained r (passed ((monad s), x)) u v = (g, h, neutral_with (fst r), at_first, first_of_none (synthesized sig g h r (monad s, x) u) (λ a c q. absurd (cc)))

  pub second-explained : (r : PlainNeutral) (o : Outcome (PlainType × Leftover)) → AgreesWithType g h o (λ p a. Synthesizes sig g p r a) → NeutralExplained sig g h r o
      → NeutralExplained sig g h (snd r) (and_then o (second_left (eliminations r)))
  second-explained r (refused path why) u v = (v.0, v.1, v.2, before_second v.3, v.4)
  second-explained r (passed ((both a c), x)) u v = tt
  second-explained r (passed ((family i ns), x)) u v = (g, h, neutral_with (snd r), at_second, second_of_none (synthesized sig g h r (family i ns, x) u) (λ a c q. absurd (cc)))
  second-explained r (passed ((function m d f), x)) u v = (g, h, neutral_with (snd r), at_second, second_of_none (synthesized sig g h r (function m d f, x) u) (λ a c q. absurd (cc)))
  second-explained r (passed (top, x)) u v = (g, h, neutral_with (snd r), at_second, second_of_none (synthesized sig g h r (top, x) u) (λ a c q. absurd (cc)))
  second-explained r (passed ((monad s), x)) u v = (g, h, neutral_with (snd r), at_second, second_of_none (synthesized sig g h r (monad s, x) u) (λ a c q. absurd (cc)))

  -- ---- heads
  constant-explained : (k : ℕ) (o : Option PlainType) → constant_type sig k ≡ o → NeutralExplained sig g h (head_alone (Const k)) (constant_left k h o)
  constant-explained k (Some a) e = tt
  constant-explained k None e = (g, h, neutral_with (head_alone (Const k)), at_head, no_constant e)

  held-explained : (i : ℕ) (e : Mode × PlainType) → slice_get g i ≡ Some e → WellMarked (modes g) h → (o : Option Bool) → slice_get h i ≡ o
      → NeutralExplained sig g h (head_alone (Var i)) (held_left g h i e.1 o)
  held-explained i e q w (Some true) x = tt
  held-explained i e q w (Some false) x = (g, h, neutral_with (head_alone (Var i)), at_head, variable_not_held e.0 e.1 q x)
  held-explained i e q w None x = absurd (marked-there g h i w e q x)

  variable-explained : (i : ℕ) (o : Option (Mode × PlainType)) → slice_get g i ≡ o → WellMarked (modes g) h → NeutralExplained sig g h (head_alone (Var i)) (variable_left g h i o)
  variable-explained i (Some e) q w = held-explained i e q w (slice_get h i) refl
  variable-explained i None q w = (g, h, neutral_with (head_alone (Var i)), at_head, no_variable q)

  pub head-explained : (y : Head) → WellMarked (modes g) h → NeutralExplained sig g h (head_alone y) (head_left sig g h y)
  head-explained (Const k) w = constant-explained k (constant_type sig k) refl
  head-explained (Var i) w = variable-explained i (slice_get g i) refl w
  head-explained (Meta k) w = (g, h, neutral_with (head_alone (Meta k)), at_head, metavariable_stands)
