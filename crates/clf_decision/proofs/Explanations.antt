-- Refusals tell the truth: at the path stands a part that is refused for the cause.
use Rattle.std.proofs.Common.{◌≡◌, ℕ, suc, true, List, ◌∷◌, length, subst}
use Rattle.clf_syntax.specs.declared.tree.Mode.{Mode}
use Rattle.clf_syntax.specs.Tree.{PlainObject, lam, pair, unit, monadic, atomic, hole, PlainNeutral, head_alone, app, fst, snd, PlainExpression, step, done, PlainTuple, empty, entry}
use Rattle.clf_syntax.specs.TypeTree.{PlainType, monad, PlainTelescope}
use Rattle.clf_syntax.specs.Simple.{SimplyFormed, SimplyFormedTelescope}
use Rattle.clf_syntax.specs.Renaming.{ren_telescope, up}
use Rattle.use_contexts.specs.Context.{Context, modes, telescope_modes, with_entries}
use Rattle.use_contexts.specs.Holding.{Holding, allowed, all_held}
use Rattle.use_contexts.specs.Rows.{IsSubholding}
use Rattle.clf_sig.specs.Entry.{PlainSignature}
use Rattle.clf_rules.specs.Refusal.{Cause}
use Rattle.clf_rules.specs.Explained.{MaySynthesize, object_at, whole, in_tuple, hole_stands, ExplainedAt, ExplainedInNeutral}
use Rattle.typing_laws.specs.SimpleTyping.{simple_of, families_of}
use Rattle.clf_decision.specs.Outcome.{Outcome, passed, refused}
use Rattle.clf_decision.specs.Checking.{Puts, checked, inferred, checked_expression, checked_tuple}
use Rattle.clf_decision.specs.Puts.{ArePuts}
use Rattle.clf_decision.specs.Starts.{Starts}
use Rattle.clf_decision.proofs.AgreesWith.{ChecksAgree}
use Rattle.clf_decision.proofs.Starting.{starts-under, starts-from, starts-part, starts-allowed, starts-entered, formed-entered, formed-synthesized, telescope-put}
use Rattle.clf_decision.proofs.ExplanationForms.{Explained, NeutralExplained, ExpressionExplained, TupleExplained}
use Rattle.clf_decision.proofs.ExplanationsOfObjects.{lambda-explained, pair-explained, unit-explained, monadic-explained, atomic-explained}
use Rattle.clf_decision.proofs.ExplanationsOfNeutrals.{head-explained, application-explained, first-explained, second-explained}
use Rattle.clf_decision.proofs.ExplanationsOfSteps.{step-explained, end-explained, entry-explained}

result-explained : (sig : PlainSignature) (g : Context) (h : Holding) (t : PlainTuple) (s : PlainTelescope) (place : ℕ) (o : Outcome _) → TupleExplained sig g h t s place 0 o → ExpressionExplained sig g h (done t) s place o
result-explained sig g h t s place (passed a) v = tt
result-explained sig g h t s place (refused path why) v = (v.0, v.1, v.2, in_tuple v.3, v.4)

-- the check of what follows a step starts there
pub rest-starts : (sig : PlainSignature) (g : Context) (h : Holding) (r : PlainNeutral) (u : PlainTelescope) (row : Holding) (ms : List Mode) → Starts sig g h → IsSubholding (modes g) h row
    → MaySynthesize sig g h r (monad u) → telescope_modes u ≡ ms → Starts sig (with_entries u g) (all_held ms row)
rest-starts sig g h r u row ms w p f e =
    subst (λ ns. Starts sig (with_entries u g) (all_held ns row)) e (starts-entered sig u g row (starts-part sig g h row w p) (formed-synthesized sig g h r (monad u) w f))

module _ (puts : Puts) (are : ArePuts puts) (sig : PlainSignature) (agree : ChecksAgree puts sig) where
  mutual
    pub object-explained : (n : PlainObject) (g : Context) (h : Holding) (t : PlainType) → Starts sig g h → SimplyFormed (families_of sig) (simple_of sig g) t → Explained sig g h n t (checked puts sig g h n t)
    object-explained (lam m b) g h t w f =
        lambda-explained sig g h m b t (λ a c. checked puts sig ((m, a) ∷ g) (true ∷ h) b c) f
        (λ a c x y. (agree.objects b ((m, a) ∷ g) (true ∷ h) c (starts-under sig g h m a w x) y, object-explained b ((m, a) ∷ g) (true ∷ h) c (starts-under sig g h m a w x) y))
    object-explained (pair l r) g h t w f =
        pair-explained sig g h l r t (λ a. checked puts sig g h l a) (λ c. checked puts sig g h r c) f
        (λ a x. (agree.objects l g h a w x, object-explained l g h a w x))
        (λ c x. (agree.objects r g h c w x, object-explained r g h c w x))
    object-explained unit g h t w f = unit-explained sig g h t
    object-explained (monadic e) g h t w f = monadic-explained sig g h e t (λ s. checked_expression puts sig g h 0 e s) f (λ s x. expression-explained e g h 0 s w x)
    object-explained (atomic r) g h t w f = atomic-explained sig g h r t (inferred puts sig g h r) (agree.neutrals r g h w) (neutral-explained r g h w)
    object-explained hole g h t w f = (g, h, object_at hole t, whole, hole_stands)

    neutral-explained : (r : PlainNeutral) (g : Context) (h : Holding) → Starts sig g h → NeutralExplained sig g h r (inferred puts sig g h r)
    neutral-explained (head_alone y) g h w = head-explained sig g h y w.marked
    neutral-explained (app m r n) g h w =
        application-explained puts sig g h m r n (inferred puts sig g h r) (λ row a. checked puts sig g row n a) w (agree.neutrals r g h w) (neutral-explained r g h w)
        (λ row a s x. object-explained n g row a s x)
    neutral-explained (fst r) g h w = first-explained sig g h r (inferred puts sig g h r) (agree.neutrals r g h w) (neutral-explained r g h w)
    neutral-explained (snd r) g h w = second-explained sig g h r (inferred puts sig g h r) (agree.neutrals r g h w) (neutral-explained r g h w)

    expression-explained : (e : PlainExpression) (g : Context) (h : Holding) (place : ℕ) (s : PlainTelescope) → Starts sig g h → SimplyFormedTelescope (families_of sig) (simple_of sig g) s
        → ExpressionExplained sig g h e s place (checked_expression puts sig g h place e s)
    expression-explained (step ms r e) g h place s w f =
        step-explained sig g h r e s place ms (inferred puts sig g h r) (λ u row. checked_expression puts sig (with_entries u g) row (suc place) e (ren_telescope (up (length ms)) s))
        (agree.neutrals r g h w) (neutral-explained r g h w)
        (λ u row p x q.
        let k = rest-starts sig g h r u row ms w p x q in
        let y = formed-entered sig u g ms s q f in (
          k.marked,
          (
            agree.expressions e (with_entries u g) (all_held ms row) (suc place) (ren_telescope (up (length ms)) s) k y,
            expression-explained e (with_entries u g) (all_held ms row) (suc place) (ren_telescope (up (length ms)) s) k y,
          ),
        ))
    expression-explained (done t) g h place s w f = result-explained sig g h t s place (checked_tuple puts sig g h place 0 t s) (tuple-explained t g h place 0 s w f)

    tuple-explained : (t : PlainTuple) (g : Context) (h : Holding) (steps before : ℕ) (s : PlainTelescope) → Starts sig g h → SimplyFormedTelescope (families_of sig) (simple_of sig g) s
        → TupleExplained sig g h t s steps before (checked_tuple puts sig g h steps before t s)
    tuple-explained empty g h steps before s w f = end-explained sig g h steps before s
    tuple-explained (entry m n t) g h steps before s w f =
        let from = starts-allowed sig g h m w in
        entry-explained sig g h steps before puts n t (λ row u. checked_tuple puts sig g row steps (suc before) t u) m s (λ row a. checked puts sig g row n a) w.marked f
        (λ a x. (agree.objects n g (allowed m (modes g) h) a from x, object-explained n g (allowed m (modes g) h) a from x))
        (λ a u x row marked y.
        let p = telescope-put puts are sig g (allowed m (modes g) h) n a u y x in
        (p.0, tuple-explained t g row steps (suc before) (puts.into_telescope n a u) (starts-from sig g h row w marked) p.1))

  -- in words of an equation
  pub explained-object : (g : Context) (h : Holding) (n : PlainObject) (t : PlainType) (path : List ℕ) (why : Cause) → Starts sig g h → SimplyFormed (families_of sig) (simple_of sig g) t
      → checked puts sig g h n t ≡ refused path why → ExplainedAt sig g h n t path why
  explained-object g h n t path why w f q = subst (λ o. Explained sig g h n t o) q (object-explained n g h t w f)

  pub explained-neutral : (g : Context) (h : Holding) (r : PlainNeutral) (path : List ℕ) (why : Cause) → Starts sig g h
      → inferred puts sig g h r ≡ refused path why → ExplainedInNeutral sig g h r path why
  explained-neutral g h r path why w q = subst (λ o. NeutralExplained sig g h r o) q (neutral-explained r g h w)
