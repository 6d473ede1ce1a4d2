-- What is typed or well formed over a signature has no metavariables, and no variables but those of its context: environments that keep constants leave it.
use Rattle.std.proofs.Common.{ap, sym, ◌∙◌}
use Rattle.std.specs.Prelude.{List, [], length, true, ◌∷◌, ◌≡◌}
use Rattle.clf_syntax.specs.Renaming.{ren_telescope, up}
use Rattle.clf_syntax.specs.Tree.{PlainExpression, PlainNeutral, PlainObject, PlainTuple, app, atomic, done, empty, entry, fst, head_alone, hole, lam, monadic, pair, snd, step, unit}
use Rattle.clf_syntax.specs.TypeTree.{PlainKind, PlainTelescope, PlainType, binding, both, end, family, function, monad, top}
use Rattle.clf_syntax.specs.declared.tree.Head.{Head}
use Rattle.clf_syntax.specs.declared.tree.Head.TheVariants.{Const, Meta, Var}
use Rattle.clf_syntax.specs.declared.tree.Mode.{Mode}
use Rattle.use_contexts.specs.Context.{Context, modes, with_entries}
use Rattle.use_contexts.specs.Holding.{Holding, all_held, persistent_alone}
use Rattle.clf_sig.specs.Entry.{PlainSignature}
use Rattle.hered_subst.proofs.Renamed.{under_in}
use Rattle.hered_subst.proofs.SimpleTyping.{under_zero}
use Rattle.hered_subst.specs.Substitution.{Environment, KeepsHead, Substituted, SubstitutedEach, SubstitutedExpression, SubstitutedTelescope, SubstitutedTuple, SubstitutedType, each_next, each_none, in_binding, in_both, in_end, in_family, in_function, in_monad, in_top, keep, kept_app, kept_bare, kept_fst, kept_snd, ren_image, step_kept, through_done, through_empty, through_entry, through_kept, through_lam, through_monadic, through_pair, through_unit, under}
use Rattle.subst_laws.proofs.Environs.{under_sum}
use Rattle.clf_rules.specs.Typing.{ExpressionHasType, HasType, HeadHasType, Synthesizes, TupleHasType}
use Rattle.clf_rules.specs.WellFormed.{IndicesHaveTypes, WellFormedTelescope, WellFormedType}
use Rattle.gathering.proofs.Formed.{under_entries}
use Rattle.gathering.proofs.Parts.{application_rule_parts, lambda_rule_parts, pair_rule_parts, step_rule_parts, tuple_entry_rule_parts}
use Rattle.gathering.proofs.Spending.{below}
use Rattle.gathering.specs.Instances.{KeepsSignature}

module _ (sig : PlainSignature) (s : Environment) (keeps : KeepsSignature sig s) where
  pub head_stays : (x : Head) (g : Context) (h : Holding) (a : PlainType) → HeadHasType sig g h x a → under (length g) s x ≡ keep x
  head_stays (Const c) g h a p = ap (ren_image (up (length g))) (keeps c a p.0)
  head_stays (Var i) g h a p = under_in (length g) s i (below g i a p.1)
  head_stays (Meta k) g h a p = absurd p

  mutual
    pub stays_object : (n : PlainObject) (g : Context) (h : Holding) (a : PlainType) {v : Environment} → v ≡ under (length g) s → HasType sig g h n a → Substituted v n n
    stays_object (lam m b) g h a e p = let (d, c, i, q) = lambda_rule_parts p in through_lam (stays_object b ((m, d) ∷ g) (true ∷ h) c (ap (under 1) e ∙ under_sum (length g) s) q)
    stays_object (pair l r) g h a e p = let (d, c, i, q, y) = pair_rule_parts p in through_pair (stays_object l g h d e q) (stays_object r g h c e y)
    stays_object unit g h a e p = through_unit
    stays_object (monadic x) g h a e p = through_monadic (stays_result x g h p.0 e p.2)
    stays_object (atomic n) g h a e p = through_kept (stays_neutral n g h (family p.number p.found) e p.neutral)
    stays_object hole g h a e p = absurd p

    pub stays_neutral : (n : PlainNeutral) (g : Context) (h : Holding) (a : PlainType) {v : Environment} → v ≡ under (length g) s → Synthesizes sig g h n a → KeepsHead v n n
    stays_neutral (head_alone x) g h a e p = kept_bare (ap (λ (v : Environment). v x) e ∙ head_stays x g h a p)
    stays_neutral (app m r n) g h a e p = let (d, c, h1, h2, q, u, w, v, x) = application_rule_parts p in kept_app (stays_neutral r g h1 (function m d c) e u) (stays_object n g h2 d e v)
    stays_neutral (fst r) g h a e p = kept_fst (stays_neutral r g h (both a p.0) e p.1)
    stays_neutral (snd r) g h a e p = kept_snd (stays_neutral r g h (both p.0 a) e p.1)

    pub stays_result : (x : PlainExpression) (g : Context) (h : Holding) (t : PlainTelescope) {v : Environment} → v ≡ under (length g) s → ExpressionHasType sig g h x t → SubstitutedExpression v x x
    stays_result (step ms r x) g h t e p = let (u, h1, h2, q, y, m, w) = step_rule_parts p in step_kept (stays_neutral r g h1 (monad u) e y)
        (stays_result x (with_entries u g) (all_held ms h2) (ren_telescope (up (length ms)) t) (ap (under (length ms)) e ∙ ap (λ (l : List Mode). under (length l) (under (length g) s)) (sym m) ∙ under_entries u g s) w)
    stays_result (done t) g h u e p = through_done (stays_tuple t g h u e p)

    pub stays_tuple : (x : PlainTuple) (g : Context) (h : Holding) (t : PlainTelescope) {v : Environment} → v ≡ under (length g) s → TupleHasType sig g h x t → SubstitutedTuple v x x
    stays_tuple empty g h t e p = through_empty
    stays_tuple (entry m n x) g h t e p = let (a, u, v, h1, h2, q, w, y, i, j, k) = tuple_entry_rule_parts p in through_entry (stays_object n g h1 a e i) (stays_tuple x g h2 v e k)

  stays_each : (ns : List PlainObject) (g : Context) (k : PlainKind) {v : Environment} → v ≡ under (length g) s → IndicesHaveTypes sig g ns k → SubstitutedEach v ns ns
  stays_each [] g k e p = each_none
  stays_each (n ∷ ns) (g) (a ∷ k) e p = each_next (stays_object n g (persistent_alone (modes g)) a e p.index) (stays_each ns g p.after_put e p.later)
  stays_each (n ∷ ns) g [] e p = absurd p

  mutual
    pub stays_type : (a : PlainType) (g : Context) {v : Environment} → v ≡ under (length g) s → WellFormedType sig g a → SubstitutedType v a a
    stays_type (family f ns) g e p = in_family (stays_each ns g p.0 e p.2)
    stays_type (function m a b) g e p = in_function (stays_type a g e p.0) (stays_type b ((m, a) ∷ g) (ap (under 1) e ∙ under_sum (length g) s) p.1)
    stays_type (both a b) g e p = in_both (stays_type a g e p.0) (stays_type b g e p.1)
    stays_type top g e p = in_top
    stays_type (monad t) g e p = in_monad (stays_telescope t g e p)

    pub stays_telescope : (t : PlainTelescope) (g : Context) {v : Environment} → v ≡ under (length g) s → WellFormedTelescope sig g t → SubstitutedTelescope v t t
    stays_telescope end g e p = in_end
    stays_telescope (binding m a t) g e p = in_binding (stays_type a g e p.0) (stays_telescope t ((m, a) ∷ g) (ap (under 1) e ∙ under_sum (length g) s) p.1)

  pub closed_stays : (a : PlainType) → WellFormedType sig [] a → SubstitutedType s a a
  closed_stays a p = stays_type a [] (sym (under_zero s)) p
