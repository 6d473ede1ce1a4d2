-- The steps that take arguments from a metavariable, and the clashes, as steps of problems.
use Rattle.std.specs.Prelude.{ℕ, Bool, true, false, ◌≡◌, ◌<◌, ◌⊎◌, List, length, Some}
use Rattle.std.proofs.Common.{sym, ◌∙◌, inl, inr, ⊎_elim}
use Rattle.clf_syntax.specs.Tree.{PlainObject}
use Rattle.clf_syntax.specs.TypeTree.{SimpleType}
use Rattle.clf_syntax.specs.Occurs.{occurs}
use Rattle.clf_syntax.proofs.OccursLaws.{not_both}
use Rattle.hered_subst.proofs.SimpleTyping.{Typed}
use Rattle.pattern_laws.specs.Patterns.{Place, local_at, beneath, masked, filled, mask_at}
use Rattle.pattern_laws.specs.Instantiations.{Types, closed, over}
use Rattle.pattern_laws.proofs.Inverse.{place_cases, lams_typed}
use Rattle.pattern_laws.proofs.Typings.{blank_absent}
use Rattle.pattern_laws.proofs.Instances.{scoped_meta}
use Rattle.inversion_laws.proofs.Masks.{masked_within, masked_distinct, masked_fitting, kept_place}
use Rattle.unify_laws.specs.Laws.{PruneKeeps, SameKeeps, HeadClashes, InsideClashes}
use Rattle.unify_laws.proofs.Narrow.{narrow_step}
use Rattle.unify_laws.proofs.Spared.{foreign_unused, ends_unused, head_clash, inside_clash}

-- every place outside the mask has no use in any solution
unused_spared : (constants parameters : Types) (bs : List Bool) (ps : List Place) (b : PlainObject) (a : SimpleType) → Typed false (beneath ps (over constants parameters)) b a
    → ((u w : ℕ) → local_at ps u ≡ Some w → (occurs u b ≡ false) ⊎ (mask_at bs u ≡ true)) → (j : ℕ) → j < length ps → occurs j b ≡ true → (i : ℕ) × (local_at (masked 0 bs ps) i ≡ Some j)
unused_spared constants parameters bs ps b a t f j h o = ⊎_elim
    (λ l. ⊎_elim (λ n. absurd (not_both o n)) (λ m. kept_place bs ps j (filled ps j) l m) (f j (filled ps j) l))
    (λ l. absurd (not_both o (blank_absent t j l.0 l.1 l.2)))
    (place_cases ps (over constants parameters) j h)

-- Pruning: at a rigid place of the side of `?m ys` another metavariable stands on distinct locals. Arguments that are foreign locals are taken from it.
pub prune_step : PruneKeeps
prune_step constants metas given es ls r m ps qs a x con typed d lacks inner n q k k' zs c bs l e st open_ new sorted =
    narrow_step constants metas given es k k' zs (masked 0 bs zs) c typed (sym (scoped_meta inner (closed constants metas) k) ∙ e.type) open_ new
    (λ parameters. masked_fitting (over constants parameters) bs zs) (masked_distinct bs zs) (masked_within bs zs)
    (λ parameters t s b g p. unused_spared constants parameters bs zs b c p
    (λ u w h. ⊎_elim (λ f. inl (foreign_unused constants metas parameters t s.0 ls r m ps qs a d x lacks (con parameters t s) inner n q k zs c l e st u w h f b g (lams_typed zs p))) (λ f. inr f) (sorted u w h)))

-- The same metavariable on both sides: arguments from which the way comes to an end are taken from it.
pub same_step : SameKeeps
same_step constants metas given es ls r r' m ps qs zs ws a con typed d d' lacks lacks' same m' bs open_ new sorted =
    narrow_step constants metas given es m m' ps (masked 0 bs ps) a typed (sym (scoped_meta ls (closed constants metas) m) ∙ d.type) open_ new
    (λ parameters. masked_fitting (over constants parameters) bs ps) (masked_distinct bs ps) (masked_within bs ps)
    (λ parameters t s b g p. unused_spared constants parameters bs ps b a p
    (λ u w h. ⊎_elim (λ f. inl (ends_unused constants metas parameters t s.0 ls r r' m ps qs zs ws a d d' lacks lacks' same (con parameters t s) b g (lams_typed ps p) p f)) (λ f. inr f) (sorted u w h)))

-- A foreign local is a head at a rigid place: no solution.
pub head_clash_step : HeadClashes
head_clash_step constants metas given es ls r m ps qs a x con d lacks n q w st e f parameters t s = head_clash constants metas parameters t s.0 ls r m ps qs a d x lacks (con parameters t s) n q w st e f

-- The metavariable stands on distinct locals at a rigid place below another head: no solution.
pub inside_clash_step : InsideClashes
inside_clash_step constants metas given es ls r m ps qs a q0 con d lacks inner n q zs l e same i st parameters t s = inside_clash constants metas parameters t s.0 ls r m ps qs a d q0 lacks (con parameters t s) inner n q zs l e same i st
