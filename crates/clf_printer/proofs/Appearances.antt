-- The metavariables that appear in a neutral, along its spine.
use Rattle.std.specs.Prelude.{ℕ, ◌≡◌, ◌∷◌, [], List, refl}
use Rattle.std.proofs.Common.{ap, ◌∙◌}
use Rattle.clf_syntax.specs.Tree.{PlainNeutral, PlainElimination, arg, first, second, eliminated, spine_on}
use Rattle.clf_printer.specs.Metas.{appearing_neutral, appearing_elimination, appearing_spine}

appearing-eliminated : (metas : List ℕ) (e : PlainElimination) (r : PlainNeutral) → appearing_neutral metas (eliminated e r) ≡ appearing_elimination (appearing_neutral metas r) e
appearing-eliminated metas (arg m n) r = refl
appearing-eliminated metas first r = refl
appearing-eliminated metas second r = refl

pub appearing-spine : (metas : List ℕ) (es : List PlainElimination) (r : PlainNeutral) → appearing_neutral metas (spine_on es r) ≡ appearing_spine (appearing_neutral metas r) es
appearing-spine metas [] r = refl
appearing-spine metas (e ∷ es) r = appearing-spine metas es (eliminated e r) ∙ ap (λ l. appearing_spine l es) (appearing-eliminated metas e r)
