-- What holds of a neutral, along its spine.
use Rattle.std.specs.Prelude.{ℕ, ◌≡◌, ◌||◌, ◌∷◌, [], List, Bool, true, false, refl}
use Rattle.std.specs.List.{list_any}
use Rattle.std.proofs.Common.{ap, sym, ◌∙◌}
use Rattle.clf_syntax.specs.Occurs.{occurs_neutral}
use Rattle.clf_syntax.specs.Tree.{PlainNeutral, PlainElimination, arg, first, second, eliminated, spine_on}
use Rattle.clf_syntax.specs.Spines.{occurs_elimination}

or_same : (a b c : Bool) → (a || b) || c ≡ a || (b || c)
or_same true b c = refl
or_same false b c = refl

or_nothing : (a : Bool) → a || false ≡ a
or_nothing true = refl
or_nothing false = refl

occurs-eliminated : (v : ℕ) (e : PlainElimination) (r : PlainNeutral) → occurs_neutral v (eliminated e r) ≡ occurs_neutral v r || occurs_elimination v e
occurs-eliminated v (arg m n) r = refl
occurs-eliminated v first r = sym (or_nothing (occurs_neutral v r))
occurs-eliminated v second r = sym (or_nothing (occurs_neutral v r))

pub occurs-spine : (v : ℕ) (es : List PlainElimination) (r : PlainNeutral) → occurs_neutral v (spine_on es r) ≡ occurs_neutral v r || list_any (occurs_elimination v) es
occurs-spine v [] r = sym (or_nothing (occurs_neutral v r))
occurs-spine v (e ∷ es) r =
    occurs-spine v es (eliminated e r)
    ∙ ap (λ b. b || list_any (occurs_elimination v) es) (occurs-eliminated v e r)
    ∙ or_same (occurs_neutral v r) (occurs_elimination v e) (list_any (occurs_elimination v) es)

pub ruleset occurs_laws = (occurs-spine)
