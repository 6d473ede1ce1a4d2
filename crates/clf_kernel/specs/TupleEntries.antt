-- Inner: the entries of a tuple in order, as the check goes through them.
use Rattle.std.specs.Prelude.{ℕ, ◌∷◌, [], map, if◌then◌else◌}
use Rattle.clf_syntax.specs.declared.tree.Mode.{Mode}
use Rattle.clf_syntax.specs.Tree.{PlainObject}
use Rattle.clf_syntax.specs.TypeTree.{PlainTelescope, end, binding, telescope_of}
use Rattle.clf_syntax.specs.PlainTypes.{plain_tele_entry}
use Rattle.use_contexts.specs.Context.{Context}
use Rattle.use_contexts.specs.Rows.{Leftover}
use Rattle.clf_syntax.specs.Modes.{same_mode}
use Rattle.clf_sig.specs.Entry.{PlainSignature}
use Rattle.clf_rules.specs.Refusal.{mode_differs, width}
use Rattle.clf_decision.specs.Outcome.{Outcome, passed, refused, and_then}
use Rattle.clf_decision.specs.Checking.{Puts, checked}
use Rattle.clf_kernel.specs.declared.tuple.Rest.{Rest}
use Rattle.clf_kernel.specs.Answers.{plain_left}
use Rattle.clf_kernel.specs.Spine.{argument_used}

-- The types of the entries that are left, and what those before left.
abbrev pub plain_rest : Rest → PlainTelescope × Leftover
plain_rest r = (telescope_of (map plain_tele_entry r.types), plain_left r.left)

-- what is left after one entry, which stands at this place
abbrev pub entry_behind : Puts → PlainSignature → Context → ℕ → Mode × PlainObject → PlainTelescope × Leftover → Outcome (PlainTelescope × Leftover)
entry_behind puts sig g place e ((binding k a u), x) =
    if same_mode e.0 k then and_then (argument_used e.0 g place x (λ row. checked puts sig g row e.1 a)) (λ y. passed (puts.into_telescope e.1 a u, y)) else refused (place ∷ []) (mode_differs k e.0)
entry_behind puts sig g place e (end, x) = refused [] (width 0 0)
