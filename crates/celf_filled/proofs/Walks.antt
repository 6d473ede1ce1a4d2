-- A monadic object is walked by the lists of its steps and of its entries.
use Rattle.std.specs.Prelude.{◌≡◌, List, refl}
use Rattle.clf_syntax.specs.declared.tree.Mode.{Mode}
use Rattle.clf_syntax.specs.TypeTree.{SimpleType}
use Rattle.clf_sig.specs.Entry.{PlainSignature}
use Rattle.celf_surface.specs.declared.surface.SMode.{SMode}
use Rattle.celf_sugar.specs.PlainTree.{DesugaredObject, DesugaredSteps, DesugaredTuple, steps_of, tuple_of}
use Rattle.celf_places.specs.Along.{left_along}
use Rattle.celf_elaboration.specs.Fillings.{Scoped}
use Rattle.celf_filled.specs.Scopes.{Named}
use Rattle.celf_filled.specs.States.{State}
use Rattle.celf_filled.specs.Walk.{Steps, no_steps_yet, no_entries_yet, in_expression, PlainStep, fill_step, fill_entry, fill_expression, steps-along, tuple-along}

module _ (sig : PlainSignature) (xs : List Named) (ls : List Scoped) (ps : List (Mode × SimpleType)) (s : State) where
  pub expression_filled : (x : DesugaredSteps × DesugaredTuple) (ss : List (PlainStep sig xs)) (us : List (SMode × DesugaredObject)) (w : Steps × State) → x ≡ (steps_of ss, tuple_of us)
      → w ≡ left_along (fill_step sig xs) (no_steps_yet ls, s) ss → fill_expression sig xs ls ps x s ≡ in_expression w.0 (left_along (fill_entry sig xs w.0.locals) (no_entries_yet ps, w.1) us)
  expression_filled x ss us w e q = rw (e, steps-along sig xs (no_steps_yet ls, s) ss, ← q, tuple-along sig xs w.0.locals (no_entries_yet ps, w.1) us) refl
