-- What has been read goes before what is left. The locals are as they were, or have the binders of the steps so far.
use Rattle.std.proofs.Common.{◌≡◌, map, drop}
use Rattle.std.specs.Prelude.{option_copied}
use Rattle.clf_syntax.specs.Plain.{plain_elim, plain_step, plain_entry}
use Rattle.clf_syntax.specs.PlainSimple.{plain_simple_entry}
use Rattle.clf_sig.specs.Signature.{plain_signature}
use Rattle.celf_sugar.specs.Plain.{desugared_elim, desugared_step, desugared_marked}
use Rattle.celf_places.specs.Locals.{plain_place, plain_locals}
use Rattle.celf_places.specs.Places.{behind_act}
use Rattle.celf_explicit.specs.Objects.{read_act}
use Rattle.celf_explicit.specs.Parts.{GrownFrom}
use Rattle.celf_places.specs.Along.{with_some, read_along, left_along}
use Rattle.celf_explicit.specs.Lists.{later_parts, read_marked, read_step, behind_step}
use Rattle.celf_explicit.proofs.objects.+read.Given as goal

abbrev pub invariant-read_spine-loop-act : goal.invariant-read_spine-loop-act
invariant-read_spine-loop-act l = record {
  read : with_some (map plain_elim l.elims) (read_along (read_act (plain_signature l.sig) (plain_locals l.fn.locals)) behind_act (plain_place (option_copied l.place)) (map desugared_elim (drop l.act-index l.spine)))
      ≡ read_along (read_act (plain_signature l.sig) (plain_locals l.fn.locals)) behind_act (plain_place (option_copied l.initial.place)) (map desugared_elim l.spine);
  kept : l.locals ≡ l.fn.locals;
}

abbrev pub invariant-read_expression-loop-step : goal.invariant-read_expression-loop-step
invariant-read_expression-loop-step l = record {
  read : with_some (map plain_step l.steps) (read_along (read_step (plain_signature l.sig)) (behind_step (plain_signature l.sig)) (plain_locals l.locals) (map desugared_step (drop l.step-index l.step-items)))
      ≡ read_along (read_step (plain_signature l.sig)) (behind_step (plain_signature l.sig)) (plain_locals l.fn.locals) (map desugared_step l.step-items);
  bound : left_along (behind_step (plain_signature l.sig)) (plain_locals l.locals) (map desugared_step (drop l.step-index l.step-items))
      ≡ left_along (behind_step (plain_signature l.sig)) (plain_locals l.fn.locals) (map desugared_step l.step-items);
  grown : GrownFrom l.fn.locals l.locals;
}

abbrev pub invariant-read_tuple-loop-entry : goal.invariant-read_tuple-loop-entry
invariant-read_tuple-loop-entry l = record {
  read : with_some (map plain_entry l.entries) (read_along (read_marked (plain_signature l.sig) (plain_locals l.fn.locals)) later_parts (map plain_simple_entry l.wanted) (map desugared_marked (drop l.entry-index l.tuple)))
      ≡ read_along (read_marked (plain_signature l.sig) (plain_locals l.fn.locals)) later_parts (map plain_simple_entry l.initial.wanted) (map desugared_marked l.tuple);
  kept : l.locals ≡ l.fn.locals;
}
