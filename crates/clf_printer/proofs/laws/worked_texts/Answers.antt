use Rattle.std.specs.Prelude.{refl}
use Rattle.std.specs.Fmt.{digits}
use Rattle.clf_printer.proofs.laws.worked_texts.Goals as goal

pub returns-clause-types : goal.returns-clause-types
unfolding digits
returns-clause-types c = record {
  linear = refl;
  affine = refl;
  persistent = refl;
  dependent = refl;
  function_on_the_left = refl;
  function_on_the_right = refl;
  pair_on_the_left = refl;
  pair_on_the_right = refl;
  unit_type = refl;
  no_entry = refl;
  entries = refl;
  named_entry = refl;
  kind = refl;
  implicit = refl;
}

pub returns-clause-objects : goal.returns-clause-objects
unfolding digits
returns-clause-objects c = record {
  binders_and_arguments = refl;
  argument_grouped = refl;
  pair_of_atoms = refl;
  projected = refl;
  projection_applied = refl;
  step_with_entries = refl;
  step_without_entries = refl;
  no_entries = refl;
  metavariables = refl;
  no_constant = refl;
  free_variable = refl;
}
