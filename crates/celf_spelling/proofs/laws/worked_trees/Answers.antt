use Rattle.std.specs.Prelude.{refl}
use Rattle.std.specs.Fmt.{digits}
use Rattle.celf_spelling.proofs.laws.worked_trees.Goals as goal

pub returns : goal.returns
unfolding digits
returns c = record {
  linear = refl;
  dependent = refl;
  unnamed = refl;
  pair_of_types = refl;
  no_entry = refl;
  entries = refl;
  named_entry = refl;
  binders_and_arguments = refl;
  projected = refl;
  pair_of_objects = refl;
  step_with_entries = refl;
  kind = refl;
}
