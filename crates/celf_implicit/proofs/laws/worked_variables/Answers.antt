use Rattle.std.specs.Prelude.{refl}
use Rattle.celf_implicit.proofs.laws.worked_variables.Goals as goal

pub returns : goal.returns
returns c = record {
  at_a_local = refl;
  in_a_written_mode = refl;
  none_is_left = refl;
  at_a_long_form = refl;
  at_one_local_twice = refl;
  at_a_constant = refl;
  projected = refl;
  under_another = refl;
  in_an_argument = refl;
  first_left_out = refl;
  after_a_let = refl;
  in_a_dropped_one = refl;
  without_a_simple_type = refl;
  first_in_the_text = refl;
  first_left_in_the_text = refl;
  in_one_round = refl;
  bound = refl;
}
