use Rattle.std.specs.Prelude.{refl}
use Rattle.celf_explicit.proofs.laws.worked_cores.Goals as goal

pub returns : goal.returns
returns c s = record {
  bare_persistent = refl;
  bare_affine = refl;
  bare_lambda = refl;
  written_stays = refl;
  bare_at_no_function = refl;
  long_at_function = refl;
  long_by_place = refl;
  long_in_the_mode_of_the_place = refl;
  long_argument = refl;
  long_at_pair = refl;
  long_at_top = refl;
  long_at_monad = refl;
  short_at_family = refl;
  bare_pattern = refl;
  bare_beyond = refl;
  dependent = refl;
  long_local = refl;
  family_declared = refl;
  telescope_bound = refl;
  beyond_the_kind = refl;
  counted = refl;
  implicit_constant = refl;
  behind_dollar = refl;
  bound_as_implicit = refl;
  implicit_variable = refl;
  implicit_variable_dropped = refl;
  hole_written = refl;
  hole_at_top = refl;
  query_read = refl;
  equation_read = refl;
}
