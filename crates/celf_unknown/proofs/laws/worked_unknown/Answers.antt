use Rattle.std.specs.Prelude.{refl}
use Rattle.celf_unknown.proofs.laws.worked_unknown.Goals as goal

pub returns : goal.returns
returns c s = record {
  family_known = refl;
  constant_as_family = refl;
  family_as_object = refl;
  constant_known = refl;
  unknown_name = refl;
  implicit_variable_known = refl;
  no_implicit_behind_dollar = refl;
  bound_in_the_body = refl;
  not_bound_beside = refl;
  no_local_behind_dollar = refl;
  bound_in_the_codomain = refl;
  not_bound_in_the_domain = refl;
}
