-- The worked forms, computed.
use Rattle.std.proofs.Common.{refl}
use Rattle.eta_laws.specs.Worked.{FormsWorked}

pub forms_worked : FormsWorked
forms_worked = record {
  family = refl;
  function = refl;
  farther = refl;
  curried = refl;
  argument = refl;
  parts = refl;
  part_of_result = refl;
  top = refl;
  into_top = refl;
  monad = refl;
  function_in_monad = refl;
  metavariable = refl;
  metavariable_applied = refl;
}
