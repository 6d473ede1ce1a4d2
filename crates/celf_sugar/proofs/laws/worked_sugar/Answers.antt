use Rattle.std.specs.Prelude.{refl}
use Rattle.celf_sugar.proofs.laws.worked_sugar.Goals as goal

pub returns : goal.returns
returns c s = record {
  arrow = refl;
  back_arrow = refl;
  lolli = refl;
  back_lolli = refl;
  affine = refl;
  dependent = refl;
  product = refl;
  no_entry = refl;
  named_entry = refl;
  braces = refl;
}
