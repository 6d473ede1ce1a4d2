use Rattle.std.proofs.Common.{◌∙◌, ap, sym, map, arith}
use Rattle.clf_syntax.specs.PlainTypes.{plain_ty}
use Rattle.clf_syntax.specs.Simple.{erase}
use Rattle.celf_conform.specs.Seen.{known_of, owned}
use Rattle.celf_conform.proofs.Lists.{rest_none, indices_past}
use Rattle.celf_conform.proofs.formation.indices_misfit.Goals as goal

pub returns-then-place-args : goal.returns-then-place-args
returns-then-place-args c = sym (indices_past (known_of c.args.known.now) (owned c.args.scope.now.types) _ _ (ap (map erase) (rest_none plain_ty c.args.args.now c.loop-place.place (grind (arith, c))))) ∙ c.loop-place.invariant.1
