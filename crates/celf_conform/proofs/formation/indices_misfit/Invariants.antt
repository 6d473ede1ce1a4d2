use Rattle.std.proofs.Common.{◌≡◌, ◌≤◌, map, length, drop}
use Rattle.clf_syntax.specs.Plain.{plain_obj}
use Rattle.clf_syntax.specs.PlainTypes.{plain_ty}
use Rattle.clf_syntax.specs.Simple.{erase}
use Rattle.celf_conform.specs.Decision as spec
use Rattle.celf_conform.specs.Seen.{known_of, owned}
use Rattle.celf_conform.proofs.formation.indices_misfit.Given as goal

abbrev pub invariant-loop-place : goal.invariant-loop-place
invariant-loop-place l = (l.place ≤ length l.args)
    × (spec.indices_misfit (known_of l.known) (owned l.scope.types) (map plain_obj (drop l.place l.indices)) (map erase (map plain_ty (drop l.place l.args)))
    ≡ spec.indices_misfit (known_of l.known) (owned l.scope.types) (map plain_obj l.indices) (map erase (map plain_ty l.args)))
