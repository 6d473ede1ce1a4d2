use Rattle.std.proofs.Common.{◌≡◌, [], map, drop}
use Rattle.clf_syntax.specs.PlainTypes.{plain_ty}
use Rattle.celf_conform.specs.Decision as spec
use Rattle.celf_conform.specs.Seen.{known_of, owned}
use Rattle.celf_conform.proofs.formation.kind_misfit.Given as goal

abbrev pub invariant-loop-arg : goal.invariant-loop-arg
invariant-loop-arg l = spec.kind_misfit (known_of l.known) (owned l.inner.types) (map plain_ty (drop l.arg-index l.args))
    ≡ spec.kind_misfit (known_of l.known) [] (map plain_ty l.args)
