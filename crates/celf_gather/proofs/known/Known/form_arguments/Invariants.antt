-- What is left of the arguments follows what has been gathered.
use Rattle.std.proofs.Common.{◌≡◌, map, drop}
use Rattle.clf_syntax.specs.PlainTypes.{plain_ty}
use Rattle.celf_gather.specs.Formed.{kind_after}
use Rattle.celf_gather.specs.Walks.{scene_of, context_of, found_of}
use Rattle.celf_gather.proofs.known.Known.form_arguments.Given as goal

abbrev pub invariant-loop-arg : goal.invariant-loop-arg
invariant-loop-arg l =
    kind_after (scene_of l.fn.self) (context_of l.fn.walk) (map plain_ty l.fn.args) (found_of l.fn.walk)
    ≡ kind_after (scene_of l.fn.self) (context_of l.walk) (map plain_ty (drop l.arg-index l.fn.args)) (found_of l.walk)
