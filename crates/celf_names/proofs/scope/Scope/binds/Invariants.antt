-- None of the names so far is the one that is looked for.
use Rattle.std.proofs.Common.{◌≡◌, false, map, take}
use Rattle.std.specs.List.{list_any}
use Rattle.clf_syntax.specs.Word.{same_bytes}
use Rattle.celf_names.proofs.scope.Scope.binds.Given as goal

abbrev pub invariant-loop-bound : goal.invariant-loop-bound
invariant-loop-bound l = list_any (same_bytes l.name) (map (λ n. n.now) (take l.bound-index l.bound-items)) ≡ false
