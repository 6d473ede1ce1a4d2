-- What is noted so far and the heads of what is left are what was there and the heads of all.
use Rattle.std.proofs.Common.{◌≡◌, ◌++◌, drop, map}
use Rattle.std.specs.List.{flat_map}
use Rattle.clf_syntax.specs.PlainTypes.{plain_ty}
use Rattle.celf_front.specs.Occurring.{heads_in_type}
use Rattle.celf_front.proofs.occurring_types.note_types.Given as goal

abbrev pub invariant-loop-ty : goal.invariant-loop-ty
invariant-loop-ty l = l.heads ++ flat_map heads_in_type (map plain_ty (drop l.ty-index l.types)) ≡ l.fn.heads ++ flat_map heads_in_type (map plain_ty l.types)
