-- What is made so far goes before what is left.
use Rattle.std.proofs.Common.{◌≡◌, ◌++◌, map, drop}
use Rattle.clf_syntax.specs.PlainTypes.{plain_ty}
use Rattle.clf_syntax.specs.PlainSimple.{plain_simple}
use Rattle.clf_sig.specs.Signature.{plain_signature}
use Rattle.celf_filled.specs.States.{count}
use Rattle.celf_filled.specs.TypedFrom.{indices_of}
use Rattle.celf_filled.proofs.Grown.{GoesOn}
use Rattle.filled_laws.specs.FreshTypes.{types_from, new_in_each}
use Rattle.celf_reconstruct.proofs.read.add_types.Given as goal

abbrev pub invariant-loop-simple : goal.invariant-loop-simple
invariant-loop-simple l = record {
  made : map plain_ty l.types ++ types_from (indices_of (plain_signature l.sig)) (count l.store) (map plain_simple (drop l.simple-index l.simples))
      ≡ map plain_ty l.fn.types ++ types_from (indices_of (plain_signature l.sig)) (count l.fn.store) (map plain_simple l.simples);
  grown : GoesOn l.fn.store l.store (new_in_each (indices_of (plain_signature l.sig)) (map plain_simple (drop l.simple-index l.simples)))
      (new_in_each (indices_of (plain_signature l.sig)) (map plain_simple l.simples));
}
