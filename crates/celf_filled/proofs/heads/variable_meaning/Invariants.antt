-- The variable of the name is among those that are left.
use Rattle.std.proofs.Common.{◌≡◌, map, drop}
use Rattle.clf_sig.specs.Signature.{plain_signature}
use Rattle.celf_elaboration.specs.Declarations.{declared_heads}
use Rattle.celf_filled.specs.Scopes.{plain_named, variable_from}
use Rattle.celf_filled.proofs.heads.variable_meaning.Given as goal

abbrev pub invariant-loop-index : goal.invariant-loop-index
invariant-loop-index l = variable_from (declared_heads (plain_signature l.sig)) l.index l.name (map plain_named (drop l.index l.variables)) ≡ variable_from (declared_heads (plain_signature l.sig)) 0 l.name (map plain_named l.variables)
