-- What is known so far is of the oldest binders.
use Rattle.std.proofs.Common.{◌≡◌, map, take, reverse}
use Rattle.std.specs.Prelude.{option_copied, Some}
use Rattle.clf_syntax.specs.PlainSimple.{plain_simple_entry}
use Rattle.celf_filled.specs.Scopes.{plain_scope, known_locals}
use Rattle.celf_filled.proofs.scope.Scope.known.Given as goal

abbrev pub invariant-loop-local : goal.invariant-loop-local
invariant-loop-local l =
    Some (map plain_simple_entry (reverse l.known)) ≡ known_locals (plain_scope (reverse (map (λ b. (b.mode, (b.name.now, option_copied b.place))) (take l.local-index l.local-items))))
