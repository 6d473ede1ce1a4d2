-- What is written, with what is still to be written, is the whole.
use Rattle.std.proofs.Common.{◌≡◌, ◌++◌, length, map}
use Rattle.clf_sig.specs.Signature.{plain_signature}
use Rattle.celf_replies.specs.Reply.{plain_sides}
use Rattle.celf_replies.specs.Found.{equations_text}
use Rattle.celf_replies.proofs.found.push_equations.Given as goal

abbrev pub invariant-loop-rest : goal.invariant-loop-rest
invariant-loop-rest l = l.out.items ++ equations_text (plain_signature l.sig) l.metas (map plain_sides l.rest) ≡ l.fn.out.items ++ equations_text (plain_signature l.sig) l.metas (map plain_sides l.equations)

abbrev pub decreases-loop-rest : goal.decreases-loop-rest
decreases-loop-rest l = length l.rest
