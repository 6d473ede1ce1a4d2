-- The ranks of a list of entries, from one place on.
use Rattle.std.specs.Prelude.{ℕ, ◌+◌, ◌≡◌, List, map, length}
use Rattle.std.proofs.Common.{ap, ◌∙◌, ◌<◌, drop, get_or}
use Rattle.clf_syntax.specs.declared.tree.Mode.{Mode}
use Rattle.clf_syntax.specs.declared.tree.SimpleEntry.{SimpleEntry, out-SimpleEntry}
use Rattle.clf_syntax.specs.TypeTree.{SimpleType}
use Rattle.clf_syntax.specs.PlainSimple.{plain_simple, plain_simple_entry, simple_telescope_of, plain-simple-entry}
use Rattle.clf_syntax.proofs.Next.{dropped}
use Rattle.hered_subst.proofs.SimpleTyping.{rank, ranks}

pub ranks-next : (i : ℕ) (t : SimpleEntry) (xs : List SimpleEntry) → i < length xs → t ≡ get_or xs i t
    → ranks (simple_telescope_of (map plain_simple_entry (drop i xs))) ≡ rank (plain_simple (out-SimpleEntry t).ty) + ranks (simple_telescope_of (map plain_simple_entry (drop (i + 1) xs)))
ranks-next i t xs h e =
    ap (λ ts. ranks (simple_telescope_of (map plain_simple_entry ts))) (dropped xs i t h e)
    ∙ ap (λ (p : Mode × SimpleType). rank p.1 + ranks (simple_telescope_of (map plain_simple_entry (drop (i + 1) xs)))) (plain-simple-entry t)
