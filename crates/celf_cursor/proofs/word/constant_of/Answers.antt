use Rattle.std.proofs.Common.{ℕ, List, drop, sym, subst}
use Rattle.std.specs.Prelude.{IsUtf8}
use Rattle.celf_cursor.proofs.Words.{constant-text, behind-first}
use Rattle.celf_cursor.proofs.word.constant_of.Goals as goal

pub unreachable-requires : goal.unreachable-requires
unreachable-requires c =
    let text : IsUtf8 (drop 1 c.bytes_of.result.now) = subst (λ (l : List ℕ). IsUtf8 (drop 1 l)) (sym c.bytes_of.ensures) (constant-text c.args.bytes.now c.args.cursor c.args.token c.requires.cursor c.requires.next c.requires.kind) in
    c.in-Err.ensures.cases.0 (subst IsUtf8 (sym (behind-first c.bytes_of.result.now)) text)
