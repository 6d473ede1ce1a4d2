use Rattle.std.proofs.Common.{ℕ, List, ◌∙◌, ◌^◌, ◌-◌, min, ap}
use Rattle.celf_grammar.specs.State.{digits_behind}
use Rattle.celf_cursor.proofs.Words.{takes_number}
use Rattle.celf_cursor.proofs.word.take_number.Goals as goal

pub returns-clause-taken : goal.returns-clause-taken
returns-clause-taken c =
    takes_number c.args.bytes.now c.args.cursor c.in_ok-token.token _ _ _ c.requires.cursor c.in_ok-token.ensures.found.0 c.advance.ensures.taken c.in_ok-token.ensures.found.1
    (c.number_of.ensures ∙ ap (λ (l : List ℕ). min (digits_behind 0 l) (2 ^ 64 - 1)) c.bytes_of.ensures) c.span_of.ensures
