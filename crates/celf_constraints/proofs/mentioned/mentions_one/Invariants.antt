use Rattle.std.proofs.Common.{◌≡◌, drop}
use Rattle.std.specs.List.{list_any}
use Rattle.celf_constraints.specs.Equated.{plain_equation}
use Rattle.celf_constraints.specs.Woken.{mentioned_in}
use Rattle.celf_constraints.proofs.mentioned.mentions_one.Given as goal

abbrev pub invariant-loop-meta : goal.invariant-loop-meta
invariant-loop-meta l = list_any (mentioned_in (plain_equation l.equation)) (drop l.meta-index l.metas) ≡ list_any (mentioned_in (plain_equation l.equation)) l.metas
