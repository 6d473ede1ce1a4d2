-- The entries so far do not differ.
use Rattle.std.proofs.Common.{◌≡◌, ◌+◌, drop}
use Rattle.std.specs.Option.{option_map}
use Rattle.use_contexts.specs.Context.{modes}
use Rattle.use_contexts.specs.Marks.{context, marks}
use Rattle.use_contexts.specs.Rows.{newest_difference}
use Rattle.use_contexts.proofs.join.newest_difference.Given as goal

abbrev pub invariant-loop-var : goal.invariant-loop-var
invariant-loop-var l =
    newest_difference (modes (context l.ctx)) (marks l.first.row) l.first.slack (marks l.second.row) l.second.slack
    ≡ option_map (λ k. l.var + k) (newest_difference (drop l.var (modes (context l.ctx))) (drop l.var (marks l.first.row)) l.first.slack (drop l.var (marks l.second.row)) l.second.slack)
