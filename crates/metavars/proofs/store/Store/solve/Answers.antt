use Rattle.std.proofs.Common.{ap, sym, subst, ◌∙◌, ◌≡◌, ◌<◌, length, map, arith, None}
use Rattle.store_laws.specs.Additions.{meta_types, given}
use Rattle.metavars.specs.declared.tables.Tables.{Tables}
use Rattle.metavars.specs.Stored.{Stored, additions, added_solved, plain_added, with_addition}
use Rattle.metavars.specs.Tables.{AreTables, listed}
use Rattle.metavars.proofs.TablesLaws.{solved-tables, listed-solved, types-count, row-empty, seen}
use Rattle.metavars.proofs.store.Store.solve.Goals as goal

pub add_solved-requires : goal.add_solved-requires
add_solved-requires c =
    let t = c.self.inside.tables in
    let n : length (meta_types (additions c.args.self.now)) ≡ length t.metas = ap (λ (s : Stored). length (meta_types (additions s))) (sym c.self.view_is) ∙ types-count t c.self.invariant in
    omega (arith, c.requires.there, n, c.self.invariant.placed)

pub invariant_of-self-2 : goal.invariant_of-self-2
invariant_of-self-2 c =
    let t = c.self.inside.tables in
    let n : length (meta_types (additions c.args.self.now)) ≡ length t.metas = ap (λ (s : Stored). length (meta_types (additions s))) (sym c.self.view_is) ∙ types-count t c.self.invariant in
    let within : c.args.meta < length t.solved_at = omega (arith, c.requires.there, n, c.self.invariant.placed) in
    let free : given (map plain_added (listed t)) c.args.meta ≡ None = ap (λ (s : Stored). given (additions s) c.args.meta) c.self.view_is ∙ c.requires.unsolved in
    subst AreTables (sym c.in_ok-add_solved.ensures.added) (solved-tables t c.args.meta c.args.solution c.self.invariant (row-empty t c.self.invariant c.args.meta within free))

pub returns-clause-added : goal.returns-clause-added
returns-clause-added c = ap (λ (t : Tables). seen c.self.inside.consts (listed t)) c.in_ok-add_solved.ensures.added
    ∙ ap (seen c.self.inside.consts) (listed-solved c.self.inside.tables c.args.meta c.args.solution c.self.invariant)
    ∙ ap (λ (s : Stored). with_addition s (added_solved c.args.meta c.args.solution)) c.self.view_is
