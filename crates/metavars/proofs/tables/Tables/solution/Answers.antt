use Rattle.std.proofs.Common.{ap, sym, ◌∙◌, ◌≡◌, Some, None}
use Rattle.std.specs.Option.{option_copied, option_map}
use Rattle.clf_syntax.specs.Plain.{plain_obj}
use Rattle.metavars.specs.Tables as spec
use Rattle.metavars.proofs.TablesLaws.{not-placed, placed-at}
use Rattle.metavars.proofs.tables.Tables.solution.Goals as goal

pub returns-in-None : goal.returns-in-None
returns-in-None c =
    let e : spec.place_in c.args.self.now.solved_at c.args.meta ≡ None = cc (c.in-None.ensures) in
    sym (not-placed c.args.self.now c.requires c.args.meta e)

pub returns-in-Some : goal.returns-in-Some
returns-in-Some c =
    let e : spec.place_in c.args.self.now.solved_at c.args.meta ≡ Some c.in-Some.place = cc (c.in-Some.ensures) in
    let f : option_copied c.object_at.result ≡ spec.object_in c.args.self.now.added c.in-Some.place = cc (c.object_at.ensures) in
    ap (option_map plain_obj) f ∙ sym (placed-at c.args.self.now c.requires c.args.meta c.in-Some.place e)
