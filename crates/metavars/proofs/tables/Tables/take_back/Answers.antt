use Rattle.std.proofs.Common.{◌≡◌, ◌++◌, ◌∷◌, [], sym, subst}
use Rattle.metavars.specs.declared.tables.Addition.TheVariants.{New, Solved}
use Rattle.metavars.specs.Tables.{AreTables}
use Rattle.metavars.proofs.TablesLaws.{back-popped, back-solved}
use Rattle.metavars.proofs.tables.Tables.take_back.Goals as goal

pub returns-in-Some-New-clause-tables : goal.returns-in-Some-New-clause-tables
returns-in-Some-New-clause-tables c =
    let e : c.args.self.now.added ≡ c.pop.new.self ++ New ∷ [] = rw c.in-Some-New.field-0-is at c.in-Some-New.ensures in
    (back-popped c.args.self.now c.requires.tables c.pop.new.self c.pop-in-Some-New.new.self c.pop-in-Some-New-2.new.self e c.pop-in-Some-New.result c.pop-in-Some-New.ensures c.pop-in-Some-New-2.result c.pop-in-Some-New-2.ensures).tables

pub returns-in-Some-New-clause-listed : goal.returns-in-Some-New-clause-listed
returns-in-Some-New-clause-listed c =
    let e : c.args.self.now.added ≡ c.pop.new.self ++ New ∷ [] = rw c.in-Some-New.field-0-is at c.in-Some-New.ensures in
    (back-popped c.args.self.now c.requires.tables c.pop.new.self c.pop-in-Some-New.new.self c.pop-in-Some-New-2.new.self e c.pop-in-Some-New.result c.pop-in-Some-New.ensures c.pop-in-Some-New-2.result c.pop-in-Some-New-2.ensures).listed

pub returns-clause-tables : goal.returns-clause-tables
returns-clause-tables c =
    let e : c.args.self.now.added ≡ c.pop.new.self ++ Solved c.in-Some-Solved.meta c.in-Some-Solved.field-0-1 ∷ [] = cc (c.in-Some-Solved.ensures, c.in-Some-Solved.field-0-is) in
    subst (λ r. AreTables (record { added = c.pop.new.self; metas = c.args.self.now.metas; solved_at = r })) (sym c.set.ensures)
    (back-solved c.args.self.now c.requires.tables c.pop.new.self c.in-Some-Solved.meta c.in-Some-Solved.field-0-1 e).tables

pub returns-clause-listed : goal.returns-clause-listed
returns-clause-listed c =
    let e : c.args.self.now.added ≡ c.pop.new.self ++ Solved c.in-Some-Solved.meta c.in-Some-Solved.field-0-1 ∷ [] = cc (c.in-Some-Solved.ensures, c.in-Some-Solved.field-0-is) in
    (back-solved c.args.self.now c.requires.tables c.pop.new.self c.in-Some-Solved.meta c.in-Some-Solved.field-0-1 e).listed
