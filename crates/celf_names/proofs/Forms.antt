-- The laws of one kind of desugared tree alone, which are sooner tried than all.
use Rattle.celf_sugar.specs.Plain as written

pub ruleset object_laws = (written.object-of, written.form-Lam, written.form-Pair, written.form-Unit, written.form-Mon, written.form-At, written.form-Hole)

pub ruleset expression_laws = (written.expression-of)

pub ruleset type_laws = (written.type-of, written.type-Family, written.type-Fun, written.type-With, written.type-Top, written.type-Monad)

pub ruleset telescope_laws = (written.telescope-of)
