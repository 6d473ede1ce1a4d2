-- Inner: the heads of the parts of spines, expressions, tuples and telescopes.
use Rattle.std.specs.Prelude.{List, []}
use Rattle.clf_syntax.specs.declared.tree.Mode.{Mode}
use Rattle.clf_syntax.specs.declared.tree.Head.{Head}
use Rattle.clf_syntax.specs.Tree.{PlainObject, PlainNeutral, PlainElimination, arg, first, second}
use Rattle.clf_syntax.specs.TypeTree.{PlainType}
use Rattle.celf_front.specs.Occurring.{heads_in, heads_in_neutral, heads_in_type}

abbrev pub heads_in_elimination : PlainElimination → List Head
heads_in_elimination (arg m n) = heads_in n
heads_in_elimination first = []
heads_in_elimination second = []

abbrev pub heads_in_step : List Mode × PlainNeutral → List Head
heads_in_step s = heads_in_neutral s.1

abbrev pub heads_in_entry : Mode × PlainObject → List Head
heads_in_entry e = heads_in e.1

abbrev pub heads_in_tele_entry : Mode × PlainType → List Head
heads_in_tele_entry e = heads_in_type e.1
