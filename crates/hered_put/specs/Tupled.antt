-- What is put for the variables of a step, when the steps of its value come first.
use Rattle.std.specs.Prelude.{ℕ, zero, suc, ◌+◌, List, [], ◌∷◌}
use Rattle.clf_syntax.specs.declared.tree.Head.TheVariants.{Const, Var, Meta}
use Rattle.clf_syntax.specs.Tree.{PlainObject}
use Rattle.hered_subst.specs.Substitution.{Image, keep, put, Environment}

-- Objects for the newest variables, the newest first. The other variables fall by as many, and rise past the binders of the steps in front.
abbrev pub among_raised : ℕ → List PlainObject → ℕ → Image
among_raised raised [] i = keep (Var (i + raised))
among_raised raised (n ∷ ns) zero = put n
among_raised raised (n ∷ ns) (suc i) = among_raised raised ns i

abbrev pub tupled : List PlainObject → ℕ → Environment
tupled ns raised (Const c) = keep (Const c)
tupled ns raised (Var i) = among_raised raised ns i
tupled ns raised (Meta m) = keep (Meta m)
