-- Inner: what becomes of heads under declared binders in front.
use Rattle.std.specs.Prelude.{ℕ}
use Rattle.clf_syntax.specs.declared.tree.Head.{Head}
use Rattle.celf_front.specs.declared.heads.Front.{Front}
use Rattle.celf_front.specs.InFront.{front_head}

abbrev pub heads_by : Front → ℕ → Head → Head
heads_by f = front_head f.first f.binders.now
