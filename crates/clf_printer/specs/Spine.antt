-- Inner: a neutral's text as it is written along its spine: what stands in front of the head, the head, and what stands after it.
use Rattle.std.specs.Prelude.{ℕ, Bool, true, false, List, [], ◌++◌, codes}
use Rattle.clf_syntax.specs.Tree.{PlainNeutral, head_alone, app, fst, snd, PlainElimination, arg, first, second}
use Rattle.clf_sig.specs.Entry.{PlainSignature}
use Rattle.clf_printer.specs.Text.{when, is_application, is_atom, argument_text, object_text}

-- the projections, the last one first, each with a parenthesis where an application is projected
abbrev pub front_text : PlainNeutral → List ℕ
front_text (head_alone h) = []
front_text (app m r n) = front_text r
front_text (fst r) = codes "#1 " ++ when (is_application r) (codes "(") ++ front_text r
front_text (snd r) = codes "#2 " ++ when (is_application r) (codes "(") ++ front_text r

-- what an elimination puts in front of a neutral, which is an application or is not
abbrev pub projection_text : Bool → PlainElimination → List ℕ
projection_text applied (arg m n) = []
projection_text applied first = codes "#1 " ++ when applied (codes "(")
projection_text applied second = codes "#2 " ++ when applied (codes "(")

abbrev pub is_argument : PlainElimination → Bool
is_argument (arg m n) = true
is_argument first = false
is_argument second = false

module _ (sig : PlainSignature) (metas : List ℕ) (level : ℕ) where
  -- what an elimination adds after a neutral, which is an application or is not
  abbrev pub elimination_text : Bool → PlainElimination → List ℕ
  elimination_text applied (arg m n) = argument_text m (is_atom n) (object_text sig metas level n)
  elimination_text applied first = when applied (codes ")")
  elimination_text applied second = when applied (codes ")")

  -- the arguments, and the parentheses that close
  abbrev pub back_text : PlainNeutral → List ℕ
  back_text (head_alone h) = []
  back_text (app m r n) = back_text r ++ argument_text m (is_atom n) (object_text sig metas level n)
  back_text (fst r) = back_text r ++ when (is_application r) (codes ")")
  back_text (snd r) = back_text r ++ when (is_application r) (codes ")")
