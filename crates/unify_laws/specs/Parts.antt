-- The parts of an equation of two neutrals: their arguments, place by place.
use Rattle.std.specs.Prelude.{◌≡◌, false}
use Rattle.clf_syntax.specs.declared.tree.Mode.{Mode}
use Rattle.clf_syntax.specs.declared.tree.Head.{Head}
use Rattle.clf_syntax.specs.Tree.{PlainObject, PlainNeutral, head_alone, app, fst, snd}
use Rattle.clf_syntax.specs.TypeTree.{SimpleType, arrow}
use Rattle.clf_syntax.specs.Simple.{Assignment, SimplyTypedNeutral}
use Rattle.hered_subst.specs.TypedEnvironments.{is_metavariable}

-- The same constant or variable as head, and the same eliminations but for the arguments.
pub data SameShape : PlainNeutral → PlainNeutral → Type 0 where
  shape_head : {h : Head} → is_metavariable h ≡ false → SameShape (head_alone h) (head_alone h)
  shape_app : {m : Mode} {r s : PlainNeutral} {o u : PlainObject} → SameShape r s → SameShape (app m r o) (app m s u)
  shape_fst : {r s : PlainNeutral} → SameShape r s → SameShape (fst r) (fst s)
  shape_snd : {r s : PlainNeutral} → SameShape r s → SameShape (snd r) (snd s)

-- o and u stand at one place among the arguments of two neutrals, and the first neutral asks for the simple type c there.
pub data PartAt (g : Assignment) (o u : PlainObject) (c : SimpleType) : PlainNeutral → PlainNeutral → Type 0 where
  part_here : {m : Mode} {r s : PlainNeutral} (e : SimpleType) → SimplyTypedNeutral g r (arrow m c e) → PartAt g o u c (app m r o) (app m s u)
  part_function : {m : Mode} {r s : PlainNeutral} {x y : PlainObject} → PartAt g o u c r s → PartAt g o u c (app m r x) (app m s y)
  part_fst : {r s : PlainNeutral} → PartAt g o u c r s → PartAt g o u c (fst r) (fst s)
  part_snd : {r s : PlainNeutral} → PartAt g o u c r s → PartAt g o u c (snd r) (snd s)
