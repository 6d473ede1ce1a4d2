-- Some neutrals as they are written out, worked out by hand, over the families a, b and c.
use Rattle.std.specs.Prelude.{◌≡◌, [], ◌∷◌}
use Rattle.clf_syntax.specs.declared.tree.Mode.TheVariants.{Persistent, Affine, Linear}
use Rattle.clf_syntax.specs.declared.tree.Head.{Head}
use Rattle.clf_syntax.specs.declared.tree.Head.TheVariants.{Const, Var, Meta}
use Rattle.clf_syntax.specs.Tree.{PlainObject, lam, pair, unit, monadic, atomic, head_alone, app, fst, snd, step, done, empty, entry}
use Rattle.clf_syntax.specs.TypeTree.{SimpleType, base, arrow, simple_with, simple_top, lax, simple_end, simple_binding}
use Rattle.eta_laws.specs.Eta.{expansion}

abbrev pub a : SimpleType
a = base 0

abbrev pub b : SimpleType
b = base 1

abbrev pub c : SimpleType
c = base 2

abbrev pub form : SimpleType → Head → PlainObject
form t h = expansion t (head_alone h)

abbrev pub object : Head → PlainObject
object h = atomic (head_alone h)

-- f is the constant 7, x the variable 3, ?0 a metavariable
pub record FormsWorked : Type 0 where
  -- f : a
  pub family : form a (Const 7) ≡ object (Const 7)
  -- \y. f y : a -o b
  pub function : form (arrow Linear a b) (Const 7) ≡ lam Linear (atomic (app Linear (head_alone (Const 7)) (object (Var 0))))
  -- \y. x y : a -o b, where x is one binder farther
  pub farther : form (arrow Linear a b) (Var 3) ≡ lam Linear (atomic (app Linear (head_alone (Var 4)) (object (Var 0))))
  -- \@y. \!z. x @y !z : a -@ b -> c
  pub curried : form (arrow Affine a (arrow Persistent b c)) (Var 3)
      ≡ lam Affine (lam Persistent (atomic (app Persistent (app Affine (head_alone (Var 5)) (object (Var 1))) (object (Var 0)))))
  -- \!g. f !(\y. g y) : (a -o b) -> c
  pub argument : form (arrow Persistent (arrow Linear a b) c) (Const 7)
      ≡ lam Persistent (atomic (app Persistent (head_alone (Const 7)) (lam Linear (atomic (app Linear (head_alone (Var 1)) (object (Var 0)))))))
  -- <\y. #1 x y, #2 x> : (a -o b) & c
  pub parts : form (simple_with (arrow Linear a b) c) (Var 3) ≡ pair (lam Linear (atomic (app Linear (fst (head_alone (Var 4))) (object (Var 0))))) (atomic (snd (head_alone (Var 3))))
  -- \y. <#1 (f y), #2 (f y)> : a -o b & c
  pub part_of_result : form (arrow Linear a (simple_with b c)) (Const 7)
      ≡ lam Linear (pair (atomic (fst (app Linear (head_alone (Const 7)) (object (Var 0))))) (atomic (snd (app Linear (head_alone (Const 7)) (object (Var 0))))))
  -- <> : <T>, and \y. <> : a -o <T>
  pub top : form simple_top (Var 3) ≡ unit
  pub into_top : form (arrow Linear a simple_top) (Var 3) ≡ lam Linear unit
  -- {let {y * !z} = x in y * !z} : {a * !b}
  pub monad : form (lax (simple_binding Linear a (simple_binding Persistent b simple_end))) (Var 3)
      ≡ monadic (step (Linear ∷ Persistent ∷ []) (head_alone (Var 3)) (done (entry Linear (object (Var 1)) (entry Persistent (object (Var 0)) empty))))
  -- {let {g} = f in \y. g y} : {a -o b}
  pub function_in_monad : form (lax (simple_binding Linear (arrow Linear a b) simple_end)) (Const 7)
      ≡ monadic (step (Linear ∷ []) (head_alone (Const 7)) (done (entry Linear (lam Linear (atomic (app Linear (head_alone (Var 1)) (object (Var 0))))) empty)))
  -- ?0 : {a}, and \y. ?0 y : a -o {1}
  pub metavariable : form (lax (simple_binding Linear a simple_end)) (Meta 0) ≡ object (Meta 0)
  pub metavariable_applied : form (arrow Linear a (lax simple_end)) (Meta 0) ≡ lam Linear (atomic (app Linear (head_alone (Meta 0)) (object (Var 0))))
