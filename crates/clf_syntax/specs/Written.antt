-- Which trees can be written: no variable's number passes 4,294,967,295. And what a call answers that writes a tree.
use Rattle.std.specs.Prelude.{◌≡◌, nat_lt, Bool, true, false, ◌&&◌, Ok, Err, Result}
use Rattle.std.specs.List.{list_all}
use Rattle.clf_syntax.specs.declared.tree.Head.{Head}
use Rattle.clf_syntax.specs.declared.tree.Head.TheVariants.{Const, Var, Meta}
use Rattle.clf_syntax.specs.declared.fault.Or.{Or}
use Rattle.clf_syntax.specs.declared.fault.Or.TheVariants.{Fault, NoMemory}
use Rattle.clf_syntax.specs.declared.fault.TooFar.{TooFar}
use Rattle.clf_syntax.specs.Tree.{PlainObject, lam, pair, unit, monadic, atomic, hole, PlainNeutral, head_alone, app, fst, snd, PlainExpression, step, done, PlainTuple, empty, entry}
use Rattle.clf_syntax.specs.TypeTree.{PlainType, family, function, both, top, monad, PlainTelescope, end, binding, PlainKind}

abbrev pub fits_head : Head → Bool
fits_head (Const c) = true
fits_head (Var i) = nat_lt i 4294967296
fits_head (Meta m) = true

abbrev mutual
  pub fits : PlainObject → Bool
  fits (lam m b) = fits b
  fits (pair l r) = fits l && fits r
  fits unit = true
  fits (monadic e) = fits_expression e
  fits (atomic n) = fits_neutral n
  fits hole = true

  pub fits_neutral : PlainNeutral → Bool
  fits_neutral (head_alone h) = fits_head h
  fits_neutral (app m r n) = fits_neutral r && fits n
  fits_neutral (fst r) = fits_neutral r
  fits_neutral (snd r) = fits_neutral r

  pub fits_expression : PlainExpression → Bool
  fits_expression (step ms r e) = fits_neutral r && fits_expression e
  fits_expression (done t) = fits_tuple t

  pub fits_tuple : PlainTuple → Bool
  fits_tuple empty = true
  fits_tuple (entry m n t) = fits n && fits_tuple t

abbrev mutual
  pub fits_type : PlainType → Bool
  fits_type (family f ns) = list_all fits ns
  fits_type (function m a b) = fits_type a && fits_type b
  fits_type (both a b) = fits_type a && fits_type b
  fits_type top = true
  fits_type (monad s) = fits_telescope s

  pub fits_telescope : PlainTelescope → Bool
  fits_telescope end = true
  fits_telescope (binding m a s) = fits_type a && fits_telescope s

abbrev pub fits_kind : PlainKind → Bool
fits_kind k = list_all fits_type k

-- The tree that is wanted is answered where it can be written, and TooFar exactly where it can't. Lack of memory is free.
abbrev pub Writes : {X P : Type 0} → (X → P) → (P → Bool) → P → Result X (Or TooFar) → Type 0
Writes plain test want (Ok x) = (plain x ≡ want) × (test want ≡ true)
Writes plain test want (Err (Fault f)) = test want ≡ false
Writes plain test want (Err NoMemory) = Unit {0}
