-- What conforms to simple types: simple typing of trees in which metavariables are to be filled in.
--
-- A metavariable stands as an object alone: nothing runs it as a step, and what it is applied to need only be simply typed. So an object conforms
-- exactly where it does by the relation of gathering at the shape in which nothing is passed over.
use Rattle.std.specs.Prelude.{ℕ, ◌≡◌, ◌⊎◌, List, [], ◌∷◌, Some}
use Rattle.clf_syntax.specs.declared.tree.Mode.{Mode}
use Rattle.clf_syntax.specs.declared.tree.Head.{Head}
use Rattle.clf_syntax.specs.declared.tree.Head.TheVariants.{Const, Var, Meta}
use Rattle.clf_syntax.specs.Tree.{PlainObject, lam, pair, unit, monadic, atomic, hole, PlainNeutral, head_alone, app, fst, snd, PlainExpression, step, done, PlainTuple, empty, entry, head_of}
use Rattle.clf_syntax.specs.TypeTree.{PlainType, family, function, both, top, monad, PlainTelescope, end, binding, PlainKind, SimpleType, base, arrow, simple_with, simple_top, lax, SimpleTelescope, simple_end, simple_binding}
use Rattle.clf_syntax.specs.Simple.{erase, Assignment, Families, extended, extended_by, simple_modes, SimplyTyped}
use Rattle.clf_sig.specs.Entry.{PlainClass, family_of, constant_of}
use Rattle.clf_sig.specs.Core.{PlainCore, declares, queries, traces, equates, checks}

-- a head that is no metavariable has this simple type
abbrev pub HeadFits : Assignment → Head → SimpleType → Type 0
HeadFits b (Const c) t = b (Const c) ≡ Some t
HeadFits b (Var i) t = b (Var i) ≡ Some t
HeadFits b (Meta m) t = ⊥

-- an object to be filled in
pub record IsFilled (b : Assignment) (n : PlainNeutral) (t : SimpleType) : Type 0 where
  pub number : ℕ
  pub head : head_of n ≡ Meta number
  pub typed : SimplyTyped b (atomic n) t

abbrev mutual
  -- Fits b n t: where heads have the simple types b, the object n conforms to the simple type t.
  pub Fits : Assignment → PlainObject → SimpleType → Type 0
  Fits b (lam m n) t = (d c : SimpleType) × (t ≡ arrow m d c) × Fits (extended d b) n c
  Fits b (pair l r) t = (c d : SimpleType) × (t ≡ simple_with c d) × Fits b l c × Fits b r d
  Fits b unit t = t ≡ simple_top
  Fits b (monadic e) t = (s : SimpleTelescope) × (t ≡ lax s) × ExpressionFits b e s
  Fits b (atomic n) t = ((f : ℕ) × (t ≡ base f) × NeutralFits b n t) ⊎ IsFilled b n t
  Fits b hole t = ⊥

  pub NeutralFits : Assignment → PlainNeutral → SimpleType → Type 0
  NeutralFits b (head_alone h) t = HeadFits b h t
  NeutralFits b (app m r n) t = (d : SimpleType) × NeutralFits b r (arrow m d t) × Fits b n d
  NeutralFits b (fst r) t = (d : SimpleType) × NeutralFits b r (simple_with t d)
  NeutralFits b (snd r) t = (c : SimpleType) × NeutralFits b r (simple_with c t)

  -- A step's right side has a monad, with the modes of the step, whose entries are the variables of the rest.
  pub ExpressionFits : Assignment → PlainExpression → SimpleTelescope → Type 0
  ExpressionFits b (step ms r e) s = (u : SimpleTelescope) × NeutralFits b r (lax u) × (simple_modes u ≡ ms) × ExpressionFits (extended_by u b) e s
  ExpressionFits b (done t) s = TupleFits b t s

  pub TupleFits : Assignment → PlainTuple → SimpleTelescope → Type 0
  TupleFits b empty s = s ≡ simple_end
  TupleFits b (entry m n t) s = (d : SimpleType) × (u : SimpleTelescope) × (s ≡ simple_binding m d u) × Fits b n d × TupleFits b t u

-- as many objects as simple types, each of which conforms
abbrev pub EachFits : Assignment → List PlainObject → List SimpleType → Type 0
EachFits b [] [] = Unit {0}
EachFits b (n ∷ ns) (t ∷ ts) = Fits b n t × EachFits b ns ts
EachFits b [] (t ∷ ts) = ⊥
EachFits b (n ∷ ns) [] = ⊥

-- In a type, a telescope or a kind each index conforms to the simple type of its argument.
module _ (arguments : Families) where
  abbrev mutual
    pub TypeFits : Assignment → PlainType → Type 0
    TypeFits b (family f ns) = (ts : List SimpleType) × (arguments f ≡ Some ts) × EachFits b ns ts
    TypeFits b (function m a c) = TypeFits b a × TypeFits (extended (erase a) b) c
    TypeFits b (both a c) = TypeFits b a × TypeFits b c
    TypeFits b top = Unit {0}
    TypeFits b (monad s) = TelescopeFits b s

    pub TelescopeFits : Assignment → PlainTelescope → Type 0
    TelescopeFits b end = Unit {0}
    TelescopeFits b (binding m a s) = TypeFits b a × TelescopeFits (extended (erase a) b) s

  abbrev pub KindFits : Assignment → PlainKind → Type 0
  KindFits b [] = Unit {0}
  KindFits b (a ∷ k) = TypeFits b a × KindFits (extended (erase a) b) k

  abbrev pub ClassFits : Assignment → PlainClass → Type 0
  ClassFits b (family_of k) = KindFits b k
  ClassFits b (constant_of a) = TypeFits b a

  -- An item's core conforms: its types do, and a directive's objects do to what is left of its type.
  abbrev pub CoreFits : Assignment → PlainCore → Type 0
  CoreFits b (declares name e) = ClassFits b e.class
  CoreFits b (queries a) = TypeFits b a
  CoreFits b (traces s) = TelescopeFits b s
  CoreFits b (equates m n a) = TypeFits b a × Fits b m (erase a) × Fits b n (erase a)
  CoreFits b (checks n a) = TypeFits b a × Fits b n (erase a)
