-- Worked judgments: for each rule of typing and formation a tree that it accepts, and trees beside it that it refuses.
-- Each record has the judgments of one sort of trees.
use Rattle.std.specs.Prelude.{ℕ, [], ◌∷◌}
use Rattle.clf_syntax.specs.declared.tree.Mode.TheVariants.{Persistent, Affine, Linear}
use Rattle.clf_syntax.specs.declared.tree.Head.TheVariants.{Const, Var, Meta}
use Rattle.clf_syntax.specs.Tree.{PlainObject, lam, pair, unit, monadic, atomic, hole, PlainNeutral, head_alone, app, fst, snd, PlainExpression, step, done, empty, entry}
use Rattle.clf_syntax.specs.TypeTree.{PlainType, family, function, both, top, monad, PlainTelescope, end, binding}
use Rattle.clf_sig.specs.Entry.{PlainSignature, PlainClass, Declaration, family_of, constant_of}
use Rattle.clf_rules.specs.Typing.{HasType}
use Rattle.clf_rules.specs.WellFormed.{WellFormedType, WellFormedKind, WellFormedContext, MayFollow, WellFormedSignature}

-- a declaration by the byte of its name, of a class without implicit arguments
abbrev pub declared : ℕ → PlainClass → Declaration
declared name class = (name ∷ [], record { implicit = 0; class = class })

-- a, n, v N, w N M, and {a}
abbrev pub coin : PlainType
coin = family 0 []

abbrev pub nat : PlainType
nat = family 2 []

abbrev pub vec : PlainObject → PlainType
vec n = family 5 (n ∷ [])

abbrev pub box : PlainObject → PlainObject → PlainType
box n m = family 7 (n ∷ m ∷ [])

abbrev pub one_coin : PlainTelescope
one_coin = binding Linear coin end

abbrev pub two_coins : PlainTelescope
two_coins = binding Linear coin (binding Linear coin end)

-- a constant, a variable, and both as objects
abbrev pub constant : ℕ → PlainNeutral
constant c = head_alone (Const c)

abbrev pub local : ℕ → PlainNeutral
local i = head_alone (Var i)

abbrev pub variable : ℕ → PlainObject
variable i = atomic (local i)

-- the tuples of one and of two linear objects
abbrev pub alone : PlainObject → PlainExpression
alone n = done (entry Linear n empty)

abbrev pub together : PlainObject → PlainObject → PlainExpression
together n m = done (entry Linear n (entry Linear m empty))

-- {let {x1, x2} = x in [x1, x2]}, of the newest variable x
abbrev pub opened : PlainObject
opened = monadic (step (Linear ∷ Linear ∷ []) (local 0) (together (variable 1) (variable 0)))

-- a : type. c : {a}. n : type. z : n. s : n -> n. v : n -> type. d : Pi x: n. v x. w : Pi x: n. v x -> type.
-- m : a -o a -o a. l : a -@ a. k : a -> a. e : a. t : {a * a} -> type. y : Pi x: {a * a}. t {let {x1, x2} = x in [x1, x2]}.
abbrev pub worked : PlainSignature
worked = declared 97 (family_of [])
    ∷ declared 99 (constant_of (monad one_coin))
    ∷ declared 110 (family_of [])
    ∷ declared 122 (constant_of nat)
    ∷ declared 115 (constant_of (function Persistent nat nat))
    ∷ declared 118 (family_of (nat ∷ []))
    ∷ declared 100 (constant_of (function Persistent nat (vec (variable 0))))
    ∷ declared 119 (family_of (nat ∷ vec (variable 0) ∷ []))
    ∷ declared 109 (constant_of (function Linear coin (function Linear coin coin)))
    ∷ declared 108 (constant_of (function Affine coin coin))
    ∷ declared 107 (constant_of (function Persistent coin coin))
    ∷ declared 101 (constant_of coin)
    ∷ declared 116 (family_of (monad two_coins ∷ []))
    ∷ declared 121 (constant_of (function Persistent (monad two_coins) (family 12 (opened ∷ []))))
    ∷ []

-- z, s !z, d !z, e, and m N M
abbrev pub z : PlainObject
z = atomic (constant 3)

abbrev pub sz : PlainObject
sz = atomic (app Persistent (constant 4) z)

abbrev pub dz : PlainObject
dz = atomic (app Persistent (constant 6) z)

abbrev pub gold : PlainObject
gold = atomic (constant 11)

abbrev pub merged : PlainObject → PlainObject → PlainObject
merged n m = atomic (app Linear (app Linear (constant 8) n) m)

-- let {x} = c in E
abbrev pub minting : PlainExpression → PlainExpression
minting e = step (Linear ∷ []) (constant 1) e

-- Over the signature above, without variables, the object has the type, or has it not.
abbrev pub Typed : PlainObject → PlainType → Type 0
Typed o t = HasType worked [] [] o t

abbrev pub Untyped : PlainObject → PlainType → Type 0
Untyped o t = Typed o t → ⊥

pub record HeadExamples : Type 0 where
  -- e has the type a, and not n. The family a is no object.
  pub constant_typed : Typed gold coin
  pub at_another_type : Untyped gold nat
  pub family_as_object : Untyped (atomic (constant 0)) coin
  -- \@x. e : a -@ a, but not \x. e : a -o a: a constant leaves over what is affine, and nothing linear.
  pub beside_affine_variable : Typed (lam Affine gold) (function Affine coin coin)
  pub beside_linear_variable : Untyped (lam Linear gold) (function Linear coin coin)
  -- \x. x : a -o a, and not a -o n
  pub variable_typed : Typed (lam Linear (variable 0)) (function Linear coin coin)
  pub variable_at_another_type : Untyped (lam Linear (variable 0)) (function Linear coin nat)
  -- \x. \y. y : a -o a -o a drops x. There is no variable without a binder.
  pub variable_beside_linear_variable : Untyped (lam Linear (lam Linear (variable 0))) (function Linear coin (function Linear coin coin))
  pub unbound : Untyped (variable 0) coin
  -- \!x. \y. y : Pi x: n. v x -o v x: outside of its own entry the type of y speaks of x by another number.
  pub past_its_entry : Typed (lam Persistent (lam Linear (variable 0))) (function Persistent nat (function Linear (vec (variable 0)) (vec (variable 1))))
  pub metavariable : Untyped (atomic (head_alone (Meta 0))) coin

pub record ObjectExamples : Type 0 where
  -- \!x. x is no a -o a, and \x. x no a.
  pub lambda_of_another_mode : Untyped (lam Persistent (variable 0)) (function Linear coin coin)
  pub lambda_at_family : Untyped (lam Linear (variable 0)) coin
  -- \x. <x, x> : a -o a & a: each part has all of x. In <e, x> and <x, e> one part drops it.
  pub pair_typed : Typed (lam Linear (pair (variable 0) (variable 0))) (function Linear coin (both coin coin))
  pub left_part_drops : Untyped (lam Linear (pair gold (variable 0))) (function Linear coin (both coin coin))
  pub right_part_drops : Untyped (lam Linear (pair (variable 0) gold)) (function Linear coin (both coin coin))
  -- \x. <> : a -o <T>
  pub unit_typed : Typed (lam Linear unit) (function Linear coin top)
  pub unit_at_family : Untyped unit coin
  -- {1} : {1}
  pub monadic_object : Typed (monadic (done empty)) (monad end)
  pub monadic_object_at_family : Untyped (monadic (done empty)) coin
  -- d !z : v !z, and not v !(s !z)
  pub index : Typed dz (vec z)
  pub another_index : Untyped dz (vec sz)
  -- y !{let {x} = c in let {x'} = c in [x, x']} has the type t !{let {x'} = c in let {x} = c in [x, x']}: the steps change places.
  pub index_after_exchange : Typed (atomic (app Persistent (constant 13) (monadic (minting (minting (together (variable 1) (variable 0)))))))
      (family 12 (monadic (minting (minting (together (variable 0) (variable 1)))) ∷ []))
  -- s is no object at n -> n: it would have to be \!x. s !x.
  pub not_expanded : Untyped (atomic (constant 4)) (function Persistent nat nat)
  pub hole_untyped : Untyped hole coin

pub record NeutralExamples : Type 0 where
  -- \x. \y. m x y : a -o a -o a, but not \x. m x x : a -o a.
  pub application : Typed (lam Linear (lam Linear (merged (variable 1) (variable 0)))) (function Linear coin (function Linear coin coin))
  pub used_twice : Untyped (lam Linear (merged (variable 0) (variable 0))) (function Linear coin coin)
  -- k e with a linear argument, e e, s !e
  pub argument_of_another_mode : Untyped (atomic (app Linear (constant 10) gold)) coin
  pub applied_to_no_function : Untyped (atomic (app Linear (constant 11) gold)) coin
  pub argument_of_another_type : Untyped (atomic (app Persistent (constant 4) gold)) nat
  -- \@x. l @x : a -@ a, but not \x. l @x : a -o a.
  pub affine_argument : Typed (lam Affine (atomic (app Affine (constant 9) (variable 0)))) (function Affine coin coin)
  pub affine_argument_uses_linear : Untyped (lam Linear (atomic (app Affine (constant 9) (variable 0)))) (function Linear coin coin)
  -- \!x. k !x : a -> a, but not \@x. k !x : a -@ a.
  pub persistent_argument : Typed (lam Persistent (atomic (app Persistent (constant 10) (variable 0)))) (function Persistent coin coin)
  pub persistent_argument_uses_affine : Untyped (lam Affine (atomic (app Persistent (constant 10) (variable 0)))) (function Affine coin coin)
  -- \x. #1 x : a & n -o a, and \x. #2 x : a & n -o n; not the other way round, and #1 e is no a.
  pub first_projection : Typed (lam Linear (atomic (fst (local 0)))) (function Linear (both coin nat) coin)
  pub second_projection : Typed (lam Linear (atomic (snd (local 0)))) (function Linear (both coin nat) nat)
  pub first_for_second : Untyped (lam Linear (atomic (fst (local 0)))) (function Linear (both coin nat) nat)
  pub second_for_first : Untyped (lam Linear (atomic (snd (local 0)))) (function Linear (both coin nat) coin)
  pub projection_of_no_pair : Untyped (atomic (fst (constant 11))) coin

pub record ExpressionExamples : Type 0 where
  -- {let {x} = c in x} : {a}
  pub step_typed : Typed (monadic (minting (alone (variable 0)))) (monad one_coin)
  -- {let {!x} = c in 1} : {1} has another mode than c, {let {x} = c in 1} : {1} drops x, and e is no monad.
  pub pattern_of_another_mode : Untyped (monadic (step (Persistent ∷ []) (constant 1) (done empty))) (monad end)
  pub dropped : Untyped (monadic (minting (done empty))) (monad end)
  pub right_side_of_no_monad : Untyped (monadic (step [] (constant 11) (done empty))) (monad end)
  -- \x. {let {y} = x in let {y'} = x in [y, y']} : {a} -o {a * a} uses x twice.
  pub right_sides_share : Untyped (lam Linear (monadic (step (Linear ∷ []) (local 0) (step (Linear ∷ []) (local 1) (together (variable 1) (variable 0))))))
      (function Linear (monad one_coin) (monad two_coins))
  -- \!x. {let {y} = c in [y, d !x]} : Pi x: n. {a * v x}: after the step the result speaks of x by another number.
  pub result_behind_a_step : Typed (lam Persistent (monadic (minting (together (variable 0) (atomic (app Persistent (constant 6) (variable 1)))))))
      (function Persistent nat (monad (binding Linear coin (binding Linear (vec (variable 1)) end))))

pub record TupleExamples : Type 0 where
  -- \@x. {1} : a -@ {1}, but not \x. {1} : a -o {1}.
  pub empty_tuple : Typed (lam Affine (monadic (done empty))) (function Affine coin (monad end))
  pub empty_tuple_drops : Untyped (lam Linear (monadic (done empty))) (function Linear coin (monad end))
  -- {1} is no {a}, and {e} no {1}.
  pub too_short : Untyped (monadic (done empty)) (monad one_coin)
  pub too_long : Untyped (monadic (alone gold)) (monad end)
  -- {[!z, d !z]} : {Exists x: n. v x}, but not {[!(s !z), d !z]}.
  pub dependent : Typed (monadic (done (entry Persistent z (entry Linear dz empty)))) (monad (binding Persistent nat (binding Linear (vec (variable 0)) end)))
  pub another_first : Untyped (monadic (done (entry Persistent sz (entry Linear dz empty)))) (monad (binding Persistent nat (binding Linear (vec (variable 0)) end)))
  -- {!e} is no {a}. \x. {!x} is no a -o {!a}, and \x. {[x, x]} no a -o {a * a}.
  pub entry_of_another_mode : Untyped (monadic (done (entry Persistent gold empty))) (monad one_coin)
  pub entry_uses_more : Untyped (lam Linear (monadic (done (entry Persistent (variable 0) empty)))) (function Linear coin (monad (binding Persistent coin end)))
  pub entries_share : Untyped (lam Linear (monadic (together (variable 0) (variable 0)))) (function Linear coin (monad two_coins))

-- Typing presupposes that the type is well formed: \x. <> has the type f -o <T> even where the signature has no such family f.
abbrev pub TypeIsPresupposed : Type 0
TypeIsPresupposed = HasType [] [] [] (lam Linear unit) (function Linear (family 99 []) top)

-- Over the signature above, without variables, the type is well formed, or it is not.
abbrev pub Formed : PlainType → Type 0
Formed t = WellFormedType worked [] t

abbrev pub Unformed : PlainType → Type 0
Unformed t = Formed t → ⊥

pub record TypeExamples : Type 0 where
  -- v !z; not v, v !z !z or v !e, and z is no family.
  pub indexed_family : Formed (vec z)
  pub without_index : Unformed (family 5 [])
  pub one_index_too_many : Unformed (family 5 (z ∷ z ∷ []))
  pub index_of_another_type : Unformed (vec gold)
  pub constant_as_family : Unformed (family 3 [])
  -- w !z !(d !z), and not w !(s !z) !(d !z)
  pub later_index : Formed (box z dz)
  pub later_index_of_another_type : Unformed (box sz dz)
  -- Pi x: n. v x; but a linear variable stands in no type.
  pub dependent_function : Formed (function Persistent nat (vec (variable 0)))
  pub linear_variable_in_its_range : Unformed (function Linear nat (vec (variable 0)))
  pub function_from_no_type : Unformed (function Linear (family 3 []) coin)
  -- a & n and <T>; each part of a pair is a type.
  pub pair_formed : Formed (both coin nat)
  pub left_part_unformed : Unformed (both (family 3 []) nat)
  pub right_part_unformed : Unformed (both coin (family 3 []))
  pub top_formed : Formed top
  -- {Exists x: n. v x}; but a linear variable stands in no later type.
  pub dependent_telescope : Formed (monad (binding Persistent nat (binding Linear (vec (variable 0)) end)))
  pub linear_variable_in_a_later_type : Unformed (monad (binding Linear nat (binding Linear (vec (variable 0)) end)))

pub record SignatureExamples : Type 0 where
  -- Pi x: n. v x -> type. A kind's variables are persistent, and its arguments types.
  pub kind : WellFormedKind worked [] (nat ∷ vec (variable 0) ∷ [])
  pub kind_from_no_type : WellFormedKind worked [] (family 3 [] ∷ []) → ⊥
  -- the context x !: n, y : v x; with a linear x it is none
  pub context : WellFormedContext worked ((Linear, vec (variable 0)) ∷ (Persistent, nat) ∷ [])
  pub linear_variable_in_the_context : WellFormedContext worked ((Linear, vec (variable 0)) ∷ (Linear, nat) ∷ []) → ⊥
  -- The signature above is well formed.
  pub signature : WellFormedSignature worked
  -- z : n. n : type. The constant stands before its family.
  pub family_too_late : WellFormedSignature (declared 122 (constant_of (family 1 [])) ∷ declared 110 (family_of []) ∷ []) → ⊥
  -- n : type. n : type.
  pub name_again : WellFormedSignature (declared 110 (family_of []) ∷ declared 110 (family_of []) ∷ []) → ⊥
  -- a name that is a blank
  pub no_name : MayFollow worked (declared 32 (family_of [])) → ⊥
  -- q : Pi x: n. v x with one implicit argument; none of a linear function is implicit.
  pub implicit_argument : MayFollow worked (113 ∷ [], record { implicit = 1; class = constant_of (function Persistent nat (vec (variable 0))) })
  pub implicit_linear_argument : MayFollow worked (113 ∷ [], record { implicit = 1; class = constant_of (function Linear nat nat) }) → ⊥
