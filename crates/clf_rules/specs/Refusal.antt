-- Why the kernel refuses a part, and the numbers that its paths and names have.
--
-- A path lists the numbers of parts, from the whole to the part that is refused: of a lambda the body is 0, of a pair the parts are
-- 0 and 1, of an atomic object the eliminations are numbered from the head on, and of a monadic object first the steps and then the
-- entries of the tuple. Of a type, each index of a family and each entry of a monad has its place, of a function the domain is 0 and
-- the range 1, of & the parts are 0 and 1; of a kind each argument has its place. What is wrong with an elimination, a step or an entry
-- itself is at its place.
use Rattle.std.specs.Prelude.{ℕ, suc, ◌-◌, length}
use Rattle.clf_syntax.specs.declared.tree.Mode.{Mode}
use Rattle.clf_syntax.specs.declared.tree.Head.{Head}
use Rattle.clf_syntax.specs.Tree.{PlainObject, PlainNeutral, head_alone, app, fst, snd}
use Rattle.clf_syntax.specs.TypeTree.{PlainType}
use Rattle.use_contexts.specs.Context.{Context}

-- A variable's level counts from the oldest, from 1 on: it is the number in its printed name.
abbrev pub level : Context → ℕ → ℕ
level g i = length g - i

-- how many eliminations a neutral has
abbrev pub eliminations : PlainNeutral → ℕ
eliminations (head_alone x) = 0
eliminations (app m r n) = suc (eliminations r)
eliminations (fst r) = suc (eliminations r)
eliminations (snd r) = suc (eliminations r)

-- Why a part is refused, with what the refusal keeps.
pub data Cause : Type 0 where
  -- a lambda stands at, or an argument is put to, this type, which is no function
  not_function : PlainType → Cause
  -- a pair stands at, or a projection is taken of, this type, which is no pair
  not_pair : PlainType → Cause
  -- <> stands at this type, which is not <T>
  not_top : PlainType → Cause
  -- a monadic object stands at, or a step's right side has, this type, which is no monad
  not_monad : PlainType → Cause
  -- a neutral stands at this type, or has it, which is no family
  not_atomic : PlainType → Cause
  -- a metavariable or a hole
  not_closed : Cause
  -- the mode that is wanted, and the other that is found
  mode_differs : Mode → Mode → Cause
  -- how many entries a telescope has, and the other number that a pattern or a tuple has
  width : ℕ → ℕ → Cause
  -- a linear or affine variable, by its level, that is not held
  not_held : ℕ → Cause
  -- a linear variable, by its level, that is left at the end of its scope
  unused : ℕ → Cause
  -- a linear variable, by its level, that one part of a pair uses and the other leaves
  pairs_differ : ℕ → Cause
  -- the family that is found, and the other that is wanted
  family_differs : ℕ → ℕ → Cause
  -- how many variables are in scope, the index that is found, and the one that is wanted, which is not joined with it
  index_differs : ℕ → PlainObject → PlainObject → Cause
  -- how many arguments a family's kind has, and the other number of indices that it stands with
  family_arity : ℕ → ℕ → Cause
  -- a variable that is not in the context, or a number that is no constant or no family
  unknown_head : Head → Cause
