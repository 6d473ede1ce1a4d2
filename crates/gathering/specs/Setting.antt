-- What gathering is over.
use Rattle.std.specs.Prelude.{ℕ, ◌≡◌, Bool, Option, None, Some, List, [], ◌∷◌, map}
use Rattle.clf_syntax.specs.declared.tree.Mode.{Mode}
use Rattle.clf_syntax.specs.declared.tree.Head.{Head}
use Rattle.clf_syntax.specs.declared.tree.Head.TheVariants.{Const, Var, Meta}
use Rattle.clf_syntax.specs.Tree.{PlainObject}
use Rattle.clf_syntax.specs.TypeTree.{PlainType, SimpleType}
use Rattle.clf_syntax.specs.Simple.{erase, Assignment, Families}
use Rattle.use_contexts.specs.Context.{Context, HasVariable}
use Rattle.pattern_laws.specs.Equations.{Locals, Equation, TypedEquations}
use Rattle.gathering.specs.Shape.{Shape}

pub record Setting : Type 0 where
  -- the types of the constants, and of the implicit variables that are bound in front, by number
  pub given : ℕ → Option PlainType
  -- the types of the metavariables that are implicit variables of a directive, by number
  pub implicit : ℕ → Option PlainType
  -- the shapes of these types
  pub shape : PlainType → Shape
  -- the simple types of all heads but the local variables
  pub simple : Assignment
  -- the simple types of the arguments of families
  pub arguments : Families
  -- whether an object may be one that is to be filled in: a leaf whose head is another metavariable
  pub fills : Bool

-- the modes and simple types of the variables of a context
abbrev pub simple_locals : Context → Locals
simple_locals g = map (λ (e : Mode × PlainType). (e.0, erase e.1)) g

-- Equations of two lists of indices, place by place: what was found on the left, what is wanted on the right.
abbrev pub Pairs : Locals → List SimpleType → List PlainObject → List PlainObject → List Equation → Type 0
Pairs l [] [] [] q = q ≡ []
Pairs l (t ∷ ts) (o ∷ os) (n ∷ ns) q = (p : List Equation) × (q ≡ record { locals = l; left = o; right = n; type = t } ∷ p) × Pairs l ts os ns p
Pairs _ _ _ _ q = ⊥

-- No metavariable is an implicit variable.
abbrev pub NoImplicit : Setting → Type 0
NoImplicit z = (k : ℕ) → z.implicit k ≡ None

-- The setting gives no simple type to a variable.
abbrev pub NoVariables : Setting → Type 0
NoVariables z = (i : ℕ) → z.simple (Var i) ≡ None

-- the type of a head, over a setting and a context
abbrev pub SettingType : Setting → Context → Head → PlainType → Type 0
SettingType z g (Const c) a = z.given c ≡ Some a
SettingType z g (Var i) a = HasVariable g i a
SettingType z g (Meta k) a = z.implicit k ≡ Some a

-- Both sides of each equation have its simple type, over the heads of the setting.
abbrev pub EquationsTyped : Setting → List Equation → Type 0
EquationsTyped z q = TypedEquations (λ c. z.simple (Const c)) (λ m. z.simple (Meta m)) q
