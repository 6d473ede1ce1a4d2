-- Where solutions came from: from the sides of the given equations.
use Rattle.std.specs.Prelude.{ℕ, ◌≡◌, ◌<◌, ◌⊎◌, Bool, List, length, Some}
use Rattle.clf_syntax.specs.declared.tree.Head.TheVariants.{Meta}
use Rattle.clf_syntax.specs.Tree.{PlainObject, atomic, head_alone}
use Rattle.subst_laws.specs.Environments.{Instantiation, ComposedInstantiation}
use Rattle.pattern_laws.specs.Instantiations.{Types, closed}
use Rattle.pattern_laws.specs.Equations.{Equation, Listed}
use Rattle.pattern_laws.specs.Patterns.{Place, on, lams, local_at, inverted, masked}
use Rattle.reach_laws.specs.Rest.{PartOf, EquationUnder, IsAssignment}

-- The solution is a new metavariable on some of its arguments.
pub record FromPlaces (o : PlainObject) : Type 0 where
  pub number : ℕ
  pub places : List Place
  pub mask : List Bool
  pub solution : o ≡ lams places (atomic (on (masked 0 mask places) (head_alone (Meta number))))

-- The solution is a side, inverted, of a part of a given equation, with the solutions put in that were there before. What s does is what these do and then s.
pub record FromSide (constants metas : Types) (es : List Equation) (s : Instantiation) (o : PlainObject) : Type 0 where
  pub earlier : Instantiation
  pub assigns : IsAssignment constants metas earlier
  pub absorbed : ComposedInstantiation (closed constants metas) earlier s s
  pub equation : Equation
  pub after : Equation
  pub part : Equation
  pub listed : Listed equation es
  pub is_under : EquationUnder earlier equation after
  pub is_part : PartOf constants metas after part
  pub places : List Place
  pub within : (i v : ℕ) → local_at places i ≡ Some v → v < length part.locals
  pub solution : (o ≡ inverted (length part.locals) places part.left) ⊎ (o ≡ inverted (length part.locals) places part.right)

-- With all solutions put in, by s, the object is a side, inverted, of a part of a given equation with all solutions put in.
pub record MadeOfSide (constants metas : Types) (es : List Equation) (s : Instantiation) (x : PlainObject) : Type 0 where
  pub equation : Equation
  pub after : Equation
  pub part : Equation
  pub listed : Listed equation es
  pub is_under : EquationUnder s equation after
  pub is_part : PartOf constants metas after part
  pub places : List Place
  pub made : (x ≡ inverted (length part.locals) places part.left) ⊎ (x ≡ inverted (length part.locals) places part.right)
