-- Instances: contexts under an environment, and heads that an environment keeps.
use Rattle.std.specs.Prelude.{ℕ, ◌≡◌, true, false, [], ◌∷◌, length, map, Option, Some, None, option_map}
use Rattle.clf_syntax.specs.declared.tree.Head.{Head}
use Rattle.clf_syntax.specs.declared.tree.Head.TheVariants.{Const, Var, Meta}
use Rattle.clf_syntax.specs.TypeTree.{PlainType, PlainKind, SimpleType}
use Rattle.clf_syntax.specs.Simple.{erase, Assignment, extended_over, SimplyFormed, SimplyFormedKind}
use Rattle.clf_syntax.specs.Renaming.{Renumbering, ren_type}
use Rattle.use_contexts.specs.Context.{Context, HasVariable}
use Rattle.hered_subst.specs.Substitution.{Environment, keep, under, SubstitutedType, SubstitutedKind}
use Rattle.hered_subst.specs.TypedEnvironments.{TypedEnvironment}
use Rattle.clf_sig.specs.Entry.{PlainSignature, constant_type, family_kind}
use Rattle.gathering.specs.Shape.{IsShapeOf, written_shape}
use Rattle.gathering.specs.Setting.{Setting, NoImplicit}

-- A context over a front context becomes another, entry by entry.
abbrev pub InstanceContext : Environment → Context → Context → Context → Type 0
InstanceContext s front [] h = h ≡ front
InstanceContext s front (e ∷ g) (d ∷ h) = (e.0 ≡ d.0) × SubstitutedType (under (length g) s) e.1 d.1 × InstanceContext s front g h
InstanceContext s front (e ∷ g) [] = ⊥

-- the type of a head, over a signature and a context
abbrev pub HeadType : PlainSignature → Context → Head → PlainType → Type 0
HeadType sig g (Const c) a = constant_type sig c ≡ Some a
HeadType sig g (Var i) a = HasVariable g i a
HeadType sig g (Meta k) a = ⊥

-- No renumbering of variables changes the type: it has none.
abbrev pub HasNoVariables : PlainType → Type 0
HasNoVariables a = (r : Renumbering) → ren_type r a ≡ a

-- The constants of the signature have types without variables.
abbrev pub ConstantsAreClosed : PlainSignature → Type 0
ConstantsAreClosed sig = (c : ℕ) (a : PlainType) → constant_type sig c ≡ Some a → HasNoVariables a

-- The environment keeps the constants of the signature.
abbrev pub KeepsSignature : PlainSignature → Environment → Type 0
KeepsSignature sig s = (c : ℕ) (a : PlainType) → constant_type sig c ≡ Some a → s (Const c) ≡ keep (Const c)

-- It keeps the constants that the setting gives.
abbrev pub KeepsGiven : Setting → Environment → Type 0
KeepsGiven z s = (c : ℕ) (a : PlainType) → z.given c ≡ Some a → s (Const c) ≡ keep (Const c)

-- A given head becomes a head again, a constant or a variable of the front context, whose type is what the type of the given one becomes.
pub record FixedHead (sig : PlainSignature) (front : Context) (s : Environment) (c : ℕ) (a : PlainType) : Type 0 where
  pub head : Head
  pub kept : s (Const c) ≡ keep head
  pub carried : (b : PlainType) → HeadType sig front head b → SubstitutedType s a b
  pub closed : HasNoVariables a

abbrev pub FixedHeads : PlainSignature → Setting → Context → Environment → Type 0
FixedHeads sig z front s = (c : ℕ) (a : PlainType) → z.given c ≡ Some a → FixedHead sig front s c a

-- The type of a given head is simply formed without variables, and the setting knows its erasure.
pub record FormedHead (z : Setting) (c : ℕ) (a : PlainType) : Type 0 where
  pub formed : SimplyFormed z.arguments z.simple a
  pub simple : z.simple (Const c) ≡ Some (erase a)
  pub closed : HasNoVariables a

abbrev pub FormedSetting : Setting → Type 0
FormedSetting z = (c : ℕ) (a : PlainType) → z.given c ≡ Some a → FormedHead z c a

-- The arguments of a family have the simple types of its kind, which is simply formed and stays as it is.
pub record FormedKind (sig : PlainSignature) (z : Setting) (f : ℕ) (k : PlainKind) : Type 0 where
  pub arguments : z.arguments f ≡ Some (map erase k)
  pub formed : (g : Context) → SimplyFormedKind z.arguments (extended_over g z.simple) k
  pub stays : (s : Environment) → KeepsSignature sig s → SubstitutedKind s k k

abbrev pub FormedKinds : PlainSignature → Setting → Type 0
FormedKinds sig z = (f : ℕ) (k : PlainKind) → family_kind sig f ≡ Some k → FormedKind sig z f k

-- What gathering takes of an environment s over a front context: given heads become heads over the signature and the front, of the types that theirs
-- become, and the others objects of their simple types. No metavariable is an implicit variable.
pub record Takes (sig : PlainSignature) (z : Setting) (front : Context) (y : Assignment) (s : Environment) : Type 0 where
  pub constants : ConstantsAreClosed sig
  pub fixed : FixedHeads sig z front s
  pub formed : FormedSetting z
  pub no_implicit : NoImplicit z
  pub typed : TypedEnvironment true z.simple y s

-- The setting gives the constants of the signature, with their simple types, and shapes of these.
pub record HasSignature (sig : PlainSignature) (z : Setting) : Type 0 where
  pub given : (c : ℕ) (a : PlainType) → constant_type sig c ≡ Some a → z.given c ≡ Some a
  pub simple : (c : ℕ) (a : PlainType) → constant_type sig c ≡ Some a → z.simple (Const c) ≡ Some (erase a)
  pub shapes : (a : PlainType) → IsShapeOf (z.shape a) (erase a)

-- The setting of a signature, with metavariables of these simple types: at searched places, so that written marks count and nothing is filled in.
abbrev pub simples_of : PlainSignature → (ℕ → Option SimpleType) → Assignment
simples_of sig metas (Const c) = option_map erase (constant_type sig c)
simples_of sig metas (Var i) = None
simples_of sig metas (Meta m) = metas m

abbrev pub setting_of : PlainSignature → (ℕ → Option SimpleType) → Setting
setting_of sig metas = record { given = constant_type sig; implicit = λ k. None; shape = written_shape; simple = simples_of sig metas; arguments = λ f. option_map (map erase) (family_kind sig f); fills = false }
