-- Laws of gathering, as statements; the functions of the crate's `laws` state them.
use Rattle.std.specs.Prelude.{ℕ, ◌≡◌, true, false, Option, List, [], length}
use Rattle.clf_syntax.specs.declared.tree.Head.TheVariants.{Const}
use Rattle.clf_syntax.specs.Tree.{PlainObject, PlainNeutral}
use Rattle.clf_syntax.specs.TypeTree.{PlainType, PlainTelescope, PlainKind, SimpleType}
use Rattle.clf_syntax.specs.Simple.{erase, Assignment, extended_over, SimplyTyped, SimplyFormed, SimplyFormedTelescope, SimplyFormedKind, SimplyFormedContext}
use Rattle.use_contexts.specs.Context.{Context}
use Rattle.use_contexts.specs.Holding.{Holding}
use Rattle.hered_subst.specs.Substitution.{Environment, keep, under, Substituted, SubstitutedType, SubstitutedTelescope, SubstitutedKind}
use Rattle.hered_subst.specs.TypedEnvironments.{TypedEnvironment}
use Rattle.clf_sig.specs.Entry.{PlainSignature}
use Rattle.clf_rules.specs.Typing.{HasType}
use Rattle.clf_rules.specs.WellFormed.{WellFormedType, WellFormedTelescope, WellFormedKind, WellFormedSignature}
use Rattle.pattern_laws.specs.Equations.{Equation, SolvesEach}
use Rattle.gathering.specs.Shape.{Shape, IsShapeOf, AreShapesOf, PassesNone, EachPassesNone}
use Rattle.gathering.specs.Setting.{Setting, NoImplicit, NoVariables, EquationsTyped}
use Rattle.gathering.specs.Gather.{Gathers, NeutralGathers}
use Rattle.gathering.specs.Spend.{GathersUnder}
use Rattle.gathering.specs.Conform.{Conforms}
use Rattle.gathering.specs.Complete.{OverSignature, HoldEach, HasNoHole}
use Rattle.gathering.specs.Instances.{InstanceContext, KeepsSignature, KeepsGiven, FormedSetting, FormedKinds, Takes, HasSignature, simples_of, setting_of}
use Rattle.gathering.specs.Items.{TypeGathers, TelescopeGathers, KindGathers}
use Rattle.gathering.specs.Becoming.{BecomeEach, SameHeads}

-- What is gathered of an object is determined, and so are the type and the shape that a neutral synthesizes.
pub record GatheredOnce (z : Setting) (g : Context) (w : List Shape) : Type 0 where
  pub objects : (n : PlainObject) (a : PlainType) (o : Shape) (q p : List Equation) → Gathers z g w n a o q → Gathers z g w n a o p → q ≡ p
  pub neutrals : (n : PlainNeutral) (a b : PlainType) (o v : Shape) (q p : List Equation) → NeutralGathers z g w n a o q → NeutralGathers z g w n b v p
      → (a ≡ b) × (o ≡ v) × (q ≡ p)

abbrev pub GatheringIsOne : Type 0
GatheringIsOne = (z : Setting) → NoImplicit z → (g : Context) (w : List Shape) → GatheredOnce z g w

-- Of what conforms to the erasure of a type something is gathered at that type.
abbrev pub ConformingGathers : Type 0
ConformingGathers = (z : Setting) → FormedSetting z → NoImplicit z → NoVariables z → (g : Context) (w : List Shape) (n : PlainObject) (a : PlainType) (o : Shape)
    → SimplyFormedContext z.arguments z.simple g → SimplyFormed z.arguments (extended_over g z.simple) a → Conforms z w (extended_over g z.simple) n (erase a) o
    → (q : List Equation) × Gathers z g w n a o q

-- What is gathered of an object without holes is simply typed, and so is the object: so a unifier may take the equations.
abbrev pub GatheredIsTyped : Type 0
GatheredIsTyped = (z : Setting) → FormedSetting z → NoImplicit z → NoVariables z → (g : Context) (w : List Shape) (n : PlainObject) (a : PlainType) (o : Shape) (q : List Equation)
    → SimplyFormedContext z.arguments z.simple g → SimplyFormed z.arguments (extended_over g z.simple) a → HasNoHole n → Gathers z g w n a o q
    → EquationsTyped z q × SimplyTyped (extended_over g z.simple) n (erase a)

-- What has a type over a signature conforms to its erasure, whatever is passed over.
abbrev pub TypedConforms : Type 0
TypedConforms = (sig : PlainSignature) (z : Setting) → HasSignature sig z → (g : Context) (w : List Shape) (h : Holding) (n : PlainObject) (a : PlainType) (o : Shape)
    → AreShapesOf w g → IsShapeOf o (erase a) → HasType sig g h n a → Conforms z w (extended_over g z.simple) n (erase a) o

-- A type a in a context g with what an environment makes of both.
pub record Instance (z : Setting) (s : Environment) (front g h : Context) (a b : PlainType) : Type 0 where
  pub context : InstanceContext s front g h
  pub formed_context : SimplyFormedContext z.arguments z.simple g
  pub formed : SimplyFormed z.arguments (extended_over g z.simple) a
  pub type : SubstitutedType (under (length g) s) a b

-- Where the instance of an object has the instance of a type, the environment solves what is gathered of the object at the type, and the object is simply typed.
abbrev pub InstanceSolves : Type 0
InstanceSolves = (sig : PlainSignature) (z : Setting) (front : Context) (y : Assignment) (s : Environment) → Takes sig z front y s
    → (g h : Context) (a b : PlainType) → Instance z s front g h a b
    → (w : List Shape) (k : Holding) (n x : PlainObject) (o : Shape) (q : List Equation) → Substituted (under (length g) s) n x → HasType sig h k x b
    → Gathers z g w n a o q → SolvesEach s q × SimplyTyped (extended_over g z.simple) n (erase a)

-- Each typed instance of an object that conforms gathers, under its holding, and solves the equations gathered.
abbrev pub TypedInstanceGathers : Type 0
TypedInstanceGathers = (sig : PlainSignature) (z : Setting) (y : Assignment) (s : Environment) → Takes sig z [] y s → KeepsGiven z s → NoVariables z
    → (g h : Context) (a b : PlainType) → Instance z s [] g h a b
    → (w : List Shape) (k : Holding) (n x : PlainObject) (o : Shape) → Conforms z w (extended_over g z.simple) n (erase a) o
    → Substituted (under (length g) s) n x → HasType sig h k x b
    → (q : List Equation) × GathersUnder z g w k n a o q × SolvesEach s q

-- Where nothing is passed over, to be filled in or a hole, gathering of equations that hold is typing.
abbrev pub GatheringTypes : Type 0
GatheringTypes = (sig : PlainSignature) (z : Setting) → OverSignature sig z → NoImplicit z → z.fills ≡ false → ((a : PlainType) → PassesNone (z.shape a))
    → (g : Context) (w : List Shape) (k : Holding) (n : PlainObject) (a : PlainType) (o : Shape) (q : List Equation) → EachPassesNone w → PassesNone o → HasNoHole n
    → GathersUnder z g w k n a o q → HoldEach q → HasType sig g k n a

-- Gathering is kept by instantiation: of an instance of an object the instances of its equations are gathered, at the instance of its type.
abbrev pub GatheringIsKept : Type 0
GatheringIsKept = (z y : Setting) (s : Environment) → SameHeads z y s → FormedSetting z → NoImplicit z
    → (g h : Context) (a b : PlainType) → Instance z s [] g h a b
    → (w : List Shape) (n x : PlainObject) (o : Shape) (q : List Equation) → Substituted (under (length g) s) n x → HasNoHole n → Gathers z g w n a o q
    → (p : List Equation) × Gathers y h w x b o p × BecomeEach s q p

-- Where the instance of a type, telescope or kind is well formed, the environment solves what is gathered of it, and it is simply formed.
pub record FormedInstanceSolves (sig : PlainSignature) (z : Setting) (s : Environment) (g h : Context) (w : List Shape) (q : List Equation) : Type 0 where
  pub types : (a b : PlainType) → SubstitutedType (under (length g) s) a b → WellFormedType sig h b → TypeGathers sig z g w a q
      → SolvesEach s q × SimplyFormed z.arguments (extended_over g z.simple) a
  pub telescopes : (a b : PlainTelescope) → SubstitutedTelescope (under (length g) s) a b → WellFormedTelescope sig h b → TelescopeGathers sig z g w a q
      → SolvesEach s q × SimplyFormedTelescope z.arguments (extended_over g z.simple) a
  pub kinds : (k l : PlainKind) → SubstitutedKind (under (length g) s) k l → WellFormedKind sig h l → KindGathers sig z g w k q
      → SolvesEach s q × SimplyFormedKind z.arguments (extended_over g z.simple) k

abbrev pub WellFormedSolves : Type 0
WellFormedSolves = (sig : PlainSignature) (z : Setting) (front : Context) (y : Assignment) (s : Environment) → Takes sig z front y s → KeepsSignature sig s → FormedKinds sig z
    → (g h : Context) (w : List Shape) (q : List Equation) → InstanceContext s front g h → SimplyFormedContext z.arguments z.simple g → FormedInstanceSolves sig z s g h w q

-- What the setting of a signature is.
pub record IsSettingOf (sig : PlainSignature) (metas : ℕ → Option SimpleType) : Type 0 where
  pub has : HasSignature sig (setting_of sig metas)
  pub formed : FormedSetting (setting_of sig metas)
  pub kinds : FormedKinds sig (setting_of sig metas)
  pub no_variables : NoVariables (setting_of sig metas)
  pub takes : (y : Assignment) (s : Environment) → ((c : ℕ) → s (Const c) ≡ keep (Const c)) → TypedEnvironment true (simples_of sig metas) y s → Takes sig (setting_of sig metas) [] y s

-- The setting of a well-formed signature meets what the laws of gathering ask, and so does each environment that keeps constants and gives the metavariables
-- objects of their simple types.
abbrev pub SettingOfSignature : Type 0
SettingOfSignature = (sig : PlainSignature) (metas : ℕ → Option SimpleType) → WellFormedSignature sig → IsSettingOf sig metas
