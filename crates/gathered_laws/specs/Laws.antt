-- Laws of gathered items, as statements; the functions of the crate's `laws` state them.
use Rattle.std.specs.Prelude.{ℕ, ◌≡◌, true, List, map}
use Rattle.std.specs.List.{All, slice_get}
use Rattle.clf_syntax.specs.declared.tree.Head.{Head}
use Rattle.clf_syntax.specs.TypeTree.{PlainType, PlainTelescope, PlainKind, SimpleType}
use Rattle.clf_syntax.specs.Simple.{Assignment, Families, extended_over, SimplyFormed, SimplyFormedTelescope, SimplyFormedKind, SimplyFormedContext}
use Rattle.use_contexts.specs.Context.{Context}
use Rattle.hered_subst.specs.Substitution.{Environment}
use Rattle.hered_subst.specs.TypedEnvironments.{TypedEnvironment}
use Rattle.clf_sig.specs.Entry.{PlainSignature}
use Rattle.clf_sig.specs.Core.{PlainCore}
use Rattle.clf_rules.specs.WellFormed.{WellFormedSignature}
use Rattle.typing_laws.specs.SimpleTyping.{families_of}
use Rattle.store_laws.specs.Additions.{new}
use Rattle.pattern_laws.specs.Instantiations.{Types, closed}
use Rattle.pattern_laws.specs.Equations.{Equation, TypedEquations}
use Rattle.pattern_laws.specs.Patterns.{HasFinalResult}
use Rattle.solver_laws.specs.Solving.{Ready, problem_of}
use Rattle.metavars.specs.Fresh.{Scope, new_types}
use Rattle.gathering.specs.Shape.{Shape}
use Rattle.gathering.specs.Setting.{Setting, NoImplicit, NoVariables, EquationsTyped}
use Rattle.gathering.specs.Instances.{FormedSetting, FormedKinds, HasNoVariables}
use Rattle.gathering.specs.Becoming.{BecomeEach}
use Rattle.gathering.specs.Items.{TypeGathers, TelescopeGathers, KindGathers}
use Rattle.elaboration_laws.specs.ItemSetting.{item_constants, item_setting, ReadTypes}
use Rattle.elaboration_laws.specs.General.{fresh_problem}
use Rattle.celf_sugar.specs.PlainTree.{DesugaredBody}
use Rattle.celf_elaboration.specs.Fillings.{Fillings, AreNew, types_of_new}
use Rattle.celf_elaboration.specs.Names.{ImplicitVariable}
use Rattle.celf_elaboration.specs.Items.{ReadsBody, SubstitutedCore, CoreGathers}
use Rattle.celf_gather.specs.Holes.{TypeHasNoHole, TelescopeHasNoHole, KindHasNoHole, CoreHasNoHole}
use Rattle.gathered_laws.specs.Formed.{CoreIsFormed, store_constants}

-- What is gathered of a type, telescope or kind without holes is simply typed, and this is simply formed.
pub record PartsAreTyped (sig : PlainSignature) (z : Setting) (g : Context) (w : List Shape) (q : List Equation) : Type 0 where
  pub types : (a : PlainType) → TypeHasNoHole a → TypeGathers sig z g w a q → EquationsTyped z q × SimplyFormed z.arguments (extended_over g z.simple) a
  pub telescopes : (s : PlainTelescope) → TelescopeHasNoHole s → TelescopeGathers sig z g w s q → EquationsTyped z q × SimplyFormedTelescope z.arguments (extended_over g z.simple) s
  pub kinds : (k : PlainKind) → KindHasNoHole k → KindGathers sig z g w k q → EquationsTyped z q × SimplyFormedKind z.arguments (extended_over g z.simple) k

abbrev pub GatheredPartsAreTyped : Type 0
GatheredPartsAreTyped = (sig : PlainSignature) (z : Setting) → FormedSetting z → NoImplicit z → NoVariables z → FormedKinds sig z
    → (g : Context) (w : List Shape) (q : List Equation) → SimplyFormedContext z.arguments z.simple g → PartsAreTyped sig z g w q

-- What is gathered of a core without holes over a well-formed signature is typed, and the core is simply formed.
abbrev pub GatheredCoreIsTyped : Type 0
GatheredCoreIsTyped = (sig : PlainSignature) (xs : List PlainType) (metas : Types) → WellFormedSignature sig → ReadTypes sig xs metas → (core : PlainCore) (q : List Equation)
    → CoreHasNoHole core → CoreGathers sig (item_setting sig xs metas) core q
    → TypedEquations (item_constants sig xs) metas q × CoreIsFormed (families_of sig) (closed (item_constants sig xs) metas) core

-- No hole stands in a reading whose fillings are new metavariables.
abbrev pub ReadingHasNoHole : Type 0
ReadingHasNoHole = (sig : PlainSignature) (heads : ℕ → Head) (vs : List ImplicitVariable) (body : DesugaredBody) (fs : Fillings) (core : PlainCore) (k : ℕ)
    → AreNew k fs → ReadsBody sig heads vs body fs core → CoreHasNoHole core

-- The result of a new metavariable is a family or a monad.
abbrev pub NewTypesAreFinal : Type 0
NewTypesAreFinal = ((s : Scope) (t : SimpleType) → All HasFinalResult (new_types s t)) × ((fs : Fillings) → All HasFinalResult (types_of_new fs))

-- No object has a head of the simple type <T>. So it makes no difference that a store has such constants for families.
pub record TypesTheSame (sig : PlainSignature) (xs : List PlainType) (metas : Types) : Type 0 where
  pub equations : (q : List Equation) → (TypedEquations (item_constants sig xs) metas q → TypedEquations (slice_get (store_constants sig xs)) metas q)
      × (TypedEquations (slice_get (store_constants sig xs)) metas q → TypedEquations (item_constants sig xs) metas q)
  pub types : (arguments : Families) (a : PlainType) → (SimplyFormed arguments (closed (item_constants sig xs) metas) a → SimplyFormed arguments (closed (slice_get (store_constants sig xs)) metas) a)
      × (SimplyFormed arguments (closed (slice_get (store_constants sig xs)) metas) a → SimplyFormed arguments (closed (item_constants sig xs) metas) a)
  pub cores : (arguments : Families) (c : PlainCore) → (CoreIsFormed arguments (closed (item_constants sig xs) metas) c → CoreIsFormed arguments (closed (slice_get (store_constants sig xs)) metas) c)
      × (CoreIsFormed arguments (closed (slice_get (store_constants sig xs)) metas) c → CoreIsFormed arguments (closed (item_constants sig xs) metas) c)

abbrev pub StoreTypesTheSame : Type 0
StoreTypesTheSame = (sig : PlainSignature) (xs : List PlainType) (metas : Types) → TypesTheSame sig xs metas

-- Metavariables of these simple types alone make a store, in which equations may be unified that are typed over them.
abbrev pub StartIsStore : Type 0
StartIsStore = (constants ts : List SimpleType) (q : List Equation) → All HasFinalResult ts → TypedEquations (slice_get constants) (slice_get ts) q → Ready constants (map new ts) q

-- The problem of such a store is that in which no metavariable has a solution.
abbrev pub StartIsFresh : Type 0
StartIsFresh = (ts : List SimpleType) (q : List Equation) → problem_of (map new ts) q ≡ fresh_problem (slice_get ts) q

-- What is simply formed over constants and metavariables alone has no variables.
abbrev pub FormedTypeHasNoVariables : Type 0
FormedTypeHasNoVariables = (arguments : Families) (constants metas : Types) (a : PlainType) → SimplyFormed arguments (closed constants metas) a → HasNoVariables a

-- No hole is simply typed.
abbrev pub FormedCoreHasNoHole : Type 0
FormedCoreHasNoHole = (arguments : Families) (g : Assignment) (core : PlainCore) → CoreIsFormed arguments g core → CoreHasNoHole core

-- Under a typed environment a core stays simply formed, and equations stay typed.
abbrev pub CoreStaysFormed : Type 0
CoreStaysFormed = (arguments : Families) (g z : Assignment) (s : Environment) → TypedEnvironment true g z s → (core after : PlainCore) → SubstitutedCore s core after
    → CoreIsFormed arguments g core → CoreIsFormed arguments z after

abbrev pub EquationsStayTyped : Type 0
EquationsStayTyped = (constants metas more grown : Types) (s : Environment) → TypedEnvironment true (closed constants metas) (closed more grown) s → (p q : List Equation) → BecomeEach s p q
    → TypedEquations constants metas p → TypedEquations more grown q
