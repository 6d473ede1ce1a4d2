-- Simple typing and formation of what the rules type and form. The flag says whether a metavariable may stand at a monad: without that,
-- a simply typed tree is eta-long.
use Rattle.std.specs.Prelude.{map, Bool, None}
use Rattle.std.specs.Option.{option_map}
use Rattle.clf_syntax.specs.declared.tree.Head.TheVariants.{Const, Var, Meta}
use Rattle.clf_syntax.specs.Tree.{PlainObject, PlainNeutral, PlainExpression, PlainTuple}
use Rattle.clf_syntax.specs.TypeTree.{PlainType, PlainTelescope, PlainKind}
use Rattle.clf_syntax.specs.Simple.{erase, erase_telescope, Assignment, extended_over, no_holes, SimplyTypedWith, NeutralSimplyTypedWith, ExpressionSimplyTypedWith, TupleSimplyTypedWith, Families, SimplyFormedWith, TelescopeSimplyFormedWith, KindSimplyFormedWith, SimplyFormed, SimplyFormedContext}
use Rattle.use_contexts.specs.Context.{Context}
use Rattle.use_contexts.specs.Holding.{Holding}
use Rattle.clf_sig.specs.Entry.{PlainSignature, constant_type, family_kind}
use Rattle.clf_rules.specs.Typing.{HasType, Synthesizes, ExpressionHasType, TupleHasType}
use Rattle.clf_rules.specs.WellFormed.{WellFormedType, WellFormedTelescope, WellFormedKind, WellFormedContext, WellFormedSignature}

-- the simple types of the constants of a signature, and with them those of the variables of a context
abbrev pub constants_of : PlainSignature → Assignment
constants_of sig (Const c) = option_map erase (constant_type sig c)
constants_of sig (Var i) = None
constants_of sig (Meta k) = None

abbrev pub simple_of : PlainSignature → Context → Assignment
simple_of sig g = extended_over g (constants_of sig)

-- the simple types of the arguments of each family
abbrev pub families_of : PlainSignature → Families
families_of sig f = option_map (map erase) (family_kind sig f)

-- What is typed has the erasure of its type, as a simple type.
pub record ErasuresType (w : Bool) (sig : PlainSignature) (g : Context) (h : Holding) : Type 0 where
  pub objects : (n : PlainObject) (a : PlainType) → HasType sig g h n a → SimplyTypedWith (no_holes w) (simple_of sig g) n (erase a)
  pub neutrals : (r : PlainNeutral) (a : PlainType) → Synthesizes sig g h r a → NeutralSimplyTypedWith (no_holes w) (simple_of sig g) r (erase a)
  pub expressions : (e : PlainExpression) (s : PlainTelescope) → ExpressionHasType sig g h e s → ExpressionSimplyTypedWith (no_holes w) (simple_of sig g) e (erase_telescope s)
  pub tuples : (t : PlainTuple) (s : PlainTelescope) → TupleHasType sig g h t s → TupleSimplyTypedWith (no_holes w) (simple_of sig g) t (erase_telescope s)

abbrev pub TypedIsSimplyTyped : Type 0
TypedIsSimplyTyped = (w : Bool) (sig : PlainSignature) (g : Context) (h : Holding) → ErasuresType w sig g h

-- What is well formed is simply formed.
pub record IsSimplyFormed (sig : PlainSignature) (g : Context) : Type 0 where
  pub types : (w : Bool) (a : PlainType) → WellFormedType sig g a → SimplyFormedWith (no_holes w) (families_of sig) (simple_of sig g) a
  pub telescopes : (w : Bool) (s : PlainTelescope) → WellFormedTelescope sig g s → TelescopeSimplyFormedWith (no_holes w) (families_of sig) (simple_of sig g) s
  pub kinds : (w : Bool) (k : PlainKind) → WellFormedKind sig g k → KindSimplyFormedWith (no_holes w) (families_of sig) (simple_of sig g) k
  pub context : WellFormedContext sig g → SimplyFormedContext (families_of sig) (constants_of sig) g

abbrev pub WellFormedIsSimplyFormed : Type 0
WellFormedIsSimplyFormed = (sig : PlainSignature) (g : Context) → IsSimplyFormed sig g

-- Over a well-formed signature and in a simply formed context, the type of a neutral is simply formed.
abbrev pub SynthesizedIsSimplyFormed : Type 0
SynthesizedIsSimplyFormed = (sig : PlainSignature) (g : Context) → WellFormedSignature sig → SimplyFormedContext (families_of sig) (constants_of sig) g
    → (h : Holding) (r : PlainNeutral) (a : PlainType) → Synthesizes sig g h r a → SimplyFormed (families_of sig) (simple_of sig g) a
