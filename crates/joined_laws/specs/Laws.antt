-- Laws of joined trees under renaming and substitution, as statements; the functions of the crate's `laws` state them.
use Rattle.std.specs.Prelude.{ℕ, ◌≡◌, Bool, true, List, length}
use Rattle.clf_syntax.specs.declared.tree.Mode.{Mode}
use Rattle.clf_syntax.specs.Tree.{PlainObject, PlainExpression, PlainTuple}
use Rattle.clf_syntax.specs.TypeTree.{PlainType, PlainTelescope, PlainKind, SimpleType, SimpleTelescope}
use Rattle.clf_syntax.specs.Simple.{erase, erase_telescope, Assignment, extended, extended_by, extended_over, simple_modes, no_holes, SimplyTypedWith, ExpressionSimplyTypedWith, EachSimplyTypedWith, SimplyFormedWith, TelescopeSimplyFormedWith, KindSimplyFormedWith, SimplyTyped, SimplyTypedExpression, SimplyTypedEach, Families, SimplyFormed, SimplyFormedTelescope, SimplyFormedKind}
use Rattle.clf_syntax.specs.Renaming.{Renumbering, ren, ren_expression, ren_objects, ren_type, ren_telescope, ren_kind}
use Rattle.hered_subst.specs.Substitution.{Environment, under, single, putting, objects, Substituted, SubstitutedExpression, SubstitutedEach, SubstitutedType, SubstitutedTelescope, SubstitutedKind}
use Rattle.hered_subst.specs.TypedEnvironments.{TypedEnvironment}
use Rattle.hered_subst.specs.Laws.{inserted}
use Rattle.trace_equal.specs.Exchange.{Joined, JoinedExpression, JoinedTuple, JoinedEach}
use Rattle.subst_laws.specs.Environments.{Instantiation, instant}
use Rattle.joined_laws.specs.Environments.{JoinedEnvironment, JoinedInstantiation}
use Rattle.joined_laws.specs.JoinedTypes.{JoinedType, JoinedTelescope, JoinedKind}

abbrev pub IsEquivalence : (A : Type 0) → (A → A → Type 0) → Type 0
IsEquivalence A R = ((a : A) → R a a) × ((a b : A) → R a b → R b a) × ((a b c : A) → R a b → R b c → R a c)

-- To be joined is an equivalence of types, telescopes, kinds and lists of objects.
pub record JoinedTypesLaws : Type 0 where
  pub type : IsEquivalence PlainType JoinedType
  pub telescope : IsEquivalence PlainTelescope JoinedTelescope
  pub kind : IsEquivalence PlainKind JoinedKind
  pub each : IsEquivalence (List PlainObject) JoinedEach

-- The renamings of joined trees are joined.
pub record StaysJoined (r : Renumbering) : Type 0 where
  pub object : (o u : PlainObject) → Joined o u → Joined (ren r o) (ren r u)
  pub expression : (e f : PlainExpression) → JoinedExpression e f → JoinedExpression (ren_expression r e) (ren_expression r f)
  pub each : (ns os : List PlainObject) → JoinedEach ns os → JoinedEach (ren_objects r ns) (ren_objects r os)
  pub type : (a b : PlainType) → JoinedType a b → JoinedType (ren_type r a) (ren_type r b)
  pub telescope : (a b : PlainTelescope) → JoinedTelescope a b → JoinedTelescope (ren_telescope r a) (ren_telescope r b)
  pub kind : (k l : PlainKind) → JoinedKind k l → JoinedKind (ren_kind r k) (ren_kind r l)

abbrev pub RenamingKeepsJoined : Type 0
RenamingKeepsJoined = (r : Renumbering) → StaysJoined r

-- Joined trees have the same simple types. Joined types, telescopes and kinds are simply formed alike, and have the same erasure.
pub record TypedAlike (w : Bool) (g : Assignment) (arguments : Families) : Type 0 where
  pub object : (o u : PlainObject) (t : SimpleType) → Joined o u → SimplyTypedWith (no_holes w) g o t → SimplyTypedWith (no_holes w) g u t
  pub expression : (e f : PlainExpression) (s : SimpleTelescope) → JoinedExpression e f → ExpressionSimplyTypedWith (no_holes w) g e s → ExpressionSimplyTypedWith (no_holes w) g f s
  pub each : (ns os : List PlainObject) (ts : List SimpleType) → JoinedEach ns os → EachSimplyTypedWith (no_holes w) g ns ts → EachSimplyTypedWith (no_holes w) g os ts
  pub type : (a b : PlainType) → JoinedType a b → SimplyFormedWith (no_holes w) arguments g a → SimplyFormedWith (no_holes w) arguments g b × (erase b ≡ erase a)
  pub telescope : (s u : PlainTelescope) → JoinedTelescope s u → TelescopeSimplyFormedWith (no_holes w) arguments g s → TelescopeSimplyFormedWith (no_holes w) arguments g u × (erase_telescope u ≡ erase_telescope s)
  pub kind : (k l : PlainKind) → JoinedKind k l → KindSimplyFormedWith (no_holes w) arguments g k → KindSimplyFormedWith (no_holes w) arguments g l

abbrev pub JoinedKeepsTypes : Type 0
JoinedKeepsTypes = (w : Bool) (g : Assignment) (arguments : Families) → TypedAlike w g arguments

-- What s and v make of joined trees is joined.
pub record GivesJoined (arguments : Families) (g : Assignment) (s v : Environment) : Type 0 where
  pub object : (o u x y : PlainObject) (t : SimpleType) → SimplyTyped g o t → Joined o u → Substituted s o x → Substituted v u y → Joined x y
  pub expression : (e f x y : PlainExpression) (t : SimpleTelescope) → SimplyTypedExpression g e t → JoinedExpression e f → SubstitutedExpression s e x → SubstitutedExpression v f y → JoinedExpression x y
  pub each : (ns os xs ys : List PlainObject) (ts : List SimpleType) → SimplyTypedEach g ns ts → JoinedEach ns os → SubstitutedEach s ns xs → SubstitutedEach v os ys → JoinedEach xs ys
  pub type : (a b x y : PlainType) → SimplyFormed arguments g a → JoinedType a b → SubstitutedType s a x → SubstitutedType v b y → JoinedType x y
  pub telescope : (a b x y : PlainTelescope) → SimplyFormedTelescope arguments g a → JoinedTelescope a b → SubstitutedTelescope s a x → SubstitutedTelescope v b y → JoinedTelescope x y
  pub kind : (k l x y : PlainKind) → SimplyFormedKind arguments g k → JoinedKind k l → SubstitutedKind s k x → SubstitutedKind v l y → JoinedKind x y

-- Joined objects, put for the heads of joined trees, give joined trees.
abbrev pub Respects : Type 0
Respects = (arguments : Families) (g z : Assignment) (s v : Environment) → TypedEnvironment true g z s → TypedEnvironment true g z v → JoinedEnvironment g s v → GivesJoined arguments g s v

-- Joined objects that are put for a variable, and the objects of joined tuples that are put for the variables of a telescope.
abbrev pub JoinedPut : Type 0
JoinedPut = (z : Assignment)
    → ((k : ℕ) (a : SimpleType) (n o : PlainObject) → Joined n o → JoinedEnvironment (inserted k a z) (single n k) (single o k))
    × ((ts : SimpleTelescope) (t u : PlainTuple) → JoinedTuple t u → JoinedEnvironment (extended_by ts z) (putting (objects t)) (putting (objects u)))

-- Under a binder, under the variables of a telescope and under those of a context environments still put joined objects.
abbrev pub JoinedUnder : Type 0
JoinedUnder = (g : Assignment) (s v : Environment) → JoinedEnvironment g s v
    → ((d : SimpleType) → JoinedEnvironment (extended d g) (under 1 s) (under 1 v))
    × ((ts : SimpleTelescope) → JoinedEnvironment (extended_by ts g) (under (length (simple_modes ts)) s) (under (length (simple_modes ts)) v))
    × ((es : List (Mode × PlainType)) → JoinedEnvironment (extended_over es g) (under (length es) s) (under (length es) v))

abbrev pub JoinedInstances : Type 0
JoinedInstances = (g : Assignment) (t v : Instantiation) → JoinedInstantiation g t v → JoinedEnvironment g (instant t) (instant v)
