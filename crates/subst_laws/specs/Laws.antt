-- Laws of substitution and instantiation over simply typed trees, as statements; the functions of the crate's `laws` state them.
use Rattle.std.specs.Prelude.{ℕ, ◌+◌, ◌≡◌, ◌<◌, ◌≤◌, Bool, true, List, length, Some}
use Rattle.clf_syntax.specs.declared.tree.Mode.{Mode}
use Rattle.clf_syntax.specs.declared.tree.Head.{Head}
use Rattle.clf_syntax.specs.Tree.{PlainObject, PlainNeutral, PlainExpression}
use Rattle.clf_syntax.specs.TypeTree.{PlainType, PlainTelescope, PlainKind, SimpleType, SimpleTelescope}
use Rattle.clf_syntax.specs.Simple.{erase, erase_telescope, Allowance, Assignment, extended, extended_by, extended_over, simple_modes, no_holes, SimplyTypedWith, NeutralSimplyTypedWith, ExpressionSimplyTypedWith, SimplyTyped, SimplyTypedExpression, SimplyTypedEach, Families, SimplyFormed, SimplyFormedTelescope, SimplyFormedKind}
use Rattle.clf_syntax.specs.Renaming.{Renumbering, ren, ren_head, ren_expression, ren_type, ren_telescope, ren_kind, raise}
use Rattle.hered_subst.specs.Substitution.{keep, Environment, under, single, Substituted, SubstitutedExpression, SubstitutedEach, SubstitutedType, SubstitutedTelescope, SubstitutedKind}
use Rattle.hered_subst.specs.TypedEnvironments.{TypedEnvironment}
use Rattle.hered_subst.specs.Laws.{Fits, inserted}
use Rattle.subst_laws.specs.Environments.{Composed, GoesOver, Instantiation, instant, TypedInstantiation, ComposedInstantiation}

-- A tree is simply typed exactly as its renaming is, where the assignments agree.
abbrev pub RenamingKeepsTypes : Type 0
RenamingKeepsTypes = (w : Bool) (g z : Assignment) (r : Renumbering) → ((h : Head) → z (ren_head r h) ≡ g h)
    → ((o : PlainObject) (t : SimpleType) → (SimplyTypedWith (no_holes w) g o t → SimplyTypedWith (no_holes w) z (ren r o) t) × (SimplyTypedWith (no_holes w) z (ren r o) t → SimplyTypedWith (no_holes w) g o t))
    × ((e : PlainExpression) (s : SimpleTelescope) → (ExpressionSimplyTypedWith (no_holes w) g e s → ExpressionSimplyTypedWith (no_holes w) z (ren_expression r e) s) × (ExpressionSimplyTypedWith (no_holes w) z (ren_expression r e) s → ExpressionSimplyTypedWith (no_holes w) g e s))

-- Types, telescopes and kinds are simply formed exactly as their renamings are, where the assignments agree, and a renaming keeps the erasure.
abbrev pub RenamingKeepsFormed : Type 0
RenamingKeepsFormed = (arguments : Families) (g z : Assignment) (r : Renumbering) → ((h : Head) → z (ren_head r h) ≡ g h)
    → ((a : PlainType) → (SimplyFormed arguments g a → SimplyFormed arguments z (ren_type r a)) × (SimplyFormed arguments z (ren_type r a) → SimplyFormed arguments g a) × (erase (ren_type r a) ≡ erase a))
    × ((s : PlainTelescope) → (SimplyFormedTelescope arguments g s → SimplyFormedTelescope arguments z (ren_telescope r s)) × (SimplyFormedTelescope arguments z (ren_telescope r s) → SimplyFormedTelescope arguments g s) × (erase_telescope (ren_telescope r s) ≡ erase_telescope s))
    × ((k : PlainKind) → (SimplyFormedKind arguments g k → SimplyFormedKind arguments z (ren_kind r k)) × (SimplyFormedKind arguments z (ren_kind r k) → SimplyFormedKind arguments g k))

-- A neutral has one simple type, whatever is allowed.
abbrev pub NeutralHasOneType : Type 0
NeutralHasOneType = (w : Allowance) (g : Assignment) (n : PlainNeutral) (t u : SimpleType) → NeutralSimplyTypedWith w g n t → NeutralSimplyTypedWith w g n u → t ≡ u

-- What v makes of a typed tree is what s and then u make of it.
pub record DoesBoth (arguments : Families) (g : Assignment) (s u v : Environment) : Type 0 where
  pub object : (o x r : PlainObject) (t : SimpleType) → SimplyTyped g o t → Substituted s o x → Substituted u x r → Substituted v o r
  pub expression : (e x r : PlainExpression) (t : SimpleTelescope) → SimplyTypedExpression g e t → SubstitutedExpression s e x → SubstitutedExpression u x r → SubstitutedExpression v e r
  pub each : (ns xs rs : List PlainObject) (ts : List SimpleType) → SimplyTypedEach g ns ts → SubstitutedEach s ns xs → SubstitutedEach u xs rs → SubstitutedEach v ns rs
  pub type : (a x r : PlainType) → SimplyFormed arguments g a → SubstitutedType s a x → SubstitutedType u x r → SubstitutedType v a r
  pub telescope : (a x r : PlainTelescope) → SimplyFormedTelescope arguments g a → SubstitutedTelescope s a x → SubstitutedTelescope u x r → SubstitutedTelescope v a r
  pub kind : (k x r : PlainKind) → SimplyFormedKind arguments g k → SubstitutedKind s k x → SubstitutedKind u x r → SubstitutedKind v k r

-- Two typed substitutions in turn are one.
abbrev pub Composition : Type 0
Composition = (arguments : Families) (g z y : Assignment) (s u v : Environment) → TypedEnvironment true g z s → TypedEnvironment true z y u → Composed g s u v → DoesBoth arguments g s u v

-- What a typed environment does and then another is typed, where one environment does both.
abbrev pub ComposedIsTyped : Type 0
ComposedIsTyped = (g z y : Assignment) (s u v : Environment) → TypedEnvironment true g z s → TypedEnvironment true z y u → Composed g s u v → TypedEnvironment true g y v

-- v makes of a typed tree what s makes of it.
pub record GivesSame (arguments : Families) (g : Assignment) (s v : Environment) : Type 0 where
  pub object : (o x : PlainObject) (t : SimpleType) → SimplyTyped g o t → Substituted s o x → Substituted v o x
  pub expression : (e x : PlainExpression) (t : SimpleTelescope) → SimplyTypedExpression g e t → SubstitutedExpression s e x → SubstitutedExpression v e x
  pub each : (ns xs : List PlainObject) (ts : List SimpleType) → SimplyTypedEach g ns ts → SubstitutedEach s ns xs → SubstitutedEach v ns xs
  pub type : (a x : PlainType) → SimplyFormed arguments g a → SubstitutedType s a x → SubstitutedType v a x
  pub telescope : (a x : PlainTelescope) → SimplyFormedTelescope arguments g a → SubstitutedTelescope s a x → SubstitutedTelescope v a x
  pub kind : (k x : PlainKind) → SimplyFormedKind arguments g k → SubstitutedKind s k x → SubstitutedKind v k x

-- Environments that are the same at each head with a type give the same.
abbrev pub Agreement : Type 0
Agreement = (arguments : Families) (g z : Assignment) (s v : Environment) → TypedEnvironment true g z s → ((h : Head) (t : SimpleType) → g h ≡ Some t → v h ≡ s h) → GivesSame arguments g s v

-- s leaves each typed tree as it is.
pub record KeepsTrees (arguments : Families) (g : Assignment) (s : Environment) : Type 0 where
  pub object : (o : PlainObject) (t : SimpleType) → SimplyTyped g o t → Substituted s o o
  pub expression : (e : PlainExpression) (t : SimpleTelescope) → SimplyTypedExpression g e t → SubstitutedExpression s e e
  pub each : (ns : List PlainObject) (ts : List SimpleType) → SimplyTypedEach g ns ts → SubstitutedEach s ns ns
  pub type : (a : PlainType) → SimplyFormed arguments g a → SubstitutedType s a a
  pub telescope : (a : PlainTelescope) → SimplyFormedTelescope arguments g a → SubstitutedTelescope s a a
  pub kind : (k : PlainKind) → SimplyFormedKind arguments g k → SubstitutedKind s k k

-- A tree stays where each head with a type is kept: so a tree without metavariables stays under an instantiation.
abbrev pub Unmoved : Type 0
Unmoved = (arguments : Families) (g : Assignment) (s : Environment) → ((h : Head) (t : SimpleType) → g h ≡ Some t → s h ≡ keep h) → KeepsTrees arguments g s

-- The square of four trees: o; p, with n put for variable k in o; q, which v makes of o; and r.
-- That s makes r of p, and that i put for k in q gives r, are the same.
pub record Commutes (arguments : Families) (g : Assignment) (k : ℕ) (s v : Environment) (n i : PlainObject) : Type 0 where
  pub object : (o p q r : PlainObject) (t : SimpleType) → SimplyTyped g o t → Substituted (single n k) o p → Substituted v o q
      → (Substituted s p r → Substituted (single i k) q r) × (Substituted (single i k) q r → Substituted s p r)
  pub expression : (o p q r : PlainExpression) (t : SimpleTelescope) → SimplyTypedExpression g o t → SubstitutedExpression (single n k) o p → SubstitutedExpression v o q
      → (SubstitutedExpression s p r → SubstitutedExpression (single i k) q r) × (SubstitutedExpression (single i k) q r → SubstitutedExpression s p r)
  pub type : (o p q r : PlainType) → SimplyFormed arguments g o → SubstitutedType (single n k) o p → SubstitutedType v o q
      → (SubstitutedType s p r → SubstitutedType (single i k) q r) × (SubstitutedType (single i k) q r → SubstitutedType s p r)
  pub telescope : (o p q r : PlainTelescope) → SimplyFormedTelescope arguments g o → SubstitutedTelescope (single n k) o p → SubstitutedTelescope v o q
      → (SubstitutedTelescope s p r → SubstitutedTelescope (single i k) q r) × (SubstitutedTelescope (single i k) q r → SubstitutedTelescope s p r)
  pub kind : (o p q r : PlainKind) → SimplyFormedKind arguments g o → SubstitutedKind (single n k) o p → SubstitutedKind v o q
      → (SubstitutedKind s p r → SubstitutedKind (single i k) q r) × (SubstitutedKind (single i k) q r → SubstitutedKind s p r)

-- An environment and the one that goes over it commute with the substitution of an object n for the new variable, where i is what the environment makes of n.
abbrev pub PutCommutes : Type 0
PutCommutes = (arguments : Families) (g z : Assignment) (k : ℕ) (a : SimpleType) (s v : Environment) → TypedEnvironment true g z s → GoesOver k s v
    → (n i : PlainObject) → SimplyTyped g n a → Substituted s n i → Commutes arguments (inserted k a g) k s v n i

-- The environment under n + 1 binders goes over that under n, for each of the n newest variables and the one next to them.
abbrev pub UnderGoesOver : Type 0
UnderGoesOver = (s : Environment) (n k : ℕ) → k ≤ n → GoesOver k (under n s) (under (n + 1) s)

-- So it is with objects put for variables: that for a variable from k on goes over, renumbered.
abbrev pub SingleGoesOver : Type 0
SingleGoesOver = (n : PlainObject) (j k : ℕ) → k ≤ j → GoesOver k (single n j) (single (ren (raise 1 k) n) (j + 1))

-- The environment that goes over keeps simple types too.
abbrev pub GoesOverIsTyped : Type 0
GoesOverIsTyped = (g z : Assignment) (k : ℕ) (a : SimpleType) (s v : Environment) → TypedEnvironment true g z s → GoesOver k s v → TypedEnvironment true (inserted k a g) (inserted k a z) v

-- Under a binder, and under the variables of a telescope, one environment still does what two do in turn.
abbrev pub UnderBinders : Type 0
UnderBinders = (g : Assignment) (s u v : Environment) → Composed g s u v
    → ((d : SimpleType) → Composed (extended d g) (under 1 s) (under 1 u) (under 1 v))
    × ((ts : SimpleTelescope) → Composed (extended_by ts g) (under (length (simple_modes ts)) s) (under (length (simple_modes ts)) u) (under (length (simple_modes ts)) v))

-- Under the variables of a context, the newest first, environments stay typed, and one still does what two do in turn.
abbrev pub UnderContext : Type 0
UnderContext = (es : List (Mode × PlainType))
    → ((g z : Assignment) (s : Environment) → TypedEnvironment true g z s → TypedEnvironment true (extended_over es g) (extended_over es z) (under (length es) s))
    × ((g : Assignment) (s u v : Environment) → Composed g s u v → Composed (extended_over es g) (under (length es) s) (under (length es) u) (under (length es) v))

-- A renaming of n locals to l locals that leaves the variables before them in order commutes with each environment under the locals.
abbrev pub UnderRenames : Type 0
UnderRenames = (s : Environment) (n l : ℕ) (r : Renumbering) → ((i : ℕ) → i < n → r i < l) → ((i : ℕ) → r (i + n) ≡ i + l) → Fits r r (under n s) (under l s)

-- An inserted variable that is the newest is a new variable, and under a binder it is the next one.
abbrev pub InsertedUnder : Type 0
InsertedUnder = (a d : SimpleType) (z : Assignment) → (inserted 0 a z ≡ extended a z) × ((k : ℕ) → inserted (k + 1) a (extended d z) ≡ extended d (inserted k a z))

-- Instantiations as environments.
abbrev pub InstantIsEnvironment : Type 0
InstantIsEnvironment = (g : Assignment)
    → ((z : Assignment) (t : Instantiation) → TypedInstantiation g z t → TypedEnvironment true g z (instant t))
    × ((t u v : Instantiation) → ComposedInstantiation g t u v → Composed g (instant t) (instant u) (instant v))

-- Two typed instantiations in turn are one, which is typed.
abbrev pub InstancesOfInstances : Type 0
InstancesOfInstances = (g z y : Assignment) (t u : Instantiation) → TypedInstantiation g z t → TypedInstantiation z y u
    → (v : Instantiation) × ComposedInstantiation g t u v × TypedInstantiation g y v
