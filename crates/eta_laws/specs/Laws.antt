-- Laws of eta-long forms, as statements; the functions of the crate's `laws` state them.
use Rattle.std.specs.Prelude.{ℕ, ◌≡◌, Bool, true, false, Some, None}
use Rattle.clf_syntax.specs.declared.tree.Mode.{Mode}
use Rattle.clf_syntax.specs.declared.tree.Head.{Head}
use Rattle.clf_syntax.specs.declared.tree.Head.TheVariants.{Var, Meta}
use Rattle.clf_syntax.specs.Tree.{PlainObject, atomic, PlainNeutral, head_alone, app, PlainExpression, head_of}
use Rattle.clf_syntax.specs.TypeTree.{SimpleType, base, arrow, lax, SimpleTelescope, simple_end}
use Rattle.clf_syntax.specs.Simple.{Assignment, no_holes, SimplyTypedWith, NeutralSimplyTypedWith, SimplyTyped, SimplyTypedNeutral, EtaLong, EtaLongNeutral, EtaLongExpression}
use Rattle.clf_syntax.specs.Renaming.{Renumbering, ren, ren_head, ren_neutral, ren_expression}
use Rattle.hered_subst.specs.Substitution.{Environment, single, Substituted, SubstitutedExpression}
use Rattle.hered_subst.specs.TypedEnvironments.{is_metavariable}
use Rattle.eta_laws.specs.Eta.{eta, expansion, becoming}

-- The eta-long form of a neutral has the neutral's type, and it is eta-long where the neutral is. What is eta-long is simply typed.
abbrev pub EtaIsTyped : Type 0
EtaIsTyped = ((w : Bool) (g : Assignment) (n : PlainNeutral) (t : SimpleType) → NeutralSimplyTypedWith (no_holes w) g n t → SimplyTypedWith (no_holes w) g (eta t n) t)
    × ((g : Assignment) (o : PlainObject) (t : SimpleType) → EtaLong g o t → SimplyTyped g o t)

-- To put the eta-long form of variable j for variable k into an eta-long object is to rename.
abbrev pub EtaRenames : Type 0
EtaRenames = (g z : Assignment) (k j : ℕ) (u : SimpleType) → g (Var k) ≡ Some u → ((h : Head) → z (ren_head (becoming k j) h) ≡ g h)
    → ((o : PlainObject) (t : SimpleType) → EtaLong g o t → Substituted (single (eta u (head_alone (Var j))) k) o (ren (becoming k j) o))
    × ((e : PlainExpression) (s : SimpleTelescope) → EtaLongExpression g e s → SubstitutedExpression (single (eta u (head_alone (Var j))) k) e (ren_expression (becoming k j) e))

-- Where a metavariable stands at a monad it is not so: in `x (?0)`, x a function from the empty monad, the eta-long form of x gives `x {let {} = ?0 in <>}`.
abbrev pub EtaRenamesNoMore : Type 0
EtaRenamesNoMore = (m : Mode) → Substituted (single (eta (arrow m (lax simple_end) (base 0)) (head_alone (Var 0))) 0) (atomic (app m (head_alone (Var 0)) (atomic (head_alone (Meta 0))))) (ren (becoming 0 0) (atomic (app m (head_alone (Var 0)) (atomic (head_alone (Meta 0)))))) → ⊥

-- Where metavariables have no types, what is simply typed is eta-long.
abbrev pub TypedIsEtaLong : Type 0
TypedIsEtaLong = (g : Assignment) → ((m : ℕ) → g (Meta m) ≡ None)
    → ((o : PlainObject) (t : SimpleType) → SimplyTyped g o t → EtaLong g o t) × ((n : PlainNeutral) (t : SimpleType) → SimplyTypedNeutral g n t → EtaLongNeutral g n t)

-- Where a neutral, as an object, becomes an eta-long object, its eta-long form becomes the same: so a metavariable at a monad may be replaced by a step.
abbrev pub EtaExpands : Type 0
EtaExpands = (g : Assignment) (s : Environment) (n : PlainNeutral) (o : PlainObject) (t : SimpleType) → EtaLong g o t → Substituted s (atomic n) o → Substituted s (eta t n) o

-- Renaming the eta-long form of a neutral gives that of the renamed neutral.
abbrev pub EtaCommutes : Type 0
EtaCommutes = (t : SimpleType) (r : Renumbering) (n : PlainNeutral) → ren r (eta t n) ≡ eta t (ren_neutral r n)

-- The form that is written out is the eta-long one where the head is no metavariable, and a metavariable at a monad stays. It has the neutral's type,
-- commutes with renaming, and where the neutral, as an object, becomes an eta-long object, it becomes the same.
pub record ExpansionLaws : Type 0 where
  pub long : (t : SimpleType) (n : PlainNeutral) → is_metavariable (head_of n) ≡ false → expansion t n ≡ eta t n
  pub stays : (ts : SimpleTelescope) (n : PlainNeutral) → is_metavariable (head_of n) ≡ true → expansion (lax ts) n ≡ atomic n
  pub typed : (g : Assignment) (n : PlainNeutral) (t : SimpleType) → SimplyTypedNeutral g n t → SimplyTyped g (expansion t n) t
  pub renamed : (t : SimpleType) (r : Renumbering) (n : PlainNeutral) → ren r (expansion t n) ≡ expansion t (ren_neutral r n)
  pub expands : (g : Assignment) (s : Environment) (n : PlainNeutral) (o : PlainObject) (t : SimpleType) → EtaLong g o t → Substituted s (atomic n) o → Substituted s (expansion t n) o
