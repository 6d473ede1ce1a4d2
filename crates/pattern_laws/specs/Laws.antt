-- Laws of metavariables on distinct locals, as statements; the functions of the crate's `laws` state them.
use Rattle.std.specs.Prelude.{ℕ, Bool, true, ◌≡◌, List, [], ◌∷◌, length, Some}
use Rattle.clf_syntax.specs.declared.tree.Mode.{Mode}
use Rattle.clf_syntax.specs.declared.tree.Head.TheVariants.{Const, Var, Meta}
use Rattle.clf_syntax.specs.Tree.{PlainObject, lam, unit, monadic, atomic, head_alone, app, step, done, empty, PlainNeutral}
use Rattle.clf_syntax.specs.TypeTree.{SimpleType, base, arrow, simple_top, lax, simple_end}
use Rattle.clf_syntax.specs.Simple.{Assignment, extended, SimplyTyped}
use Rattle.hered_subst.specs.Substitution.{Substituted}
use Rattle.trace_equal.specs.Exchange.{Joined}
use Rattle.subst_laws.specs.Environments.{instant, Instantiation}
use Rattle.eta_laws.specs.Eta.{eta}
use Rattle.pattern_laws.specs.Instantiations.{Types, closed, Instantiates}
use Rattle.pattern_laws.specs.Equations.{Locals, scoped, Solves}
use Rattle.pattern_laws.specs.Patterns.{IsFinal, Place, on, arrows, local_at, Distinct, Covers, SameTypes, NoForeign, Ends, NoCircle, Ordered, OnDistinct, OnLocals, LacksMisfits, inverted}

-- Two readings of one neutral have the same locals at the same places.
abbrev pub OneReading : Type 0
OneReading = (ps zs : List Place) (m k : ℕ) → SameTypes ps zs → on ps (head_alone (Meta m)) ≡ on zs (head_alone (Meta k)) → (i : ℕ) → local_at ps i ≡ local_at zs i

-- Two lists of places of one metavariable have the same modes and types.
abbrev pub SamePlaces : Type 0
SamePlaces = (ps zs : List Place) (a c : SimpleType) → IsFinal a → IsFinal c → arrows ps a ≡ arrows zs c → SameTypes ps zs × (a ≡ c)

-- A set of places that is closed holds every place from which the way comes to an end.
abbrev pub EndsAreHeld : Type 0
EndsAreHeld = (ps zs : List Place) (held : ℕ → Bool) → Distinct zs
    → ((j v : ℕ) → local_at ps j ≡ Some v → ((i : ℕ) → local_at zs i ≡ Some v → ⊥) → held j ≡ true)
    → ((j i v : ℕ) → local_at ps j ≡ Some v → local_at zs i ≡ Some v → held i ≡ true → held j ≡ true)
    → (j : ℕ) → Ends ps zs j → held j ≡ true

-- Places in the order of binding have no circle.
abbrev pub OrderedHasNoCircle : Type 0
OrderedHasNoCircle = (ps zs : List Place) → SameTypes ps zs → Ordered ps → Ordered zs → NoCircle ps zs

-- Where no foreign local occurs, each variable that occurs stands at a place.
abbrev pub CoversWhereNoForeign : Type 0
CoversWhereNoForeign = (constants metas : Types) (ls : Locals) (ps : List Place) (x : PlainObject) (a : SimpleType) → SimplyTyped (scoped ls (closed constants metas)) x a → NoForeign (length ls) ps 0 x → Covers ps x
