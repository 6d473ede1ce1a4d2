-- Laws of unification, as statements; the functions of the crate's `laws` state them.
use Rattle.std.specs.Prelude.{ℕ, suc, Bool, true, false, ◌+◌, ◌≡◌, ◌<◌, ◌⊎◌, List, [], ◌∷◌, length, Some, None}
use Rattle.clf_syntax.specs.declared.tree.Mode.{Mode}
use Rattle.clf_syntax.specs.declared.tree.Head.TheVariants.{Var}
use Rattle.clf_syntax.specs.Tree.{PlainObject, lam, pair, atomic, PlainNeutral, head_of}
use Rattle.clf_syntax.specs.TypeTree.{SimpleType}
use Rattle.clf_syntax.specs.Simple.{SimplyTyped}
use Rattle.hered_subst.specs.TypedEnvironments.{is_metavariable}
use Rattle.trace_equal.specs.Exchange.{Joined}
use Rattle.subst_laws.specs.Environments.{Instantiation, instant}
use Rattle.store_laws.specs.Additions.{set}
use Rattle.pattern_laws.specs.Instantiations.{Types, closed, Instantiates, Instantiated}
use Rattle.pattern_laws.specs.Equations.{Locals, scoped, Equation, Solves, TypedEquation}
use Rattle.pattern_laws.specs.Patterns.{IsFinal, functions, Place, arrows, local_at, OnDistinct, OnLocals, LacksMisfits, Covers, inverted, SameTypes, Foreign, Ends, mask_at}
use Rattle.unify_laws.specs.Problems.{Problem, KeepsSolutions, HasNone, WellTyped, Consequence}
use Rattle.unify_laws.specs.Parts.{SameShape, PartAt}
use Rattle.unify_laws.specs.Rigid.{Stands, StandsBelow}
use Rattle.unify_laws.specs.Narrowing.{narrowed_by}
use Rattle.unify_laws.specs.Progress.{Progress}
use Rattle.unify_laws.specs.Weight.{weight}

-- A metavariable on distinct locals is given the other side, inverted: exactly the solutions are kept.
abbrev pub AssignKeeps : Type 0
AssignKeeps = (constants metas : Types) (given : Instantiation) (es : List Equation) (ls : Locals) (r : PlainNeutral) (m : ℕ) (ps qs : List Place) (a : SimpleType) (x : PlainObject)
    → Consequence constants (record { metas = metas; given = given; equations = es }) (record { locals = ls; left = atomic r; right = x; type = a })
    → OnLocals (scoped ls (closed constants metas)) r m ps qs a → LacksMisfits ps qs x → given m ≡ None
    → KeepsSolutions constants (record { metas = metas; given = given; equations = es }) (record { metas = metas; given = set m (inverted (length ls) ps x) given; equations = es })

-- After it the equation holds by the solutions alone, where each variable of the other side stands at a place.
abbrev pub AssignSettles : Type 0
AssignSettles = (constants metas : Types) (given : Instantiation) (ls : Locals) (r : PlainNeutral) (m : ℕ) (ps qs : List Place) (a : SimpleType) (x : PlainObject)
    → OnLocals (scoped ls (closed constants metas)) r m ps qs a → SimplyTyped (scoped ls (closed constants metas)) x a → LacksMisfits ps qs x → Covers ps x
    → Consequence constants (record { metas = metas; given = set m (inverted (length ls) ps x) given; equations = [] }) (record { locals = ls; left = atomic r; right = x; type = a })

-- Foreign locals are taken from a metavariable on distinct locals at a rigid place: exactly the solutions are kept.
abbrev pub PruneKeeps : Type 0
PruneKeeps = (constants metas : Types) (given : Instantiation) (es : List Equation) (ls : Locals) (r : PlainNeutral) (m : ℕ) (ps qs : List Place) (a : SimpleType) (x : PlainObject)
    → Consequence constants (record { metas = metas; given = given; equations = es }) (record { locals = ls; left = atomic r; right = x; type = a })
    → WellTyped constants (record { metas = metas; given = given; equations = es })
    → OnLocals (scoped ls (closed constants metas)) r m ps qs a → LacksMisfits ps qs x
    → (inner : Locals) (n : ℕ) (q : PlainNeutral) (k k' : ℕ) (zs : List Place) (c : SimpleType) (bs : List Bool)
    → length inner ≡ length ls + n → OnDistinct (scoped inner (closed constants metas)) q k zs c → Stands n q x
    → given k ≡ None → metas k' ≡ None
    → ((u w : ℕ) → local_at zs u ≡ Some w → Foreign (length ls) ps n w ⊎ (mask_at bs u ≡ true))
    → KeepsSolutions constants (record { metas = metas; given = given; equations = es })
    (narrowed_by metas given es k k' bs zs c)

-- The same metavariable on distinct locals on both sides: arguments from which the way comes to an end are taken from it.
abbrev pub SameKeeps : Type 0
SameKeeps = (constants metas : Types) (given : Instantiation) (es : List Equation) (ls : Locals) (r r' : PlainNeutral) (m : ℕ) (ps qs zs ws : List Place) (a : SimpleType)
    → Consequence constants (record { metas = metas; given = given; equations = es }) (record { locals = ls; left = atomic r; right = atomic r'; type = a })
    → WellTyped constants (record { metas = metas; given = given; equations = es })
    → OnLocals (scoped ls (closed constants metas)) r m ps qs a → OnLocals (scoped ls (closed constants metas)) r' m zs ws a → LacksMisfits ps qs (atomic r') → LacksMisfits zs ws (atomic r) → SameTypes ps zs
    → (m' : ℕ) (bs : List Bool) → given m ≡ None → metas m' ≡ None
    → ((u w : ℕ) → local_at ps u ≡ Some w → Ends ps zs u ⊎ (mask_at bs u ≡ true))
    → KeepsSolutions constants (record { metas = metas; given = given; equations = es })
    (narrowed_by metas given es m m' bs ps a)

-- A foreign local that is a head at a rigid place leaves no solution.
abbrev pub HeadClashes : Type 0
HeadClashes = (constants metas : Types) (given : Instantiation) (es : List Equation) (ls : Locals) (r : PlainNeutral) (m : ℕ) (ps qs : List Place) (a : SimpleType) (x : PlainObject)
    → Consequence constants (record { metas = metas; given = given; equations = es }) (record { locals = ls; left = atomic r; right = x; type = a })
    → OnLocals (scoped ls (closed constants metas)) r m ps qs a → LacksMisfits ps qs x → (n : ℕ) (q : PlainNeutral) (w : ℕ) → Stands n q x → head_of q ≡ Var w → Foreign (length ls) ps n w
    → HasNone constants (record { metas = metas; given = given; equations = es })

-- The metavariable itself, on distinct locals at a rigid place below another head, leaves no solution.
abbrev pub InsideClashes : Type 0
InsideClashes = (constants metas : Types) (given : Instantiation) (es : List Equation) (ls : Locals) (r : PlainNeutral) (m : ℕ) (ps qs : List Place) (a : SimpleType) (q0 : PlainNeutral)
    → Consequence constants (record { metas = metas; given = given; equations = es }) (record { locals = ls; left = atomic r; right = atomic q0; type = a })
    → OnLocals (scoped ls (closed constants metas)) r m ps qs a → LacksMisfits ps qs (atomic q0)
    → (inner : Locals) (n : ℕ) (q : PlainNeutral) (zs : List Place) → length inner ≡ length ls + n → OnDistinct (scoped inner (closed constants metas)) q m zs a → SameTypes ps zs
    → is_metavariable (head_of q0) ≡ false → StandsBelow n q q0
    → HasNone constants (record { metas = metas; given = given; equations = es })

-- Other heads or shapes leave no solution.
abbrev pub NeutralsClash : Type 0
NeutralsClash = (constants : Types) (p : Problem) (ls : Locals) (r n : PlainNeutral) (a : SimpleType) → is_metavariable (head_of r) ≡ false → is_metavariable (head_of n) ≡ false → (SameShape r n → ⊥)
    → Consequence constants p (record { locals = ls; left = atomic r; right = atomic n; type = a }) → HasNone constants p

-- Sides without metavariables that are not joined are solved by no instantiation.
abbrev pub GroundClashes : Type 0
GroundClashes = (constants : Types) (t : Instantiation) (ls : Locals) (o u : PlainObject) (a : SimpleType) → SimplyTyped (scoped ls (closed constants (λ m. None))) o a → SimplyTyped (scoped ls (closed constants (λ m. None))) u a
    → (Joined o u → ⊥) → Solves (instant t) (record { locals = ls; left = o; right = u; type = a }) → ⊥

-- What comes of a problem without solutions had none.
abbrev pub NoneBack : Type 0
NoneBack = (constants : Types) (p q : Problem) → KeepsSolutions constants p q → HasNone constants q → HasNone constants p

-- The bodies of equal lambdas are equal.
abbrev pub LamsFollow : Type 0
LamsFollow = (constants : Types) (p : Problem) (ls : Locals) (d : SimpleType) (m : Mode) (b c : PlainObject) (a e : SimpleType) → Consequence constants p (record { locals = ls; left = lam m b; right = lam m c; type = a })
    → Consequence constants p (record { locals = (m, d) ∷ ls; left = b; right = c; type = e })

-- The parts of equal pairs are equal.
abbrev pub PairsFollow : Type 0
PairsFollow = (constants : Types) (p : Problem) (ls : Locals) (l k r s : PlainObject) (a c d : SimpleType) → Consequence constants p (record { locals = ls; left = pair l r; right = pair k s; type = a })
    → Consequence constants p (record { locals = ls; left = l; right = k; type = c }) × Consequence constants p (record { locals = ls; left = r; right = s; type = d })

-- The arguments of equal neutrals of one shape are equal.
abbrev pub PartsFollow : Type 0
PartsFollow = (constants : Types) (p : Problem) (ls : Locals) (r n : PlainNeutral) (a : SimpleType) → SameShape r n → (o u : PlainObject) (c : SimpleType) → PartAt (scoped ls (closed constants p.metas)) o u c r n
    → Consequence constants p (record { locals = ls; left = atomic r; right = atomic n; type = a }) → Consequence constants p (record { locals = ls; left = o; right = u; type = c })

-- An equation into which solutions were put follows as the equation does.
abbrev pub PutInFollows : Type 0
PutInFollows = (constants : Types) (p : Problem) → WellTyped constants p → (ls : Locals) (o u x y : PlainObject) (a : SimpleType) → TypedEquation constants p.metas (record { locals = ls; left = o; right = u; type = a })
    → Instantiated (length ls) p.given o x → Instantiated (length ls) p.given u y
    → Consequence constants p (record { locals = ls; left = o; right = u; type = a }) → Consequence constants p (record { locals = ls; left = x; right = y; type = a })

-- Joined sides are solved by each instantiation.
abbrev pub JoinedSolved : Type 0
JoinedSolved = (constants metas parameters : Types) (t : Instantiation) → Instantiates constants metas parameters t → (e : Equation) → TypedEquation constants metas e → Joined e.left e.right → Solves (instant t) e

-- The invariant holds at the start.
abbrev pub ProgressStarts : Type 0
ProgressStarts = (constants : Types) (p : Problem) → WellTyped constants p → Progress constants p p

-- The step that takes arguments goes on with the invariant.
abbrev pub NarrowProgresses : Type 0
NarrowProgresses = (constants : Types) (start : Problem) (metas : Types) (given : Instantiation) (es : List Equation) (k k' : ℕ) (bs : List Bool) (ps : List Place) (a : SimpleType)
    → Progress constants start (record { metas = metas; given = given; equations = es }) → given k ≡ None → metas k ≡ Some (arrows ps a) → metas k' ≡ None → k < k' → IsFinal a
    → KeepsSolutions constants (record { metas = metas; given = given; equations = es }) (narrowed_by metas given es k k' bs ps a)
    → Progress constants start (narrowed_by metas given es k k' bs ps a)

-- The step that gives a solution goes on with the invariant.
abbrev pub AssignProgresses : Type 0
AssignProgresses = (constants : Types) (start : Problem) (metas : Types) (given : Instantiation) (es : List Equation) (m : ℕ) (s : PlainObject) (a : SimpleType)
    → Progress constants start (record { metas = metas; given = given; equations = es }) → given m ≡ None → metas m ≡ Some a → SimplyTyped (closed constants metas) s a
    → KeepsSolutions constants (record { metas = metas; given = given; equations = es }) (record { metas = metas; given = set m s given; equations = es })
    → Progress constants start (record { metas = metas; given = set m s given; equations = es })

-- The step that gives a solution makes the weight smaller.
abbrev pub AssignIsLighter : Type 0
AssignIsLighter = (metas : Types) (given : Instantiation) (m : ℕ) (s : PlainObject) (a : SimpleType) (n : ℕ) → metas m ≡ Some a → given m ≡ None → m < n → weight metas (set m s given) n < weight metas given n

-- The step that takes arguments makes the weight smaller.
abbrev pub NarrowIsLighter : Type 0
NarrowIsLighter = (metas : Types) (given : Instantiation) (k : ℕ) (s : PlainObject) (a b : SimpleType) (n : ℕ) → metas k ≡ Some a → given k ≡ None → given n ≡ None → k < n → functions b < functions a
    → weight (set n b metas) (set k s given) (suc n) < weight metas given n
