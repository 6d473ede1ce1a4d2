-- Laws of the function, as statements; the functions of the crate's `laws` state them.
use Rattle.std.specs.Prelude.{ℕ, ◌+◌, ◌≡◌, List, length}
use Rattle.clf_syntax.specs.Tree.{PlainObject, PlainExpression}
use Rattle.clf_syntax.specs.TypeTree.{PlainType, PlainTelescope, PlainKind, SimpleType, SimpleTelescope}
use Rattle.clf_syntax.specs.Simple.{Assignment, Families, extended_by, simple_modes, SimplyTyped, SimplyTypedExpression, SimplyFormed, SimplyFormedTelescope, SimplyFormedKind}
use Rattle.hered_subst.specs.Substitution.{Environment, single, Substituted, SubstitutedExpression, SubstitutedEach, SubstitutedType, SubstitutedTelescope, SubstitutedKind, Flattened}
use Rattle.hered_subst.specs.Laws.{inserted}
use Rattle.hered_subst.proofs.SimpleTyping.{rank, ranks}
use Rattle.hered_put.specs.Function.{Answer, made, untyped, too_far, free, run_by, run_expression_by, run_each_by, run_type_by, run_telescope_by, run_kind_by, nested, nested_freely, run, run_expression, run_each, run_type, run_telescope, run_kind, flattened}
use Rattle.hered_put.specs.Passes.{Passes, PassesExpression, PassesEach, PassesType, PassesTelescope, PassesKind, PassesFlattened}

-- What is made is such, and where it goes too far, there is such a reason.
abbrev pub Meets : {X : Type 0} → Answer X → (X → Type 0) → Type 0 → Type 0
Meets (made x) P F = P x
Meets untyped P F = Unit {0}
Meets too_far P F = F

-- It does not give up, and what is made is such; and it goes too far only where F.
abbrev pub FineUnless : Type 0 → {X : Type 0} → Answer X → (X → Type 0) → Type 0
FineUnless F (made x) P = P x
FineUnless F untyped P = ⊥
FineUnless F too_far P = F

-- It does not give up, and what is made is such.
abbrev pub Fine : {X : Type 0} → Answer X → (X → Type 0) → Type 0
Fine a P = FineUnless (Unit {0}) a P

-- It makes something, and that is such.
abbrev pub Makes : {X : Type 0} → Answer X → (X → Type 0) → Type 0
Makes {X = X} a P = (x : X) × (a ≡ made x) × P x

-- The second answers as the first, unless that goes too far.
abbrev pub AnswersAs : {X : Type 0} → Answer X → Answer X → Type 0
AnswersAs (made x) b = b ≡ made x
AnswersAs untyped b = b ≡ untyped
AnswersAs too_far b = Unit {0}

-- What the function makes is what the rules relate, and it goes too far only where a number passes: at each bound and under each environment.
abbrev pub FunctionIsSound : Type 0
FunctionIsSound = (k : ℕ) (s : Environment)
    → ((o : PlainObject) → Meets (run (nested k) s o) (Substituted s o) (Passes s o))
    × ((e : PlainExpression) → Meets (run_expression (nested k) s e) (SubstitutedExpression s e) (PassesExpression s e))
    × ((ns : List PlainObject) → Meets (run_each (nested k) s ns) (SubstitutedEach s ns) (PassesEach s ns))
    × ((a : PlainType) → Meets (run_type (nested k) s a) (SubstitutedType s a) (PassesType s a))
    × ((t : PlainTelescope) → Meets (run_telescope (nested k) s t) (SubstitutedTelescope s t) (PassesTelescope s t))
    × ((l : PlainKind) → Meets (run_kind (nested k) s l) (SubstitutedKind s l) (PassesKind s l))

-- Where an assignment types the object that is put and, with its variable, what it is put into, the function bounded by the rank of the object's type
-- makes a tree of that type, or a number passes.
abbrev pub FunctionIsTyped : Type 0
FunctionIsTyped = (z : Assignment) (k : ℕ) (n : PlainObject) (u : SimpleType) → SimplyTyped z n u
    → ((o : PlainObject) (t : SimpleType) → SimplyTyped (inserted k u z) o t → Fine (run (nested (rank u)) (single n k) o) (λ x. SimplyTyped z x t))
    × ((e : PlainExpression) (s : SimpleTelescope) → SimplyTypedExpression (inserted k u z) e s → Fine (run_expression (nested (rank u)) (single n k) e) (λ x. SimplyTypedExpression z x s))

-- So it is with simply formed types, telescopes and kinds.
abbrev pub FunctionKeepsForms : Type 0
FunctionKeepsForms = (arguments : Families) (z : Assignment) (k : ℕ) (n : PlainObject) (u : SimpleType) → SimplyTyped z n u
    → ((a : PlainType) → SimplyFormed arguments (inserted k u z) a → Fine (run_type (nested (rank u)) (single n k) a) (λ x. SimplyFormed arguments z x))
    × ((t : PlainTelescope) → SimplyFormedTelescope arguments (inserted k u z) t → Fine (run_telescope (nested (rank u)) (single n k) t) (λ x. SimplyFormedTelescope arguments z x))
    × ((l : PlainKind) → SimplyFormedKind arguments (inserted k u z) l → Fine (run_kind (nested (rank u)) (single n k) l) (λ x. SimplyFormedKind arguments z x))

-- The steps of an expression, and then another with its tuple put for the variables of a step: so it is there.
abbrev pub FlattenedIsSound : Type 0
FlattenedIsSound = (k n : ℕ) (g f : PlainExpression) → Meets (flattened (nested k) 0 n g f) (Flattened n g f) (PassesFlattened 0 g f)

abbrev pub FlattenedIsTyped : Type 0
FlattenedIsTyped = (z : Assignment) (ts us : SimpleTelescope) (g f : PlainExpression) → SimplyTypedExpression z g ts → SimplyTypedExpression (extended_by ts z) f us
    → Fine (flattened (nested (ranks ts + 1)) 0 (length (simple_modes ts)) g f) (λ x. SimplyTypedExpression z x us)

-- Where what is written need not fit, the function makes what the rules relate.
abbrev pub FreelyMakes : Type 0
FreelyMakes = (arguments : Families) (z : Assignment) (k : ℕ) (n : PlainObject) (u : SimpleType) → SimplyTyped z n u
    → ((a : PlainType) → SimplyFormed arguments (inserted k u z) a → Makes (run_type_by free (nested_freely (rank u)) (single n k) a) (SubstitutedType (single n k) a))
    × ((t : PlainTelescope) → SimplyFormedTelescope arguments (inserted k u z) t → Makes (run_telescope_by free (nested_freely (rank u)) (single n k) t) (SubstitutedTelescope (single n k) t))
    × ((l : PlainKind) → SimplyFormedKind arguments (inserted k u z) l → Makes (run_kind_by free (nested_freely (rank u)) (single n k) l) (SubstitutedKind (single n k) l))

-- It answers then as where it has to fit, unless there it goes too far.
abbrev pub FreelyAnswersAs : Type 0
FreelyAnswersAs = (k : ℕ) (s : Environment)
    → ((o : PlainObject) → AnswersAs (run (nested k) s o) (run_by free (nested_freely k) s o))
    × ((e : PlainExpression) → AnswersAs (run_expression (nested k) s e) (run_expression_by free (nested_freely k) s e))
    × ((ns : List PlainObject) → AnswersAs (run_each (nested k) s ns) (run_each_by free (nested_freely k) s ns))
    × ((a : PlainType) → AnswersAs (run_type (nested k) s a) (run_type_by free (nested_freely k) s a))
    × ((t : PlainTelescope) → AnswersAs (run_telescope (nested k) s t) (run_telescope_by free (nested_freely k) s t))
    × ((l : PlainKind) → AnswersAs (run_kind (nested k) s l) (run_kind_by free (nested_freely k) s l))
