-- Laws of typing and of well-formed types and signatures, as statements; the functions of the crate's `laws` state them.
use Rattle.std.specs.Prelude.{ℕ, ◌≡◌, ◌↔◌, true, false, List, [], ◌∷◌, ◌++◌, Some}
use Rattle.std.specs.List.{slice_get}
use Rattle.clf_syntax.specs.Tree.{PlainObject, PlainNeutral, PlainExpression}
use Rattle.clf_syntax.specs.TypeTree.{PlainType, family, PlainTelescope, PlainKind}
use Rattle.use_contexts.specs.Context.{Context}
use Rattle.use_contexts.specs.Holding.{Holding}
use Rattle.clf_sig.specs.Entry.{PlainSignature, Declaration, names, family_kind, constant_type}
use Rattle.clf_rules.specs.Typing.{HasType, Synthesizes, ExpressionHasType}
use Rattle.clf_rules.specs.WellFormed.{WellFormedType, WellFormedTelescope, WellFormedKind, WellFormedContext, MayFollow, WellFormedSignature}
use Rattle.clf_rules.specs.Clean.{IsNotPersistent, CleanType, CleanTelescope, CleanContext}
use Rattle.clf_syntax.specs.Occurs.{occurs, occurs_type, occurs_telescope}

-- A well-formed signature stays well formed with one more declaration that may follow it.
abbrev pub Extended : Type 0
Extended = (sig : PlainSignature) (d : Declaration) → WellFormedSignature sig → MayFollow sig d → WellFormedSignature (sig ++ d ∷ [])

-- A signature is well formed exactly where each declaration may follow those before it.
abbrev pub EachFollows : Type 0
EachFollows = (sig : PlainSignature) → WellFormedSignature sig ↔ ((earlier later : PlainSignature) (d : Declaration) → sig ≡ earlier ++ d ∷ later → MayFollow earlier d)

-- In a well-formed signature no two places have the same name.
abbrev pub NamesDiffer : Type 0
NamesDiffer = (sig : PlainSignature) → WellFormedSignature sig → (i j : ℕ) (name : List ℕ) → slice_get (names sig) i ≡ Some name → slice_get (names sig) j ≡ Some name → i ≡ j

-- What holds over a signature holds over each longer one.
abbrev pub LongerSignatures : Type 0
LongerSignatures = (sig more : PlainSignature) (g : Context)
    → ((h : Holding) (n : PlainObject) (a : PlainType) → HasType sig g h n a → HasType (sig ++ more) g h n a)
    × ((h : Holding) (r : PlainNeutral) (a : PlainType) → Synthesizes sig g h r a → Synthesizes (sig ++ more) g h r a)
    × ((h : Holding) (e : PlainExpression) (s : PlainTelescope) → ExpressionHasType sig g h e s → ExpressionHasType (sig ++ more) g h e s)
    × ((a : PlainType) → WellFormedType sig g a → WellFormedType (sig ++ more) g a)
    × ((s : PlainTelescope) → WellFormedTelescope sig g s → WellFormedTelescope (sig ++ more) g s)
    × ((k : PlainKind) → WellFormedKind sig g k → WellFormedKind (sig ++ more) g k)

-- In a well-formed signature each family has a well-formed kind, and each constant a well-formed type, without variables.
abbrev pub EntriesWellFormed : Type 0
EntriesWellFormed = (sig : PlainSignature) → WellFormedSignature sig
    → ((f : ℕ) (k : PlainKind) → family_kind sig f ≡ Some k → WellFormedKind sig [] k)
    × ((c : ℕ) (a : PlainType) → constant_type sig c ≡ Some a → WellFormedType sig [] a)

-- A typed object mentions no variable that its holding marks as not held.
abbrev pub MentionsNothingUnheld : Type 0
MentionsNothingUnheld = (sig : PlainSignature) (g : Context) (h : Holding) (n : PlainObject) (a : PlainType) → HasType sig g h n a → (i : ℕ) → slice_get h i ≡ Some false → occurs i n ≡ false

-- What is well formed is clean, and mentions no linear or affine variable of the context.
abbrev pub WellFormedIsClean : Type 0
WellFormedIsClean = (sig : PlainSignature) (g : Context)
    → ((a : PlainType) → WellFormedType sig g a → CleanType a × ((i : ℕ) → IsNotPersistent g i → occurs_type i a ≡ false))
    × ((s : PlainTelescope) → WellFormedTelescope sig g s → CleanTelescope s × ((i : ℕ) → IsNotPersistent g i → occurs_telescope i s ≡ false))
    × (WellFormedContext sig g → CleanContext g)
