-- Well-formed kinds, types, telescopes and contexts; types that mention persistent variables alone; and well-formed signatures.
-- They are the formation rules of the report CMU-CS-02-101 for kinds, types, contexts and signatures. This project's own are
-- the affine mode, telescopes, and a function that binds a variable in its second type whatever its mode.
use Rattle.std.specs.Prelude.{ℕ, ◌+◌, ◌≡◌, ◌≤◌, true, List, [], ◌∷◌, ◌++◌, length, Some, Contains}
use Rattle.clf_syntax.specs.declared.tree.Mode.TheVariants.{Persistent, Affine, Linear}
use Rattle.clf_syntax.specs.Tree.{PlainObject}
use Rattle.clf_syntax.specs.TypeTree.{PlainType, family, function, both, top, monad, PlainTelescope, end, binding, PlainKind}
use Rattle.clf_syntax.specs.Word.{is_declarable}
use Rattle.use_contexts.specs.Context.{Context, modes}
use Rattle.use_contexts.specs.Holding.{persistent_alone}
use Rattle.hered_subst.specs.Substitution.{single, SubstitutedKind}
use Rattle.clf_sig.specs.Entry.{PlainSignature, Declaration, PlainEntry, PlainClass, family_of, constant_of, names, family_kind}
use Rattle.clf_rules.specs.Typing.{HasType}

-- An index: it has the argument's type, using persistent entries alone, and is put for the argument in the later types of the kind.
pub record IndexRule (sig : PlainSignature) (g : Context) (n : PlainObject) (a : PlainType) (k : PlainKind) (Later : PlainKind → Type 0) : Type 0 where
  pub after_put : PlainKind
  pub index : HasType sig g (persistent_alone (modes g)) n a
  pub put : SubstitutedKind (single n 0) k after_put
  pub later : Later after_put

-- The objects are as many as the arguments of the kind, and each is an index for its argument.
-- (In the report: the rules for atomic types, a family applied to objects.)
abbrev pub IndicesHaveTypes : PlainSignature → Context → List PlainObject → PlainKind → Type 0
IndicesHaveTypes sig g [] [] = Unit {0}
IndicesHaveTypes sig g (n ∷ ns) (a ∷ k) = IndexRule sig g n a k (λ l. IndicesHaveTypes sig g ns l)
IndicesHaveTypes sig g [] (a ∷ k) = ⊥
IndicesHaveTypes sig g (n ∷ ns) [] = ⊥

abbrev mutual
  pub WellFormedType : PlainSignature → Context → PlainType → Type 0
  -- A family of the signature at indices that have the types of its arguments.
  WellFormedType sig g (family f ns) = (k : PlainKind) × (family_kind sig f ≡ Some k) × IndicesHaveTypes sig g ns k
  -- The other types part by part. A function adds its variable.
  WellFormedType sig g (function m a b) = WellFormedType sig g a × WellFormedType sig ((m, a) ∷ g) b
  WellFormedType sig g (both a b) = WellFormedType sig g a × WellFormedType sig g b
  WellFormedType sig g top = Unit {0}
  WellFormedType sig g (monad s) = WellFormedTelescope sig g s

  -- A telescope entry by entry, each of which adds its variable. (In the report: synchronous types.)
  pub WellFormedTelescope : PlainSignature → Context → PlainTelescope → Type 0
  WellFormedTelescope sig g end = Unit {0}
  WellFormedTelescope sig g (binding m a s) = WellFormedType sig g a × WellFormedTelescope sig ((m, a) ∷ g) s

-- A kind argument by argument, each of which adds a persistent variable.
abbrev pub WellFormedKind : PlainSignature → Context → PlainKind → Type 0
WellFormedKind sig g [] = Unit {0}
WellFormedKind sig g (a ∷ k) = WellFormedType sig g a × WellFormedKind sig ((Persistent, a) ∷ g) k

-- A context, the newest entry first: each type is well formed over the entries before it.
abbrev pub WellFormedContext : PlainSignature → Context → Type 0
WellFormedContext sig [] = Unit {0}
WellFormedContext sig (e ∷ g) = WellFormedType sig g e.1 × WellFormedContext sig g

-- the number of leading persistent functions of a type
abbrev pub leading_persistent : PlainType → ℕ
leading_persistent (function Persistent a b) = leading_persistent b + 1
leading_persistent (function Affine a b) = 0
leading_persistent (function Linear a b) = 0
leading_persistent (family f ns) = 0
leading_persistent (both a b) = 0
leading_persistent top = 0
leading_persistent (monad s) = 0

-- how many arguments may be implicit: those of a kind, all of which are persistent, or the leading persistent functions of a type
abbrev pub may_be_implicit : PlainClass → ℕ
may_be_implicit (family_of k) = length k
may_be_implicit (constant_of a) = leading_persistent a

-- The kind or type is well formed without variables.
abbrev pub WellFormedClass : PlainSignature → PlainClass → Type 0
WellFormedClass sig (family_of k) = WellFormedKind sig [] k
WellFormedClass sig (constant_of a) = WellFormedType sig [] a

-- An entry is well formed over a signature: so is its kind or type, and it has no more implicit arguments than it can have.
abbrev pub WellFormedEntry : PlainSignature → PlainEntry → Type 0
WellFormedEntry sig e = WellFormedClass sig e.class × (e.implicit ≤ may_be_implicit e.class)

-- A declaration may follow a signature: its name can be declared and is not there, and its entry is well formed over the signature.
abbrev pub MayFollow : PlainSignature → Declaration → Type 0
MayFollow sig d = (is_declarable d.0 ≡ true) × (Contains (names sig) d.0 → ⊥) × WellFormedEntry sig d.1

-- Each of the later declarations may follow the earlier ones and those between.
abbrev pub AllMayFollow : PlainSignature → List Declaration → Type 0
AllMayFollow earlier [] = Unit {0}
AllMayFollow earlier (d ∷ later) = MayFollow earlier d × AllMayFollow (earlier ++ d ∷ []) later

-- A signature is well formed: names differ and can be declared, and each entry is well formed over the entries before it.
-- (In the report: the rules for signatures.)
abbrev pub WellFormedSignature : PlainSignature → Type 0
WellFormedSignature sig = AllMayFollow [] sig
