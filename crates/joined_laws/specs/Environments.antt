-- Environments and instantiations that put joined objects.
use Rattle.std.specs.Prelude.{ℕ, ◌≡◌, ◌⊎◌, Some, None}
use Rattle.clf_syntax.specs.declared.tree.Head.{Head}
use Rattle.clf_syntax.specs.declared.tree.Head.TheVariants.{Meta}
use Rattle.clf_syntax.specs.Tree.{PlainObject}
use Rattle.clf_syntax.specs.TypeTree.{SimpleType}
use Rattle.clf_syntax.specs.Simple.{Assignment}
use Rattle.hered_subst.specs.Substitution.{Image, keep, put, Environment}
use Rattle.trace_equal.specs.Exchange.{Joined}
use Rattle.subst_laws.specs.Environments.{Instantiation}

-- the same head, or joined objects
abbrev pub JoinedImage : Image → Image → Type 0
JoinedImage i k = ((j : Head) × (i ≡ keep j) × (k ≡ keep j)) ⊎ ((n x : PlainObject) × (i ≡ put n) × (k ≡ put x) × Joined n x)

-- so it is at each head that has a type
abbrev pub JoinedEnvironment : Assignment → Environment → Environment → Type 0
JoinedEnvironment g s v = (h : Head) (t : SimpleType) → g h ≡ Some t → JoinedImage (s h) (v h)

-- The same metavariables stay, and to the others joined objects are given.
abbrev pub JoinedInstantiation : Assignment → Instantiation → Instantiation → Type 0
JoinedInstantiation g t v = (m : ℕ) (a : SimpleType) → g (Meta m) ≡ Some a → ((t m ≡ None) × (v m ≡ None)) ⊎ ((n x : PlainObject) × (t m ≡ Some n) × (v m ≡ Some x) × Joined n x)
