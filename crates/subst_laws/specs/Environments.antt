-- Environments that do what two do in turn, and that go over another; and the environment of an instantiation.
use Rattle.std.specs.Prelude.{ℕ, ◌≡◌, ◌⊎◌, Some, None}
use Rattle.std.proofs.Common.{Option}
use Rattle.clf_syntax.specs.declared.tree.Head.{Head}
use Rattle.clf_syntax.specs.declared.tree.Head.TheVariants.{Const, Var, Meta}
use Rattle.clf_syntax.specs.Tree.{PlainObject}
use Rattle.clf_syntax.specs.TypeTree.{SimpleType}
use Rattle.clf_syntax.specs.Simple.{Assignment, SimplyTyped}
use Rattle.clf_syntax.specs.Renaming.{raise}
use Rattle.hered_subst.specs.Substitution.{Image, keep, put, Environment, Substituted}
use Rattle.hered_subst.specs.Laws.{Fits}

-- what stands for a head after u, where i stood for it before
abbrev pub Follows : Environment → Image → Image → Type 0
Follows u i k = ((j : Head) × (i ≡ keep j) × (k ≡ u j)) ⊎ ((n x : PlainObject) × (i ≡ put n) × (k ≡ put x) × Substituted u n x)

-- At the heads to which g gives a type, v does what s does and then u.
abbrev pub Composed : Assignment → Environment → Environment → Environment → Type 0
Composed g s u v = (h : Head) (t : SimpleType) → g h ≡ Some t → Follows u (s h) (v h)

-- z does what s does, with one more variable k, which it keeps. So `under (n + 1) s` goes over `under n s`, for k up to n.
abbrev pub GoesOver : ℕ → Environment → Environment → Type 0
GoesOver k s z = Fits (raise 1 k) (raise 1 k) s z × (z (Var k) ≡ keep (Var k))

-- An instantiation gives objects to metavariables, for instance to all of them. The others stay, and so do constants and variables.
abbrev pub Instantiation : Type 0
Instantiation = ℕ → Option PlainObject

abbrev pub image_or : Head → Option PlainObject → Image
image_or h None = keep h
image_or h (Some n) = put n

-- Under n locals it is `under n (instant t)`: the variables of the objects are past these.
abbrev pub instant : Instantiation → Environment
instant t (Const c) = keep (Const c)
instant t (Var i) = keep (Var i)
instant t (Meta m) = image_or (Meta m) (t m)

-- The instantiation takes trees over g to trees over z.
abbrev pub TypedInstantiation : Assignment → Assignment → Instantiation → Type 0
TypedInstantiation g z t = ((c : ℕ) (u : SimpleType) → g (Const c) ≡ Some u → z (Const c) ≡ Some u)
    × ((i : ℕ) (u : SimpleType) → g (Var i) ≡ Some u → z (Var i) ≡ Some u)
    × ((m : ℕ) (u : SimpleType) → g (Meta m) ≡ Some u → ((t m ≡ None) × (z (Meta m) ≡ Some u)) ⊎ ((n : PlainObject) × (t m ≡ Some n) × SimplyTyped z n u))

-- v gives the metavariables of g what t gives them, after u: what t leaves is what u makes of it.
abbrev pub ComposedInstantiation : Assignment → Instantiation → Instantiation → Instantiation → Type 0
ComposedInstantiation g t u v = (m : ℕ) (a : SimpleType) → g (Meta m) ≡ Some a → ((t m ≡ None) × (v m ≡ u m)) ⊎ ((n x : PlainObject) × (t m ≡ Some n) × (v m ≡ Some x) × Substituted (instant u) n x)
