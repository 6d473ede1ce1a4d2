-- Inner: which part of a type, a telescope, a kind or a class is the first that the rules of formation refuse. Proofs lead from it to
-- the rules of WellFormed and Explained.
use Rattle.std.specs.Prelude.{ℕ, suc, ◌==◌, if◌then◌else◌, List, [], ◌∷◌, length, Option, Some, None}
use Rattle.clf_syntax.specs.declared.tree.Mode.TheVariants.{Persistent}
use Rattle.clf_syntax.specs.declared.tree.Head.TheVariants.{Const}
use Rattle.clf_syntax.specs.Tree.{PlainObject}
use Rattle.clf_syntax.specs.TypeTree.{PlainType, family, function, both, top, monad, PlainTelescope, end, binding, PlainKind}
use Rattle.use_contexts.specs.Context.{Context, modes}
use Rattle.use_contexts.specs.Holding.{persistent_alone}
use Rattle.clf_sig.specs.Entry.{PlainSignature, PlainClass, family_of, constant_of, family_kind}
use Rattle.clf_rules.specs.Refusal.{unknown_head, family_arity}
use Rattle.clf_decision.specs.Outcome.{Outcome, passed, refused, at_part, and_then}
use Rattle.clf_decision.specs.Checking.{Puts, checked}

-- The indices that have an argument of the kind, from a place on: each uses persistent entries alone, and is put for its argument in
-- the later ones.
abbrev pub indices_formed : Puts → PlainSignature → Context → ℕ → List PlainObject → PlainKind → Outcome (Unit {0})
indices_formed puts sig g place [] k = passed tt
indices_formed puts sig g place (n ∷ ns) [] = passed tt
indices_formed puts sig g place (n ∷ ns) (a ∷ k) =
    and_then (at_part place (checked puts sig g (persistent_alone (modes g)) n a)) (λ x. indices_formed puts sig g (suc place) ns (puts.into_kind n a k))

-- There are as many as the kind has arguments.
abbrev pub arity_formed : List PlainObject → PlainKind → Outcome (Unit {0})
arity_formed ns k = if length k == length ns then passed tt else refused [] (family_arity (length k) (length ns))

abbrev pub family_formed : Puts → PlainSignature → Context → ℕ → List PlainObject → Option PlainKind → Outcome (Unit {0})
family_formed puts sig g f ns (Some k) = and_then (indices_formed puts sig g 0 ns k) (λ x. arity_formed ns k)
family_formed puts sig g f ns None = refused [] (unknown_head (Const f))

-- two parts in the order of their numbers
abbrev pub parts_formed : Outcome (Unit {0}) → Outcome (Unit {0}) → Outcome (Unit {0})
parts_formed a b = and_then (at_part 0 a) (λ x. at_part 1 b)

abbrev mutual
  pub type_formed : Puts → PlainSignature → Context → PlainType → Outcome (Unit {0})
  type_formed puts sig g (family f ns) = family_formed puts sig g f ns (family_kind sig f)
  type_formed puts sig g (function m a b) = parts_formed (type_formed puts sig g a) (type_formed puts sig ((m, a) ∷ g) b)
  type_formed puts sig g (both a b) = parts_formed (type_formed puts sig g a) (type_formed puts sig g b)
  type_formed puts sig g top = passed tt
  type_formed puts sig g (monad s) = telescope_formed puts sig g 0 s

  -- the entries from a place on
  pub telescope_formed : Puts → PlainSignature → Context → ℕ → PlainTelescope → Outcome (Unit {0})
  telescope_formed puts sig g place end = passed tt
  telescope_formed puts sig g place (binding m a s) = and_then (at_part place (type_formed puts sig g a)) (λ x. telescope_formed puts sig ((m, a) ∷ g) (suc place) s)

-- the arguments from a place on
abbrev pub kind_formed : Puts → PlainSignature → Context → ℕ → PlainKind → Outcome (Unit {0})
kind_formed puts sig g place [] = passed tt
kind_formed puts sig g place (a ∷ k) = and_then (at_part place (type_formed puts sig g a)) (λ x. kind_formed puts sig ((Persistent, a) ∷ g) (suc place) k)

abbrev pub class_formed : Puts → PlainSignature → PlainClass → Outcome (Unit {0})
class_formed puts sig (family_of k) = kind_formed puts sig [] 0 k
class_formed puts sig (constant_of a) = type_formed puts sig [] a
