-- Laws of renaming in types and telescopes.
use Rattle.std.specs.Prelude.{◌≡◌, List, [], ◌∷◌, refl}
use Rattle.std.proofs.Common.{ap, ◌∙◌}
use Rattle.clf_syntax.specs.declared.tree.Mode.{Mode}
use Rattle.clf_syntax.specs.Tree.{PlainObject}
use Rattle.clf_syntax.specs.TypeTree.{PlainType, family, function, both, top, monad, PlainTelescope, end, binding}
use Rattle.clf_syntax.specs.Renaming.{Renumbering, lifted, ren_objects, ren_type, ren_telescope}
use Rattle.clf_syntax.proofs.RenamingLaws.{composed, identity, lift_comp, lift_id}

pub conses : {X : Type 0} {a b : X} {xs ys : List X} → a ≡ b → xs ≡ ys → a ∷ xs ≡ b ∷ ys
conses e f = cc

pub functions : (m : Mode) {a b c d : PlainType} → a ≡ b → c ≡ d → function m a c ≡ function m b d
functions m e f = cc

pub boths : {a b c d : PlainType} → a ≡ b → c ≡ d → both a c ≡ both b d
boths e f = cc

pub bindings : (m : Mode) {a b : PlainType} {s t : PlainTelescope} → a ≡ b → s ≡ t → binding m a s ≡ binding m b t
bindings m e f = cc

pub composed_objects : (r s : Renumbering) (ns : List PlainObject) → ren_objects r (ren_objects s ns) ≡ ren_objects (λ i. r (s i)) ns
composed_objects r s [] = refl
composed_objects r s (n ∷ ns) = conses (composed r s n) (composed_objects r s ns)

mutual
  pub composed_type : (r s : Renumbering) (a : PlainType) → ren_type r (ren_type s a) ≡ ren_type (λ i. r (s i)) a
  composed_type r s (family f ns) = ap (family f) (composed_objects r s ns)
  composed_type r s (function m a b) = functions m (composed_type r s a) (composed_type (lifted 1 r) (lifted 1 s) b ∙ ap (λ f. ren_type f b) (lift_comp 1 r s))
  composed_type r s (both a b) = boths (composed_type r s a) (composed_type r s b)
  composed_type r s top = refl
  composed_type r s (monad u) = ap monad (composed_telescope r s u)

  pub composed_telescope : (r s : Renumbering) (u : PlainTelescope) → ren_telescope r (ren_telescope s u) ≡ ren_telescope (λ i. r (s i)) u
  composed_telescope r s end = refl
  composed_telescope r s (binding m a u) = bindings m (composed_type r s a) (composed_telescope (lifted 1 r) (lifted 1 s) u ∙ ap (λ f. ren_telescope f u) (lift_comp 1 r s))

pub identity_objects : (ns : List PlainObject) → ren_objects (λ i. i) ns ≡ ns
identity_objects [] = refl
identity_objects (n ∷ ns) = conses (identity n) (identity_objects ns)

mutual
  pub identity_type : (a : PlainType) → ren_type (λ i. i) a ≡ a
  identity_type (family f ns) = ap (family f) (identity_objects ns)
  identity_type (function m a b) = functions m (identity_type a) (ap (λ f. ren_type f b) (lift_id 1) ∙ identity_type b)
  identity_type (both a b) = boths (identity_type a) (identity_type b)
  identity_type top = refl
  identity_type (monad u) = ap monad (identity_telescope u)

  pub identity_telescope : (u : PlainTelescope) → ren_telescope (λ i. i) u ≡ u
  identity_telescope end = refl
  identity_telescope (binding m a u) = bindings m (identity_type a) (ap (λ f. ren_telescope f u) (lift_id 1) ∙ identity_telescope u)
