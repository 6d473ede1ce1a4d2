-- What the function makes of types, kinds and cores is gathered.
use Rattle.std.proofs.Common.{◌≡◌, List, [], ◌∷◌, ◌++◌, map, Option, Some, None, refl, sym, ap, subst, ◌∙◌}
use Rattle.clf_syntax.specs.declared.tree.Mode.TheVariants.{Persistent}
use Rattle.clf_syntax.specs.Tree.{PlainObject}
use Rattle.clf_syntax.specs.TypeTree.{PlainType, family, function, both, top, monad, PlainTelescope, end, binding, PlainKind, SimpleType}
use Rattle.clf_syntax.specs.Simple.{erase}
use Rattle.use_contexts.specs.Context.{Context}
use Rattle.hered_put.specs.Function.{made, after}
use Rattle.clf_sig.specs.Entry.{PlainClass, family_of, constant_of, PlainSignature, family_kind, simple_types}
use Rattle.clf_sig.specs.Core.{PlainCore, declares, queries, traces, equates, checks}
use Rattle.pattern_laws.specs.Equations.{Equation}
use Rattle.gathering.specs.Items.{IndicesGather, TypeGathers, TelescopeGathers, KindGathers}
use Rattle.celf_elaboration.specs.Items.{ClassGathers, CoreGathers}
use Rattle.celf_gather.specs.Scene.{Scene}
use Rattle.celf_gather.specs.Gathered.{gathered, each_after}
use Rattle.celf_gather.specs.Formed.{Arguments, index_after, no_arguments, indices_after, type_after, telescope_after, kind_after, class_after, core_after}
use Rattle.celf_gather.proofs.Parts.{after_out, the_made, index_out, no_arguments_out}
use Rattle.celf_gather.proofs.Shapes.{shapes_of}
use Rattle.celf_gather.proofs.Sound.{scene, setting, object_sound, kind_put, behind, nothing}

first_index : (k : Scene) (g : Context) (n : PlainObject) (l : PlainKind) (p : List Equation) (y : Arguments) → index_after k g n (l, p) ≡ made y
    → (a : PlainType) × (u : PlainKind) × (l ≡ a ∷ u) × (index_after k g n (a ∷ u, p) ≡ made y)
first_index k g n (a ∷ l) p y e = (a, l, refl, e)
first_index k g n [] p y e = absurd (cc)

indices_known : (k : Scene) (g : Context) (ns : List PlainObject) (w : Option PlainKind) (p x : List Equation) → indices_after k g ns w p ≡ made x → (l : PlainKind) × (w ≡ Some l) × (indices_after k g ns (Some l) p ≡ made x)
indices_known k g ns (Some l) p x e = (l, refl, e)
indices_known k g ns None p x e = absurd (cc)

module _ (sig : PlainSignature) (xs : List PlainType) (ms : List SimpleType) where
  indices_sound : (ns : List PlainObject) (g : Context) (l : PlainKind) (p x : List Equation) → after (each_after (index_after (scene sig xs ms) g) ns (l, p)) no_arguments ≡ made x
      → (q : List Equation) × (x ≡ p ++ q) × IndicesGather sig (setting sig xs ms) g (shapes_of g) ns l q
  indices_sound [] g l p x e =
      let (i, j) = no_arguments_out l p x e in
      ([], nothing j, subst (λ k. IndicesGather sig (setting sig xs ms) g (shapes_of g) [] k []) (sym i) refl)
  indices_sound (n ∷ ns) g l p x e =
      let (y, u, v) = after_out (after (index_after (scene sig xs ms) g n (l, p)) (each_after (index_after (scene sig xs ms) g) ns)) no_arguments x e in
      let (z, u1, u2) = after_out (index_after (scene sig xs ms) g n (l, p)) (each_after (index_after (scene sig xs ms) g) ns) y u in
      let (a, k, i, r) = first_index (scene sig xs ms) g n l p z u1 in
      let (s, t) = index_out n a k (gathered (scene sig xs ms) g n a p) z r in
      let (q1, f1, z1) = object_sound sig xs ms n g a p z.1 s in
      let (q2, f2, z2) = indices_sound ns g z.0 z.1 x (ap (λ w. after w no_arguments) u2 ∙ v) in (
        q1 ++ q2,
        behind p q1 q2 f1 f2,
        subst (λ k. IndicesGather sig (setting sig xs ms) g (shapes_of g) (n ∷ ns) k (q1 ++ q2)) (sym i)
            (record { after_put = z.0; of_index = q1; of_later = q2; index = z1; put = kind_put n a k z.0 t; later = z2; equations = refl }),
      )

  mutual
    pub type_sound : (a : PlainType) (g : Context) (p x : List Equation) → type_after (scene sig xs ms) g a p ≡ made x → (q : List Equation) × (x ≡ p ++ q) × TypeGathers sig (setting sig xs ms) g (shapes_of g) a q
    type_sound (family f ns) g p x e =
        let (l, i, r) = indices_known (scene sig xs ms) g ns (family_kind sig f) p x e in
        let (q, u, v) = indices_sound ns g l p x r in
        (q, u, (l, i, v))
    type_sound (function m a b) g p x e =
        let (y, u, v) = after_out (type_after (scene sig xs ms) g a p) (λ q. type_after (scene sig xs ms) ((m, a) ∷ g) b q) x e in
        let (q1, f1, z1) = type_sound a g p y u in
        let (q2, f2, z2) = type_sound b ((m, a) ∷ g) y x v in
        (q1 ++ q2, behind p q1 q2 f1 f2, record { of_first = q1; of_second = q2; first = z1; second = z2; equations = refl })
    type_sound (both a b) g p x e =
        let (y, u, v) = after_out (type_after (scene sig xs ms) g a p) (λ q. type_after (scene sig xs ms) g b q) x e in
        let (q1, f1, z1) = type_sound a g p y u in
        let (q2, f2, z2) = type_sound b g y x v in
        (q1 ++ q2, behind p q1 q2 f1 f2, record { of_first = q1; of_second = q2; first = z1; second = z2; equations = refl })
    type_sound top g p x e = ([], nothing (the_made e), refl)
    type_sound (monad s) g p x e = telescope_sound s g p x e

    pub telescope_sound : (s : PlainTelescope) (g : Context) (p x : List Equation) → telescope_after (scene sig xs ms) g s p ≡ made x → (q : List Equation) × (x ≡ p ++ q) × TelescopeGathers sig (setting sig xs ms) g (shapes_of g) s q
    telescope_sound end g p x e = ([], nothing (the_made e), refl)
    telescope_sound (binding m a s) g p x e =
        let (y, u, v) = after_out (type_after (scene sig xs ms) g a p) (λ q. telescope_after (scene sig xs ms) ((m, a) ∷ g) s q) x e in
        let (q1, f1, z1) = type_sound a g p y u in
        let (q2, f2, z2) = telescope_sound s ((m, a) ∷ g) y x v in
        (q1 ++ q2, behind p q1 q2 f1 f2, record { of_first = q1; of_second = q2; first = z1; second = z2; equations = refl })

  kind_sound : (l : PlainKind) (g : Context) (p x : List Equation) → kind_after (scene sig xs ms) g l p ≡ made x → (q : List Equation) × (x ≡ p ++ q) × KindGathers sig (setting sig xs ms) g (shapes_of g) l q
  kind_sound [] g p x e = ([], nothing (the_made e), refl)
  kind_sound (a ∷ l) g p x e =
      let (y, u, v) = after_out (type_after (scene sig xs ms) g a p) (λ q. kind_after (scene sig xs ms) ((Persistent, a) ∷ g) l q) x e in
      let (q1, f1, z1) = type_sound a g p y u in
      let (q2, f2, z2) = kind_sound l ((Persistent, a) ∷ g) y x v in
      (q1 ++ q2, behind p q1 q2 f1 f2, record { of_first = q1; of_second = q2; first = z1; second = z2; equations = refl })

  class_sound : (c : PlainClass) (p x : List Equation) → class_after (scene sig xs ms) c p ≡ made x → (q : List Equation) × (x ≡ p ++ q) × ClassGathers sig (setting sig xs ms) c q
  class_sound (family_of l) p x e = kind_sound l [] p x e
  class_sound (constant_of a) p x e = type_sound a [] p x e

  pub core_sound : (c : PlainCore) (p x : List Equation) → core_after (scene sig xs ms) c p ≡ made x → (q : List Equation) × (x ≡ p ++ q) × CoreGathers sig (setting sig xs ms) c q
  core_sound (declares name d) p x e = class_sound d.class p x e
  core_sound (queries a) p x e = type_sound a [] p x e
  core_sound (traces s) p x e = telescope_sound s [] p x e
  core_sound (equates m n a) p x e =
      let (y, u, v) = after_out (type_after (scene sig xs ms) [] a p) (λ q. after (gathered (scene sig xs ms) [] m a q) (λ r. gathered (scene sig xs ms) [] n a r)) x e in
      let (w, u1, u2) = after_out (gathered (scene sig xs ms) [] m a y) (λ r. gathered (scene sig xs ms) [] n a r) x v in
      let (q1, f1, z1) = type_sound a [] p y u in
      let (q2, f2, z2) = object_sound sig xs ms m [] a y w u1 in
      let (q3, f3, z3) = object_sound sig xs ms n [] a w x u2 in (
        q1 ++ (q2 ++ q3),
        behind p q1 (q2 ++ q3) f1 (behind y q2 q3 f2 f3),
        record { of_first = q1; of_second = q2 ++ q3; first = z1; second = record { of_first = q2; of_second = q3; first = z2; second = z3; equations = refl }; equations = refl },
      )
  core_sound (checks n a) p x e =
      let (y, u, v) = after_out (type_after (scene sig xs ms) [] a p) (λ q. gathered (scene sig xs ms) [] n a q) x e in
      let (q1, f1, z1) = type_sound a [] p y u in
      let (q2, f2, z2) = object_sound sig xs ms n [] a y x v in
      (q1 ++ q2, behind p q1 q2 f1 f2, record { of_first = q1; of_second = q2; first = z1; second = z2; equations = refl })

-- What is made of a core, where there were no equations before, is what is gathered of it.
pub core_gathered : (sig : PlainSignature) (xs : List PlainType) (cs ms : List SimpleType) (c : PlainCore) (p x : List Equation) → cs ≡ simple_types sig ++ map erase xs → p ≡ []
    → core_after (record { signature = sig; variables = xs; types = record { constants = cs; metavariables = ms } }) c p ≡ made x → CoreGathers sig (setting sig xs ms) c x
core_gathered sig xs cs ms c p x i j e =
    let (q, f, z) = core_sound sig xs ms c [] x (subst (λ p. core_after (scene sig xs ms) c p ≡ made x) j (subst (λ cs. core_after (record { signature = sig; variables = xs; types = record { constants = cs; metavariables = ms } }) c p ≡ made x) i e)) in
    subst (CoreGathers sig (setting sig xs ms) c) (sym f) z
