-- What is gathered of a core without holes the function makes, or a number passes its range.
use Rattle.std.proofs.Common.{◌≡◌, true, List, [], ◌∷◌, ◌++◌, map, Some, refl, sym, ap, subst}
use Rattle.clf_syntax.specs.declared.tree.Mode.TheVariants.{Persistent}
use Rattle.clf_syntax.specs.Tree.{PlainObject}
use Rattle.clf_syntax.specs.TypeTree.{PlainType, family, function, both, top, monad, PlainTelescope, end, binding, PlainKind, SimpleType}
use Rattle.clf_syntax.specs.Simple.{erase, extended, extended_over, SimplyTyped, SimplyTypedEach, SimplyFormed, SimplyFormedTelescope, SimplyFormedKind, SimplyFormedContext}
use Rattle.use_contexts.specs.Context.{Context}
use Rattle.hered_subst.specs.Laws.{inserted}
use Rattle.hered_subst.specs.Substitution.{Environment, single, SubstitutedKind, in_no_argument, in_argument}
use Rattle.hered_subst.proofs.TypedEnvironments.{put_is_typed}
use Rattle.hered_subst.proofs.TypedResults.{result_is_typed}
use Rattle.hered_put.specs.Function.{Answer, made, untyped, after}
use Rattle.hered_put.specs.Laws.{Fine}
use Rattle.clf_sig.specs.Entry.{PlainClass, family_of, constant_of, PlainSignature, simple_types}
use Rattle.clf_sig.specs.Core.{PlainCore, declares, queries, traces, equates, checks}
use Rattle.typing_laws.proofs.Erased.{put_type}
use Rattle.typing_laws.proofs.FormedTypes.{as_inserted}
use Rattle.pattern_laws.specs.Equations.{Equation}
use Rattle.gathering.specs.Setting.{Setting}
use Rattle.gathering.specs.Shape.{unmarked_shape}
use Rattle.gathering.specs.Instances.{FormedSetting, FormedKinds}
use Rattle.gathering.specs.Items.{IndicesGather, TypeGathers, TelescopeGathers, KindGathers}
use Rattle.celf_elaboration.specs.Items.{ClassGathers, CoreGathers}
use Rattle.celf_gather.specs.Holes.{EachHasNoHole, TypeHasNoHole, TelescopeHasNoHole, KindHasNoHole, ClassHasNoHole, CoreHasNoHole, GathersNothing}
use Rattle.celf_gather.specs.Scene.{Scene, put_in_kind}
use Rattle.celf_gather.specs.Gathered.{gathered, each_after}
use Rattle.celf_gather.specs.Formed.{index_after, no_arguments, indices_after, type_after, telescope_after, kind_after, class_after, core_after}
use Rattle.celf_gather.proofs.Shapes.{shapes_of}
use Rattle.celf_gather.proofs.Sound.{scene, setting}
use Rattle.celf_gather.proofs.Along.{then_then}
use Rattle.celf_gather.proofs.Complete.{fine_then, fine_as, fine_same, kind_fine, more, none, object_complete, typed_at}

conses : {a b : SimpleType} {ks ls : List SimpleType} → a ≡ b → ks ≡ ls → a ∷ ks ≡ b ∷ ls
conses e f = cc

same_arguments : {s : Environment} {l h : PlainKind} → SubstitutedKind s l h → map erase h ≡ map erase l
same_arguments in_no_argument = refl
same_arguments (in_argument p q) = conses (put_type p) (same_arguments q)

module _ (sig : PlainSignature) (xs : List PlainType) (ms : List SimpleType) (formed : FormedSetting (setting sig xs ms)) (kinds : FormedKinds sig (setting sig xs ms)) where
  abbrev z : Setting
  z = setting sig xs ms

  abbrev k : Scene
  k = scene sig xs ms

  abbrev IsFormed : Context → Type 0
  IsFormed g = SimplyFormedContext z.arguments z.simple g

  kind_put : (g : Context) (n : PlainObject) (a : PlainType) → SimplyTyped (extended_over g z.simple) n (erase a) → (l h : PlainKind) → SimplyFormedKind z.arguments (extended (erase a) (extended_over g z.simple)) l → SubstitutedKind (single n 0) l h
      → SimplyFormedKind z.arguments (extended_over g z.simple) h
  kind_put g n a p l h f s = (result_is_typed true z.arguments (inserted 0 (erase a) (extended_over g z.simple)) (extended_over g z.simple) (single n 0) ((put_is_typed true (extended_over g z.simple)).0 0 n (erase a) p)).kind l h
      (subst (λ b. SimplyFormedKind z.arguments b l) (sym (as_inserted (erase a) (extended_over g z.simple))) f) s

  indices_complete : (ns : List PlainObject) (g : Context) (l : PlainKind) (q p : List Equation) → IsFormed g → EachHasNoHole ns → SimplyFormedKind z.arguments (extended_over g z.simple) l → IndicesGather sig z g (shapes_of g) ns l q
      → Fine (after (each_after (index_after k g) ns (l, p)) no_arguments) (λ x. x ≡ p ++ q) × SimplyTypedEach (extended_over g z.simple) ns (map erase l)
  indices_complete [] g [] q p f h d w = (none p q w, tt)
  indices_complete (n ∷ ns) g (a ∷ l) q p f h d w =
      let y = typed_at sig xs ms formed n g a (unmarked_shape a) w.of_index f h.0 d.0 w.index in
      let (r1, r2) = indices_complete ns g w.after_put w.of_later (p ++ w.of_index) f h.1 (kind_put g n a y l w.after_put d.1 w.put) w.later in (
        fine_as (after (index_after k g n (a ∷ l, p)) (λ x. after (each_after (index_after k g) ns x) no_arguments)) (after (each_after (index_after k g) (n ∷ ns) (a ∷ l, p)) no_arguments) (λ x. x ≡ p ++ q)
            (then_then (index_after k g n (a ∷ l, p)) (each_after (index_after k g) ns) no_arguments)
            (fine_then (index_after k g n (a ∷ l, p)) (w.after_put, p ++ w.of_index) (λ x. after (each_after (index_after k g) ns x) no_arguments) (λ x. x ≡ p ++ q)
            (fine_then (gathered k g n a p) (p ++ w.of_index) (λ q. after (put_in_kind n a l) (λ v. made (v, q))) (λ x. x ≡ (w.after_put, p ++ w.of_index)) (object_complete sig xs ms formed n g a (unmarked_shape a) w.of_index p f h.0 d.0 refl w.index)
            (fine_then (put_in_kind n a l) w.after_put (λ v. made (v, p ++ w.of_index)) (λ x. x ≡ (w.after_put, p ++ w.of_index)) (kind_fine z g n a y l w.after_put d.1 w.put) refl))
            (fine_same (after (each_after (index_after k g) ns (w.after_put, p ++ w.of_index)) no_arguments) (more p w.of_index w.of_later q w.equations) r1)),
        (y, subst (λ ts. SimplyTypedEach (extended_over g z.simple) ns ts) (same_arguments w.put) r2),
      )
  indices_complete [] g (a ∷ l) q p f h d w = absurd w
  indices_complete (n ∷ ns) g [] q p f h d w = absurd w

  mutual
    type_complete : (a : PlainType) (g : Context) (q p : List Equation) → IsFormed g → TypeHasNoHole a → TypeGathers sig z g (shapes_of g) a q
        → Fine (type_after k g a p) (λ x. x ≡ p ++ q) × SimplyFormed z.arguments (extended_over g z.simple) a
    type_complete (family f ns) g q p c h w =
        let (l, e, v) = w in
        let (r1, r2) = indices_complete ns g l q p c h ((kinds f l e).formed g) v in
        (fine_as (indices_after k g ns (Some l) p) (type_after k g (family f ns) p) (λ x. x ≡ p ++ q) (ap (λ o. indices_after k g ns o p) e) r1, (map erase l, (kinds f l e).arguments, r2))
    type_complete (function m a b) g q p c h w =
        let (r1, r2) = type_complete a g w.of_first p c h.0 w.first in
        let (r3, r4) = type_complete b ((m, a) ∷ g) w.of_second (p ++ w.of_first) (r2, c) h.1 w.second in (
          fine_then (type_after k g a p) (p ++ w.of_first) (λ q. type_after k ((m, a) ∷ g) b q) (λ x. x ≡ p ++ q) r1 (fine_same (type_after k ((m, a) ∷ g) b (p ++ w.of_first)) (more p w.of_first w.of_second q w.equations) r3),
          (r2, r4),
        )
    type_complete (both a b) g q p c h w =
        let (r1, r2) = type_complete a g w.of_first p c h.0 w.first in
        let (r3, r4) = type_complete b g w.of_second (p ++ w.of_first) c h.1 w.second in
        (fine_then (type_after k g a p) (p ++ w.of_first) (λ q. type_after k g b q) (λ x. x ≡ p ++ q) r1 (fine_same (type_after k g b (p ++ w.of_first)) (more p w.of_first w.of_second q w.equations) r3), (r2, r4))
    type_complete top g q p c h w = (none p q w, tt)
    type_complete (monad s) g q p c h w = telescope_complete s g q p c h w

    telescope_complete : (s : PlainTelescope) (g : Context) (q p : List Equation) → IsFormed g → TelescopeHasNoHole s → TelescopeGathers sig z g (shapes_of g) s q
        → Fine (telescope_after k g s p) (λ x. x ≡ p ++ q) × SimplyFormedTelescope z.arguments (extended_over g z.simple) s
    telescope_complete end g q p c h w = (none p q w, tt)
    telescope_complete (binding m a s) g q p c h w =
        let (r1, r2) = type_complete a g w.of_first p c h.0 w.first in
        let (r3, r4) = telescope_complete s ((m, a) ∷ g) w.of_second (p ++ w.of_first) (r2, c) h.1 w.second in (
          fine_then (type_after k g a p) (p ++ w.of_first) (λ q. telescope_after k ((m, a) ∷ g) s q) (λ x. x ≡ p ++ q) r1 (fine_same (telescope_after k ((m, a) ∷ g) s (p ++ w.of_first)) (more p w.of_first w.of_second q w.equations) r3),
          (r2, r4),
        )

  kind_complete : (l : PlainKind) (g : Context) (q p : List Equation) → IsFormed g → KindHasNoHole l → KindGathers sig z g (shapes_of g) l q → Fine (kind_after k g l p) (λ x. x ≡ p ++ q)
  kind_complete [] g q p c h w = none p q w
  kind_complete (a ∷ l) g q p c h w =
      let (r1, r2) = type_complete a g w.of_first p c h.0 w.first in
      fine_then (type_after k g a p) (p ++ w.of_first) (λ q. kind_after k ((Persistent, a) ∷ g) l q) (λ x. x ≡ p ++ q) r1
      (fine_same (kind_after k ((Persistent, a) ∷ g) l (p ++ w.of_first)) (more p w.of_first w.of_second q w.equations) (kind_complete l ((Persistent, a) ∷ g) w.of_second (p ++ w.of_first) (r2, c) h.1 w.second))

  class_complete : (d : PlainClass) (q p : List Equation) → ClassHasNoHole d → ClassGathers sig z d q → Fine (class_after k d p) (λ x. x ≡ p ++ q)
  class_complete (family_of l) q p h w = kind_complete l [] q p tt h w
  class_complete (constant_of a) q p h w = (type_complete a [] q p tt h w).0

  core_complete : (c : PlainCore) (q p : List Equation) → CoreHasNoHole c → CoreGathers sig z c q → Fine (core_after k c p) (λ x. x ≡ p ++ q)
  core_complete (declares name e) q p h w = class_complete e.class q p h w
  core_complete (queries a) q p h w = (type_complete a [] q p tt h w).0
  core_complete (traces s) q p h w = (telescope_complete s [] q p tt h w).0
  core_complete (equates m n a) q p h w =
      let (r1, r2) = type_complete a [] w.of_first p tt h.0 w.first in
      let v = w.second in
      fine_then (type_after k [] a p) (p ++ w.of_first) (λ q. after (gathered k [] m a q) (λ r. gathered k [] n a r)) (λ x. x ≡ p ++ q) r1
      (fine_same (after (gathered k [] m a (p ++ w.of_first)) (λ r. gathered k [] n a r)) (more p w.of_first w.of_second q w.equations)
      (fine_then (gathered k [] m a (p ++ w.of_first)) ((p ++ w.of_first) ++ v.of_first) (λ r. gathered k [] n a r) (λ x. x ≡ (p ++ w.of_first) ++ w.of_second) (object_complete sig xs ms formed m [] a (unmarked_shape a) v.of_first (p ++ w.of_first) tt h.1 r2 refl v.first)
      (fine_same (gathered k [] n a ((p ++ w.of_first) ++ v.of_first)) (more (p ++ w.of_first) v.of_first v.of_second w.of_second v.equations) (object_complete sig xs ms formed n [] a (unmarked_shape a) v.of_second ((p ++ w.of_first) ++ v.of_first) tt h.2 r2 refl v.second))))
  core_complete (checks n a) q p h w =
      let (r1, r2) = type_complete a [] w.of_first p tt h.0 w.first in
      fine_then (type_after k [] a p) (p ++ w.of_first) (λ q. gathered k [] n a q) (λ x. x ≡ p ++ q) r1
      (fine_same (gathered k [] n a (p ++ w.of_first)) (more p w.of_first w.of_second q w.equations) (object_complete sig xs ms formed n [] a (unmarked_shape a) w.of_second (p ++ w.of_first) tt h.1 r2 refl w.second))

gives_up : {A : Type 0} (w : Answer A) (P : A → Type 0) → w ≡ untyped → Fine w P → ⊥
gives_up w P e p = subst (λ v. Fine v P) e p

-- Where the function gives up, nothing is gathered.
pub core_ungathered : (sig : PlainSignature) (xs : List PlainType) (cs ms : List SimpleType) (c : PlainCore) (p : List Equation) → cs ≡ simple_types sig ++ map erase xs
    → core_after (record { signature = sig; variables = xs; types = record { constants = cs; metavariables = ms } }) c p ≡ untyped → GathersNothing sig (setting sig xs ms) c
core_ungathered sig xs cs ms c p i e = λ formed kinds h q w.
    gives_up (core_after (scene sig xs ms) c p) (λ x. x ≡ p ++ q) (subst (λ cs. core_after (record { signature = sig; variables = xs; types = record { constants = cs; metavariables = ms } }) c p ≡ untyped) i e) (core_complete sig xs ms formed kinds c q p h w)
