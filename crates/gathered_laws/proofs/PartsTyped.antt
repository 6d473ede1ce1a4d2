-- What is gathered of types, telescopes and kinds is simply typed, and these are simply formed.
use Rattle.std.proofs.Common.{subst, sym}
use Rattle.std.specs.Prelude.{List, [], map, true, ◌++◌, ◌∷◌}
use Rattle.clf_syntax.specs.Simple.{SimplyFormed, SimplyFormedContext, SimplyFormedKind, SimplyFormedTelescope, SimplyTyped, SimplyTypedEach, erase, extended, extended_over}
use Rattle.clf_syntax.specs.Tree.{PlainObject}
use Rattle.clf_syntax.specs.TypeTree.{PlainKind, PlainTelescope, PlainType, binding, both, end, family, function, monad, top}
use Rattle.clf_syntax.specs.declared.tree.Mode.TheVariants.{Persistent}
use Rattle.use_contexts.specs.Context.{Context}
use Rattle.clf_sig.specs.Entry.{PlainSignature}
use Rattle.hered_subst.proofs.TypedEnvironments.{put_is_typed}
use Rattle.hered_subst.proofs.TypedResults.{result_is_typed}
use Rattle.hered_subst.specs.Laws.{inserted}
use Rattle.hered_subst.specs.Substitution.{SubstitutedKind, single}
use Rattle.pattern_laws.specs.Equations.{Equation}
use Rattle.typing_laws.proofs.FormedTypes.{as_inserted}
use Rattle.gathering.proofs.FormedInstances.{put_kind}
use Rattle.gathering.proofs.GatheredTyped.{gathered_is_typed}
use Rattle.gathering.specs.Instances.{FormedKinds, FormedSetting}
use Rattle.gathering.specs.Items.{IndicesGather, KindGathers, TelescopeGathers, TypeGathers}
use Rattle.gathering.specs.Setting.{EquationsTyped, NoImplicit, NoVariables, Setting}
use Rattle.gathering.specs.Shape.{Shape, unmarked_shape}
use Rattle.celf_gather.specs.Holes.{EachHasNoHole, KindHasNoHole, TelescopeHasNoHole, TypeHasNoHole}
use Rattle.gathered_laws.specs.Laws.{GatheredPartsAreTyped}

pub typed_both : (z : Setting) (p q : List Equation) → EquationsTyped z p → EquationsTyped z q → EquationsTyped z (p ++ q)
typed_both z [] q x y = y
typed_both z (e ∷ p) q x y = (x.0, typed_both z p q x.1 y)

module _ (sig : PlainSignature) (z : Setting) (formed : FormedSetting z) (none : NoImplicit z) (free : NoVariables z) (kinds : FormedKinds sig z) where
  abbrev IsFormed : Context → Type 0
  IsFormed g = SimplyFormedContext z.arguments z.simple g

  kind_put : (g : Context) (n : PlainObject) (a : PlainType) → SimplyTyped (extended_over g z.simple) n (erase a) → (k l : PlainKind) → SimplyFormedKind z.arguments (extended (erase a) (extended_over g z.simple)) k
      → SubstitutedKind (single n 0) k l → SimplyFormedKind z.arguments (extended_over g z.simple) l
  kind_put g n a p k l f s = (result_is_typed true z.arguments (inserted 0 (erase a) (extended_over g z.simple)) (extended_over g z.simple) (single n 0) ((put_is_typed true (extended_over g z.simple)).0 0 n (erase a) p)).kind k l
      (subst (λ b. SimplyFormedKind z.arguments b k) (sym (as_inserted (erase a) (extended_over g z.simple))) f) s

  indices_typed : (ns : List PlainObject) (g : Context) (w : List Shape) (k : PlainKind) (q : List Equation) → IsFormed g → EachHasNoHole ns → SimplyFormedKind z.arguments (extended_over g z.simple) k → IndicesGather sig z g w ns k q
      → EquationsTyped z q × SimplyTypedEach (extended_over g z.simple) ns (map erase k)
  indices_typed [] g w [] q c h f p = (subst (EquationsTyped z) (sym p) tt, tt)
  indices_typed (n ∷ ns) g w (a ∷ k) q c h f p =
      let (r1, r2) = gathered_is_typed z formed none free g w n a (unmarked_shape a) p.of_index c f.0 h.0 p.index in
      let (r3, r4) = indices_typed ns g w p.after_put p.of_later c h.1 (kind_put g n a r2 k p.after_put f.1 p.put) p.later in
      (subst (EquationsTyped z) (sym p.equations) (typed_both z p.of_index p.of_later r1 r3), (r2, subst (λ ts. SimplyTypedEach (extended_over g z.simple) ns ts) (put_kind p.put) r4))
  indices_typed [] g w (a ∷ k) q c h f p = absurd p
  indices_typed (n ∷ ns) g w [] q c h f p = absurd p

  mutual
    pub type_typed : (a : PlainType) (g : Context) (w : List Shape) (q : List Equation) → IsFormed g → TypeHasNoHole a → TypeGathers sig z g w a q
        → EquationsTyped z q × SimplyFormed z.arguments (extended_over g z.simple) a
    type_typed (family f ns) g w q c h p =
        let (k, e, v) = p in let (r1, r2) = indices_typed ns g w k q c h ((kinds f k e).formed g) v in
        (r1, (map erase k, (kinds f k e).arguments, r2))
    type_typed (function m a b) g w q c h p =
        let (r1, r2) = type_typed a g w p.of_first c h.0 p.first in
        let (r3, r4) = type_typed b ((m, a) ∷ g) (unmarked_shape a ∷ w) p.of_second (r2, c) h.1 p.second in
        (subst (EquationsTyped z) (sym p.equations) (typed_both z p.of_first p.of_second r1 r3), (r2, r4))
    type_typed (both a b) g w q c h p =
        let (r1, r2) = type_typed a g w p.of_first c h.0 p.first in
        let (r3, r4) = type_typed b g w p.of_second c h.1 p.second in
        (subst (EquationsTyped z) (sym p.equations) (typed_both z p.of_first p.of_second r1 r3), (r2, r4))
    type_typed top g w q c h p = (subst (EquationsTyped z) (sym p) tt, tt)
    type_typed (monad s) g w q c h p = telescope_typed s g w q c h p

    pub telescope_typed : (s : PlainTelescope) (g : Context) (w : List Shape) (q : List Equation) → IsFormed g → TelescopeHasNoHole s → TelescopeGathers sig z g w s q
        → EquationsTyped z q × SimplyFormedTelescope z.arguments (extended_over g z.simple) s
    telescope_typed end g w q c h p = (subst (EquationsTyped z) (sym p) tt, tt)
    telescope_typed (binding m a s) g w q c h p =
        let (r1, r2) = type_typed a g w p.of_first c h.0 p.first in
        let (r3, r4) = telescope_typed s ((m, a) ∷ g) (unmarked_shape a ∷ w) p.of_second (r2, c) h.1 p.second in
        (subst (EquationsTyped z) (sym p.equations) (typed_both z p.of_first p.of_second r1 r3), (r2, r4))

  pub kind_typed : (k : PlainKind) (g : Context) (w : List Shape) (q : List Equation) → IsFormed g → KindHasNoHole k → KindGathers sig z g w k q
      → EquationsTyped z q × SimplyFormedKind z.arguments (extended_over g z.simple) k
  kind_typed [] g w q c h p = (subst (EquationsTyped z) (sym p) tt, tt)
  kind_typed (a ∷ k) g w q c h p =
      let (r1, r2) = type_typed a g w p.of_first c h.0 p.first in
      let (r3, r4) = kind_typed k ((Persistent, a) ∷ g) (unmarked_shape a ∷ w) p.of_second (r2, c) h.1 p.second in
      (subst (EquationsTyped z) (sym p.equations) (typed_both z p.of_first p.of_second r1 r3), (r2, r4))

pub gathered_parts_are_typed : GatheredPartsAreTyped
gathered_parts_are_typed sig z formed none free kinds g w q c = record {
  types = λ a h p. type_typed sig z formed none free kinds a g w q c h p;
  telescopes = λ s h p. telescope_typed sig z formed none free kinds s g w q c h p;
  kinds = λ k h p. kind_typed sig z formed none free kinds k g w q c h p;
}
