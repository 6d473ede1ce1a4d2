-- What is simply typed stays so where more heads have types.
use Rattle.std.specs.Prelude.{◌≡◌, true, List, [], ◌∷◌, Some, refl}
use Rattle.std.proofs.Common.{inl}
use Rattle.clf_syntax.specs.declared.tree.Head.{Head}
use Rattle.clf_syntax.specs.Tree.{PlainObject}
use Rattle.clf_syntax.specs.TypeTree.{PlainType, PlainTelescope, PlainKind, SimpleType}
use Rattle.clf_syntax.specs.Simple.{erase, Assignment, Families, SimplyTyped, SimplyFormed, SimplyFormedTelescope, SimplyFormedKind}
use Rattle.hered_subst.specs.Substitution.{keep, Environment}
use Rattle.hered_subst.specs.TypedEnvironments.{TypedEnvironment}
use Rattle.hered_subst.specs.Laws.{ResultsAreTyped}
use Rattle.hered_subst.proofs.TypedResults.{result_is_typed}
use Rattle.subst_laws.specs.Laws.{KeepsTrees}
use Rattle.subst_laws.proofs.Results.{unmoved}
use Rattle.clf_sig.specs.Entry.{PlainClass, family_of, constant_of}
use Rattle.clf_sig.specs.Core.{PlainCore, declares, queries, traces, equates, checks}
use Rattle.gathered_laws.specs.Formed.{ClassIsFormed, CoreIsFormed}
use Rattle.celf_solve.specs.Scenes.{EachIsFormed}

-- Each head has the type that it had.
abbrev pub HasMore : Assignment → Assignment → Type 0
HasMore g z = (h : Head) (t : SimpleType) → g h ≡ Some t → z h ≡ Some t

module _ (arguments : Families) (g z : Assignment) (more : HasMore g z) where
  kept : Environment
  kept h = keep h

  typed_kept : TypedEnvironment true g z kept
  unfolding kept
  typed_kept h u e = inl (h, refl, more h u e, refl)

  stays : KeepsTrees arguments g kept
  unfolding kept
  stays = unmoved arguments g kept (λ h t e. refl)

  results : ResultsAreTyped true arguments g z kept
  results = result_is_typed true arguments g z kept typed_kept

  object_more : (n : PlainObject) (t : SimpleType) → SimplyTyped g n t → SimplyTyped z n t
  object_more n t p = results.object n n t p (stays.object n t p)

  type_more : (a : PlainType) → SimplyFormed arguments g a → SimplyFormed arguments z a
  type_more a p = (results.type a a p (stays.type a p)).0

  telescope_more : (s : PlainTelescope) → SimplyFormedTelescope arguments g s → SimplyFormedTelescope arguments z s
  telescope_more s p = (results.telescope s s p (stays.telescope s p)).0

  kind_more : (k : PlainKind) → SimplyFormedKind arguments g k → SimplyFormedKind arguments z k
  kind_more k p = results.kind k k p (stays.kind k p)

  pub each_more : (as_ : List PlainType) → EachIsFormed arguments g as_ → EachIsFormed arguments z as_
  each_more [] p = p
  each_more (a ∷ as_) p = (type_more a p.0, each_more as_ p.1)

  class_more : (c : PlainClass) → ClassIsFormed arguments g c → ClassIsFormed arguments z c
  class_more (family_of k) p = kind_more k p
  class_more (constant_of a) p = type_more a p

  pub core_more : (c : PlainCore) → CoreIsFormed arguments g c → CoreIsFormed arguments z c
  core_more (declares name e) p = class_more e.class p
  core_more (queries a) p = type_more a p
  core_more (traces s) p = telescope_more s p
  core_more (equates m n a) p = (type_more a p.0, object_more m (erase a) p.1, object_more n (erase a) p.2)
  core_more (checks n a) p = (type_more a p.0, object_more n (erase a) p.1)
