-- Each metavariable that appears in what is simply formed has a simple type.
use Rattle.std.proofs.Common.{ℕ, ◌≡◌, ◌++◌, ◌==◌, Bool, true, false, if◌then◌else◌, refl, sym, ◌∙◌, List, [], ◌∷◌, Option, Some, None}
use Rattle.std.proofs.lemmas.List.Elements.{All-nil, All-push}
use Rattle.std.specs.List.{All, list_any}
use Rattle.clf_syntax.specs.declared.tree.Head.{Head}
use Rattle.clf_syntax.specs.declared.tree.Head.TheVariants.{Const, Var, Meta}
use Rattle.clf_syntax.specs.Tree.{PlainObject, PlainNeutral, PlainExpression, PlainTuple}
use Rattle.clf_syntax.specs.TypeTree.{PlainType, family, function, both, top, monad, PlainTelescope, end, binding, PlainKind, SimpleType, SimpleTelescope}
use Rattle.clf_syntax.specs.Simple.{erase, Assignment, Families, extended, extended_by, SimplyTyped, SimplyTypedEach, SimplyFormed, SimplyFormedTelescope, SimplyFormedKind}
use Rattle.hered_subst.proofs.SimpleTyping.{to_typed, Typed, typed_lam, typed_pair, typed_unit, typed_monadic, typed_metavariable, typed_atomic, TypedNeutral, typed_bare, typed_app, typed_fst, typed_snd, TypedExpression, typed_step, typed_done, TypedTuple, typed_empty, typed_entry}
use Rattle.hered_subst.proofs.Total.{extended_metavariable}
use Rattle.clf_sig.specs.Entry.{PlainClass, family_of, constant_of}
use Rattle.clf_sig.specs.Core.{PlainCore, declares, queries, traces, equates, checks}
use Rattle.clf_printer.specs.Metas.{appeared, appearing_head, appearing, appearing_neutral, appearing_expression, appearing_tuple, appearing_indices, appearing_type, appearing_telescope, appearing_kind, appearing_class}
use Rattle.pattern_laws.specs.Instantiations.{Types}
use Rattle.gathered_laws.specs.Formed.{ClassIsFormed, CoreIsFormed}
use Rattle.celf_solve.specs.Scenes.{EachIsFormed}
use Rattle.celf_reconstruct.specs.Known.{HasSimple}
use Rattle.celf_reconstruct.specs.Left.{metavariables_in, metavariables_with}

module _ (metas : Types) where
  abbrev P : ℕ → Type 0
  P m = HasSimple metas m

  -- The assignment gives metavariables these simple types.
  abbrev Has : Assignment → Type 0
  Has g = (m : ℕ) → g (Meta m) ≡ metas m

  under : (u : SimpleTelescope) (g : Assignment) → Has g → Has (extended_by u g)
  under u g h m = extended_metavariable u g m ∙ h m

  one : (ms : List ℕ) (m : ℕ) → All P ms → P m → All P (appeared ms m)
  one ms m a p = by (list_any (λ n. n == m) ms)
    where
      by : (b : Bool) → All P (if b then ms else ms ++ m ∷ [])
      by true = a
      by false = All-push P ms m a p

  head : (g : Assignment) → Has g → (ms : List ℕ) (h : Head) (t : SimpleType) → All P ms → g h ≡ Some t → All P (appearing_head ms h)
  head g has ms (Const c) t a e = a
  head g has ms (Var i) t a e = a
  head g has ms (Meta m) t a e = one ms m a (t, sym (has m) ∙ e)

  mutual
    object : {g : Assignment} {o : PlainObject} {t : SimpleType} → Typed true g o t → Has g → (ms : List ℕ) → All P ms → All P (appearing ms o)
    object (typed_lam p) has ms a = object p has ms a
    object (typed_pair {l = l} p q) has ms a = object q has (appearing ms l) (object p has ms a)
    object typed_unit has ms a = a
    object (typed_monadic p) has ms a = expression p has ms a
    object (typed_metavariable i p j) has ms a = neutral p has ms a
    object (typed_atomic p) has ms a = neutral p has ms a

    neutral : {g : Assignment} {n : PlainNeutral} {t : SimpleType} → TypedNeutral true g n t → Has g → (ms : List ℕ) → All P ms → All P (appearing_neutral ms n)
    neutral (typed_bare {g = g} {h = h} {t = t} e) has ms a = head g has ms h t a e
    neutral (typed_app {r = r} p q) has ms a = object q has (appearing_neutral ms r) (neutral p has ms a)
    neutral (typed_fst p) has ms a = neutral p has ms a
    neutral (typed_snd p) has ms a = neutral p has ms a

    expression : {g : Assignment} {x : PlainExpression} {ts : SimpleTelescope} → TypedExpression true g x ts → Has g → (ms : List ℕ) → All P ms → All P (appearing_expression ms x)
    expression (typed_step {g = g} {r = r} {ts = u} p m q) has ms a = expression q (under u g has) (appearing_neutral ms r) (neutral p has ms a)
    expression (typed_done p) has ms a = tuple p has ms a

    tuple : {g : Assignment} {x : PlainTuple} {ts : SimpleTelescope} → TypedTuple true g x ts → Has g → (ms : List ℕ) → All P ms → All P (appearing_tuple ms x)
    tuple typed_empty has ms a = a
    tuple (typed_entry {o = o} p q) has ms a = tuple q has (appearing ms o) (object p has ms a)

  module _ (arguments : Families) where
    indices : (g : Assignment) (ns : List PlainObject) (ts : List SimpleType) → SimplyTypedEach g ns ts → Has g → (ms : List ℕ) → All P ms → All P (appearing_indices ms ns)
    indices g [] ts p has ms a = a
    indices g (n ∷ ns) [] p has ms a = absurd p
    indices g (n ∷ ns) (t ∷ ts) p has ms a = indices g ns ts p.1 has (appearing ms n) (object (to_typed true g n t p.0) has ms a)

    mutual
      type : (g : Assignment) (b : PlainType) → SimplyFormed arguments g b → Has g → (ms : List ℕ) → All P ms → All P (appearing_type ms b)
      type g (family f ns) p has ms a = let (ts, e, q) = p in indices g ns ts q has ms a
      type g (function m b c) p has ms a = type (extended (erase b) g) c p.1 has (appearing_type ms b) (type g b p.0 has ms a)
      type g (both b c) p has ms a = type g c p.1 has (appearing_type ms b) (type g b p.0 has ms a)
      type g top p has ms a = a
      type g (monad s) p has ms a = telescope g s p has ms a

      telescope : (g : Assignment) (s : PlainTelescope) → SimplyFormedTelescope arguments g s → Has g → (ms : List ℕ) → All P ms → All P (appearing_telescope ms s)
      telescope g end p has ms a = a
      telescope g (binding m b s) p has ms a = telescope (extended (erase b) g) s p.1 has (appearing_type ms b) (type g b p.0 has ms a)

    kind : (g : Assignment) (k : PlainKind) → SimplyFormedKind arguments g k → Has g → (ms : List ℕ) → All P ms → All P (appearing_kind ms k)
    kind g [] p has ms a = a
    kind g (b ∷ k) p has ms a = kind (extended (erase b) g) k p.1 has (appearing_type ms b) (type g b p.0 has ms a)

    each : (g : Assignment) (as_ : List PlainType) → EachIsFormed arguments g as_ → Has g → (ms : List ℕ) → All P ms → All P (appearing_kind ms as_)
    each g [] p has ms a = a
    each g (b ∷ as_) p has ms a = each g as_ p.1 has (appearing_type ms b) (type g b p.0 has ms a)

    class : (g : Assignment) (c : PlainClass) → ClassIsFormed arguments g c → Has g → (ms : List ℕ) → All P ms → All P (appearing_class ms c)
    class g (family_of k) p has ms a = kind g k p has ms a
    class g (constant_of b) p has ms a = type g b p has ms a

    core : (g : Assignment) (c : PlainCore) → CoreIsFormed arguments g c → Has g → All P (metavariables_in c)
    core g (declares name e) p has = class g e.class p has [] (All-nil P)
    core g (queries b) p has = type g b p has [] (All-nil P)
    core g (traces s) p has = telescope g s p has [] (All-nil P)
    core g (equates m n b) p has =
        object (to_typed true g n (erase b) p.2) has (appearing (appearing_type [] b) m) (object (to_typed true g m (erase b) p.1) has (appearing_type [] b) (type g b p.0 has [] (All-nil P)))
    core g (checks n b) p has = object (to_typed true g n (erase b) p.1) has (appearing_type [] b) (type g b p.0 has [] (All-nil P))

    pub each_has_simple : (g : Assignment) (c : PlainCore) (types : List PlainType) → CoreIsFormed arguments g c → EachIsFormed arguments g types → Has g → All P (metavariables_with c types)
    each_has_simple g c types p q has = each g types q has (metavariables_in c) (core g c p has)
