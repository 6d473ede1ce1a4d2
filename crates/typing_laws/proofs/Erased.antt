-- What is typed is simply typed.
use Rattle.std.specs.Prelude.{ℕ, zero, suc, ◌+◌, ◌≡◌, Bool, true, [], ◌∷◌, Some, refl, length}
use Rattle.std.specs.List.{slice_get}
use Rattle.std.specs.Option.{option_map}
use Rattle.std.proofs.Common.{ap, sym, subst, ◌∙◌, inl}
use Rattle.clf_syntax.specs.declared.tree.Mode.{Mode}
use Rattle.clf_syntax.specs.declared.tree.Head.{Head}
use Rattle.clf_syntax.specs.declared.tree.Head.TheVariants.{Const, Var, Meta}
use Rattle.clf_syntax.specs.Tree.{PlainObject, lam, pair, unit, monadic, atomic, hole, PlainNeutral, head_alone, app, fst, snd, PlainExpression, step, done, PlainTuple, empty, entry}
use Rattle.clf_syntax.specs.TypeTree.{PlainType, family, function, both, monad, PlainTelescope, end, binding, arrow, lax}
use Rattle.clf_syntax.specs.Simple.{erase, erase_telescope, Assignment, extended_by, extended_over, simple_modes, no_holes, SimplyTypedWith, NeutralSimplyTypedWith, ExpressionSimplyTypedWith, TupleSimplyTypedWith}
use Rattle.clf_syntax.specs.Renaming.{Renumbering, ren_type, ren_telescope, up}
use Rattle.use_contexts.specs.Context.{Context, telescope_modes, with_entries}
use Rattle.use_contexts.specs.Holding.{Holding, all_held}
use Rattle.hered_subst.specs.Substitution.{Environment, SubstitutedType, in_family, in_function, in_both, in_top, in_monad, SubstitutedTelescope, in_end, in_binding}
use Rattle.hered_subst.proofs.Types.{renaming_substitutes}
use Rattle.hered_subst.proofs.TypedResults.{arrows, products, bindings}
use Rattle.clf_sig.specs.Entry.{PlainSignature}
use Rattle.clf_rules.specs.Typing.{HeadHasType, HasType, Synthesizes, ExpressionHasType, TupleHasType}
use Rattle.typing_laws.specs.SimpleTyping.{constants_of, simple_of, TypedIsSimplyTyped}

mutual
  pub put_type : {s : Environment} {a x : PlainType} → SubstitutedType s a x → erase x ≡ erase a
  put_type (in_family p) = refl
  put_type (in_function {m = m} p q) = arrows m (put_type p) (put_type q)
  put_type (in_both p q) = products (put_type p) (put_type q)
  put_type in_top = refl
  put_type (in_monad p) = ap lax (put_telescope p)

  pub put_telescope : {s : Environment} {t u : PlainTelescope} → SubstitutedTelescope s t u → erase_telescope u ≡ erase_telescope t
  put_telescope in_end = refl
  put_telescope (in_binding {m = m} p q) = bindings m (put_type p) (put_telescope q)

erased_type : (r : Renumbering) (a : PlainType) → erase (ren_type r a) ≡ erase a
erased_type r a = put_type ((renaming_substitutes r).1 a)

pub erased_telescope : (r : Renumbering) (s : PlainTelescope) → erase_telescope (ren_telescope r s) ≡ erase_telescope s
erased_telescope r s = put_telescope ((renaming_substitutes r).2 s)

of_variable : (z : Assignment) (g : Context) (i : ℕ) (m : Mode) (b : PlainType) → slice_get g i ≡ Some (m, b) → extended_over g z (Var i) ≡ Some (erase b)
of_variable z [] i m b e = absurd (cc)
of_variable z (x ∷ g) zero m b e = ap (λ y. Some (erase y)) (same e)
  where
    same : Some x ≡ Some (m, b) → x.1 ≡ b
    same e = cc
of_variable z (x ∷ g) (suc i) m b e = of_variable z g i m b e

pub of_constant : (z : Assignment) (g : Context) (c : ℕ) → extended_over g z (Const c) ≡ z (Const c)
of_constant z [] c = refl
of_constant z (e ∷ g) c = of_constant z g c

pub entered : (z : Assignment) (u : PlainTelescope) (g : Context) → extended_over (with_entries u g) z ≡ extended_by (erase_telescope u) (extended_over g z)
entered z end g = refl
entered z (binding m a s) g = entered z s ((m, a) ∷ g)

pub erased_modes : (u : PlainTelescope) → simple_modes (erase_telescope u) ≡ telescope_modes u
erased_modes end = refl
erased_modes (binding m a s) = ap (λ ms. m ∷ ms) (erased_modes s)

head : (sig : PlainSignature) (g : Context) (h : Holding) (x : Head) (a : PlainType) → HeadHasType sig g h x a → simple_of sig g x ≡ Some (erase a)
head sig g h (Const c) a p = of_constant (constants_of sig) g c ∙ ap (option_map erase) p.0
head sig g h (Var i) a p = let (m, b, e, f) = p.1 in of_variable (constants_of sig) g i m b e ∙ ap (λ t. Some t) (sym (ap erase f ∙ erased_type (up (i + 1)) b))
head sig g h (Meta k) a p = absurd p

module _ (w : Bool) where
  mutual
    pub object : (sig : PlainSignature) (g : Context) (h : Holding) (n : PlainObject) (a : PlainType) → HasType sig g h n a → SimplyTypedWith (no_holes w) (simple_of sig g) n (erase a)
    object sig g h (lam m b) a p = (erase p.domain, erase p.range, ap erase p.type, object sig ((m, p.domain) ∷ g) (true ∷ h) b p.range p.body)
    object sig g h (pair l r) a p = (erase p.left_type, erase p.right_type, ap erase p.type, object sig g h l p.left_type p.left, object sig g h r p.right_type p.right)
    object sig g h unit a p = ap erase p
    object sig g h (monadic x) a p = let (s, q, u) = p in (erase_telescope s, ap erase q, expression sig g h x s u)
    object sig g h (atomic n) a p = subst (λ t. SimplyTypedWith (no_holes w) (simple_of sig g) (atomic n) t) (sym (ap erase p.type)) (inl (p.number, refl), neutral sig g h n (family p.number p.found) p.neutral)
    object sig g h hole a p = absurd p

    pub neutral : (sig : PlainSignature) (g : Context) (h : Holding) (n : PlainNeutral) (a : PlainType) → Synthesizes sig g h n a → NeutralSimplyTypedWith (no_holes w) (simple_of sig g) n (erase a)
    neutral sig g h (head_alone x) a p = head sig g h x a p
    neutral sig g h (app m r n) a p =
        (erase p.domain, subst (λ t. NeutralSimplyTypedWith (no_holes w) (simple_of sig g) r (arrow m (erase p.domain) t)) (sym (put_type p.type)) (neutral sig g p.for_function r (function m p.domain p.range) p.applied), object sig g p.for_argument n p.domain p.argument)
    neutral sig g h (fst r) a p = (erase p.0, neutral sig g h r (both a p.0) p.1)
    neutral sig g h (snd r) a p = (erase p.0, neutral sig g h r (both p.0 a) p.1)

    pub expression : (sig : PlainSignature) (g : Context) (h : Holding) (x : PlainExpression) (s : PlainTelescope) → ExpressionHasType sig g h x s → ExpressionSimplyTypedWith (no_holes w) (simple_of sig g) x (erase_telescope s)
    expression sig g h (step ms r x) s p = (
      erase_telescope p.entries,
      neutral sig g p.for_right r (monad p.entries) p.right,
      erased_modes p.entries ∙ p.pattern,
      subst (λ z. ExpressionSimplyTypedWith (no_holes w) z x (erase_telescope s)) (entered (constants_of sig) p.entries g)
          (subst (λ y. ExpressionSimplyTypedWith (no_holes w) (simple_of sig (with_entries p.entries g)) x y) (erased_telescope (up (length ms)) s)
          (expression sig (with_entries p.entries g) (all_held ms p.for_rest) x (ren_telescope (up (length ms)) s) p.rest)),
    )
    expression sig g h (done t) s p = tuple sig g h t s p

    pub tuple : (sig : PlainSignature) (g : Context) (h : Holding) (t : PlainTuple) (s : PlainTelescope) → TupleHasType sig g h t s → TupleSimplyTypedWith (no_holes w) (simple_of sig g) t (erase_telescope s)
    tuple sig g h empty s p = ap erase_telescope p.0
    tuple sig g h (entry m n t) s p =
        (erase p.first_type, erase_telescope p.after_put, ap erase_telescope p.type ∙ bindings m refl (sym (put_telescope p.put)), object sig g p.for_first n p.first_type p.first, tuple sig g p.for_later t p.after_put p.later)

pub typed_is_simply_typed : TypedIsSimplyTyped
typed_is_simply_typed w sig g h = record { objects = object w sig g h; neutrals = neutral w sig g h; expressions = expression w sig g h; tuples = tuple w sig g h }
