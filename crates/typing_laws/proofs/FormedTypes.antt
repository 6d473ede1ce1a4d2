-- What is well formed is simply formed, and so is the type of a neutral.
use Rattle.std.specs.Prelude.{ℕ, zero, suc, ◌+◌, ◌≡◌, Bool, true, List, [], ◌∷◌, map, Some, refl}
use Rattle.std.specs.List.{slice_get}
use Rattle.std.specs.Option.{option_map}
use Rattle.std.proofs.Common.{ap, sym, subst, ◌∙◌, arith, add-one, inl}
use Rattle.clf_syntax.specs.declared.tree.Mode.{Mode}
use Rattle.clf_syntax.specs.declared.tree.Head.{Head}
use Rattle.clf_syntax.specs.declared.tree.Head.TheVariants.{Const, Var, Meta}
use Rattle.clf_syntax.specs.Tree.{PlainObject, head_alone, app, fst, snd}
use Rattle.clf_syntax.specs.TypeTree.{PlainType, family, function, both, top, monad, PlainTelescope, end, binding, PlainKind, SimpleType}
use Rattle.clf_syntax.specs.Simple.{erase, Assignment, extended, extended_over, no_holes, EachSimplyTypedWith, Families, SimplyFormedWith, TelescopeSimplyFormedWith, KindSimplyFormedWith, SimplyFormed, SimplyFormedContext}
use Rattle.clf_syntax.specs.Renaming.{Renumbering, ren_head, ren_type, up}
use Rattle.clf_syntax.proofs.RenamingLaws.{ext}
use Rattle.clf_syntax.proofs.TypeRenaming.{composed_type, identity_type, conses}
use Rattle.use_contexts.specs.Context.{Context, modes}
use Rattle.use_contexts.specs.Holding.{persistent_alone}
use Rattle.hered_subst.specs.Substitution.{Environment, single, SubstitutedKind, in_no_argument, in_argument}
use Rattle.hered_subst.specs.Laws.{keeping, inserted}
use Rattle.hered_subst.specs.TypedEnvironments.{TypedEnvironment, is_metavariable}
use Rattle.hered_subst.proofs.Types.{renaming_substitutes}
use Rattle.hered_subst.proofs.TypedEnvironments.{keeps_single}
use Rattle.hered_subst.proofs.TypedResults.{result_is_typed}
use Rattle.clf_sig.specs.Entry.{PlainSignature}
use Rattle.clf_rules.specs.WellFormed.{IndicesHaveTypes, WellFormedType, WellFormedTelescope, WellFormedKind, WellFormedContext}
use Rattle.clf_rules.proofs.Signatures.{entries_well_formed}
use Rattle.typing_laws.specs.SimpleTyping.{constants_of, simple_of, families_of, WellFormedIsSimplyFormed, SynthesizedIsSimplyFormed}
use Rattle.typing_laws.proofs.Erased.{put_type, object}

-- ---- well formed is simply formed
put_kind : {s : Environment} {k l : PlainKind} → SubstitutedKind s k l → map erase l ≡ map erase k
put_kind in_no_argument = refl
put_kind (in_argument p q) = conses (put_type p) (put_kind q)

module _ (w : Bool) where
  each : (sig : PlainSignature) (g : Context) (ns : List PlainObject) (k : PlainKind) → IndicesHaveTypes sig g ns k → EachSimplyTypedWith (no_holes w) (simple_of sig g) ns (map erase k)
  each sig g [] [] p = tt
  each sig g (n ∷ ns) (a ∷ k) p = (
    object w sig g (persistent_alone (modes g)) n a p.index,
    subst (λ ts. EachSimplyTypedWith (no_holes w) (simple_of sig g) ns ts) (put_kind p.put) (each sig g ns p.after_put p.later),
  )
  each sig g [] (a ∷ k) p = absurd p
  each sig g (n ∷ ns) [] p = absurd p

  mutual
    formed : (sig : PlainSignature) (g : Context) (a : PlainType) → WellFormedType sig g a → SimplyFormedWith (no_holes w) (families_of sig) (simple_of sig g) a
    formed sig g (family f ns) p = (map erase p.0, ap (option_map (map erase)) p.1, each sig g ns p.0 p.2)
    formed sig g (function m a b) p = (formed sig g a p.0, formed sig ((m, a) ∷ g) b p.1)
    formed sig g (both a b) p = (formed sig g a p.0, formed sig g b p.1)
    formed sig g top p = tt
    formed sig g (monad s) p = formed_telescope sig g s p

    formed_telescope : (sig : PlainSignature) (g : Context) (s : PlainTelescope) → WellFormedTelescope sig g s → TelescopeSimplyFormedWith (no_holes w) (families_of sig) (simple_of sig g) s
    formed_telescope sig g end p = tt
    formed_telescope sig g (binding m a s) p = (formed sig g a p.0, formed_telescope sig ((m, a) ∷ g) s p.1)

  formed_kind : (sig : PlainSignature) (g : Context) (k : PlainKind) → WellFormedKind sig g k → KindSimplyFormedWith (no_holes w) (families_of sig) (simple_of sig g) k
  formed_kind sig g [] p = tt
  formed_kind sig g (a ∷ k) p = (formed sig g a p.0, formed_kind sig _ k p.1)

formed_context : (sig : PlainSignature) (g : Context) → WellFormedContext sig g → SimplyFormedContext (families_of sig) (constants_of sig) g
formed_context sig [] p = tt
formed_context sig (e ∷ g) p = (formed true sig g e.1 p.0, formed_context sig g p.1)

pub well_formed_is_simply_formed : WellFormedIsSimplyFormed
well_formed_is_simply_formed sig g = record { types = λ w. formed w sig g; telescopes = λ w. formed_telescope w sig g; kinds = λ w. formed_kind w sig g; context = formed_context sig g }

-- ---- renamed types: a renaming is a typed environment
pub renames : (z y : Assignment) (r : Renumbering) → ((h : Head) (t : SimpleType) → z h ≡ Some t → y (ren_head r h) ≡ Some t) → TypedEnvironment true z y (keeping r)
renames z y r f h t e = inl (ren_head r h, refl, f h t e, same_sort h)
  where
    same_sort : (h : Head) → is_metavariable (ren_head r h) ≡ is_metavariable h
    same_sort (Const c) = refl
    same_sort (Var i) = refl
    same_sort (Meta m) = refl

module _ (arguments : Families) where
  pub renamed : (z y : Assignment) (r : Renumbering) → ((h : Head) (t : SimpleType) → z h ≡ Some t → y (ren_head r h) ≡ Some t) → (a : PlainType) → SimplyFormed arguments z a → SimplyFormed arguments y (ren_type r a)
  renamed z y r f a p = ((result_is_typed true arguments z y (keeping r) (renames z y r f)).type a (ren_type r a) p ((renaming_substitutes r).1 a)).0

  past_one : (t : SimpleType) (z : Assignment) (h : Head) (u : SimpleType) → z h ≡ Some u → extended t z (ren_head (up 1) h) ≡ Some u
  past_one t z (Const c) u e = e
  past_one t z (Var i) u e = ap (λ j. extended t z (Var j)) (add-one i) ∙ e
  past_one t z (Meta k) u e = e

  the_entry : {x y : Mode × PlainType} → Some x ≡ Some y → x.1 ≡ y.1
  the_entry e = cc

  further : (k i : ℕ) → (i + (k + 1)) + 1 ≡ i + (suc k + 1)
  further k i = omega arith

  -- the type of a variable
  variable : (z : Assignment) (g : Context) (i : ℕ) (m : Mode) (b : PlainType) → SimplyFormedContext arguments z g → slice_get g i ≡ Some (m, b) → SimplyFormed arguments (extended_over g z) (ren_type (up (i + 1)) b)
  variable z [] i m b p e = absurd (cc)
  variable z (x ∷ g) zero m b p e = subst (λ c. SimplyFormed arguments (extended_over (x ∷ g) z) (ren_type (up 1) c)) (the_entry e) (renamed (extended_over g z) (extended_over (x ∷ g) z) (up 1) (past_one (erase x.1) (extended_over g z)) x.1 p.0)
  variable z (x ∷ g) (suc k) m b p e = subst (λ c. SimplyFormed arguments (extended_over (x ∷ g) z) c)
      (composed_type (up 1) (up (k + 1)) b ∙ ap (λ r. ren_type r b) (ext (further k)))
      (renamed (extended_over g z) (extended_over (x ∷ g) z) (up 1) (past_one (erase x.1) (extended_over g z)) (ren_type (up (k + 1)) b) (variable z g k m b p.1 e))

-- the constants have the same simple types in every context
pub closed_within : (sig : PlainSignature) (g : Context) (h : Head) (t : SimpleType) → constants_of sig h ≡ Some t → simple_of sig g (ren_head (λ i. i) h) ≡ Some t
closed_within sig [] (Const c) t e = e
closed_within sig [] (Var i) t e = e
closed_within sig [] (Meta k) t e = e
closed_within sig (x ∷ g) (Const c) t e = closed_within sig g (Const c) t e
closed_within sig (x ∷ g) (Var i) t e = absurd (cc)
closed_within sig (x ∷ g) (Meta k) t e = absurd (cc)

inserted_above : (u : SimpleType) (z : Assignment) (i : ℕ) → inserted 0 u z (Var (i + 1)) ≡ z (Var i)
inserted_above u z i = grind arith

inserted_first : (u : SimpleType) (z : Assignment) → inserted 0 u z (Var 0) ≡ Some u
inserted_first u z = grind arith

pub as_inserted : (u : SimpleType) (z : Assignment) → inserted 0 u z ≡ extended u z
as_inserted u z = ext (λ h. at_head h)
  where
    at_head : (h : Head) → inserted 0 u z h ≡ extended u z h
    at_head (Const c) = refl
    at_head (Var zero) = inserted_first u z
    at_head (Var (suc i)) = sym (ap (λ j. inserted 0 u z (Var j)) (add-one i)) ∙ inserted_above u z i
    at_head (Meta k) = refl

pub synthesized_is_simply_formed : SynthesizedIsSimplyFormed
synthesized_is_simply_formed sig g w s h (head_alone (Const c)) a p = subst (λ b. SimplyFormed (families_of sig) (simple_of sig g) b) (identity_type a)
    (renamed (families_of sig) (constants_of sig) (simple_of sig g) (λ i. i) (closed_within sig g) a (formed true sig [] a ((entries_well_formed sig w).1 c a p.0)))
synthesized_is_simply_formed sig g w s h (head_alone (Var i)) a p = let (m, b, e, f) = p.1 in subst (λ c. SimplyFormed (families_of sig) (simple_of sig g) c) (sym f) (variable (families_of sig) (constants_of sig) g i m b s e)
synthesized_is_simply_formed sig g w s h (head_alone (Meta k)) a p = absurd p
synthesized_is_simply_formed sig g w s h (app m r n) a p =
    let f = (synthesized_is_simply_formed sig g w s p.for_function r (function m p.domain p.range) p.applied).1 in
    ((result_is_typed true (families_of sig) (inserted 0 (erase p.domain) (simple_of sig g)) (simple_of sig g) (single n 0)
    (keeps_single true (simple_of sig g) 0 n (erase p.domain) (object true sig g p.for_argument n p.domain p.argument))).type p.range a
    (subst (λ y. SimplyFormed (families_of sig) y p.range) (sym (as_inserted (erase p.domain) (simple_of sig g))) f) p.type).0
synthesized_is_simply_formed sig g w s h (fst r) a p = (synthesized_is_simply_formed sig g w s h r (both a p.0) p.1).0
synthesized_is_simply_formed sig g w s h (snd r) a p = (synthesized_is_simply_formed sig g w s h r (both p.0 a) p.1).1
