-- Types of a store: under binders, of what a solved metavariable stands for, and those that the store has itself.
use Rattle.std.specs.Prelude.{ℕ, nat_eq, if◌then◌else◌, Bool, true, false, ◌≡◌, List, [], ◌∷◌, ◌++◌, Some, refl}
use Rattle.std.proofs.Common.{ap, sym, subst, ◌∙◌, arith}
use Rattle.std.specs.List.{slice_get}
use Rattle.clf_syntax.specs.declared.tree.Head.{Head}
use Rattle.clf_syntax.specs.declared.tree.Head.TheVariants.{Const, Var, Meta}
use Rattle.clf_syntax.specs.Tree.{PlainObject}
use Rattle.clf_syntax.specs.TypeTree.{SimpleType, SimpleTelescope, simple_end, simple_binding}
use Rattle.clf_syntax.specs.Simple.{Assignment, assigned, extended, extended_by, SimplyTyped}
use Rattle.clf_syntax.proofs.RenamingLaws.{ext}
use Rattle.hered_subst.proofs.SimpleTyping.{to_typed, of_typed}
use Rattle.store_laws.specs.Additions.{Addition, new, solved, meta_types, given, heads_of}
use Rattle.clf_syntax.proofs.Lists.{get-front}
use Rattle.store_laws.proofs.Lists.{types-append}
use Rattle.store_laws.proofs.Mentioned.{typed_where}
use Rattle.metavars.specs.Typed.{without_variables, TypesStore}
use Rattle.metavars.specs.Laws.{StoreIsTyped}

without-extended : (d : SimpleType) (z : Assignment) → without_variables (extended d z) ≡ without_variables z
without-extended d z = ext (λ h. at_head h)
  where
    at_head : (h : Head) → without_variables (extended d z) h ≡ without_variables z h
    at_head (Const c) = refl
    at_head (Var i) = refl
    at_head (Meta m) = refl

pub types-extended : (d : SimpleType) (z : Assignment) (zs : List Addition) → TypesStore z zs → TypesStore (extended d z) zs
types-extended d z zs w = record {
  metavariables = λ m t e. w.metavariables m t e;
  solutions = λ m o e. let (t, i, p) = w.solutions m o e in (t, i, subst (λ g. SimplyTyped g o t) (sym (without-extended d z)) p);
}

pub types-extended_by : (ts : SimpleTelescope) (z : Assignment) (zs : List Addition) → TypesStore z zs → TypesStore (extended_by ts z) zs
types-extended_by simple_end z zs w = w
types-extended_by (simple_binding m t u) z zs w = types-extended_by u (extended t z) zs (types-extended t z zs w)

-- more heads have types
more-heads : (g z : Assignment) → ((h : Head) (u : SimpleType) → g h ≡ Some u → z h ≡ Some u) → (o : PlainObject) (t : SimpleType) → SimplyTyped g o t → SimplyTyped z o t
more-heads g z f o t p = of_typed (typed_where z (to_typed true g o t p) (λ h u n e. f h u e) (λ m u n e. f (Meta m) u e))

pub one-type : {a b : SimpleType} → Some a ≡ Some b → a ≡ b
one-type e = cc

pub solution-typed : (z : Assignment) (zs : List Addition) (m : ℕ) (o : PlainObject) (t : SimpleType) → TypesStore z zs → z (Meta m) ≡ Some t → given zs m ≡ Some o → SimplyTyped z o t
solution-typed z zs m o t w e f = let (u, i, p) = w.solutions m o f in
    subst (λ a. SimplyTyped z o a) (one-type (sym (w.metavariables m u i) ∙ e)) (more-heads (without_variables z) z (λ h a q. kept h a q) o u p)
  where
    kept : (h : Head) (a : SimpleType) → without_variables z h ≡ Some a → z h ≡ Some a
    kept (Const c) a q = q
    kept (Var i) a q = absurd (cc)
    kept (Meta k) a q = q

-- ---- the types that a store has

-- where a solution was added
given-added : (zs : List Addition) (m : ℕ) (o : PlainObject) → given zs m ≡ Some o → (before after : List Addition) × (zs ≡ before ++ solved m o ∷ after)
given-added [] m o e = absurd (cc)
given-added (new t ∷ zs) m o e = let (before, after, f) = given-added zs m o e in (new t ∷ before, after, ap (λ l. new t ∷ l) f)
given-added (solved k u ∷ zs) m o e = by (nat_eq m k) refl e (λ f. given-added zs m o f)
  where
    same_number : nat_eq m k ≡ true → k ≡ m
    same_number q = grind arith

    by : (b : Bool) → nat_eq m k ≡ b → (if b then Some u else given zs m) ≡ Some o → (given zs m ≡ Some o → (before after : List Addition) × (zs ≡ before ++ solved m o ∷ after))
        → (before after : List Addition) × (solved k u ∷ zs ≡ before ++ solved m o ∷ after)
    by true q f h = let i : k ≡ m = same_number q in let j : u ≡ o = cc (f) in ([], zs, ap (λ a. solved a u ∷ zs) i ∙ ap (λ x. solved m x ∷ zs) j)
    by false q f h = let (before, after, g) = h f in (solved k u ∷ before, after, ap (λ l. solved k u ∷ l) g)

pub store_is_typed : StoreIsTyped
store_is_typed constants zs store variables = record {
  metavariables = λ m t e. e;
  solutions = λ m o e. of_added m o (given-added zs m o e);
}
  where
    of_added : (m : ℕ) (o : PlainObject) → (before after : List Addition) × (zs ≡ before ++ solved m o ∷ after)
        → (t : SimpleType) × (slice_get (meta_types zs) m ≡ Some t) × SimplyTyped (without_variables (assigned constants (meta_types zs) variables)) o t
    of_added m o (before, after, e) = let (t, i, p) = (store before m o after e).typed in (t, later m t i, more-heads (heads_of constants before) (without_variables (assigned constants (meta_types zs) variables)) (λ h a q. at_head h a q) o t p)
      where
        later : (k : ℕ) (a : SimpleType) → slice_get (meta_types before) k ≡ Some a → slice_get (meta_types zs) k ≡ Some a
        later k a q = ap (λ l. slice_get (meta_types l) k) e ∙ ap (λ ts. slice_get ts k) (types-append before (solved m o ∷ after)) ∙ get-front (meta_types before) (meta_types after) k a q

        at_head : (h : Head) (a : SimpleType) → heads_of constants before h ≡ Some a → without_variables (assigned constants (meta_types zs) variables) h ≡ Some a
        at_head (Const c) a q = q
        at_head (Var i) a q = absurd (cc)
        at_head (Meta k) a q = later k a q
