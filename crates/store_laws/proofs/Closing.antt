-- With one more solution all solutions may again be put in.
use Rattle.std.specs.Prelude.{ℕ, Bool, true, false, ◌≡◌, ◌⊎◌, nat_eq, if◌then◌else◌, Option, Some, None, refl}
use Rattle.std.proofs.Common.{ap, sym, subst, ◌∙◌, arith, inl, inr, ⊎_elim}
use Rattle.clf_syntax.specs.declared.tree.Head.{Head}
use Rattle.clf_syntax.specs.declared.tree.Head.TheVariants.{Const, Var, Meta}
use Rattle.clf_syntax.specs.Tree.{PlainObject}
use Rattle.clf_syntax.specs.TypeTree.{SimpleType}
use Rattle.clf_syntax.specs.Simple.{Assignment, Families, SimplyTyped}
use Rattle.clf_syntax.proofs.OccursLaws.{not_true, not_both}
use Rattle.hered_subst.specs.Substitution.{keep, Substituted}
use Rattle.hered_subst.proofs.SimpleTyping.{to_typed, of_typed}
use Rattle.hered_subst.proofs.TypedResults.{typed_has_result, result_is_typed}
use Rattle.subst_laws.specs.Environments.{Instantiation, instant, TypedInstantiation, ComposedInstantiation}
use Rattle.subst_laws.proofs.Environs.{instant_is_environment}
use Rattle.subst_laws.proofs.Results.{composition, unmoved}
use Rattle.store_laws.specs.Mentions.{mentions}
use Rattle.store_laws.specs.PutIn.{PutIn}
use Rattle.store_laws.proofs.Mentioned.{mentioned, typed_where, Ordinary, Where}
use Rattle.store_laws.specs.Additions.{set}
use Rattle.store_laws.proofs.Numbers.{number_cases, set_there, set_else, some_none}

-- the types without that of metavariable j
abbrev pub dropped : ℕ → Assignment → Assignment
dropped j g (Const c) = g (Const c)
dropped j g (Var i) = g (Var i)
dropped j g (Meta k) = if nat_eq k j then None else g (Meta k)

pub at_false : {b : Bool} (x : Option SimpleType) → b ≡ false → (if b then None else x) ≡ x
at_false x e = rw e refl

at_true : {b : Bool} (x : Option SimpleType) → b ≡ true → (if b then None else x) ≡ None
at_true x e = rw e refl

own : (i : ℕ) → nat_eq i i ≡ true
own i = grind arith

pub no_families : Families
no_families f = None

pub without : (g : Assignment) (j : ℕ) (o : PlainObject) (t : SimpleType) → SimplyTyped g o t → mentions j o ≡ false → SimplyTyped (dropped j g) o t
without g j o t p e = of_typed (typed_where (dropped j g) (to_typed true g o t p) ordinary mentioned_ones)
  where
    ordinary : Ordinary g (dropped j g)
    ordinary (Const c) u n k = k
    ordinary (Var i) u n k = k
    ordinary (Meta m) u n k = absurd (cc)

    mentioned_ones : Where (λ m. mentions m o) g (dropped j g)
    mentioned_ones m u i k = ⊎_elim (λ h. absurd (not_both (subst (λ n. mentions n o ≡ true) h i) e)) (λ h. at_false (g (Meta m)) h ∙ k) (number_cases m j)

-- typed without the type of j: j is not mentioned
pub silent : (g : Assignment) (j : ℕ) (o : PlainObject) (t : SimpleType) → SimplyTyped (dropped j g) o t → mentions j o ≡ false
silent g j o t p = not_true (mentions j o) (λ e. some_none (at_true (g (Meta j)) (own j)) (mentioned (to_typed true (dropped j g) o t p) j e).1)

none_of : (b : Bool) (x : Option SimpleType) (u : SimpleType) → (if b then None else x) ≡ Some u → (b ≡ false) × (x ≡ Some u)
none_of true x u e = absurd (cc)
none_of false x u e = (refl, e)

one_object : {a b : PlainObject} → Some a ≡ Some b → a ≡ b
one_object e = cc

one_type : {a b : SimpleType} → Some a ≡ Some b → a ≡ b
one_type e = cc

-- What s gives has the types of metavariables.
abbrev pub Gives : Assignment → Instantiation → Type 0
Gives g s = (k : ℕ) (x : PlainObject) → s k ≡ Some x → (a : SimpleType) × (g (Meta k) ≡ Some a) × SimplyTyped g x a

pub gives_typed : (g : Assignment) (s : Instantiation) → Gives g s → TypedInstantiation g g s
gives_typed g s typed = ((λ c u e. e), (λ i u e. e), (λ k u e. of k u e (s k) refl))
  where
    of : (k : ℕ) (u : SimpleType) → g (Meta k) ≡ Some u → (x : Option PlainObject) → s k ≡ x → ((s k ≡ None) × (g (Meta k) ≡ Some u)) ⊎ ((n : PlainObject) × (s k ≡ Some n) × SimplyTyped g n u)
    of k u e None h = inl (h, e)
    of k u e (Some x) h = inr (x, h, subst (λ t. SimplyTyped g x t) (one_type (sym (typed k x h).1 ∙ e)) (typed k x h).2)

module _ (g : Assignment) (given s : Instantiation) (all : PutIn given s) (typed : Gives g s)
    (m : ℕ) (o o' : PlainObject) (a : SimpleType) (open_ : given m ≡ None) (type_of : g (Meta m) ≡ Some a)
    (put : Substituted (instant s) o o') (typed_o : SimplyTyped g o a) (typed_o' : SimplyTyped g o' a)
    (free : mentions m o' ≡ false) (whole : (k : ℕ) (u : PlainObject) → given k ≡ Some u → mentions k o' ≡ false) (typed_given : Gives g given) where
  -- the new solution alone
  abbrev only : Instantiation
  only = set m o' (λ k. None)

  only_typed : TypedInstantiation g g only
  only_typed = (
    (λ c u e. e),
    (λ i u e. e),
    (λ k u e. ⊎_elim
        (λ h. inr (o', ap only h ∙ set_there m o' (λ k. None), subst (λ t. SimplyTyped g o' t) (one_type (sym type_of ∙ sym (ap (λ j. g (Meta j)) h) ∙ e)) typed_o'))
        (λ h. inl (set_else m k o' (λ k. None) h, e)) (number_cases k m)),
  )

  -- what becomes of a tree
  pub becomes : (x : PlainObject) (b : SimpleType) → SimplyTyped g x b → (y : PlainObject) × Substituted (instant only) x y × SimplyTyped g y b
  becomes x b p = (typed_has_result true no_families g g (instant only) ((instant_is_environment g).0 g only only_typed)).object x b p

  abbrev pick : (k : ℕ) (x : Option PlainObject) → s k ≡ x → Option PlainObject
  pick k None e = None
  pick k (Some x) e = Some (becomes x (typed k x e).0 (typed k x e).2).0

  -- the assignment with the new solution
  abbrev pub next : Instantiation
  next = set m o' (λ k. pick k (s k) refl)

  picked : (k : ℕ) (x : Option PlainObject) (e : s k ≡ x) → ((x ≡ None) × (pick k x e ≡ None)) ⊎ ((y z : PlainObject) × (x ≡ Some y) × (pick k x e ≡ Some z) × Substituted (instant only) y z)
  picked k None e = inl (refl, refl)
  picked k (Some x) e = inr (x, (becomes x (typed k x e).0 (typed k x e).2).0, refl, refl, (becomes x (typed k x e).0 (typed k x e).2).1)

  next_else : (k : ℕ) → nat_eq k m ≡ false → next k ≡ pick k (s k) refl
  next_else k h = set_else m k o' (λ k. pick k (s k) refl) h

  s_typed : TypedInstantiation g g s
  s_typed = gives_typed g s typed

  -- next does what s does, and then the new solution
  pub composed_next : ComposedInstantiation g s only next
  composed_next k b e = ⊎_elim
      (λ h. inl (ap s h ∙ all.unsolved m open_, ap next h ∙ set_there m o' (λ k. pick k (s k) refl) ∙ sym (ap only h ∙ set_there m o' (λ k. None))))
      (λ h. ⊎_elim
      (λ p. inl (p.0, next_else k h ∙ p.1 ∙ sym (set_else m k o' (λ k. None) h)))
      (λ p. inr (p.0, p.1, p.2, next_else k h ∙ p.3, p.4)) (picked k (s k) refl))
      (number_cases k m)

  after_both : (x y z : PlainObject) (b : SimpleType) → SimplyTyped g x b → Substituted (instant s) x y → Substituted (instant only) y z → Substituted (instant next) x z
  after_both x y z b p i k = (composition no_families g g g (instant s) (instant only) (instant next)
      ((instant_is_environment g).0 g s s_typed) ((instant_is_environment g).0 g only only_typed)
      ((instant_is_environment g).1 s only next composed_next)).object x y z b p i k

  -- the new solution does not change itself
  stays_same : Substituted (instant only) o' o'
  stays_same = (unmoved no_families (dropped m g) (instant only) at_head).object o' a (without g m o' a typed_o' free)
    where
      at_head : (h : Head) (u : SimpleType) → dropped m g h ≡ Some u → instant only h ≡ keep h
      at_head (Const c) u e = refl
      at_head (Var i) u e = refl
      at_head (Meta k) u e = kept (set_else m k o' (λ k. None) (none_of (nat_eq k m) (g (Meta k)) u e).0)
        where
          kept : only k ≡ None → instant only (Meta k) ≡ keep (Meta k)
          kept e = rw e refl

  -- no tree of the new assignment mentions a solved metavariable
  only_silent : (j : ℕ) → mentions j o' ≡ false → (x y : PlainObject) (b : SimpleType) → SimplyTyped g x b → mentions j x ≡ false → Substituted (instant only) x y → mentions j y ≡ false
  only_silent j f x y b p e i = silent g j y b ((result_is_typed true no_families (dropped j g) (dropped j g) (instant only)
      ((instant_is_environment (dropped j g)).0 (dropped j g) only there)).object x y b (without g j x b p e) i)
    where
      there : TypedInstantiation (dropped j g) (dropped j g) only
      there = (
        (λ c u e. e),
        (λ i u e. e),
        (λ k u e. ⊎_elim
            (λ h. inr (o', ap only h ∙ set_there m o' (λ k. None), subst (λ t. SimplyTyped (dropped j g) o' t) (one_type (sym type_of ∙ sym (ap (λ j. g (Meta j)) h) ∙ (none_of (nat_eq k j) (g (Meta k)) u e).1)) (without g j o' a typed_o' f)))
            (λ h. inl (set_else m k o' (λ k. None) h, e)) (number_cases k m)),
      )

  -- after the new solution m is mentioned no more
  only_clears : (x y : PlainObject) (b : SimpleType) → SimplyTyped g x b → Substituted (instant only) x y → mentions m y ≡ false
  only_clears x y b p i = silent g m y b ((result_is_typed true no_families g (dropped m g) (instant only)
      ((instant_is_environment g).0 (dropped m g) only there)).object x y b p i)
    where
      there : TypedInstantiation g (dropped m g) only
      there = (
        (λ c u e. e),
        (λ i u e. e),
        (λ k u e. ⊎_elim
            (λ h. inr (o', ap only h ∙ set_there m o' (λ k. None), subst (λ t. SimplyTyped (dropped m g) o' t) (one_type (sym type_of ∙ sym (ap (λ j. g (Meta j)) h) ∙ e)) (without g m o' a typed_o' free)))
            (λ h. inl (set_else m k o' (λ k. None) h, at_false (g (Meta k)) h ∙ e)) (number_cases k m)),
      )

  -- With the new solution added, `next` is the assignment with all solutions put in.
  pub closed_again : PutIn (set m o given) next
  closed_again = record { unsolved = unsolved; solved = solved; finished = finished }
    where
      there : set m o given m ≡ Some o
      there = set_there m o given

      unsolved : (k : ℕ) → set m o given k ≡ None → next k ≡ None
      unsolved k e = ⊎_elim (λ h. absurd (some_none e (ap (set m o given) h ∙ there)))
          (λ h. ⊎_elim (λ p. next_else k h ∙ p.1) (λ p. absurd (some_none (all.unsolved k (sym (set_else m k o given h) ∙ e)) p.2)) (picked k (s k) refl)) (number_cases k m)

      solved : (k : ℕ) (u : PlainObject) → set m o given k ≡ Some u → (x : PlainObject) × (next k ≡ Some x) × Substituted (instant next) u x
      solved k u e = ⊎_elim
          (λ h. (o', ap next h ∙ set_there m o' (λ k. pick k (s k) refl), subst (λ v. Substituted (instant next) v o') (one_object (sym there ∙ sym (ap (set m o given) h) ∙ e)) (after_both o o' o' a typed_o put stays_same)))
          (λ h. let (b, eb, tb) = typed_given k u (sym (set_else m k o given h) ∙ e) in let (y, ey, i) = all.solved k u (sym (set_else m k o given h) ∙ e) in
          ⊎_elim (λ p. absurd (some_none p.0 ey)) (λ p. (p.1, next_else k h ∙ p.3, after_both u y p.1 b tb i (subst (λ v. Substituted (instant only) v p.1) (one_object (sym p.2 ∙ ey)) p.4))) (picked k (s k) refl))
          (number_cases k m)

      finished : (k : ℕ) (x : PlainObject) → next k ≡ Some x → (j : ℕ) (u : PlainObject) → set m o given j ≡ Some u → mentions j x ≡ false
      finished k x e j u f = ⊎_elim
          (λ h. subst (λ v. mentions j v ≡ false) (one_object (sym (set_there m o' (λ k. pick k (s k) refl)) ∙ sym (ap next h) ∙ e))
          (⊎_elim (λ i. subst (λ n. mentions n o' ≡ false) (sym i) free) (λ i. whole j u (sym (set_else m j o given i) ∙ f)) (number_cases j m)))
          (λ h. ⊎_elim (λ p. absurd (some_none (next_else k h ∙ p.1) e))
          (λ p. subst (λ v. mentions j v ≡ false) (one_object (sym (next_else k h ∙ p.3) ∙ e)) (of_pair p.0 p.1 (typed k p.0 p.2) p.2 p.4)) (picked k (s k) refl))
          (number_cases k m)
        where
          of_pair : (y z : PlainObject) → (b : SimpleType) × (g (Meta k) ≡ Some b) × SimplyTyped g y b → s k ≡ Some y → Substituted (instant only) y z → mentions j z ≡ false
          of_pair y z t e i = ⊎_elim (λ h. subst (λ n. mentions n z ≡ false) (sym h) (only_clears y z t.0 t.2 i))
              (λ h. only_silent j (whole j u (sym (set_else m j o given h) ∙ f)) y z t.0 t.2 (all.finished k y e j u (sym (set_else m j o given h) ∙ f)) i) (number_cases j m)

  -- It gives objects of the types of metavariables.
  pub next_gives : Gives g next
  next_gives k x e = ⊎_elim
      (λ h. (a, ap (λ j. g (Meta j)) h ∙ type_of, subst (λ v. SimplyTyped g v a) (one_object (sym (set_there m o' (λ k. pick k (s k) refl)) ∙ sym (ap next h) ∙ e)) typed_o'))
      (λ h. of h (s k) refl (sym (next_else k h) ∙ e))
      (number_cases k m)
    where
      of : nat_eq k m ≡ false → (y : Option PlainObject) (f : s k ≡ y) → pick k y f ≡ Some x → (b : SimpleType) × (g (Meta k) ≡ Some b) × SimplyTyped g x b
      of h None f i = absurd (cc)
      of h (Some y) f i = let t = typed k y f in (t.0, t.1, subst (λ v. SimplyTyped g v t.0) (one_object i) (becomes y t.0 t.2).2)
