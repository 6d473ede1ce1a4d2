-- Equations whose sides have no metavariable as head.
use Rattle.std.specs.Prelude.{ℕ, zero, suc, ◌≡◌, ◌⊎◌, ◌↔◌, true, false, List, [], ◌∷◌, ◌++◌, map, Some, None, refl}
use Rattle.std.proofs.Common.{ap, sym, subst, ◌∙◌, arith, inl, inr, ⊎_elim}
use Rattle.std.proofs.lemmas.List.{reverse-append}
use Rattle.std.specs.List.{slice_get}
use Rattle.clf_syntax.specs.declared.tree.Mode.{Mode}
use Rattle.clf_syntax.specs.declared.tree.Head.{Head}
use Rattle.clf_syntax.specs.declared.tree.Head.TheVariants.{Const, Var, Meta}
use Rattle.clf_syntax.specs.declared.tree.SimpleEntry.{SimpleEntry}
use Rattle.clf_syntax.specs.Tree.{PlainObject, lam, pair, unit, monadic, atomic, hole, PlainNeutral, PlainExpression, head_of}
use Rattle.clf_syntax.specs.TypeTree.{SimpleType, base, arrow, simple_with, simple_top, lax, SimpleTelescope}
use Rattle.clf_syntax.specs.declared.tree.Simple.{Simple}
use Rattle.clf_syntax.specs.PlainSimple.{plain_simple, plain_simple_entry}
use Rattle.clf_syntax.specs.Simple.{Assignment, SimplyTyped}
use Rattle.clf_syntax.proofs.OccursLaws.{not_both, not_true}
use Rattle.hered_subst.specs.TypedEnvironments.{is_metavariable}
use Rattle.hered_subst.proofs.SimpleTyping.{to_typed, of_typed}
use Rattle.trace_equal.specs.Exchange.{Joined, stop}
use Rattle.trace_equal.proofs.Joined.{joined_is_equivalence}
use Rattle.subst_laws.specs.Environments.{instant}
use Rattle.store_laws.specs.Additions.{meta_types}
use Rattle.store_laws.specs.Mentions.{mentions}
use Rattle.store_laws.proofs.Mentioned.{typed_where}
use Rattle.pattern_laws.specs.Instantiations.{Types, closed}
use Rattle.pattern_laws.specs.Equations.{Locals, Equation, Solves, scoped, Listed, TypedEquation}
use Rattle.unify_laws.specs.Parts.{SameShape, shape_head, shape_app, shape_fst, shape_snd, PartAt}
use Rattle.unify_laws.proofs.PutIn.{ground_clash}
use Rattle.unify_laws.proofs.Steps.{neutral_clash}
use Rattle.reach_laws.specs.Reach.{Stuck}
use Rattle.reach_laws.specs.Rest.{down_listed, down_neutral, PartOf, part_itself, part_argument}
use Rattle.solver_laws.specs.Reduced.{LeftOver, Clashes}
use Rattle.solver_laws.specs.Steps.{flipped}
use Rattle.celf_constraints.specs.Equated.{plain_locals}
use Rattle.metavars.specs.Stored.{Stored, constants, additions}
use Rattle.celf_unify.specs.declared.step.Step.{Step}
use Rattle.celf_unify.specs.declared.step.Step.TheVariants.{Assign, Narrow}
use Rattle.celf_unify.specs.Gathered.{consts_in, metas_in, StepOf}
use Rattle.celf_unify.specs.Examined.{TakenApart}
use Rattle.celf_unify.specs.Judged.{IsRigid, IsLambda, Matched}
use Rattle.celf_unify.specs.Sided.{LacksMetaHead, IsPosed, StepOfLeft}
use Rattle.celf_unify.proofs.Bodies.{reduced_one}

-- ---- sides by their type

abbrev kind : SimpleType → ℕ
kind (base f) = 0
kind (arrow m d c) = 1
kind (simple_with c d) = 2
kind simple_top = 3
kind (lax ts) = 4

kinds : {t u v : SimpleType} → t ≡ u → t ≡ v → kind u ≡ kind v
kinds e f = ap kind (sym e ∙ f)

module _ (g : Assignment) where
  pub lambda_side : (o : PlainObject) (n : Mode) (d c t : SimpleType) → SimplyTyped g o t → t ≡ arrow n d c → (b : PlainObject) × IsLambda o b
  lambda_side (lam m b) n d c t p e = (b, (m, refl))
  lambda_side (pair l r) n d c t p e = absurd (let h = kinds p.2 e in omega (arith, h))
  lambda_side unit n d c t p e = absurd (let h = kinds p e in omega (arith, h))
  lambda_side (monadic x) n d c t p e = absurd (let h = kinds p.1 e in omega (arith, h))
  lambda_side (atomic r) n d c t p e = absurd (⊎_elim (λ u. let h = kinds u.1 e in omega (arith, h)) (λ u. let h = kinds u.3 e in omega (arith, h)) p.0)
  lambda_side hole n d c t p e = absurd (cc)

  pub pair_side : (o : PlainObject) (c d t : SimpleType) → SimplyTyped g o t → t ≡ simple_with c d → (l r : PlainObject) × (o ≡ pair l r)
  pair_side (lam m b) c d t p e = absurd (let h = kinds p.2 e in omega (arith, h))
  pair_side (pair l r) c d t p e = (l, r, refl)
  pair_side unit c d t p e = absurd (let h = kinds p e in omega (arith, h))
  pair_side (monadic x) c d t p e = absurd (let h = kinds p.1 e in omega (arith, h))
  pair_side (atomic r) c d t p e = absurd (⊎_elim (λ u. let h = kinds u.1 e in omega (arith, h)) (λ u. let h = kinds u.3 e in omega (arith, h)) p.0)
  pair_side hole c d t p e = absurd (cc)

  unit_side : (o : PlainObject) (t : SimpleType) → SimplyTyped g o t → t ≡ simple_top → o ≡ unit
  unit_side (lam m b) t p e = absurd (let h = kinds p.2 e in omega (arith, h))
  unit_side (pair l r) t p e = absurd (let h = kinds p.2 e in omega (arith, h))
  unit_side unit t p e = refl
  unit_side (monadic x) t p e = absurd (let h = kinds p.1 e in omega (arith, h))
  unit_side (atomic r) t p e = absurd (⊎_elim (λ u. let h = kinds u.1 e in omega (arith, h)) (λ u. let h = kinds u.3 e in omega (arith, h)) p.0)
  unit_side hole t p e = absurd (cc)

  pub atomic_side : (o : PlainObject) (f : ℕ) (t : SimpleType) → SimplyTyped g o t → t ≡ base f → (n : PlainNeutral) × (o ≡ atomic n)
  atomic_side (lam m b) f t p e = absurd (let h = kinds p.2 e in omega (arith, h))
  atomic_side (pair l r) f t p e = absurd (let h = kinds p.2 e in omega (arith, h))
  atomic_side unit f t p e = absurd (let h = kinds p e in omega (arith, h))
  atomic_side (monadic x) f t p e = absurd (let h = kinds p.1 e in omega (arith, h))
  atomic_side (atomic r) f t p e = (r, refl)
  atomic_side hole f t p e = absurd (cc)

  monadic_side : (o : PlainObject) (ts : SimpleTelescope) (t : SimpleType) → SimplyTyped g o t → t ≡ lax ts → LacksMetaHead o → (x : PlainExpression) × (o ≡ monadic x)
  monadic_side (lam m b) ts t p e l = absurd (let h = kinds p.2 e in omega (arith, h))
  monadic_side (pair a b) ts t p e l = absurd (let h = kinds p.2 e in omega (arith, h))
  monadic_side unit ts t p e l = absurd (let h = kinds p e in omega (arith, h))
  monadic_side (monadic x) ts t p e l = (x, refl)
  monadic_side (atomic r) ts t p e l = absurd (⊎_elim (λ u. let h = kinds u.1 e in omega (arith, h)) (λ u. l u.0 (r, refl, u.2)) p.0)
  monadic_side hole ts t p e l = absurd (cc)

-- ---- the equation with its sides changed about

shape_back : {r n : PlainNeutral} → SameShape r n → SameShape n r
shape_back (shape_head f) = shape_head f
shape_back (shape_app s) = shape_app (shape_back s)
shape_back (shape_fst s) = shape_fst (shape_back s)
shape_back (shape_snd s) = shape_snd (shape_back s)

module _ (constants metas : Types) where
  pub step_left : (e : Equation) (s : Step) → StepOfLeft constants metas e s → StepOf constants metas e s
  step_left e (Assign m o) h = inl h
  step_left e (Narrow k mask) (zs, c, h) = (zs, c, inl h)

  pub step_right : (e : Equation) (s : Step) → StepOfLeft constants metas (flipped e) s → StepOf constants metas e s
  step_right e (Assign m o) h = inr h
  step_right e (Narrow k mask) (zs, c, h) = (zs, c, inr h)

  pub clashes_flipped : (e : Equation) → Clashes constants metas (flipped e) → Clashes constants metas e
  clashes_flipped e h = record {
    no_further = record {
      unjoined = λ j. h.no_further.unjoined (joined_is_equivalence.1 e.left e.right j);
      no_lams = λ m k b c f g. h.no_further.no_lams k m c b g f;
      no_pairs = λ l r k s f g. h.no_further.no_pairs k s l r g f;
      no_neutrals = λ r n f g s. h.no_further.no_neutrals n r g f (shape_back s);
    };
    unsolved = λ parameters t i s. let (x, y, p, q, j) = s in h.unsolved parameters t i (y, x, q, p, joined_is_equivalence.1 x y j);
  }

pub posed_flipped : (s : Stored) (e : Equation) → IsPosed s e → IsPosed s (flipped e)
posed_flipped s e p = record { typed = (p.typed.1, p.typed.0); unjoined = λ j. p.unjoined (joined_is_equivalence.1 e.right e.left j) }

-- ---- no metavariable as head

pub rigid_head : (n : PlainNeutral) → LacksMetaHead (atomic n) → is_metavariable (head_of n) ≡ false
rigid_head n l = of (head_of n) refl
  where
    of : (h : Head) → head_of n ≡ h → is_metavariable h ≡ false
    of (Const c) e = refl
    of (Var i) e = refl
    of (Meta m) e = absurd (l m (n, refl, e))

mon_no_lam : (x : PlainExpression) (m : Mode) (b : PlainObject) → monadic x ≡ lam m b → ⊥
mon_no_lam x m b e = cc

mon_no_pair : (x : PlainExpression) (l r : PlainObject) → monadic x ≡ pair l r → ⊥
mon_no_pair x l r e = cc

mon_no_neutral : (x : PlainExpression) (n : PlainNeutral) → monadic x ≡ atomic n → ⊥
mon_no_neutral x n e = cc

at_no_lam : (n : PlainNeutral) (m : Mode) (b : PlainObject) → atomic n ≡ lam m b → ⊥
at_no_lam n m b e = cc

at_no_pair : (n : PlainNeutral) (l r : PlainObject) → atomic n ≡ pair l r → ⊥
at_no_pair n l r e = cc

one_neutral : {r n : PlainNeutral} → atomic r ≡ atomic n → r ≡ n
one_neutral e = cc

-- The types of metavariables do not matter to other heads.
scoped_ordinary : (constants metas more : Types) (ls : Locals) (h : Head) (u : SimpleType) → is_metavariable h ≡ false → scoped ls (closed constants metas) h ≡ Some u → scoped ls (closed constants more) h ≡ Some u
scoped_ordinary constants metas more [] (Const c) u n e = e
scoped_ordinary constants metas more [] (Var i) u n e = e
scoped_ordinary constants metas more [] (Meta m) u n e = absurd (cc)
scoped_ordinary constants metas more (l ∷ ls) (Const c) u n e = scoped_ordinary constants metas more ls (Const c) u n e
scoped_ordinary constants metas more (l ∷ ls) (Var zero) u n e = e
scoped_ordinary constants metas more (l ∷ ls) (Var (suc i)) u n e = scoped_ordinary constants metas more ls (Var i) u n e
scoped_ordinary constants metas more (l ∷ ls) (Meta m) u n e = absurd (cc)

-- What a test by tables says, of the store that they are those of.
pub stuck_there : (s : Stored) (e : Equation) (consts metas : List Simple) (T : Type 0) → map plain_simple consts ≡ constants s → map plain_simple metas ≡ meta_types (additions s) → TypedEquation (consts_in s) (metas_in s) e
    → (TypedEquation (slice_get (map plain_simple consts)) (slice_get (map plain_simple metas)) e → T ↔ Stuck (slice_get (map plain_simple consts)) (slice_get (map plain_simple metas)) e) → T ↔ Stuck (consts_in s) (metas_in s) e
stuck_there s e consts metas T f h typed says = subst (λ ts. T ↔ Stuck (consts_in s) (slice_get ts) e) h (subst (λ cs. T ↔ Stuck (slice_get cs) (slice_get (map plain_simple metas)) e) f (says
    (subst (λ cs. TypedEquation (slice_get cs) (slice_get (map plain_simple metas)) e) (sym f) (subst (λ ts. TypedEquation (consts_in s) (slice_get ts) e) (sym h) typed))))

module _ (s : Stored) (e : Equation) (rigid : IsRigid s e) where
  -- At the type of `<>` the sides are joined.
  pub no_top : e.type ≡ simple_top → ⊥
  no_top t = rigid.unjoined (subst (λ o. Joined o e.right) (sym (unit_side (scoped e.locals (closed (consts_in s) (metas_in s))) e.left e.type rigid.typed.0 t))
      (subst (Joined unit) (sym (unit_side (scoped e.locals (closed (consts_in s) (metas_in s))) e.right e.type rigid.typed.1 t)) stop))

  -- ---- at a monad

  -- What is stuck is left over.
  pub stuck_monads : Stuck (consts_in s) (metas_in s) e → LeftOver (consts_in s) (metas_in s) e
  stuck_monads h = record { stuck = h; unjoined = rigid.unjoined }

  -- What mentions no metavariable is typed without their types.
  ground : (o : PlainObject) → SimplyTyped (scoped e.locals (closed (consts_in s) (metas_in s))) o e.type → ((k : ℕ) → mentions k o ≡ false) → SimplyTyped (scoped e.locals (closed (consts_in s) (λ m. None))) o e.type
  ground o p f = of_typed (typed_where (scoped e.locals (closed (consts_in s) (λ m. None))) (to_typed true (scoped e.locals (closed (consts_in s) (metas_in s))) o e.type p)
      (λ h u n k. scoped_ordinary (consts_in s) (metas_in s) (λ m. None) e.locals h u n k)
      (λ m u k i. absurd (not_both k (f m))))

  -- At a monad, sides in which no metavariable is left clash.
  pub clash_monads : (ts : SimpleTelescope) → e.type ≡ lax ts → (Stuck (consts_in s) (metas_in s) e → ⊥) → Clashes (consts_in s) (metas_in s) e
  clash_monads ts t f = record {
    no_further = record {
      unjoined = rigid.unjoined;
      no_lams = λ m k b c i j. mon_no_lam left.0 m b (sym left.1 ∙ i);
      no_pairs = λ a b c d i j. mon_no_pair left.0 a b (sym left.1 ∙ i);
      no_neutrals = λ n k i j h. mon_no_neutral left.0 n (sym left.1 ∙ i);
    };
    unsolved = λ parameters v i h. ground_clash (consts_in s) v e.locals e.left e.right e.type
        (ground e.left rigid.typed.0 (λ k. not_true (mentions k e.left) (λ m. f (inr (record { left = left; right = right; mentioned = (k, inl m) })))))
        (ground e.right rigid.typed.1 (λ k. not_true (mentions k e.right) (λ m. f (inr (record { left = left; right = right; mentioned = (k, inr m) }))))) rigid.unjoined h;
  }
    where
      left : (x : PlainExpression) × (e.left ≡ monadic x)
      left = monadic_side (scoped e.locals (closed (consts_in s) (metas_in s))) e.left ts e.type rigid.typed.0 t rigid.left

      right : (x : PlainExpression) × (e.right ≡ monadic x)
      right = monadic_side (scoped e.locals (closed (consts_in s) (metas_in s))) e.right ts e.type rigid.typed.1 t rigid.right

  -- ---- at a family

  module _ (r n : PlainNeutral) (is_left : e.left ≡ atomic r) (is_right : e.right ≡ atomic n) where
    left_head : is_metavariable (head_of r) ≡ false
    left_head = rigid_head r (subst LacksMetaHead is_left rigid.left)

    right_head : is_metavariable (head_of n) ≡ false
    right_head = rigid_head n (subst LacksMetaHead is_right rigid.right)

    pub clash_neutrals : (SameShape r n → ⊥) → Clashes (consts_in s) (metas_in s) e
    clash_neutrals d = record {
      no_further = record {
        unjoined = rigid.unjoined;
        no_lams = λ m k b c i j. at_no_lam r m b (sym is_left ∙ i);
        no_pairs = λ a b c k i j. at_no_pair r a b (sym is_left ∙ i);
        no_neutrals = λ p q i j h. d (subst (λ x. SameShape x n) (one_neutral (sym i ∙ is_left)) (subst (SameShape p) (one_neutral (sym j ∙ is_right)) h));
      };
      unsolved = λ parameters t i h. neutral_clash t e.locals r n e.type left_head right_head d
          (subst (λ o. Solves (instant t) (record { locals = e.locals; left = o; right = atomic n; type = e.type })) is_left (subst (λ o. Solves (instant t) (record { locals = e.locals; left = e.left; right = o; type = e.type })) is_right h));
    }

    pub parts_neutrals : (f : ℕ) (t : SimpleType) (ds : List Equation) → e.type ≡ base f → Matched (scoped e.locals (closed (consts_in s) (metas_in s))) e.locals r n t ds → TakenApart (consts_in s) (metas_in s) e ds
    parts_neutrals f t ds i h = subst (λ x. TakenApart (consts_in s) (metas_in s) x ds) (sym whole) (record {
      reduced = reduced_one (consts_in s) (metas_in s) (record { locals = e.locals; left = atomic r; right = atomic n; type = base f }) ds (down_neutral h.shape (λ o u c p. down_listed (h.all o u c p))) (λ x l. part_in x l (h.only x l));
      smaller = let k = h.smaller in omega (arith, k);
    })
      where
        whole : e ≡ record { locals = e.locals; left = atomic r; right = atomic n; type = base f }
        whole = rw (← is_left, ← is_right, ← i) refl

        part_in : (x : Equation) → Listed x ds → (x.locals ≡ e.locals) × PartAt (scoped e.locals (closed (consts_in s) (metas_in s))) x.left x.right x.type r n
            → PartOf (consts_in s) (metas_in s) (record { locals = e.locals; left = atomic r; right = atomic n; type = base f }) x
        part_in x l (k, p) = subst (λ ls. PartOf (consts_in s) (metas_in s) (record { locals = e.locals; left = atomic r; right = atomic n; type = base f }) (record { locals = ls; left = x.left; right = x.right; type = x.type })) (sym k)
            (part_argument r n f part_itself h.shape p)

-- ---- the types of heads

pub const_type : (ls : Locals) (constants metas : Types) (c : ℕ) → constants c ≡ scoped ls (closed constants metas) (Const c)
const_type [] constants metas c = refl
const_type (l ∷ ls) constants metas c = const_type ls constants metas c

pub meta_type : (ls : Locals) (constants metas : Types) (m : ℕ) → metas m ≡ scoped ls (closed constants metas) (Meta m)
meta_type [] constants metas m = refl
meta_type (l ∷ ls) constants metas m = meta_type ls constants metas m

pub local_type : (ls : Locals) (constants metas : Types) (i : ℕ) → slice_get (map (λ (l : Mode × SimpleType). l.1) ls) i ≡ scoped ls (closed constants metas) (Var i)
local_type [] constants metas zero = refl
local_type [] constants metas (suc i) = refl
local_type (l ∷ ls) constants metas zero = refl
local_type (l ∷ ls) constants metas (suc i) = local_type ls constants metas i

-- the locals, and one more
pub under_one : (locals inner : List SimpleEntry) (l : SimpleEntry) → inner ≡ locals ++ l ∷ [] → plain_locals inner ≡ plain_simple_entry l ∷ plain_locals locals
under_one locals inner l e = ap plain_locals e ∙ ap (map plain_simple_entry) (reverse-append locals (l ∷ []))
