-- A typed tree has finitely many heads: an assignment may forget the heads from some number on.
use Rattle.std.specs.Prelude.{ℕ, Bool, true, zero, suc, ◌+◌, ◌≡◌, ◌<◌, ◌≤◌, ◌⊎◌, nat_lt, false, if◌then◌else◌, Some, None, refl}
use Rattle.std.proofs.Common.{Option, ap, sym, subst, ◌∙◌, arith, inl, inr, ⊎_elim}
use Rattle.clf_syntax.specs.declared.tree.Head.{Head}
use Rattle.clf_syntax.specs.declared.tree.Head.TheVariants.{Const, Var, Meta}
use Rattle.clf_syntax.specs.Tree.{PlainObject, PlainNeutral, PlainExpression, PlainTuple}
use Rattle.clf_syntax.specs.TypeTree.{SimpleType, SimpleTelescope, simple_end, simple_binding}
use Rattle.clf_syntax.specs.Simple.{Assignment, extended, extended_by}
use Rattle.clf_syntax.proofs.RenamingLaws.{cut}
use Rattle.hered_subst.specs.Substitution.{Image, keep, put, Environment}
use Rattle.hered_subst.proofs.SimpleTyping.{Typed, typed_lam, typed_pair, typed_unit, typed_monadic, typed_metavariable, typed_atomic, TypedNeutral, typed_bare, typed_app, typed_fst, typed_snd, TypedExpression, typed_step, typed_done, TypedTuple, typed_empty, typed_entry, rank}
use Rattle.hered_subst.specs.TypedEnvironments.{is_metavariable}
use Rattle.hered_subst.proofs.Total.{the_type, RankedEnvironment}

abbrev pub number : Head → ℕ
number (Const c) = c
number (Var i) = i
number (Meta m) = m

-- the same types for the heads below a number
abbrev pub Agree : ℕ → Assignment → Assignment → Type 0
Agree k f g = (h : Head) → number h < k → f h ≡ g h

agree_extended : (k : ℕ) (d : SimpleType) (f g : Assignment) → Agree k f g → Agree k (extended d f) (extended d g)
agree_extended k d f g a (Const c) l = a (Const c) l
agree_extended k d f g a (Meta m) l = a (Meta m) l
agree_extended k d f g a (Var zero) l = refl
agree_extended k d f g a (Var (suc i)) l = a (Var i) (omega arith)

agree_extended_by : (k : ℕ) (ts : SimpleTelescope) (f g : Assignment) → Agree k f g → Agree k (extended_by ts f) (extended_by ts g)
agree_extended_by k simple_end f g a = a
agree_extended_by k (simple_binding m t ts) f g a = agree_extended_by k ts (extended t f) (extended t g) (agree_extended k t f g a)

less : (i j : ℕ) (f g : Assignment) → Agree (i + j) f g → Agree i f g × Agree j f g
less i j f g a = ((λ h l. a h (omega arith)), (λ h l. a h (omega arith)))

abbrev pub Supported : Bool → Assignment → PlainObject → SimpleType → Type 0
Supported w g o t = (k : ℕ) × ((f : Assignment) → Agree k f g → Typed w f o t)

mutual
  pub supported : {w : Bool} {g : Assignment} {o : PlainObject} {t : SimpleType} → Typed w g o t → Supported w g o t
  supported (typed_lam {g = g} {d = d} p) = let (k, a) = supported p in (k, (λ f e. typed_lam (a (extended d f) (agree_extended k d f g e))))
  supported {g = g} (typed_pair p q) = let (k, a) = supported p in let (j, b) = supported q in (k + j, (λ f e. typed_pair (a f (less k j f g e).0) (b f (less k j f g e).1)))
  supported typed_unit = (0, (λ f e. typed_unit))
  supported (typed_monadic p) = let (k, a) = supported_expression p in (k, (λ f e. typed_monadic (a f e)))
  supported (typed_metavariable i p h) = let (k, a) = supported_neutral p in (k, (λ f e. typed_metavariable i (a f e) h))
  supported (typed_atomic p) = let (k, a) = supported_neutral p in (k, (λ f e. typed_atomic (a f e)))

  supported_neutral : {w : Bool} {g : Assignment} {n : PlainNeutral} {t : SimpleType} → TypedNeutral w g n t → (k : ℕ) × ((f : Assignment) → Agree k f g → TypedNeutral w f n t)
  supported_neutral (typed_bare {h = h} q) = (suc (number h), (λ f e. typed_bare (e h (omega arith) ∙ q)))
  supported_neutral {g = g} (typed_app p q) = let (k, a) = supported_neutral p in let (j, b) = supported q in (k + j, (λ f e. typed_app (a f (less k j f g e).0) (b f (less k j f g e).1)))
  supported_neutral (typed_fst p) = let (k, a) = supported_neutral p in (k, (λ f e. typed_fst (a f e)))
  supported_neutral (typed_snd p) = let (k, a) = supported_neutral p in (k, (λ f e. typed_snd (a f e)))

  pub supported_expression : {w : Bool} {g : Assignment} {x : PlainExpression} {s : SimpleTelescope} → TypedExpression w g x s → (k : ℕ) × ((f : Assignment) → Agree k f g → TypedExpression w f x s)
  supported_expression {g = g} (typed_step {ts = ts} p m q) = let (k, a) = supported_neutral p in let (j, b) = supported_expression q in
      (k + j, (λ f e. typed_step (a f (less k j f g e).0) m (b (extended_by ts f) (agree_extended_by j ts f g (less k j f g e).1))))
  supported_expression (typed_done p) = let (k, a) = supported_tuple p in (k, (λ f e. typed_done (a f e)))

  supported_tuple : {w : Bool} {g : Assignment} {x : PlainTuple} {s : SimpleTelescope} → TypedTuple w g x s → (k : ℕ) × ((f : Assignment) → Agree k f g → TypedTuple w f x s)
  supported_tuple typed_empty = (0, (λ f e. typed_empty))
  supported_tuple {g = g} (typed_entry p q) = let (k, a) = supported p in let (j, b) = supported_tuple q in (k + j, (λ f e. typed_entry (a f (less k j f g e).0) (b f (less k j f g e).1)))

-- the heads below a number alone
abbrev pub limited : ℕ → Assignment → Assignment
limited k g h = if nat_lt (number h) k then g h else None

pub limited_in : (k : ℕ) (g : Assignment) → Agree k (limited k g) g
limited_in k g h l = rw (yes (number h) l) refl
  where
    yes : (n : ℕ) → n < k → nat_lt n k ≡ true
    yes n l = grind arith

pub limited_of : (k : ℕ) (g : Assignment) (h : Head) (u : SimpleType) → limited k g h ≡ Some u → (number h < k) × (g h ≡ Some u)
limited_of k g h u e = ⊎_elim (λ l. (l, sym (limited_in k g h l) ∙ e)) (λ l. absurd (none (sym (out l) ∙ e))) (cut (number h) k)
  where
    none : None ≡ Some u → ⊥
    none e = cc

    no : (n : ℕ) → k ≤ n → nat_lt n k ≡ false
    no n l = grind arith

    out : k ≤ number h → limited k g h ≡ None
    out l = rw (no (number h) l) refl

-- a bound of the ranks below a number
abbrev pub rank_of : Option SimpleType → ℕ
rank_of None = 0
rank_of (Some u) = rank u

abbrev pub bound : ℕ → Assignment → ℕ
bound zero g = 0
bound (suc k) g = bound k g + (rank_of (g (Const k)) + (rank_of (g (Var k)) + rank_of (g (Meta k))))

below_or : (n k : ℕ) → n < suc k → (n < k) ⊎ (n ≡ k)
below_or n k h = grind arith

pub within : (k : ℕ) (g : Assignment) (h : Head) (u : SimpleType) → number h < k → g h ≡ Some u → rank u ≤ bound k g
within zero g h u l e = absurd (omega arith)
within (suc k) g h u l e = ⊎_elim (λ m. old (within k g h u m e)) (λ m. here h m e) (below_or (number h) k l)
  where
    old : rank u ≤ bound k g → rank u ≤ bound (suc k) g
    old m = omega arith

    here : (h : Head) → number h ≡ k → g h ≡ Some u → rank u ≤ bound (suc k) g
    here (Const c) m e = let f : rank_of (g (Const k)) ≡ rank u = ap (λ i. rank_of (g (Const i))) (sym m) ∙ ap rank_of e in omega arith
    here (Var c) m e = let f : rank_of (g (Var k)) ≡ rank u = ap (λ i. rank_of (g (Var i))) (sym m) ∙ ap rank_of e in omega arith
    here (Meta c) m e = let f : rank_of (g (Meta k)) ≡ rank u = ap (λ i. rank_of (g (Meta i))) (sym m) ∙ ap rank_of e in omega arith

-- typed environments without ranks
abbrev pub Meets : Bool → Assignment → SimpleType → Head → Image → Type 0
Meets w z u h i = ((j : Head) × (i ≡ keep j) × (z j ≡ Some u) × (is_metavariable j ≡ is_metavariable h)) ⊎ ((n : PlainObject) × (i ≡ put n) × Typed w z n u)

abbrev pub Kept : Bool → Assignment → Assignment → Environment → Type 0
Kept w g z s = (h : Head) (u : SimpleType) → g h ≡ Some u → Meets w z u h (s h)

-- it is enough to know z below some number
abbrev pub Known : Bool → Assignment → Assignment → Environment → Head → ℕ → Type 0
Known w g z s h k = (f : Assignment) → Agree k f z → (u : SimpleType) → g h ≡ Some u → Meets w f u h (s h)

known_at : (w : Bool) (g z : Assignment) (s : Environment) → Kept w g z s → (h : Head) (x : Option SimpleType) → g h ≡ x → (k : ℕ) × Known w g z s h k
known_at w g z s p h None e = (0, (λ f a u q. absurd (no (sym e ∙ q))))
  where
    no : {u : SimpleType} → None ≡ Some u → ⊥
    no e = cc
known_at w g z s p h (Some t) e = ⊎_elim
    (λ a. (suc (number a.0), (λ f b u q. inl (a.0, a.1, b a.0 (omega arith) ∙ a.2 ∙ sym e ∙ q, a.3))))
    (λ a. let (k, b) = supported a.2 in (k, (λ f c u q. inr (a.0, a.1, subst (λ v. Typed w f a.0 v) (the_type (sym e ∙ q)) (b f c)))))
    (p h t e)

fewer : (i j : ℕ) (f g : Assignment) → Agree (i + j) f g → Agree j f g
fewer i j f g a h l = a h (omega arith)

pub known : (w : Bool) (g z : Assignment) (s : Environment) → Kept w g z s → (n : ℕ) → (k : ℕ) × ((f : Assignment) → Agree k f z → (h : Head) (u : SimpleType) → number h < n → g h ≡ Some u → Meets w f u h (s h))
known w g z s p zero = (0, (λ f a h u l e. absurd (omega arith)))
known w g z s p (suc n) =
    let (k, a) = known w g z s p n in
    let (kc, c) = known_at w g z s p (Const n) (g (Const n)) refl in
    let (kv, v) = known_at w g z s p (Var n) (g (Var n)) refl in
    let (km, m) = known_at w g z s p (Meta n) (g (Meta n)) refl in (
      k + (kc + (kv + km)),
      (λ f b h u l e. ⊎_elim
          (λ i. a f (λ j q. b j (omega arith)) h u i e)
          (λ i. last_heads w g s f n (λ t q. c f (λ j r. b j (omega arith)) t q) (λ t q. v f (λ j r. b j (omega arith)) t q) (λ t q. m f (λ j r. b j (omega arith)) t q) h i u e)
          (below_or (number h) n l)),
    )
  where
    last_heads : (w : Bool) (g : Assignment) (s : Environment) (f : Assignment) (n : ℕ)
        → ((u : SimpleType) → g (Const n) ≡ Some u → Meets w f u (Const n) (s (Const n)))
        → ((u : SimpleType) → g (Var n) ≡ Some u → Meets w f u (Var n) (s (Var n)))
        → ((u : SimpleType) → g (Meta n) ≡ Some u → Meets w f u (Meta n) (s (Meta n)))
        → (h : Head) → number h ≡ n → (u : SimpleType) → g h ≡ Some u → Meets w f u h (s h)
    last_heads w g s f n c v m (Const i) e u q = subst (λ j. g (Const j) ≡ Some u → Meets w f u (Const j) (s (Const j))) (sym e) (c u) q
    last_heads w g s f n c v m (Var i) e u q = subst (λ j. g (Var j) ≡ Some u → Meets w f u (Var j) (s (Var j))) (sym e) (v u) q
    last_heads w g s f n c v m (Meta i) e u q = subst (λ j. g (Meta j) ≡ Some u → Meets w f u (Meta j) (s (Meta j))) (sym e) (m u) q

-- an environment of finitely many heads, with the ranks
pub ranked : (w : Bool) (g z : Assignment) (s : Environment) (k : ℕ) → ((h : Head) (u : SimpleType) → number h < k → g h ≡ Some u → Meets w z u h (s h)) → RankedEnvironment w (bound k g) (limited k g) z s
ranked w g z s k p h u e = let (l, q) = limited_of k g h u e in ⊎_elim (λ a. inl a) (λ a. inr (a.0, a.1, a.2, within k g h u l q)) (p h u l q)
