-- What mentions only some metavariables is typed, in reach and on distinct locals with the types of these alone.
use Rattle.std.specs.Prelude.{ℕ, Bool, true, zero, suc, ◌≡◌, List, [], ◌∷◌, ◌++◌, Some, refl}
use Rattle.std.proofs.Common.{sym, subst, ◌∙◌, inl, inr, ⊎_elim}
use Rattle.clf_syntax.specs.declared.tree.Mode.{Mode}
use Rattle.clf_syntax.specs.declared.tree.Head.TheVariants.{Const, Var, Meta}
use Rattle.clf_syntax.specs.Tree.{PlainObject, lam, pair, unit, monadic, atomic, hole, PlainNeutral, head_alone, app, fst, snd}
use Rattle.clf_syntax.specs.TypeTree.{SimpleType, arrow, simple_with}
use Rattle.clf_syntax.specs.Simple.{Assignment, extended, SimplyTyped, SimplyTypedNeutral}
use Rattle.clf_syntax.proofs.OccursLaws.{or_first, or_second, own_number}
use Rattle.hered_subst.proofs.SimpleTyping.{to_typed, of_typed}
use Rattle.eta_laws.specs.Eta.{eta}
use Rattle.store_laws.specs.Mentions.{mentions, mentions_neutral}
use Rattle.store_laws.proofs.Mentioned.{typed_where, Ordinary, Where}
use Rattle.pattern_laws.specs.Equations.{scoped, Locals}
use Rattle.pattern_laws.specs.Patterns.{Place, on, arrows, Fitting, OnDistinct, OwnPlaces, OnLocals}
use Rattle.pattern_laws.proofs.Instances.{scoped_meta}
use Rattle.unify_laws.specs.Parts.{PartAt, part_here, part_function, part_fst, part_snd}
use Rattle.unify_laws.specs.Rigid.{stands_below}
use Rattle.reach_laws.specs.Reach.{Standing, standing_here, standing_body, standing_left, standing_right, standing_below, StandingBelow, in_this, in_earlier, under_fst, under_snd, Prunable, PrunableBelow, InReach, same_reach, head_reach, inside_reach, free_reach, Reaches}
use Rattle.reach_laws.proofs.Reached.{stands_in}
use Rattle.solver_laws.proofs.Mentioning.{mentions_on, stands_mentions}

-- z has the types of g, but perhaps for metavariables; where both type a metavariable, they agree.
pub record Fewer (g z : Assignment) : Type 0 where
  pub ordinary : Ordinary g z
  pub variables : (i : ℕ) → g (Var i) ≡ z (Var i)
  pub same : (k : ℕ) (u b : SimpleType) → g (Meta k) ≡ Some u → z (Meta k) ≡ Some b → u ≡ b

-- each metavariable that the object mentions has a type
abbrev pub Within : Assignment → PlainObject → Type 0
Within z x = (k : ℕ) → mentions k x ≡ true → (b : SimpleType) × (z (Meta k) ≡ Some b)

abbrev pub WithinNeutral : Assignment → PlainNeutral → Type 0
WithinNeutral z n = (k : ℕ) → mentions_neutral k n ≡ true → (b : SimpleType) × (z (Meta k) ≡ Some b)

pub fewer_extended : (d : SimpleType) (g z : Assignment) → Fewer g z → Fewer (extended d g) (extended d z)
fewer_extended d g z f = record { ordinary = ordinary; variables = variables; same = f.same }
  where
    ordinary : Ordinary (extended d g) (extended d z)
    ordinary (Const c) u n e = f.ordinary (Const c) u n e
    ordinary (Var zero) u n e = e
    ordinary (Var (suc i)) u n e = f.ordinary (Var i) u refl e
    ordinary (Meta m) u n e = absurd (cc)

    variables : (i : ℕ) → extended d g (Var i) ≡ extended d z (Var i)
    variables zero = refl
    variables (suc i) = f.variables i

pub fewer_scoped : (ls : Locals) (g z : Assignment) → Fewer g z → Fewer (scoped ls g) (scoped ls z)
fewer_scoped [] g z f = f
fewer_scoped (l ∷ ls) g z f = fewer_extended l.1 (scoped ls g) (scoped ls z) (fewer_scoped ls g z f)

pub within_scoped : (ls : Locals) (z : Assignment) (x : PlainObject) → Within z x → Within (scoped ls z) x
within_scoped ls z x w k e = let (b, h) = w k e in (b, scoped_meta ls z k ∙ h)

within_scoped_neutral : (ls : Locals) (z : Assignment) (n : PlainNeutral) → WithinNeutral z n → WithinNeutral (scoped ls z) n
within_scoped_neutral ls z n w k e = let (b, h) = w k e in (b, scoped_meta ls z k ∙ h)

where_within : (g z : Assignment) → Fewer g z → (f : ℕ → Bool) → ((k : ℕ) → f k ≡ true → (b : SimpleType) × (z (Meta k) ≡ Some b)) → Where f g z
where_within g z f h w m u e i = let (b, t) = w m e in subst (λ c. z (Meta m) ≡ Some c) (sym (f.same m u b i t)) t

object_back : (g z : Assignment) → Fewer g z → (x : PlainObject) (t : SimpleType) → Within z x → SimplyTyped g x t → SimplyTyped z x t
object_back g z f x t w p = of_typed (typed_where z (to_typed true g x t p) f.ordinary (where_within g z f (λ m. mentions m x) w))

function_within : (z : Assignment) (m : Mode) (r : PlainNeutral) (o : PlainObject) → WithinNeutral z (app m r o) → WithinNeutral z r
function_within z m r o w k e = w k (or_first (mentions_neutral k r) (mentions k o) e)

argument_within : (z : Assignment) (m : Mode) (r : PlainNeutral) (o : PlainObject) → WithinNeutral z (app m r o) → Within z o
argument_within z m r o w k e = w k (or_second (mentions_neutral k r) (mentions k o) e)

neutral_back : (g z : Assignment) → Fewer g z → (n : PlainNeutral) (t : SimpleType) → WithinNeutral z n → SimplyTypedNeutral g n t → SimplyTypedNeutral z n t
neutral_back g z f (head_alone (Const c)) t w p = f.ordinary (Const c) t refl p
neutral_back g z f (head_alone (Var i)) t w p = f.ordinary (Var i) t refl p
neutral_back g z f (head_alone (Meta m)) t w p = where_within g z f (λ k. mentions_neutral k (head_alone (Meta m))) w m t (own_number m) p
neutral_back g z f (app m r o) t w (d, p, q) = (d, neutral_back g z f r (arrow m d t) (function_within z m r o w) p, object_back g z f o d (argument_within z m r o w) q)
neutral_back g z f (fst r) t w (d, p) = (d, neutral_back g z f r (simple_with t d) w p)
neutral_back g z f (snd r) t w (d, p) = (d, neutral_back g z f r (simple_with d t) w p)

left_within : (z : Assignment) (l r : PlainObject) → Within z (pair l r) → Within z l
left_within z l r w k e = w k (or_first (mentions k l) (mentions k r) e)

right_within : (z : Assignment) (l r : PlainObject) → Within z (pair l r) → Within z r
right_within z l r w k e = w k (or_second (mentions k l) (mentions k r) e)

-- ---- on distinct locals

fitting_back : (g z : Assignment) → Fewer g z → (ps : List Place) → Fitting g ps → Fitting z ps
fitting_back g z f [] p = tt
fitting_back g z f (p ∷ ps) (c, r) = (⊎_elim (λ e. inl (sym (f.variables p.2) ∙ e)) (λ e. inr e) c, fitting_back g z f ps r)

-- the type of the metavariable
type_back : (g z : Assignment) → Fewer g z → (k : ℕ) (qs : List Place) → WithinNeutral z (on qs (head_alone (Meta k))) → (u : SimpleType) → g (Meta k) ≡ Some u → z (Meta k) ≡ Some u
type_back g z f k qs w u e = let (b, t) = w k (mentions_on k qs) in subst (λ c. z (Meta k) ≡ Some c) (sym (f.same k u b e t)) t

distinct_back : (g z : Assignment) → Fewer g z → (n : PlainNeutral) (k : ℕ) (zs : List Place) (t : SimpleType) → WithinNeutral z n → OnDistinct g n k zs t → OnDistinct z n k zs t
distinct_back g z f n k zs t w d = record {
  neutral = d.neutral;
  type = type_back g z f k zs (subst (WithinNeutral z) d.neutral w) (arrows zs t) d.type;
  fitting = fitting_back g z f zs d.fitting;
  distinct = d.distinct;
}

own_back : (g z : Assignment) → Fewer g z → (ps qs : List Place) (r : PlainNeutral) → WithinNeutral z (on qs r) → OwnPlaces g ps qs → OwnPlaces z ps qs
own_back g z f [] [] r w o = tt
own_back g z f [] (q ∷ qs) r w o = absurd o
own_back g z f (p ∷ ps) [] r w o = absurd o
own_back g z f (p ∷ ps) (q ∷ qs) r w (o, os) = (
  record {
    mode = o.mode;
    local = o.local;
    typed = object_back g z f (eta q.1 (head_alone (Var q.2))) p.1 (argument_within z q.0 (on qs r) (eta q.1 (head_alone (Var q.2))) w) o.typed;
    own = ⊎_elim (λ e. inl (sym (f.variables q.2) ∙ e)) (λ e. inr e) o.own;
  },
  own_back g z f ps qs r (function_within z q.0 (on qs r) (eta q.1 (head_alone (Var q.2))) w) os,
)

locals_back : (g z : Assignment) → Fewer g z → (n : PlainNeutral) (k : ℕ) (ps qs : List Place) (t : SimpleType) → WithinNeutral z n → OnLocals g n k ps qs t → OnLocals z n k ps qs t
locals_back g z f n k ps qs t w o = record {
  neutral = o.neutral;
  type = type_back g z f k qs (subst (WithinNeutral z) o.neutral w) (arrows ps t) o.type;
  places = own_back g z f ps qs (head_alone (Meta k)) (subst (WithinNeutral z) o.neutral w) o.places;
  distinct = o.distinct;
}

-- ---- at rigid places

mutual
  standing_back : {g : Assignment} {ds : Locals} {q : PlainNeutral} {c t : SimpleType} {o : PlainObject} → Standing g ds q c o t → (z : Assignment) → Fewer g z → Within z o → Standing z ds q c o t
  standing_back standing_here z f w = standing_here
  standing_back (standing_body {g = g} {d = d} s) z f w = standing_body (standing_back s (extended d z) (fewer_extended d g z f) w)
  standing_back (standing_left {l = l} {r = r} s) z f w = standing_left (standing_back s z f (left_within z l r w))
  standing_back (standing_right {l = l} {r = r} s) z f w = standing_right (standing_back s z f (right_within z l r w))
  standing_back (standing_below e s) z f w = standing_below e (below_back s z f w)

  below_back : {g : Assignment} {ds : Locals} {q n : PlainNeutral} {c : SimpleType} → StandingBelow g ds q c n → (z : Assignment) → Fewer g z → WithinNeutral z n → StandingBelow z ds q c n
  below_back (in_this {g = g} {r = r} {d = d} {m = m} {o = o} e p s) z f w = in_this e (neutral_back g z f r (arrow m d e) (function_within z m r o w) p) (standing_back s z f (argument_within z m r o w))
  below_back (in_earlier {r = r} {m = m} {o = o} s) z f w = in_earlier (below_back s z f (function_within z m r o w))
  below_back (under_fst s) z f w = under_fst (below_back s z f w)
  below_back (under_snd s) z f w = under_snd (below_back s z f w)

mutual
  prunable_back : (g z : Assignment) → Fewer g z → (ls : Locals) (ps : List Place) (ds : Locals) (x : PlainObject) (t : SimpleType) → Within z x → Prunable g ls ps ds x t → Prunable z ls ps ds x t
  prunable_back g z f ls ps ds (lam m b) t w (d, c, e, p) = (d, c, e, prunable_back g z f ls ps ((m, d) ∷ ds) b c w p)
  prunable_back g z f ls ps ds (pair l r) t w (c, d, e, p, q) = (c, d, e, prunable_back g z f ls ps ds l c (left_within z l r w) p, prunable_back g z f ls ps ds r d (right_within z l r w) q)
  prunable_back g z f ls ps ds unit t w p = tt
  prunable_back g z f ls ps ds (monadic e) t w p = p
  prunable_back g z f ls ps ds (atomic n) t w p = ⊎_elim
      (λ h. inl (h.0, prunable_below_back g z f ls ps ds n w h.1))
      (λ h. inr (h.0, ⊎_elim (λ u. inl u) (λ u. inr (u.0, u.1, distinct_back (scoped (ds ++ ls) g) (scoped (ds ++ ls) z) (fewer_scoped (ds ++ ls) g z f) n u.0 u.1 t (within_scoped_neutral (ds ++ ls) z n w) u.2)) h.1)) p
  prunable_back g z f ls ps ds hole t w p = tt

  prunable_below_back : (g z : Assignment) → Fewer g z → (ls : Locals) (ps : List Place) (ds : Locals) (n : PlainNeutral) → WithinNeutral z n → PrunableBelow g ls ps ds n → PrunableBelow z ls ps ds n
  prunable_below_back g z f ls ps ds (head_alone h) w p = p
  prunable_below_back g z f ls ps ds (app m r o) w (p, (d, e, q, h)) = (
    prunable_below_back g z f ls ps ds r (function_within z m r o w) p,
    (
      d,
      e,
      neutral_back (scoped (ds ++ ls) g) (scoped (ds ++ ls) z) (fewer_scoped (ds ++ ls) g z f) r (arrow m d e) (within_scoped_neutral (ds ++ ls) z r (function_within z m r o w)) q,
      prunable_back g z f ls ps ds o d (argument_within z m r o w) h,
    ),
  )
  prunable_below_back g z f ls ps ds (fst r) w p = prunable_below_back g z f ls ps ds r w p
  prunable_below_back g z f ls ps ds (snd r) w p = prunable_below_back g z f ls ps ds r w p

-- ---- reach

reach_back : {g : Assignment} {ls : Locals} {r : PlainNeutral} {m : ℕ} {ps : List Place} {a : SimpleType} {x : PlainObject} → InReach g ls r m ps a x → (z : Assignment) → Fewer g z → Within z x → InReach z ls r m ps a x
reach_back {g = g} {ls = ls} {m = m} {a = a} (same_reach {n = n} zs ws o l s c) z f w = same_reach zs ws (locals_back (scoped ls g) (scoped ls z) (fewer_scoped ls g z f) n m zs ws a (within_scoped_neutral ls z n w) o) l s c
reach_back {g = g} {ls = ls} {x = x} (head_reach ds q c v s e h) z f w = head_reach ds q c v (standing_back s (scoped ls z) (fewer_scoped ls g z f) (within_scoped ls z x w)) e h
reach_back {g = g} {ls = ls} {m = m} (inside_reach {n = n} ds q zs c e s d) z f w = inside_reach ds q zs c e (below_back s (scoped ls z) (fewer_scoped ls g z f) (within_scoped_neutral ls z n w))
    (distinct_back (scoped (ds ++ ls) g) (scoped (ds ++ ls) z) (fewer_scoped (ds ++ ls) g z f) q m zs c (within_scoped_neutral (ds ++ ls) z q (λ k h. w k (stands_mentions (stands_below e (stands_in s)) k h))) d)
reach_back {g = g} {ls = ls} {ps = ps} {a = a} {x = x} (free_reach e p) z f w = free_reach e (prunable_back g z f ls ps [] x a w p)

pub reaches_back : (g z : Assignment) → Fewer g z → (ls : Locals) (a : SimpleType) (side other : PlainObject) → Within z side → Within z other → Reaches g ls a side other → Reaches z ls a side other
reaches_back g z f ls a side other w v h = record {
  neutral = h.neutral;
  meta = h.meta;
  places = h.places;
  own = h.own;
  is_neutral = h.is_neutral;
  on_locals = locals_back (scoped ls g) (scoped ls z) (fewer_scoped ls g z f) h.neutral h.meta h.places h.own a (within_scoped_neutral ls z h.neutral (subst (Within z) h.is_neutral w)) h.on_locals;
  lacks = h.lacks;
  in_reach = reach_back h.in_reach z f v;
}

-- ---- parts

pub part_at_back : {g : Assignment} {o u : PlainObject} {c : SimpleType} {r n : PlainNeutral} → PartAt g o u c r n → (z : Assignment) → Fewer g z → WithinNeutral z r → PartAt z o u c r n
part_at_back {g = g} {o = o} {c = c} (part_here {m = m} {r = r} e t) z f w = part_here e (neutral_back g z f r (arrow m c e) (function_within z m r o w) t)
part_at_back (part_function {m = m} {r = r} {x = x} p) z f w = part_function (part_at_back p z f (function_within z m r x w))
part_at_back (part_fst p) z f w = part_fst (part_at_back p z f w)
part_at_back (part_snd p) z f w = part_snd (part_at_back p z f w)
