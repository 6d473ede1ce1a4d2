-- What is left after an object or a neutral is one.
use Rattle.std.proofs.Common.{◌≡◌, Bool, true, false, not, ◌&&◌, List, [], ◌∷◌, Some, refl, sym, subst}
use Rattle.clf_syntax.specs.declared.tree.Mode.{Mode}
use Rattle.clf_syntax.specs.declared.tree.Mode.TheVariants.{Persistent, Affine, Linear}
use Rattle.clf_syntax.specs.TypeTree.{PlainType}
use Rattle.use_contexts.specs.Context.{Context, modes}
use Rattle.use_contexts.specs.Holding.{Holding, WellMarked, is_weak, is_linear}
use Rattle.use_contexts.specs.Rows.{implies, within, stands, newest, older, EachWithin, EachStands, Stands, Agrees, Leftover}
use Rattle.use_contexts.proofs.Bits.{at_entry, given_2, given_3, and-left, and-right}
use Rattle.use_contexts.proofs.UseLaws.{IsSubholding-self}
use Rattle.clf_rules.specs.Typing.{HasType, Synthesizes}
use Rattle.clf_rules.proofs.UsedParts.{some-part}
use Rattle.clf_rules.proofs.Leavings.{row-leaves, leaves-one}
use Rattle.clf_decision.proofs.IdleEntries.{each_whole}
use Rattle.clf_decision.specs.Laws.{LeaveTheSame, SlackIsIdle, LeftoverIsOne, InferredIsOne}

-- ---- leftovers
-- A row that leaves a linear entry stands for the whole holding with slack alone.
needs_slack : (m : Mode) (h l t : Bool) → (is_linear m && l) ≡ true → within m h l ≡ true → stands m h l t h ≡ true → t ≡ true
needs_slack m h l t a b c =
    given_3 (is_linear m && l) (within m h l) (stands m h l t h) t
    (at_entry (λ m h l t _ _ _ _ _. implies (is_linear m && l) (implies (within m h l) (implies (stands m h l t h) t))) refl refl refl m h l t true true true true true) a b c

has_slack : (ms : List Mode) (h l : Holding) (t : Bool) → EachWithin ms h l → EachStands ms h l t h → is_weak ms l ≡ false → t ≡ true
has_slack [] h l t a b e = absurd (cc)
has_slack (m ∷ ms) h [] t a b e = absurd (cc)
has_slack (m ∷ ms) h (x ∷ l) t a b e = by (is_linear m && x) refl e (has_slack ms (older h) l t a.1 b.1)
  where
    by : (here : Bool) → (is_linear m && x) ≡ here → (not here && is_weak ms l) ≡ false → (is_weak ms l ≡ false → t ≡ true) → t ≡ true
    by true is e rest = needs_slack m (newest h) x t is a.0 b.0
    by false is e rest = rest e

slack_too : (ms : List Mode) (h l : Holding) (s t : Bool) (P : Holding → Type 0) → WellMarked ms h → Agrees ms h (Some (l, s)) P → Agrees ms h (Some (l, t)) P
    → is_weak ms l ≡ false → s ≡ true → t ≡ true
slack_too ms h l s t P w a b e is =
    let self = IsSubholding-self ms h w in
    let stood : Stands ms h l s h = (self.0, subst (λ (x : Bool). EachStands ms h l x h) (sym is) (each_whole ms h l self.1 a.0.1)) in
    has_slack ms h l t a.0.1 (b.1 h self (a.2 h self stood)).1 e

both_ways : (s t : Bool) → (s ≡ true → t ≡ true) → (t ≡ true → s ≡ true) → s ≡ t
both_ways true t f g = sym (f refl)
both_ways false true f g = g refl
both_ways false false f g = refl

leftover_is_one : (g : Context) (h : Holding) (a b : Leftover) (P : Holding → Type 0) → WellMarked (modes g) h → Agrees (modes g) h (Some a) P → Agrees (modes g) h (Some b) P → LeaveTheSame g a b
leftover_is_one g h (l, s) (k, t) P w a b =
    let row : l ≡ k = leaves-one g h P l k (row-leaves g h (l, s) P a) (row-leaves g h (k, t) P b) in
    let same : Agrees (modes g) h (Some (l, t)) P = subst (λ (x : Holding). Agrees (modes g) h (Some (x, t)) P) (sym row) b in
    (row, λ e. both_ways s t (slack_too (modes g) h l s t P w a same e) (slack_too (modes g) h l t s P w same a e))

pub object_leftover_is_one : LeftoverIsOne
object_leftover_is_one sig g h n t a b w x y = leftover_is_one g h a b (λ p. HasType sig g p n t) w x y

pub inferred_is_one : InferredIsOne
inferred_is_one sig g h r (a, l) (b, k) w x y =
    let p = some-part (modes g) h l (λ p. Synthesizes sig g p r a) x.0 in
    let type : a ≡ b = y.1 p.0 a p.2 in
    let same = subst (λ (c : PlainType). Agrees (modes g) h (Some k) (λ p. Synthesizes sig g p r c)) (sym type) y.0 in
    (type, leftover_is_one g h l k (λ p. Synthesizes sig g p r a) w x.0 same)

-- ---- slack that has nothing to take
idle_mark : (m : Mode) (h l s t p : Bool) → not (is_linear m && l) ≡ true → stands m h l s p ≡ true → stands m h l t p ≡ true
idle_mark m h l s t p a b =
    given_2 (not (is_linear m && l)) (stands m h l s p) (stands m h l t p)
    (at_entry (λ m h l s t p _ _ _. implies (not (is_linear m && l)) (implies (stands m h l s p) (stands m h l t p))) refl refl refl m h l s t p true true true) a b

each_idle : (ms : List Mode) (h l : Holding) (s t : Bool) (p : Holding) → is_weak ms l ≡ true → EachStands ms h l s p → EachStands ms h l t p
each_idle [] h l s t p w a = tt
each_idle (m ∷ ms) h [] s t p w a = (idle_mark m (newest h) false s t (newest p) (unheld m) a.0, each_idle ms (older h) [] s t (older p) (weak_nothing ms) a.1)
  where
    unheld : (m : Mode) → not (is_linear m && false) ≡ true
    unheld Persistent = refl
    unheld Affine = refl
    unheld Linear = refl

    weak_nothing : (ms : List Mode) → is_weak ms [] ≡ true
    weak_nothing [] = refl
    weak_nothing (m ∷ ms) = refl
each_idle (m ∷ ms) h (x ∷ l) s t p w a = (
  idle_mark m (newest h) x s t (newest p) (and-left (not (is_linear m && x)) (is_weak ms l) w) a.0,
  each_idle ms (older h) l s t (older p) (and-right (not (is_linear m && x)) (is_weak ms l) w) a.1,
)

pub slack_is_idle : SlackIsIdle
slack_is_idle g h l s t p w a = (a.0, each_idle (modes g) h l s t p w a.1)
