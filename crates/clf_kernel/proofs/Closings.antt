-- The ends of scopes, one variable after the other and one step after the other.
use Rattle.std.proofs.Common.{◌≡◌, ℕ, zero, suc, ◌+◌, ◌<◌, Bool, List, [], ◌∷◌, ◌++◌, length, map, take, reverse, get_or, refl, sym, ap, subst, ◌∙◌, arith}
use Rattle.std.proofs.Math.Seq.{take-suc}
use Rattle.std.proofs.lemmas.List.{map-append, reverse-append, length-reverse, length-map, length-take-le}
use Rattle.clf_syntax.specs.declared.tree.Mode.{Mode}
use Rattle.use_contexts.specs.Rows.{Leftover}
use Rattle.clf_decision.specs.Outcome.{Outcome, passed, at_part, and_then}
use Rattle.clf_decision.specs.Checking.{with_slack}
use Rattle.clf_decision.proofs.Outcomes.{then_then, then_same, then_itself}
use Rattle.clf_kernel.specs.declared.refusal.Stop.{Stop}
use Rattle.clf_kernel.specs.declared.trail.Opened.{Opened}
use Rattle.clf_kernel.specs.Stops.{Stops}
use Rattle.clf_kernel.specs.Trail.{closed_mode, closed_modes, closed_step, closed_steps, opened_width, opened_by, plain_opened}
use Rattle.clf_kernel.proofs.Stops.{then_stops}

-- ---- the variables of one step
-- The newest of the first i + 1 variables ends first.
pub modes_next : (ms : List Mode) (i n : ℕ) (x : Mode) (a : Leftover) → i < length ms → x ≡ get_or ms i x
    → closed_modes (take (suc i) ms) n a ≡ and_then (closed_mode x (suc (n + i)) a) (closed_modes (take i ms) n)
modes_next [] i n x a l e = absurd (omega arith)
modes_next (m ∷ ms) zero n x a l e =
    let k : n + 0 ≡ n = omega arith in
    ap (λ j. closed_mode m (suc j) a) (sym k) ∙ ap (λ y. closed_mode y (suc (n + 0)) a) (sym e) ∙ sym (then_itself (closed_mode x (suc (n + 0)) a) (closed_modes [] n) (λ y. refl))
modes_next (m ∷ ms) (suc i) n x a l e =
    let k : suc n + i ≡ n + suc i = omega arith in
    ap (λ w. and_then w (closed_mode m (suc n))) (modes_next ms i (suc n) x a (omega arith) e)
    ∙ then_then (closed_mode x (suc (suc n + i)) a) (closed_modes (take i ms) (suc n)) (closed_mode m (suc n))
    ∙ ap (λ j. and_then (closed_mode x (suc j) a) (λ y. and_then (closed_modes (take i ms) (suc n) y) (closed_mode m (suc n)))) k
    ∙ then_same (closed_mode x (suc (n + suc i)) a) (λ y. and_then (closed_modes (take i ms) (suc n) y) (closed_mode m (suc n))) (closed_modes (m ∷ take i ms) n) (λ y. refl)

module _ (ms : List Mode) (i n : ℕ) (x : Mode) (l : i < length ms) (e : x ≡ get_or ms i x) where
  pub modes_more : (a b : Leftover) → closed_mode x (suc (n + i)) a ≡ passed b → closed_modes (take (suc i) ms) n a ≡ closed_modes (take i ms) n b
  modes_more a b p = modes_next ms i n x a l e ∙ ap (λ w. and_then w (closed_modes (take i ms) n)) p

  pub modes_stop : (a : Leftover) (s : Stop) → Stops (closed_mode x (suc (n + i)) a) s → Stops (closed_modes (take (suc i) ms) n a) s
  modes_stop a s p = subst (λ w. Stops w s) (sym (modes_next ms i n x a l e)) (then_stops (closed_mode x (suc (n + i)) a) (closed_modes (take i ms) n) s p)

-- ---- one step after the other
pub steps_stop : (n : ℕ) (ds : List (List Mode × Bool)) (o : Outcome Leftover) (s : Stop) → Stops o s → Stops (closed_steps n ds o) s
steps_stop n [] o s p = p
steps_stop n (d ∷ ds) o s p =
    steps_stop n ds (closed_step (length ds) d.0 (opened_width ds + n) d.1 o) s (then_stops o (λ y. and_then (at_part (length ds) (closed_modes d.0 (opened_width ds + n) y)) (with_slack d.1)) s p)

-- the newest step in front
pub opened_more : (os : List Opened) (x : Opened) → opened_by (os ++ x ∷ []) ≡ plain_opened x ∷ opened_by os
opened_more os x = ap reverse (map-append plain_opened os (x ∷ [])) ∙ reverse-append (map plain_opened os) (plain_opened x ∷ [])

pub length-opened_by : (os : List Opened) → length (opened_by os) ≡ length os
length-opened_by os = length-reverse (map plain_opened os) ∙ length-map os plain_opened

module _ (os : List Opened) (i n : ℕ) (x : Opened) (l : i < length os) (e : x ≡ get_or os i x) where
  next : opened_by (take (suc i) os) ≡ plain_opened x ∷ opened_by (take i os)
  next = ap opened_by (take-suc os i x l ∙ ap (λ y. take i os ++ y ∷ []) (sym e)) ∙ opened_more (take i os) x

  place : length (opened_by (take i os)) ≡ i
  place = length-opened_by (take i os) ∙ length-take-le i os (omega arith)

  pub width_next : opened_width (opened_by (take (suc i) os)) ≡ length x.modes + opened_width (opened_by (take i os))
  width_next = ap opened_width next

  from_here : (y : Leftover) → closed_steps n (opened_by (take (suc i) os)) (passed y)
      ≡ closed_steps n (opened_by (take i os)) (and_then (at_part i (closed_modes x.modes (opened_width (opened_by (take i os)) + n) y)) (with_slack x.slack))
  from_here y = ap (λ ds. closed_steps n ds (passed y)) next
      ∙ ap (λ j. closed_steps n (opened_by (take i os)) (and_then (at_part j (closed_modes x.modes (opened_width (opened_by (take i os)) + n) y)) (with_slack x.slack))) place

  pub steps_more : (y z : Leftover) → and_then (at_part i (closed_modes x.modes (opened_width (opened_by (take i os)) + n) y)) (with_slack x.slack) ≡ passed z
      → closed_steps n (opened_by (take (suc i) os)) (passed y) ≡ closed_steps n (opened_by (take i os)) (passed z)
  steps_more y z p = from_here y ∙ ap (closed_steps n (opened_by (take i os))) p

  pub steps_end : (y : Leftover) (s : Stop) → Stops (and_then (at_part i (closed_modes x.modes (opened_width (opened_by (take i os)) + n) y)) (with_slack x.slack)) s
      → Stops (closed_steps n (opened_by (take (suc i) os)) (passed y)) s
  steps_end y s p = subst (λ w. Stops w s) (sym (from_here y)) (steps_stop n (opened_by (take i os)) _ s p)
