-- What an order and a circle of binders have: places of the list, each once, and after those that its type mentions.
use Rattle.std.specs.Prelude.{ℕ, ◌+◌, ◌≡◌, ◌<◌, List, [], ◌∷◌, ◌++◌, suc, zero, length, Bool}
use Rattle.std.proofs.Common.{arith, sym, subst, get_or, length-append}
use Rattle.std.proofs.lemmas.List.{length-map, get_or-map, get_or-append-add}
use Rattle.clf_syntax.specs.TypeTree.{PlainType}
use Rattle.celf_elaboration.specs.Binders.{PlacesRest, all_placed, places_next, Leads, IsCircle}
use Rattle.celf_front.specs.declared.needs.Needs.{Needs}
use Rattle.celf_front.specs.declared.placing.Placing.{Placing}
use Rattle.celf_front.specs.declared.placing.Placing.TheVariants.{Order, Circle}
use Rattle.celf_front.specs.Needs.{count_of, mentions}
use Rattle.celf_front.specs.Mentions.{AreNeeds}
use Rattle.celf_front.specs.Placing.{IsPlacing}
use Rattle.celf_front.specs.Fronted.{at_places}

pub rest_within : (count : ℕ) (needs : ℕ → ℕ → Bool) (placed rest : List ℕ) → PlacesRest count needs placed rest → (k : ℕ) → k < length rest → get_or rest k 0 < count
rest_within count needs _ _ (all_placed none) k lt = absurd (omega arith)
rest_within count needs _ _ (places_next {placed} {rest} {i} next f) zero lt = next.unplaced.0
rest_within count needs _ _ (places_next {placed} {rest} {i} next f) (suc k) lt = rest_within count needs (placed ++ i ∷ []) rest f k (omega arith)

pub leads_within : (count : ℕ) (needs : ℕ → ℕ → Bool) (placed way : List ℕ) (i last : ℕ) → i < count → Leads count needs placed (i ∷ way) last → (k : ℕ) → k < length (i ∷ way) → get_or (i ∷ way) k 0 < count
leads_within count needs placed [] i last lt l zero within = lt
leads_within count needs placed [] i last lt l (suc k) within = absurd (omega arith)
leads_within count needs placed (j ∷ way) i last lt l zero within = lt
leads_within count needs placed (j ∷ way) i last lt l (suc k) within = leads_within count needs placed way j last l.0.unplaced.0 l.1 k (omega arith)

pub circle_within : (count : ℕ) (needs : ℕ → ℕ → Bool) (circle : List ℕ) → IsCircle count needs circle → (k : ℕ) → k < length circle → get_or circle k 0 < count
circle_within count needs circle c k lt =
    let (way, whole) = c.from_first in
    let leads = subst (λ ps. Leads count needs c.placed ps c.start) (sym whole) c.leads in
    let within : length c.before + k < length (c.first ∷ way)
    = subst (λ ps. length c.before + k < length ps) (sym whole) (rw (length-append c.before circle) (omega arith)) in
    let at : get_or (c.before ++ circle) (length c.before + k) 0 < count
    = subst (λ ps. get_or ps (length c.before + k) 0 < count) whole (leads_within count needs c.placed way c.first c.start c.first_unplaced.0 leads (length c.before + k) within) in
    rw get_or-append-add at at

pub order_places : (n : ℕ) (types : List PlainType) (binders : List ℕ) (t : Needs) (p : Placing) (order : List ℕ) → AreNeeds n types binders t → IsPlacing t p → p ≡ Order order
    → (k : ℕ) → k < length order → get_or order k 0 < length binders
order_places n types binders t p order needs made is k lt =
    let at = subst (IsPlacing t) is made in
    rw (← needs.count) (rest_within (count_of t) (mentions t) [] order at k lt)

pub circle_places : (n : ℕ) (types : List PlainType) (binders : List ℕ) (t : Needs) (p : Placing) (circle : List ℕ) → AreNeeds n types binders t → IsPlacing t p → p ≡ Circle circle
    → (k : ℕ) → k < length circle → get_or circle k 0 < length binders
circle_places n types binders t p circle needs made is k lt =
    let at = subst (IsPlacing t) is made in
    rw (← needs.count) (circle_within (count_of t) (mentions t) circle at k lt)

-- Binders at places of a list that have types have one.
pub places_typed : (m : ℕ) (binders order numbers : List ℕ) → numbers ≡ at_places binders order → ((k : ℕ) → k < length binders → get_or binders k 0 < m) → ((k : ℕ) → k < length order → get_or order k 0 < length binders)
    → (k : ℕ) → k < length numbers → get_or numbers k 0 < m
places_typed m binders order numbers is typed within k lt =
    let less : k < length order = rw (is, length-map order (λ p. get_or binders p 0)) at lt in
    rw (is, get_or-map (λ p. get_or binders p 0) order k 0 0 less) (typed (get_or order k 0) (within k less))
