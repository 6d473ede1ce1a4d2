-- The order of the binders in front. Binders are numbered by their list: first the unnamed ones, by first occurrence in the core, then those that only
-- types of binders mention, and then the implicit variables, by first appearance in the text. `needs i j` says that the type of binder i mentions binder j.
use Rattle.std.specs.Prelude.{ℕ, ◌≡◌, ◌<◌, true, List, [], ◌∷◌, ◌++◌, Contains, AllPairs, ◌≢◌, Bool}

module _ (count : ℕ) (needs : ℕ → ℕ → Bool) where
  abbrev pub IsUnplaced : List ℕ → ℕ → Type 0
  IsUnplaced placed i = (i < count) × (Contains placed i → ⊥)

  -- Each binder that its type mentions is placed.
  abbrev pub IsReady : List ℕ → ℕ → Type 0
  IsReady placed i = (j : ℕ) → j < count → needs i j ≡ true → Contains placed j

  -- the first of those not yet placed that can be placed
  pub record IsNext (placed : List ℕ) (i : ℕ) : Type 0 where
    pub unplaced : IsUnplaced placed i
    pub ready : IsReady placed i
    pub first : (j : ℕ) → j < i → IsUnplaced placed j → IsReady placed j → ⊥

  -- PlacesRest placed rest: after those placed the others follow in this order, each the next one at its turn.
  pub data PlacesRest : List ℕ → List ℕ → Type 0 where
    all_placed : {placed : List ℕ} → ((i : ℕ) → IsUnplaced placed i → ⊥) → PlacesRest placed []
    places_next : {placed rest : List ℕ} {i : ℕ} → IsNext placed i → PlacesRest (placed ++ i ∷ []) rest → PlacesRest placed (i ∷ rest)

  -- the order of all binders
  abbrev pub IsOrder : List ℕ → Type 0
  IsOrder order = PlacesRest [] order

  -- PlacesUntil placed stuck: placing comes from the one to the other, where no binder can be placed and some are not.
  pub data PlacesUntil : List ℕ → List ℕ → Type 0 where
    stuck_here : {placed : List ℕ} {i : ℕ} → IsUnplaced placed i → ((j : ℕ) → IsUnplaced placed j → IsReady placed j → ⊥) → PlacesUntil placed placed
    stuck_later : {placed stuck : List ℕ} {i : ℕ} → IsNext placed i → PlacesUntil (placed ++ i ∷ []) stuck → PlacesUntil placed stuck

  -- the first of those not placed that a binder's type mentions, itself too
  pub record LeadsTo (placed : List ℕ) (i j : ℕ) : Type 0 where
    pub unplaced : IsUnplaced placed j
    pub mentioned : needs i j ≡ true
    pub first : (k : ℕ) → k < j → IsUnplaced placed k → needs i k ≡ true → ⊥

  -- from each one of a list to the next, and from the last one to the binder at the end
  abbrev pub Leads : List ℕ → List ℕ → ℕ → Type 0
  Leads placed [] last = Unit {0}
  Leads placed (i ∷ []) last = LeadsTo placed i last
  Leads placed (i ∷ j ∷ is) last = LeadsTo placed i j × Leads placed (j ∷ is) last

  -- The circle of names that is answered where no order is: from the first binder that cannot be placed always on, until one comes again; there the circle begins.
  pub record IsCircle (circle : List ℕ) : Type 0 where
    pub placed : List ℕ
    pub first : ℕ
    pub before : List ℕ
    pub start : ℕ
    pub rest : List ℕ
    pub stuck : PlacesUntil [] placed
    pub first_unplaced : IsUnplaced placed first
    pub no_earlier : (j : ℕ) → j < first → IsUnplaced placed j → ⊥
    pub begins : circle ≡ start ∷ rest
    pub from_first : (way : List ℕ) × (first ∷ way ≡ before ++ circle)
    pub leads : Leads placed (before ++ circle) start
    pub once : AllPairs (λ i j. i ≢ j) (before ++ circle)
