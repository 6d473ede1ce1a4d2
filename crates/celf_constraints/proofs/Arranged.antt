-- Arguments in memory, arranged as places.
use Rattle.std.specs.Prelude.{ℕ, ◌≡◌, List, [], ◌∷◌, ◌++◌, map, reverse, Option, refl}
use Rattle.std.proofs.Common.{ap, sym, ◌∙◌, subst}
use Rattle.std.proofs.lemmas.List.{map-append, reverse-append}
use Rattle.pattern_laws.specs.Patterns.{Place as PlainPlace, Distinct}
use Rattle.celf_constraints.specs.declared.places.Place.{Place}
use Rattle.celf_constraints.specs.declared.places.Places.{Places}
use Rattle.celf_constraints.specs.Ended.{local_of, Apart}
use Rattle.celf_constraints.specs.Reading.{plain_place, own_place}
use Rattle.celf_constraints.specs.Read.{place_of, own_of, plain_reading, IsArranged}
use Rattle.celf_constraints.proofs.Growing.{to_list, from_list, both_maps}

turned : {X Y : Type 0} (f : X → Y) (xs : List X) → map f (reverse xs) ≡ reverse (map f xs)
turned f [] = refl
turned f (x ∷ xs) = ap (map f) (reverse-append (x ∷ []) xs) ∙ map-append f (reverse xs) (x ∷ []) ∙ ap (λ ys. ys ++ f x ∷ []) (turned f xs) ∙ sym (reverse-append (f x ∷ []) (map f xs))

read_places : (ps : List Place) → map plain_place ps ≡ map place_of (map plain_reading ps)
read_places [] = refl
read_places (p ∷ ps) = ap (λ l. plain_place p ∷ l) (read_places ps)

read_own : (ps : List Place) → map own_place ps ≡ map own_of (map plain_reading ps)
read_own [] = refl
read_own (p ∷ ps) = ap (λ l. own_place p ∷ l) (read_own ps)

pub turned_places : (items found : List Place) → items ≡ reverse found → map plain_place items ≡ map place_of (reverse (map plain_reading found))
turned_places items found e = ap (map plain_place) e ∙ read_places (reverse found) ∙ ap (map place_of) (turned plain_reading found)

turned_own : (items found : List Place) → items ≡ reverse found → map own_place items ≡ map own_of (reverse (map plain_reading found))
turned_own items found e = ap (map own_place) e ∙ read_own (reverse found) ∙ ap (map own_of) (turned plain_reading found)

distinct_of : (ps : List PlainPlace) → Apart (map local_of ps) → Distinct ps
distinct_of ps a i j v e f = a i j v (to_list ps i v e) (to_list ps j v f)

apart_of : (ps : List PlainPlace) → Distinct ps → Apart (map local_of ps)
apart_of ps a i j v e f = a i j v (from_list ps i v e) (from_list ps j v f)

-- the locals of the places are those of the readings
same_locals : (locals : List (Option ℕ)) (items found : List Place) → items ≡ reverse found → locals ≡ map (λ (p : Place). local_of (plain_place p)) items → locals ≡ map local_of (map place_of (reverse (map plain_reading found)))
same_locals locals items found e f = f ∙ both_maps items ∙ ap (map local_of) (turned_places items found e)

pub arranged : (m : ℕ) (found : List Place) (p : Places) (locals : List (Option ℕ)) → p.meta ≡ m → p.places.items ≡ reverse found → locals ≡ map (λ (q : Place). local_of (plain_place q)) p.places.items → Apart locals → IsArranged m (map plain_reading found) p
arranged m found p locals k e f a = record {
  meta = k;
  places = turned_places p.places.items found e;
  own = turned_own p.places.items found e;
  distinct = distinct_of (map place_of (reverse (map plain_reading found))) (subst Apart (same_locals locals p.places.items found e f) a);
}

pub not_arranged : (found items : List Place) (locals : List (Option ℕ)) → items ≡ reverse found → locals ≡ map (λ (q : Place). local_of (plain_place q)) items → (Apart locals → ⊥) → Distinct (map place_of (reverse (map plain_reading found))) → ⊥
not_arranged found items locals e f a d = a (subst Apart (sym (same_locals locals items found e f)) (apart_of (map place_of (reverse (map plain_reading found))) d))
