-- The first fault of an item is the first of the first faults of each kind.
use Rattle.std.specs.Prelude.{◌≡◌, Option, None, Some, List, [], ◌∷◌, ◌++◌, map, Bool, true, false, nat_lt, if◌then◌else◌, refl}
use Rattle.std.proofs.Common.{ap, sym, ◌∙◌, inl, inr}
use Rattle.celf_surface.specs.declared.surface.Span.{Span}
use Rattle.celf_surface.specs.Surface.{WrittenBody}
use Rattle.celf_sugar.specs.declared.fault.SugarFault.{SugarFault}
use Rattle.celf_sugar.specs.declared.fault.SugarFault.TheVariants.{KindPlace, NotAsync, Redex, OutOfRange, BadImplicit, NoMemory}
use Rattle.celf_sugar.specs.declared.first.Found.{Found}
use Rattle.celf_sugar.specs.Earliest.{sooner, earliest}
use Rattle.celf_sugar.specs.Faults.{start, fault_start, kind_places_of, not_async_of, redexes_of, out_of_range_of, bad_implicits_of, faults}
use Rattle.celf_sugar.specs.Answers.{IsFirst, as_fault, first_found}
use Rattle.celf_sugar.proofs.EarliestLaws.{earliest-append}

chosen : (kind : Span → SugarFault) (x y : Span) (b : Bool) → (if b then Some (kind y) else Some (kind x)) ≡ as_fault kind (if b then Some y else Some x)
chosen kind x y true = refl
chosen kind x y false = refl

-- faults that begin where their places do
sooner-kind : (kind : Span → SugarFault) → ((s : Span) → fault_start (kind s) ≡ start s) → (x : Span) (y : Option Span) → sooner fault_start (Some (kind x)) (as_fault kind y) ≡ as_fault kind (sooner start (Some x) y)
sooner-kind kind h x None = refl
sooner-kind kind h x (Some y) = rw (h x, h y) (chosen kind x y (nat_lt (start y) (start x)))

earliest-kind : (kind : Span → SugarFault) → ((s : Span) → fault_start (kind s) ≡ start s) → (xs : List Span) → earliest fault_start (map kind xs) ≡ as_fault kind (earliest start xs)
earliest-kind kind h [] = refl
earliest-kind kind h (x ∷ xs) = ap (sooner fault_start (Some (kind x))) (earliest-kind kind h xs) ∙ sooner-kind kind h x (earliest start xs)

pub faults-first : (b : WrittenBody) (f : Found) → f.kind_place ≡ earliest start (kind_places_of b) → f.not_async ≡ earliest start (not_async_of b) → f.redex ≡ earliest start (redexes_of b) → f.out_of_range ≡ earliest start (out_of_range_of b) → f.bad_implicit ≡ earliest start (bad_implicits_of b) → first_found f ≡ earliest fault_start (faults b)
faults-first b f k n r o i = sym (rw (
  earliest-append fault_start (map KindPlace (kind_places_of b)) (map NotAsync (not_async_of b) ++ (map Redex (redexes_of b) ++ (map OutOfRange (out_of_range_of b) ++ map BadImplicit (bad_implicits_of b)))),
  earliest-append fault_start (map NotAsync (not_async_of b)) (map Redex (redexes_of b) ++ (map OutOfRange (out_of_range_of b) ++ map BadImplicit (bad_implicits_of b))),
  earliest-append fault_start (map Redex (redexes_of b)) (map OutOfRange (out_of_range_of b) ++ map BadImplicit (bad_implicits_of b)),
  earliest-append fault_start (map OutOfRange (out_of_range_of b)) (map BadImplicit (bad_implicits_of b)),
  earliest-kind KindPlace (λ s. refl) (kind_places_of b),
  earliest-kind NotAsync (λ s. refl) (not_async_of b),
  earliest-kind Redex (λ s. refl) (redexes_of b),
  earliest-kind OutOfRange (λ s. refl) (out_of_range_of b),
  earliest-kind BadImplicit (λ s. refl) (bad_implicits_of b),
  ← k,
  ← n,
  ← r,
  ← o,
  ← i,
) refl)

pub memory-first : (first : Option SugarFault) → IsFirst NoMemory first
memory-first first = inl refl

pub fault-first : (f : SugarFault) (first : Option SugarFault) → first ≡ Some f → IsFirst f first
fault-first f first h = inr h

pub ruleset answer_laws = (memory-first, fault-first)
