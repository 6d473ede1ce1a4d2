-- Equations that are taken apart one by one.
use Rattle.std.specs.Prelude.{◌≡◌, List, [], ◌∷◌, ◌++◌, refl}
use Rattle.std.proofs.Common.{subst, ⊎_elim}
use Rattle.pattern_laws.specs.Instantiations.{Types}
use Rattle.pattern_laws.specs.Equations.{Equation, Listed, listed_here, listed_later}
use Rattle.reach_laws.specs.Rest.{ComesDown, down_listed, PartOf, part_itself, Rest}
use Rattle.reach_laws.proofs.Down.{down_further, down_behind, listed_more, listed_behind}
use Rattle.answer_laws.proofs.InTurn.{part_of_part, listed_cases}
use Rattle.solver_laws.specs.Reduced.{Reduced, LeftOver}
use Rattle.solver_laws.specs.Laws.{WorkIsReduced}

the_one : {x e : Equation} → Listed x (e ∷ []) → e ≡ x
the_one listed_here = refl
the_one {e = e} (listed_later l) = elim l [ ]

module _ (constants metas : Types) where
  -- in another order
  among : (es ds fs : List Equation) → Reduced constants metas es ds → ((x : Equation) → Listed x ds → Listed x fs) → ((x : Equation) → Listed x fs → Listed x ds) → Reduced constants metas es fs
  among es ds fs r f g = record {
    down = (λ e l. down_further constants metas ds fs (λ x k. down_listed (f x k)) (r.down e l));
    met = (λ e l. r.met e (g e l));
  }

  last : (es left ws ds : List Equation) (e : Equation) → Reduced constants metas es (left ++ (ws ++ e ∷ [])) → Reduced constants metas (e ∷ []) ds → Reduced constants metas es (left ++ (ws ++ ds))
  last es left ws ds e r q = record {
    down = (λ d l. down_further constants metas (left ++ (ws ++ e ∷ [])) (left ++ (ws ++ ds)) at (r.down d l));
    met = met;
  }
    where
      at : (x : Equation) → Listed x (left ++ (ws ++ e ∷ [])) → ComesDown constants metas (left ++ (ws ++ ds)) x
      at x l = ⊎_elim (λ k. down_listed (listed_more x left (ws ++ ds) k))
          (λ k. ⊎_elim (λ n. down_listed (listed_behind x left (ws ++ ds) (listed_more x ws ds n)))
          (λ n. down_behind constants metas left (ws ++ ds) (down_behind constants metas ws ds (q.down x (subst (λ y. Listed y (e ∷ [])) (the_one n) listed_here))))
          (listed_cases ws (e ∷ []) x k))
          (listed_cases left (ws ++ e ∷ []) x l)

      met : (x : Equation) → Listed x (left ++ (ws ++ ds)) → (d : Equation) × Listed d es × PartOf constants metas d x
      met x l = ⊎_elim (λ k. r.met x (listed_more x left (ws ++ e ∷ []) k))
          (λ k. ⊎_elim (λ n. r.met x (listed_behind x left (ws ++ e ∷ []) (listed_more x ws (e ∷ []) n))) of (listed_cases ws ds x k))
          (listed_cases left (ws ++ ds) x l)
        where
          of : Listed x ds → (d : Equation) × Listed d es × PartOf constants metas d x
          of n = let (y, i, p) = q.met x n in let (d, j, h) = r.met e (listed_behind e left (ws ++ e ∷ []) (listed_behind e ws (e ∷ []) listed_here)) in
              (d, j, part_of_part p (subst (PartOf constants metas d) (the_one i) h))

  left_over : (es left ws : List Equation) (e : Equation) → Reduced constants metas es (left ++ (ws ++ e ∷ [])) → Reduced constants metas es ((left ++ e ∷ []) ++ ws)
  left_over es left ws e r = among es (left ++ (ws ++ e ∷ [])) ((left ++ e ∷ []) ++ ws) r
      (λ x l. ⊎_elim (λ k. listed_more x (left ++ e ∷ []) ws (listed_more x left (e ∷ []) k))
      (λ k. ⊎_elim (λ n. listed_behind x (left ++ e ∷ []) ws n) (λ n. listed_more x (left ++ e ∷ []) ws (listed_behind x left (e ∷ []) n)) (listed_cases ws (e ∷ []) x k)) (listed_cases left (ws ++ e ∷ []) x l))
      (λ x l. ⊎_elim (λ k. ⊎_elim (λ n. listed_more x left (ws ++ e ∷ []) n) (λ n. listed_behind x left (ws ++ e ∷ []) (listed_behind x ws (e ∷ []) n)) (listed_cases left (e ∷ []) x k))
      (λ k. listed_behind x left (ws ++ e ∷ []) (listed_more x ws (e ∷ []) k)) (listed_cases (left ++ e ∷ []) ws x l))

  end_empty : (left : List Equation) (x : Equation) → Listed x (left ++ []) → Listed x left
  end_empty left x l = ⊎_elim (λ k. k) (λ k. absurd (none k)) (listed_cases left [] x l)
    where
      none : Listed x [] → ⊥
      none k = elim k [ ]

  rest : (es left : List Equation) → Reduced constants metas es (left ++ []) → ((e : Equation) → Listed e left → LeftOver constants metas e) → Rest constants metas es left
  rest es left r f = record {
    down = (λ e l. down_further constants metas (left ++ []) left (λ x k. down_listed (end_empty left x k)) (r.down e l));
    met = (λ e l. r.met e (listed_more e left [] l));
    stuck = (λ e l. (f e l).stuck);
    unjoined = (λ e l. (f e l).unjoined);
  }

pub work_is_reduced : WorkIsReduced
work_is_reduced constants metas = record {
  nothing = (λ es. record { down = (λ e l. down_listed l); met = (λ e l. (e, l, part_itself)) });
  last = last constants metas;
  left_over = left_over constants metas;
  rest = rest constants metas;
}
