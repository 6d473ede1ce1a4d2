-- The new metavariables in types made of simple types have final results, and these types have those as erasures.
use Rattle.std.proofs.lemmas.List.Elements.{All-append, All-nil}
use Rattle.std.specs.List.{All}
use Rattle.std.specs.Prelude.{List, [], length, refl, ℕ, ◌+◌, ◌∷◌, ◌≡◌}
use Rattle.clf_syntax.specs.TypeTree.{SimpleTelescope, SimpleType, arrow, base, lax, simple_binding, simple_end, simple_top, simple_with}
use Rattle.pattern_laws.specs.Equations.{Locals}
use Rattle.pattern_laws.specs.Patterns.{HasFinalResult}
use Rattle.metavars.specs.Fresh.{Scope, new_types, scope_of}
use Rattle.gathered_laws.proofs.Finals.{new_are_final}
use Rattle.celf_filled.proofs.Erasures.{typed-erased}
use Rattle.celf_filled.specs.TypedFrom.{new_in, new_in_telescope, new_of_each}
use Rattle.filled_laws.specs.FreshTypes.{new_in_each}
use Rattle.filled_laws.specs.Laws.{NewInAreFinal, TypesHaveErasures}

of_each : (s : Scope) (ts : List SimpleType) → All HasFinalResult (new_of_each s ts)
of_each s [] = All-nil HasFinalResult
of_each s (t ∷ ts) = All-append HasFinalResult (new_types s t) (new_of_each s ts) (new_are_final s t) (of_each s ts)

module _ (indices : ℕ → List SimpleType) where
  mutual
    in_type : (ls : Locals) (t : SimpleType) → All HasFinalResult (new_in indices ls t)
    in_type ls (base f) = of_each (scope_of ls) (indices f)
    in_type ls (arrow m d c) = All-append HasFinalResult (new_in indices ls d) (new_in indices ((m, d) ∷ ls) c) (in_type ls d) (in_type ((m, d) ∷ ls) c)
    in_type ls (simple_with c d) = All-append HasFinalResult (new_in indices ls c) (new_in indices ls d) (in_type ls c) (in_type ls d)
    in_type ls simple_top = All-nil HasFinalResult
    in_type ls (lax s) = in_telescope ls s

    in_telescope : (ls : Locals) (s : SimpleTelescope) → All HasFinalResult (new_in_telescope indices ls s)
    in_telescope ls simple_end = All-nil HasFinalResult
    in_telescope ls (simple_binding m t s) = All-append HasFinalResult (new_in indices ls t) (new_in_telescope indices ((m, t) ∷ ls) s) (in_type ls t)
        (in_telescope ((m, t) ∷ ls) s)

  in_each : (ts : List SimpleType) → All HasFinalResult (new_in_each indices ts)
  in_each [] = All-nil HasFinalResult
  in_each (t ∷ ts) = All-append HasFinalResult (new_in indices [] t) (new_in_each indices ts) (in_type [] t) (in_each ts)

pub new_in_are_final : NewInAreFinal
new_in_are_final indices = (in_type indices, in_each indices)

pub types_have_erasures : TypesHaveErasures
types_have_erasures indices k [] = refl
types_have_erasures indices k (t ∷ ts) = conses (typed-erased indices k [] t) (types_have_erasures indices (k + length (new_in indices [] t)) ts)
  where
    conses : {a b : SimpleType} {us vs : List SimpleType} → a ≡ b → us ≡ vs → a ∷ us ≡ b ∷ vs
    conses e f = cc
