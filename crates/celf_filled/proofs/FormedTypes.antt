-- The type made of a simple type is simply formed.
use Rattle.std.specs.Prelude.{ℕ, zero, suc, ◌+◌, ◌≡◌, List, [], ◌∷◌, ◌++◌, length}
use Rattle.std.proofs.Common.{ap, ◌∙◌, arith}
use Rattle.clf_syntax.specs.declared.tree.Mode.{Mode}
use Rattle.clf_syntax.specs.declared.tree.Head.TheVariants.{Meta}
use Rattle.clf_syntax.specs.TypeTree.{SimpleType, base, arrow, simple_with, simple_top, lax, SimpleTelescope, simple_end, simple_binding}
use Rattle.clf_syntax.specs.Simple.{Assignment, Families, extended, SimplyTypedEach, SimplyFormed, SimplyFormedTelescope}
use Rattle.clf_syntax.proofs.Lists.{get-front}
use Rattle.pattern_laws.specs.Equations.{Locals}
use Rattle.metavars.specs.Fresh.{scope_of, new_types}
use Rattle.metavars.proofs.Gets.{get-behind}
use Rattle.metavars.proofs.FreshTyped.{fresh_is_typed}
use Rattle.celf_filled.specs.TypedFrom.{fresh_objects, new_of_each, new_in, new_in_telescope, typed_from, telescope_from}
use Rattle.celf_filled.specs.FormedTypes.{HaveIndices, EachHasIndices, MetasHave, VariablesHave, MadeTypesAreFormed}
use Rattle.celf_filled.proofs.Erasures.{typed-erased}

in_front : (g : Assignment) (k : ℕ) (ts us : List SimpleType) → MetasHave g k (ts ++ us) → MetasHave g k ts
in_front g k ts us n j u e = n j u (get-front ts us j u e)

behind : (g : Assignment) (k : ℕ) (ts us : List SimpleType) → MetasHave g k (ts ++ us) → MetasHave g (k + length ts) us
behind g k ts us n j u e = ap (λ i. g (Meta i)) (moved k (length ts) j) ∙ n (length ts + j) u (get-behind ts us j ∙ e)
  where
    moved : (k i j : ℕ) → k + i + j ≡ k + (i + j)
    moved k i j = omega arith

bound : (g : Assignment) (m : Mode) (d : SimpleType) (ls : Locals) → VariablesHave g ls → VariablesHave (extended d g) ((m, d) ∷ ls)
bound g m d ls v zero u e = e
bound g m d ls v (suc i) u e = v i u e

each_typed : (g : Assignment) (k : ℕ) (ls : Locals) (ts : List SimpleType) → MetasHave g k (new_of_each (scope_of ls) ts) → VariablesHave g ls → SimplyTypedEach g (fresh_objects k (scope_of ls) ts) ts
each_typed g k ls [] n v = tt
each_typed g k ls (t ∷ ts) n v = (
  fresh_is_typed g k (scope_of ls) t (in_front g k (new_types (scope_of ls) t) (new_of_each (scope_of ls) ts) n) v,
  each_typed g (k + length (new_types (scope_of ls) t)) ls ts (behind g k (new_types (scope_of ls) t) (new_of_each (scope_of ls) ts) n) v,
)

module _ (families : Families) (indices : ℕ → List SimpleType) where
  mutual
    formed : (g : Assignment) (k : ℕ) (ls : Locals) (t : SimpleType) → HaveIndices families indices t → MetasHave g k (new_in indices ls t) → VariablesHave g ls → SimplyFormed families g (typed_from indices k ls t)
    formed g k ls (base f) h n v = (indices f, h, each_typed g k ls (indices f) n v)
    formed g k ls (arrow m d c) h n v = (
      formed g k ls d h.0 (in_front g k (new_in indices ls d) (new_in indices ((m, d) ∷ ls) c) n) v,
      rw (typed-erased indices k ls d) (formed (extended d g) (k + length (new_in indices ls d)) ((m, d) ∷ ls) c h.1 (behind g k (new_in indices ls d) (new_in indices ((m, d) ∷ ls) c) n) (bound g m d ls v)),
    )
    formed g k ls (simple_with c d) h n v = (
      formed g k ls c h.0 (in_front g k (new_in indices ls c) (new_in indices ls d) n) v,
      formed g (k + length (new_in indices ls c)) ls d h.1 (behind g k (new_in indices ls c) (new_in indices ls d) n) v,
    )
    formed g k ls simple_top h n v = tt
    formed g k ls (lax s) h n v = telescope_formed g k ls s h n v

    telescope_formed : (g : Assignment) (k : ℕ) (ls : Locals) (s : SimpleTelescope) → EachHasIndices families indices s → MetasHave g k (new_in_telescope indices ls s) → VariablesHave g ls
        → SimplyFormedTelescope families g (telescope_from indices k ls s)
    telescope_formed g k ls simple_end h n v = tt
    telescope_formed g k ls (simple_binding m t s) h n v = (
      formed g k ls t h.0 (in_front g k (new_in indices ls t) (new_in_telescope indices ((m, t) ∷ ls) s) n) v,
      rw (typed-erased indices k ls t) (telescope_formed (extended t g) (k + length (new_in indices ls t)) ((m, t) ∷ ls) s h.1 (behind g k (new_in indices ls t) (new_in_telescope indices ((m, t) ∷ ls) s) n) (bound g m t ls v)),
    )

pub made_types_are_formed : MadeTypesAreFormed
made_types_are_formed families indices g k ls t h n v = formed families indices g k ls t h n v
