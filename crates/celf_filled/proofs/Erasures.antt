-- The type made of a simple type has this as its erasure.
use Rattle.std.specs.Prelude.{ℕ, ◌+◌, ◌≡◌, List, ◌∷◌, length, refl}
use Rattle.clf_syntax.specs.TypeTree.{SimpleType, base, arrow, simple_with, simple_top, lax, SimpleTelescope, simple_end, simple_binding}
use Rattle.clf_syntax.specs.Simple.{erase, erase_telescope}
use Rattle.pattern_laws.specs.Equations.{Locals}
use Rattle.celf_filled.specs.TypedFrom.{new_in, typed_from, telescope_from}

module _ (indices : ℕ → List SimpleType) where
  mutual
    pub typed-erased : (k : ℕ) (ls : Locals) (t : SimpleType) → erase (typed_from indices k ls t) ≡ t
    typed-erased k ls (base f) = refl
    typed-erased k ls (arrow m d c) = rw (typed-erased k ls d, typed-erased (k + length (new_in indices ls d)) ((m, d) ∷ ls) c) refl
    typed-erased k ls (simple_with c d) = rw (typed-erased k ls c, typed-erased (k + length (new_in indices ls c)) ls d) refl
    typed-erased k ls simple_top = refl
    typed-erased k ls (lax s) = rw (telescope-erased k ls s) refl

    pub telescope-erased : (k : ℕ) (ls : Locals) (s : SimpleTelescope) → erase_telescope (telescope_from indices k ls s) ≡ s
    telescope-erased k ls simple_end = refl
    telescope-erased k ls (simple_binding m t s) = rw (typed-erased k ls t, telescope-erased (k + length (new_in indices ls t)) ((m, t) ∷ ls) s) refl

pub ruleset erasure_laws = (typed-erased)
