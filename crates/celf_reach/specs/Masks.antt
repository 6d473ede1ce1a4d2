-- Inner: which places of a metavariable are kept.
use Rattle.std.specs.Prelude.{ℕ, ◌≡◌, ◌&&◌, not, nat_eq, Bool, true, false, if◌then◌else◌, List, map, Option, Some, None}
use Rattle.std.specs.List.{list_any}
use Rattle.clf_syntax.specs.declared.tree.Head.TheVariants.{Var}
use Rattle.pattern_laws.specs.Patterns.{Place, blank}
use Rattle.reach_walk.specs.Marks.{is_marked}

-- A place is kept where it is blank or its local is not marked.
abbrev pub is_kept : List Bool → ℕ → Place → Bool
is_kept bs d p = if blank p.1 then true else not (is_marked bs d (Var p.2))

-- The mask keeps these places of the metavariable, and one is taken away; or none is.
abbrev pub PrunesTo : List Bool → ℕ → ℕ → List Place → Option (ℕ × List Bool) → Type 0
PrunesTo bs d k zs None = list_any not (map (is_kept bs d) zs) ≡ false
PrunesTo bs d k zs (Some p) = (p.0 ≡ k) × (p.1 ≡ map (is_kept bs d) zs) × (list_any not p.1 ≡ true)

-- The local stands at the place.
abbrev pub has_local : ℕ → Place → Bool
has_local v p = not (blank p.1) && nat_eq p.2 v
