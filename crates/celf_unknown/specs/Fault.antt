-- The fault of a name without a meaning.
use Rattle.std.specs.Prelude.{ℕ, ◌≡◌, List}
use Rattle.clf_syntax.specs.declared.fault.OrWide.{OrWide}
use Rattle.clf_syntax.specs.declared.fault.OrWide.TheVariants.{Fault, NoMemory, TooFar}
use Rattle.celf_surface.specs.declared.surface.Span.{Span}
use Rattle.celf_sugar.specs.declared.plain.PName.{PName}
use Rattle.celf_unknown.specs.declared.fault.UnknownName.{UnknownName}

-- a name, and the bytes at which it stands
abbrev pub standing : PName → List ℕ × Span
standing n = (n.name, n.span)

-- the fault of a name: the name, or lack of memory for it
abbrev pub IsUnknown : PName → OrWide UnknownName → Type 0
IsUnknown n (Fault u) = (u.name ≡ n.name) × (u.span ≡ n.span)
IsUnknown n NoMemory = Unit {0}
IsUnknown n (TooFar w) = ⊥
