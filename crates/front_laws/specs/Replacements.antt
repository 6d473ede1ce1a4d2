-- Inner: what is asked of two replacements of heads, where a renaming leads from the one to the other.
use Rattle.std.specs.Prelude.{ℕ, ◌≡◌, List, Contains}
use Rattle.clf_syntax.specs.declared.tree.Head.{Head}
use Rattle.clf_syntax.specs.Renaming.{Renumbering, lifted, ren_head}

-- At these heads, under any number of binders, f does what g does and then the renaming.
abbrev pub Renames : (ℕ → Head → Head) → (ℕ → Head → Head) → Renumbering → List Head → Type 0
Renames f g r hs = (h : Head) → Contains hs h → (d : ℕ) → f d h ≡ ren_head (lifted d r) (g d h)
