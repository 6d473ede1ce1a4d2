-- Spines of some acts, and pairs.
use Rattle.std.specs.Prelude.{◌≡◌, List, [], ◌∷◌, map, None, refl}
use Rattle.celf_surface.specs.declared.surface.SMode.{SMode}
use Rattle.celf_surface.specs.declared.surface.Span.{Span}
use Rattle.celf_sugar.specs.declared.plain.PName.{PName}
use Rattle.celf_sugar.specs.PlainTree.{DesugaredAct, atomic, spine_of}
use Rattle.celf_implicit.specs.Scopes.{Binders}
use Rattle.celf_implicit.specs.Occurrences.{local_named}

pub pair_same : {A B : Type 0} (a b : A) (c d : B) → a ≡ b → c ≡ d → ◌≡◌ {A = A × B} (a, c) (b, d)
pair_same a b c d p q = rw (p, q) refl

-- what something is done to is no local alone
pub no_local : {W : Type 0} (tree : W → DesugaredAct) (bs : Binders) (m : SMode) (p : Span) (n : PName) (ws : List W) → (ws ≡ [] → ⊥) → None ≡ local_named bs m (atomic p n (spine_of (map tree ws)))
no_local tree bs m p n [] e = absurd (e refl)
no_local tree bs m p n (w ∷ ws) e = refl
