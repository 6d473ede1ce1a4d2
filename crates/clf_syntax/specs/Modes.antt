-- Modes that are the same.
use Rattle.std.specs.Prelude.{Bool, true, false, ◌&&◌, List, [], ◌∷◌}
use Rattle.clf_syntax.specs.declared.tree.Mode.{Mode}
use Rattle.clf_syntax.specs.declared.tree.Mode.TheVariants.{Persistent, Affine, Linear}

abbrev pub same_mode : Mode → Mode → Bool
same_mode Persistent Persistent = true
same_mode Affine Affine = true
same_mode Linear Linear = true
same_mode _ _ = false

abbrev pub same_modes : List Mode → List Mode → Bool
same_modes [] [] = true
same_modes (m ∷ ms) (n ∷ ns) = same_mode m n && same_modes ms ns
same_modes _ _ = false
