-- What is left of a written type without its indices.
use Rattle.std.specs.Prelude.{ℕ, List, Option, Some, None, option_map}
use Rattle.clf_syntax.specs.TypeTree.{base, arrow, simple_with, simple_top, lax, SimpleTelescope, simple_end, simple_binding}
use Rattle.clf_sig.specs.Entry.{PlainSignature}
use Rattle.celf_sugar.specs.PlainTree.{DesugaredType, family, function, both, top, monad, DesugaredTelescope, end, binding}
use Rattle.celf_names.specs.Names.{family_named}
use Rattle.celf_places.specs.Combined.{combined}
use Rattle.celf_places.specs.Places.{Place}
use Rattle.celf_places.specs.Heads.{Local}

-- None where a name in the type is that of no family.
abbrev mutual
  pub simple_type : PlainSignature → DesugaredType → Place
  simple_type sig (family s h is) = option_map base (family_named sig h.name)
  simple_type sig (function s m n a b) = combined (arrow m) (simple_type sig a) (simple_type sig b)
  simple_type sig (both s a b) = combined simple_with (simple_type sig a) (simple_type sig b)
  simple_type sig (top s) = Some simple_top
  simple_type sig (monad s t) = option_map lax (simple_telescope sig t)

  pub simple_telescope : PlainSignature → DesugaredTelescope → Option SimpleTelescope
  simple_telescope sig end = Some simple_end
  simple_telescope sig (binding m n a t) = combined (simple_binding m) (simple_type sig a) (simple_telescope sig t)

-- what a function or an entry of a telescope binds; without a name it is never looked up
abbrev pub local_of : PlainSignature → Option (List ℕ) → DesugaredType → Local
local_of sig None a = (None, None)
local_of sig (Some n) a = (Some n, simple_type sig a)
