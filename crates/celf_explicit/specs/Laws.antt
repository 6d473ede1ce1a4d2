-- Laws of the explicit reading, as statements.
use Rattle.std.specs.Prelude.{◌≡◌, ◌&&◌, List, Some, None, is_some, is_none}
use Rattle.clf_syntax.specs.TypeTree.{PlainType}
use Rattle.clf_syntax.specs.Simple.{erase}
use Rattle.clf_sig.specs.Entry.{PlainSignature}
use Rattle.clf_sig.specs.Core.{PlainCore}
use Rattle.celf_sugar.specs.PlainTree.{DesugaredType, DesugaredItem}
use Rattle.celf_unknown.specs.Unknown.{first_unknown}
use Rattle.celf_places.specs.Heads.{Local}
use Rattle.celf_places.specs.SimpleTypes.{simple_type}
use Rattle.celf_explicit.specs.Types.{read_type}
use Rattle.celf_explicit.specs.Explicit.{explicit}
use Rattle.celf_explicit.specs.Explicitness.{is_explicit}

-- An item has a core exactly where each of its names has a meaning and it is explicit.
abbrev pub CoreWhereExplicit : Type 0
CoreWhereExplicit = (sig : PlainSignature) (item : DesugaredItem) → is_some (explicit sig item) ≡ (is_none (first_unknown sig item) && is_explicit sig item)

-- Where an item has a core, each of its names has a meaning: what is read, and what is said of its names, agree on them.
abbrev pub KnownWhereRead : Type 0
KnownWhereRead = (sig : PlainSignature) (item : DesugaredItem) (core : PlainCore) → explicit sig item ≡ Some core → first_unknown sig item ≡ None

-- What is left of a written type without its indices is the simple type of its core.
abbrev pub SimpleTypeOfCore : Type 0
SimpleTypeOfCore = (sig : PlainSignature) (ls : List Local) (t : DesugaredType) (a : PlainType) → read_type sig ls t ≡ Some a → simple_type sig t ≡ Some (erase a)
