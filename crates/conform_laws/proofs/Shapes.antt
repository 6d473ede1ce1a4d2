-- The shapes of simple types by which nothing is passed over: of a type as it is written they have what its erasure has.
use Rattle.std.specs.Prelude.{false, refl, ◌≡◌}
use Rattle.clf_syntax.specs.Simple.{erase, erase_telescope}
use Rattle.clf_syntax.specs.TypeTree.{PlainTelescope, PlainType, SimpleTelescope, SimpleType, arrow, base, binding, both, end, family, function, lax, monad, simple_binding, simple_end, simple_top, simple_with, top}
use Rattle.std.proofs.Common.{ap}
use Rattle.gathering.specs.Shape.{EntryShapes, Shape, an_entry, at_both, at_family, at_function, at_monad, at_top, no_entry, unmarked_entries, unmarked_shape}

abbrev mutual
  pub simple_shape : SimpleType → Shape
  simple_shape (base f) = at_family f
  simple_shape (arrow m d c) = at_function false (simple_shape d) (simple_shape c)
  simple_shape (simple_with c d) = at_both (simple_shape c) (simple_shape d)
  simple_shape simple_top = at_top
  simple_shape (lax s) = at_monad (simple_entries s)

  pub simple_entries : SimpleTelescope → EntryShapes
  simple_entries simple_end = no_entry
  simple_entries (simple_binding m d s) = an_entry false (simple_shape d) (simple_entries s)

function_shape : {u v x y : Shape} → u ≡ v → x ≡ y → at_function false u x ≡ at_function false v y
function_shape e f = cc

both_shape : {u v x y : Shape} → u ≡ v → x ≡ y → at_both u x ≡ at_both v y
both_shape e f = cc

entry_shape : {u v : Shape} {x y : EntryShapes} → u ≡ v → x ≡ y → an_entry false u x ≡ an_entry false v y
entry_shape e f = cc

mutual
  pub unmarked_is_simple : (a : PlainType) → unmarked_shape a ≡ simple_shape (erase a)
  unmarked_is_simple (family f ns) = refl
  unmarked_is_simple (function m a b) = function_shape (unmarked_is_simple a) (unmarked_is_simple b)
  unmarked_is_simple (both a b) = both_shape (unmarked_is_simple a) (unmarked_is_simple b)
  unmarked_is_simple top = refl
  unmarked_is_simple (monad s) = ap at_monad (unmarked_are_simple s)

  unmarked_are_simple : (s : PlainTelescope) → unmarked_entries s ≡ simple_entries (erase_telescope s)
  unmarked_are_simple end = refl
  unmarked_are_simple (binding m a s) = entry_shape (unmarked_is_simple a) (unmarked_are_simple s)
