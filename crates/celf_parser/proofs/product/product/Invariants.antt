-- The product of the factors that are left and of what was nested is the whole.
use Rattle.std.proofs.Common.{◌≡◌, length, map}
use Rattle.celf_surface.specs.Surface.{surface}
use Rattle.celf_cursor.specs.Cursor.{state_of}
use Rattle.celf_parser.specs.Product.{factor_of, product_of}
use Rattle.celf_parser.proofs.product.product.Given as goal

abbrev pub invariant-loop-factor : goal.invariant-loop-factor
invariant-loop-factor l =
    product_of (map (factor_of l.bytes) l.left) (surface l.product) (state_of l.bytes l.behind)
    ≡ product_of (map (factor_of l.bytes) l.initial.left) (surface l.initial.product) (state_of l.bytes l.behind)

abbrev pub decreases-loop-factor : goal.decreases-loop-factor
decreases-loop-factor l = length l.left
