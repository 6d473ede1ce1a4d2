-- Some written types without their sugar, worked out by hand.
use Rattle.std.specs.Prelude.{ℕ, ◌≡◌, false, List, [], None, Some, codes}
use Rattle.clf_syntax.specs.declared.tree.Mode.TheVariants.{Persistent, Affine, Linear}
use Rattle.celf_surface.specs.declared.surface.Arrow.TheVariants.{To, Back, Lolli, BackLolli, Affine as AffineArrow}
use Rattle.celf_surface.specs.declared.surface.Span.{Span}
use Rattle.celf_surface.specs.Surface as written
use Rattle.celf_sugar.specs.PlainTree.{DesugaredType, family, function, monad, end, binding}
use Rattle.celf_sugar.specs.Sugar.{reading}

-- a family of this name, as it is written and without sugar
abbrev pub named : Span → List ℕ → written.WrittenType
named s name = written.family s name false s []

abbrev pub means : Span → List ℕ → DesugaredType
means s name = family s (record { name = name; dollar = false; span = s }) []

-- The type without its sugar is this one.
abbrev pub Means : written.WrittenType → DesugaredType → Type 0
Means t plain = (reading t).as_type ≡ plain

-- All cover the same bytes, whichever these are.
pub record WorkedTypes (s : Span) : Type 0 where
  pub arrow : Means (written.arrow s To (named s (codes "a")) (named s (codes "b"))) (function s Persistent None (means s (codes "a")) (means s (codes "b")))
  pub back_arrow : Means (written.arrow s Back (named s (codes "b")) (named s (codes "a"))) (function s Persistent None (means s (codes "a")) (means s (codes "b")))
  pub lolli : Means (written.arrow s Lolli (named s (codes "a")) (named s (codes "b"))) (function s Linear None (means s (codes "a")) (means s (codes "b")))
  pub back_lolli : Means (written.arrow s BackLolli (named s (codes "b")) (named s (codes "a"))) (function s Linear None (means s (codes "a")) (means s (codes "b")))
  pub affine : Means (written.arrow s AffineArrow (named s (codes "a")) (named s (codes "b"))) (function s Affine None (means s (codes "a")) (means s (codes "b")))
  pub dependent : Means (written.pi s (codes "x") (named s (codes "a")) (named s (codes "b"))) (function s Persistent (Some (codes "x")) (means s (codes "a")) (means s (codes "b")))
  pub product : Means (written.arrow s Lolli (written.tensor s (written.marked s Persistent (named s (codes "a"))) (named s (codes "b"))) (named s (codes "c")))
      (function s Persistent None (means s (codes "a")) (function s Linear None (means s (codes "b")) (means s (codes "c"))))
  pub no_entry : Means (written.arrow s Lolli (written.one s) (named s (codes "a"))) (means s (codes "a"))
  pub named_entry : Means (written.arrow s Lolli (written.exists s (codes "x") (named s (codes "a")) (named s (codes "b"))) (named s (codes "c")))
      (function s Persistent (Some (codes "x")) (means s (codes "a")) (function s Linear None (means s (codes "b")) (means s (codes "c"))))
  pub braces : Means (written.braced s (written.tensor s (named s (codes "a")) (written.marked s Affine (named s (codes "b")))))
      (monad s (binding Linear None (means s (codes "a")) (binding Affine None (means s (codes "b")) end)))
