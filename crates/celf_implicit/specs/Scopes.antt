-- Where a part of an item stands: the local binders around it, and whether what stands there is checked.
use Rattle.std.specs.Prelude.{Bool, true, List, [], ◌∷◌}
use Rattle.clf_syntax.specs.declared.tree.Mode.{Mode}
use Rattle.clf_syntax.specs.TypeTree.{SimpleType}
use Rattle.celf_sugar.specs.declared.plain.PBinder.{PBinder}
use Rattle.celf_places.specs.Places.{marked, next_part}
use Rattle.celf_places.specs.Heads.{Local}

-- the local binders, and the mode of each, the newest first
pub record Binders : Type 0 where
  pub locals : List Local
  pub modes : List Mode

abbrev pub no_binders : Binders
no_binders = record { locals = []; modes = [] }

-- with one more
abbrev pub bind : Mode → Local → Binders → Binders
bind m l bs = record { locals = l ∷ bs.locals; modes = m ∷ bs.modes }

-- with those of a pattern for these entries
abbrev pub bind_pattern : List (Mode × SimpleType) → List PBinder → Binders → Binders
bind_pattern ps [] bs = bs
bind_pattern ps (p ∷ more) bs = bind_pattern (next_part ps).later more (bind (marked p.mode (next_part ps).mode) (p.name, (next_part ps).place) bs)

pub record Scope : Type 0 where
  pub binders : Binders
  pub checked : Bool

-- around a whole item
abbrev pub outermost : Scope
outermost = record { binders = no_binders; checked = true }

-- under one binder more
abbrev pub under : Mode → Local → Scope → Scope
under m l s = record { binders = bind m l s.binders; checked = s.checked }
