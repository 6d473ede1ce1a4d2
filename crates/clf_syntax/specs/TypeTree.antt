-- Plain trees of types, telescopes and kinds, and of simple types: what contracts see of `Ty`, `Tele`, `Kind` and `Simple`.
use Rattle.std.specs.Prelude.{ℕ, List, [], ◌∷◌}
use Rattle.clf_syntax.specs.declared.tree.Mode.{Mode}
use Rattle.clf_syntax.specs.Tree.{PlainObject}

mutual
  pub data PlainType : Type 0 where
    -- a family, by its place in the signature, at its indices
    family : ℕ → List PlainObject → PlainType
    -- a function, which binds one variable in its second type, whatever its mode
    function : Mode → PlainType → PlainType → PlainType
    -- the additive pair `A & B`
    both : PlainType → PlainType → PlainType
    -- the additive unit `<T>`
    top : PlainType
    monad : PlainTelescope → PlainType

  -- a list of entries, each of which binds one variable in the later ones
  pub data PlainTelescope : Type 0 where
    end : PlainTelescope
    binding : Mode → PlainType → PlainTelescope → PlainTelescope

abbrev pub telescope_of : List (Mode × PlainType) → PlainTelescope
telescope_of [] = end
telescope_of (e ∷ es) = binding e.0 e.1 (telescope_of es)

-- the types of a kind's arguments, each of which binds one persistent variable in the later ones
abbrev pub PlainKind : Type 0
PlainKind = List PlainType

mutual
  -- a type without its indices
  pub data SimpleType : Type 0 where
    base : ℕ → SimpleType
    arrow : Mode → SimpleType → SimpleType → SimpleType
    simple_with : SimpleType → SimpleType → SimpleType
    simple_top : SimpleType
    lax : SimpleTelescope → SimpleType

  pub data SimpleTelescope : Type 0 where
    simple_end : SimpleTelescope
    simple_binding : Mode → SimpleType → SimpleTelescope → SimpleTelescope
