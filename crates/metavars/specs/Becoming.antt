-- Inner: what trees become with all solutions of a store put in, and when no types type them; each relation under a name that stays closed.
use Rattle.std.specs.Prelude.{◌≡◌, List, [], ◌∷◌}
use Rattle.clf_syntax.specs.declared.tree.Mode.{Mode}
use Rattle.clf_syntax.specs.Tree.{PlainObject, PlainNeutral, PlainExpression, tuple_of, head_of}
use Rattle.clf_syntax.specs.TypeTree.{PlainType, PlainTelescope, SimpleType, SimpleTelescope}
use Rattle.clf_syntax.specs.Simple.{Assignment, Families, erase, erase_telescope, SimplyTyped, SimplyTypedNeutral, SimplyTypedExpression, SimplyTypedTuple, SimplyTypedEach, SimplyFormed, SimplyFormedTelescope}
use Rattle.hered_subst.specs.Substitution.{Substituted, KeepsHead, HasValue, SubstitutedExpression, SubstitutedType, SubstitutedTelescope}
use Rattle.subst_laws.specs.Environments.{Instantiation, instant}
use Rattle.store_laws.specs.Additions.{given}
use Rattle.store_laws.specs.PutIn.{PutIn, IsClosed}
use Rattle.metavars.specs.Stored.{Stored, additions}
use Rattle.metavars.specs.Typed.{TypesStore}

-- With all solutions put in, the object o is x, of the same type.
unfoldable pub Object : Stored → PlainObject → PlainObject → Type 0
Object store o x = ((s : Instantiation) → PutIn (given (additions store)) s → IsClosed s → Substituted (instant s) o x)
    × ((z : Assignment) (t : SimpleType) → TypesStore z (additions store) → SimplyTyped z o t → SimplyTyped z x t)

-- No types that type the store type the object.
unfoldable pub NoObject : Stored → PlainObject → Type 0
NoObject store o = (z : Assignment) (t : SimpleType) → TypesStore z (additions store) → SimplyTyped z o t → ⊥

-- The neutral n keeps its head, and is x.
unfoldable pub Kept : Stored → PlainNeutral → PlainNeutral → Type 0
Kept store n x = ((s : Instantiation) → PutIn (given (additions store)) s → IsClosed s → KeepsHead (instant s) n x)
    × (head_of x ≡ head_of n)
    × ((z : Assignment) (t : SimpleType) → TypesStore z (additions store) → SimplyTypedNeutral z n t → SimplyTypedNeutral z x t)

-- The neutral n has the value v, an object with its simple type.
unfoldable pub Value : Stored → PlainNeutral → PlainObject × SimpleType → Type 0
Value store n v = ((s : Instantiation) → PutIn (given (additions store)) s → IsClosed s → HasValue (instant s) n v.0)
    × ((z : Assignment) (t : SimpleType) → TypesStore z (additions store) → SimplyTypedNeutral z n t → (v.1 ≡ t) × SimplyTyped z v.0 t)

unfoldable pub NoNeutral : Stored → PlainNeutral → Type 0
NoNeutral store n = (z : Assignment) (t : SimpleType) → TypesStore z (additions store) → SimplyTypedNeutral z n t → ⊥

unfoldable pub Expression : Stored → PlainExpression → PlainExpression → Type 0
Expression store e x = ((s : Instantiation) → PutIn (given (additions store)) s → IsClosed s → SubstitutedExpression (instant s) e x)
    × ((z : Assignment) (ts : SimpleTelescope) → TypesStore z (additions store) → SimplyTypedExpression z e ts → SimplyTypedExpression z x ts)

unfoldable pub NoExpression : Stored → PlainExpression → Type 0
NoExpression store e = (z : Assignment) (ts : SimpleTelescope) → TypesStore z (additions store) → SimplyTypedExpression z e ts → ⊥

unfoldable pub NoTuple : Stored → List (Mode × PlainObject) → Type 0
NoTuple store es = (z : Assignment) (ts : SimpleTelescope) → TypesStore z (additions store) → SimplyTypedTuple z (tuple_of es) ts → ⊥

unfoldable pub NoIndices : Stored → List PlainObject → Type 0
NoIndices store ns = (z : Assignment) (ts : List SimpleType) → TypesStore z (additions store) → SimplyTypedEach z ns ts → ⊥

unfoldable pub Typing : Stored → PlainType → PlainType → Type 0
Typing store a x = ((s : Instantiation) → PutIn (given (additions store)) s → IsClosed s → SubstitutedType (instant s) a x)
    × (erase x ≡ erase a)
    × ((arguments : Families) (z : Assignment) → TypesStore z (additions store) → SimplyFormed arguments z a → SimplyFormed arguments z x)

unfoldable pub NoTyping : Stored → PlainType → Type 0
NoTyping store a = (arguments : Families) (z : Assignment) → TypesStore z (additions store) → SimplyFormed arguments z a → ⊥

unfoldable pub TelescopeOf : Stored → PlainTelescope → PlainTelescope → Type 0
TelescopeOf store t x = ((s : Instantiation) → PutIn (given (additions store)) s → IsClosed s → SubstitutedTelescope (instant s) t x)
    × (erase_telescope x ≡ erase_telescope t)
    × ((arguments : Families) (z : Assignment) → TypesStore z (additions store) → SimplyFormedTelescope arguments z t → SimplyFormedTelescope arguments z x)

unfoldable pub NoTelescope : Stored → PlainTelescope → Type 0
NoTelescope store t = (arguments : Families) (z : Assignment) → TypesStore z (additions store) → SimplyFormedTelescope arguments z t → ⊥

-- an entry of a tuple, and one of a telescope: the mode stays
unfoldable pub Entry : Stored → Mode × PlainObject → Mode × PlainObject → Type 0
Entry store e x = (e.0 ≡ x.0) × Object store e.1 x.1

unfoldable pub NoEntry : Stored → Mode × PlainObject → Type 0
NoEntry store e = NoObject store e.1

unfoldable pub TypingEntry : Stored → Mode × PlainType → Mode × PlainType → Type 0
TypingEntry store e x = (e.0 ≡ x.0) × Typing store e.1 x.1

unfoldable pub NoTypingEntry : Stored → Mode × PlainType → Type 0
NoTypingEntry store e = NoTyping store e.1

-- So it is at each place of two lists.
pub data Each {X : Type 0} (R : X → X → Type 0) : List X → List X → Type 0 where
  none : Each R [] []
  next : {x y : X} {xs ys : List X} → R x y → Each R xs ys → Each R (x ∷ xs) (y ∷ ys)
