-- Some trees with their texts, worked out by hand: each form of an object, a type, a kind and an entry.
use Rattle.std.specs.Prelude.{ℕ, ◌≡◌, List, [], ◌∷◌, codes}
use Rattle.clf_syntax.specs.declared.tree.Mode.TheVariants.{Persistent, Affine, Linear}
use Rattle.clf_syntax.specs.declared.tree.Head.TheVariants.{Const, Var, Meta}
use Rattle.clf_syntax.specs.Tree.{PlainObject, lam, pair, unit, monadic, atomic, hole, PlainNeutral, head_alone, app, fst, snd, step, done, empty, entry}
use Rattle.clf_syntax.specs.TypeTree.{PlainType, family, function, both, top, monad, end, binding}
use Rattle.clf_sig.specs.Entry.{family_of, constant_of, PlainSignature}
use Rattle.clf_printer.specs.declared.place.Place.TheVariants.{Whole}
use Rattle.clf_printer.specs.Text.{object_text, type_text, kind_text, declaration_text}

-- the family a
abbrev pub a : PlainType
a = family 0 []

-- the variable of a number
abbrev pub variable : ℕ → PlainObject
variable i = atomic (head_alone (Var i))

-- the constant f, which has an implicit argument
abbrev pub f : PlainNeutral
f = head_alone (Const 2)

-- the families a and x1, and f
abbrev pub signature : PlainSignature
signature =
    (codes "a", record { implicit = 0; class = family_of [] }) ∷ (codes "x1", record { implicit = 0; class = family_of [] })
    ∷ (codes "f", record { implicit = 1; class = constant_of a }) ∷ []

-- The type, the object, has this text.
abbrev pub IsTypeText : PlainType → List ℕ → Type 0
IsTypeText t text = type_text signature [] 0 Whole t ≡ text

abbrev pub IsObjectText : PlainObject → List ℕ → Type 0
IsObjectText n text = object_text signature (7 ∷ 3 ∷ []) 0 n ≡ text

pub record WorkedTypes : Type 0 where
  pub linear : IsTypeText (function Linear a (family 1 [])) (codes "a -o $x1")
  pub affine : IsTypeText (function Affine a a) (codes "a -@ a")
  pub persistent : IsTypeText (function Persistent a a) (codes "a -> a")
  pub dependent : IsTypeText (function Persistent a (family 0 (variable 0 ∷ []))) (codes "Pi x1: a. a !x1")
  pub function_on_the_left : IsTypeText (function Linear (function Linear a a) a) (codes "(a -o a) -o a")
  pub function_on_the_right : IsTypeText (function Linear a (function Affine a a)) (codes "a -o a -@ a")
  pub pair_on_the_left : IsTypeText (both (both a a) (function Linear a a)) (codes "(a & a) & (a -o a)")
  pub pair_on_the_right : IsTypeText (both a (both a a)) (codes "a & a & a")
  pub unit_type : IsTypeText (function Linear (both a a) top) (codes "a & a -o <T>")
  pub no_entry : IsTypeText (monad end) (codes "{1}")
  pub entries : IsTypeText (monad (binding Linear a (binding Persistent a (binding Affine a end)))) (codes "{a * !a * @a}")
  pub named_entry : IsTypeText (monad (binding Persistent a (binding Linear (family 0 (variable 0 ∷ [])) end))) (codes "{Exists x1: a. a !x1}")
  pub kind : kind_text signature [] 0 (a ∷ a ∷ []) ≡ codes "a -> a -> type"
  pub implicit : declaration_text signature [] (codes "x2") (record { implicit = 2; class = constant_of a }) ≡ codes "x2 : [2] a."

pub record WorkedObjects : Type 0 where
  pub binders_and_arguments : IsObjectText
      (lam Linear (lam Persistent (lam Affine (atomic (app Affine (app Persistent (app Linear f (variable 2)) (variable 1)) (variable 0))))))
      (codes "\\x1. \\!x2. \\@x3. $f x1 !x2 @x3")
  pub argument_grouped : IsObjectText (atomic (app Persistent f (lam Linear (variable 0)))) (codes "$f !(\\x1. x1)")
  pub pair_of_atoms : IsObjectText (pair unit hole) (codes "<<>, _>")
  pub projected : IsObjectText (atomic (snd (fst (app Linear f unit)))) (codes "#2 #1 ($f <>)")
  pub projection_applied : IsObjectText (atomic (app Linear (fst f) (atomic (snd f)))) (codes "#1 $f #2 $f")
  pub step_with_entries : IsObjectText
      (monadic (step (Linear ∷ Persistent ∷ []) f (done (entry Linear (variable 1) (entry Persistent (variable 0) empty)))))
      (codes "{let {[x1, !x2]} = $f in [x1, !x2]}")
  pub step_without_entries : IsObjectText (monadic (step [] f (done (entry Affine unit empty)))) (codes "{let {1} = $f in @<>}")
  pub no_entries : IsObjectText (monadic (done empty)) (codes "{1}")
  pub metavariables : IsObjectText (atomic (app Persistent (head_alone (Meta 7)) (atomic (head_alone (Meta 3))))) (codes "?1 !?2")
  pub no_constant : IsObjectText (atomic (head_alone (Const 9))) (codes "$")
  pub free_variable : IsObjectText (lam Linear (variable 1)) (codes "\\x1. x0")
