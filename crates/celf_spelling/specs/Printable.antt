-- Trees whose text is made of tokens: each constant and each family is an entry whose name can be declared, no metavariable stands in
-- them, and no number in the name of a variable is 2 ^ 64 or greater.
use Rattle.std.specs.Prelude.{ℕ, ◌≡◌, ◌+◌, ◌<◌, ◌^◌, ◌&&◌, Bool, true, List, [], ◌∷◌, Some, IsTrue, slice_get}
use Rattle.clf_syntax.specs.declared.tree.Head.{Head}
use Rattle.clf_syntax.specs.declared.tree.Head.TheVariants.{Const, Var, Meta}
use Rattle.clf_syntax.specs.Tree.{PlainObject, lam, pair, unit, monadic, atomic, hole, PlainNeutral, head_alone, app, fst, snd, PlainExpression, step, done, PlainTuple, empty, entry}
use Rattle.clf_syntax.specs.TypeTree.{PlainType, family, function, both, top, monad, PlainTelescope, end, binding, PlainKind}
use Rattle.clf_syntax.specs.Word.{is_declarable}
use Rattle.clf_syntax.specs.Occurs.{occurs_type, occurs_telescope, occurs_kind}
use Rattle.clf_printer.specs.Text.{is_persistent}
use Rattle.clf_printer.specs.Depth.{scope_depth}
use Rattle.clf_sig.specs.Entry.{PlainClass, family_of, constant_of, PlainEntry, PlainSignature}

-- under so many binders one more can be numbered
abbrev pub HasNumber : ℕ → Type 0
HasNumber level = level + 1 < 2 ^ 64

-- a binder that is named or not
abbrev pub IsPrintableBinder : Bool → ℕ → Type 0
IsPrintableBinder named level = named ≡ true → HasNumber level

module _ (sig : PlainSignature) where
  -- At the place an entry stands, and its name can be declared.
  abbrev pub IsPrintablePlace : ℕ → Type 0
  IsPrintablePlace k = (e : List ℕ × PlainEntry) × (slice_get sig k ≡ Some e) × IsTrue (is_declarable e.0)

  abbrev pub IsPrintableHead : Head → Type 0
  IsPrintableHead (Const c) = IsPrintablePlace c
  IsPrintableHead (Var i) = Unit {0}
  IsPrintableHead (Meta m) = ⊥

  -- the heads of an object
  abbrev mutual
    pub HasNames : PlainObject → Type 0
    HasNames (lam m b) = HasNames b
    HasNames (pair l r) = HasNames l × HasNames r
    HasNames unit = Unit {0}
    HasNames (monadic e) = ExpressionHasNames e
    HasNames (atomic n) = NeutralHasNames n
    HasNames hole = Unit {0}

    pub NeutralHasNames : PlainNeutral → Type 0
    NeutralHasNames (head_alone h) = IsPrintableHead h
    NeutralHasNames (app m r n) = NeutralHasNames r × HasNames n
    NeutralHasNames (fst r) = NeutralHasNames r
    NeutralHasNames (snd r) = NeutralHasNames r

    pub ExpressionHasNames : PlainExpression → Type 0
    ExpressionHasNames (step ms r e) = NeutralHasNames r × ExpressionHasNames e
    ExpressionHasNames (done t) = TupleHasNames t

    pub TupleHasNames : PlainTuple → Type 0
    TupleHasNames empty = Unit {0}
    TupleHasNames (entry m n t) = HasNames n × TupleHasNames t

  -- under `level` binders
  abbrev pub IsPrintableObject : ℕ → PlainObject → Type 0
  IsPrintableObject level n = HasNames n × (level + scope_depth n < 2 ^ 64)

  abbrev pub ArePrintableIndices : ℕ → List PlainObject → Type 0
  ArePrintableIndices level [] = Unit {0}
  ArePrintableIndices level (n ∷ ns) = IsPrintableObject level n × ArePrintableIndices level ns

  abbrev mutual
    pub IsPrintableType : ℕ → PlainType → Type 0
    IsPrintableType level (family k ns) = IsPrintablePlace k × ArePrintableIndices level ns
    IsPrintableType level (function m a b) = IsPrintableType level a × IsPrintableType (level + 1) b × IsPrintableBinder (is_persistent m && occurs_type 0 b) level
    IsPrintableType level (both a b) = IsPrintableType level a × IsPrintableType level b
    IsPrintableType level top = Unit {0}
    IsPrintableType level (monad s) = IsPrintableTelescope level s

    pub IsPrintableTelescope : ℕ → PlainTelescope → Type 0
    IsPrintableTelescope level end = Unit {0}
    IsPrintableTelescope level (binding m a s) = IsPrintableType level a × IsPrintableTelescope (level + 1) s × IsPrintableBinder (is_persistent m && occurs_telescope 0 s) level

  abbrev pub IsPrintableKind : ℕ → PlainKind → Type 0
  IsPrintableKind level [] = Unit {0}
  IsPrintableKind level (a ∷ k) = IsPrintableType level a × IsPrintableKind (level + 1) k × IsPrintableBinder (occurs_kind 0 k) level

  abbrev pub IsPrintableClass : PlainClass → Type 0
  IsPrintableClass (family_of k) = IsPrintableKind 0 k
  IsPrintableClass (constant_of a) = IsPrintableType 0 a
