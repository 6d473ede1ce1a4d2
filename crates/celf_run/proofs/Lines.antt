-- The line of an entry over the signature that has it is that over the entries before it.
use Rattle.std.proofs.Common.{ℕ, ◌≡◌, ◌+◌, zero, suc, refl, Some, List, [], ◌∷◌, ◌++◌, length, slice_get, codes}
use Rattle.clf_syntax.specs.declared.tree.Head.{Head}
use Rattle.clf_syntax.specs.declared.tree.Head.TheVariants.{Const, Var, Meta}
use Rattle.clf_syntax.specs.Tree.{PlainObject, lam, pair, unit, monadic, atomic, hole, PlainNeutral, head_alone, app, fst, snd, PlainExpression, step, done, PlainTuple, empty, entry as tuple_entry}
use Rattle.clf_syntax.specs.TypeTree.{PlainType, family, function, both as additive_pair, top as additive_unit, monad, PlainTelescope, end, binding, PlainKind}
use Rattle.clf_syntax.proofs.Lists.{get-front}
use Rattle.clf_sig.specs.Entry.{PlainClass, family_of, constant_of, PlainEntry, PlainSignature, Declaration}
use Rattle.clf_printer.specs.declared.place.Place.{Place}
use Rattle.clf_printer.specs.declared.place.Place.TheVariants.{Whole, Operand, Factor}
use Rattle.clf_printer.specs.Text.{place_text, head_text, object_text, neutral_text, expression_text, tuple_text, indices_text, type_text, telescope_text, kind_text, class_text, declaration_text}
use Rattle.clf_printer.specs.Metas.{appearing_class}
use Rattle.celf_spelling.specs.Printable.{IsPrintablePlace, IsPrintableHead, HasNames, NeutralHasNames, ExpressionHasNames, TupleHasNames, ArePrintableIndices, IsPrintableType, IsPrintableTelescope, IsPrintableKind, IsPrintableClass}
use Rattle.celf_replies.specs.Reply.{entry}
use Rattle.celf_replies.specs.Text.{reply_text}

pub get-behind : (front : PlainSignature) (d : Declaration) → slice_get (front ++ d ∷ []) (length front) ≡ Some d
get-behind [] d = refl
get-behind (x ∷ xs) d = get-behind xs d

-- What names entries of a signature alone is printed alike over a longer one.
module _ (sig es : PlainSignature) (metas : List ℕ) where
  place-front : (k : ℕ) → IsPrintablePlace sig k → place_text (sig ++ es) k ≡ place_text sig k
  place-front k p = rw (p.1, get-front sig es k p.0 p.1) refl

  head-front : (level : ℕ) (h : Head) → IsPrintableHead sig h → head_text (sig ++ es) metas level h ≡ head_text sig metas level h
  head-front level (Const c) p = place-front c p
  head-front level (Var i) p = refl
  head-front level (Meta m) p = absurd p

  mutual
    object-front : (level : ℕ) (n : PlainObject) → HasNames sig n → object_text (sig ++ es) metas level n ≡ object_text sig metas level n
    object-front level (lam m b) p = rw (object-front (level + 1) b p) refl
    object-front level (pair l r) p = rw (object-front level l p.0, object-front level r p.1) refl
    object-front level unit p = refl
    object-front level (monadic e) p = rw (expression-front level e p) refl
    object-front level (atomic n) p = neutral-front level n p
    object-front level hole p = refl

    neutral-front : (level : ℕ) (n : PlainNeutral) → NeutralHasNames sig n → neutral_text (sig ++ es) metas level n ≡ neutral_text sig metas level n
    neutral-front level (head_alone h) p = head-front level h p
    neutral-front level (app m r n) p = rw (neutral-front level r p.0, object-front level n p.1) refl
    neutral-front level (fst r) p = rw (neutral-front level r p) refl
    neutral-front level (snd r) p = rw (neutral-front level r p) refl

    expression-front : (level : ℕ) (e : PlainExpression) → ExpressionHasNames sig e → expression_text (sig ++ es) metas level e ≡ expression_text sig metas level e
    expression-front level (step ms r e) p = rw (neutral-front level r p.0, expression-front (level + length ms) e p.1) refl
    expression-front level (done t) p = rw (tuple-front level t p) refl

    tuple-front : (level : ℕ) (t : PlainTuple) → TupleHasNames sig t → tuple_text (sig ++ es) metas level t ≡ tuple_text sig metas level t
    tuple-front level empty p = refl
    tuple-front level (tuple_entry m n t) p = rw (object-front level n p.0, tuple-front level t p.1) refl

  indices-front : (level : ℕ) (ns : List PlainObject) → ArePrintableIndices sig level ns → indices_text (sig ++ es) metas level ns ≡ indices_text sig metas level ns
  indices-front level [] p = refl
  indices-front level (n ∷ ns) p = rw (object-front level n p.0.0, indices-front level ns p.1) refl

  mutual
    type-front : (level : ℕ) (p : Place) (a : PlainType) → IsPrintableType sig level a → type_text (sig ++ es) metas level p a ≡ type_text sig metas level p a
    type-front level p (family k ns) h = rw (place-front k h.0, indices-front level ns h.1) refl
    type-front level p (function m a b) h = rw (type-front level Whole a h.0, type-front level Operand a h.0, type-front (level + 1) Whole b h.1) refl
    type-front level p (additive_pair a b) h = rw (type-front level Factor a h.0, type-front level Operand b h.1) refl
    type-front level p additive_unit h = refl
    type-front level p (monad s) h = rw (telescope-front level s h) refl

    telescope-front : (level : ℕ) (s : PlainTelescope) → IsPrintableTelescope sig level s → telescope_text (sig ++ es) metas level s ≡ telescope_text sig metas level s
    telescope-front level end h = refl
    telescope-front level (binding m a s) h = rw (type-front level Whole a h.0, type-front level Operand a h.0, telescope-front (level + 1) s h.1) refl

  kind-front : (level : ℕ) (k : PlainKind) → IsPrintableKind sig level k → kind_text (sig ++ es) metas level k ≡ kind_text sig metas level k
  kind-front level [] h = refl
  kind-front level (a ∷ k) h = rw (type-front level Whole a h.0, type-front level Operand a h.0, kind-front (level + 1) k h.1) refl

  class-front : (c : PlainClass) → IsPrintableClass sig c → class_text (sig ++ es) metas c ≡ class_text sig metas c
  class-front (family_of k) h = kind-front 0 k h
  class-front (constant_of a) h = type-front 0 Whole a h

-- The new entry's line is the same over the entries before it.
pub entry-line : (sig : PlainSignature) (name : List ℕ) (e : PlainEntry) → IsPrintableClass sig e.class
    → reply_text (sig ++ (name, e) ∷ []) (entry (length sig)) ≡ declaration_text sig (appearing_class [] e.class) name e ++ codes "\n"
entry-line sig name e h = rw (get-behind sig (name, e), class-front sig ((name, e) ∷ []) (appearing_class [] e.class) e.class h) refl
