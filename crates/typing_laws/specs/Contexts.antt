-- Entries of a context: a new one, two that change places, and one that nothing mentions.
use Rattle.std.specs.Prelude.{ℕ, zero, suc, ◌≡◌, ◌≤◌, Bool, true, [], ◌∷◌, length}
use Rattle.clf_syntax.specs.declared.tree.Mode.{Mode}
use Rattle.clf_syntax.specs.Tree.{PlainObject, PlainNeutral, PlainExpression, PlainTuple}
use Rattle.clf_syntax.specs.TypeTree.{PlainType, PlainTelescope}
use Rattle.clf_syntax.specs.Renaming.{Renumbering, lifted, ren, ren_neutral, ren_expression, ren_tuple, ren_type, ren_telescope, up, raise, crossed}
use Rattle.use_contexts.specs.Context.{Context}
use Rattle.use_contexts.specs.Holding.{Holding, is_persistent}
use Rattle.clf_sig.specs.Entry.{PlainSignature}
use Rattle.clf_rules.specs.Typing.{HasType, Synthesizes, ExpressionHasType, TupleHasType}
use Rattle.clf_rules.specs.WellFormed.{WellFormedSignature}

-- a holding with a new mark after the k newest ones
abbrev pub with_mark : ℕ → Bool → Holding → Holding
with_mark zero b h = b ∷ h
with_mark (suc k) b (x ∷ h) = x ∷ with_mark k b h
with_mark (suc k) b [] = []

-- a context with a new entry after the k newest ones, in whose types the variables after it rise by one
abbrev pub with_entry : ℕ → Mode × PlainType → Context → Context
with_entry zero e g = e ∷ g
with_entry (suc k) e (d ∷ g) = (d.0, ren_type (raise 1 k) d.1) ∷ with_entry k e g
with_entry (suc k) e [] = []

-- the entry, over one more variable
abbrev pub past_one : Mode × PlainType → Mode × PlainType
past_one e = (e.0, ren_type (up 1) e.1)

-- a holding in which the marks after the k newest ones have changed places
abbrev pub with_exchange : ℕ → Holding → Holding
with_exchange zero (x ∷ y ∷ h) = y ∷ x ∷ h
with_exchange zero (x ∷ []) = x ∷ []
with_exchange zero [] = []
with_exchange (suc k) (x ∷ h) = x ∷ with_exchange k h
with_exchange (suc k) [] = []

-- What is typed over g with the holding h is, renumbered by r, typed over k with the holding l, at the renumbered type.
pub record AreCarried (sig : PlainSignature) (r : Renumbering) (g k : Context) (h l : Holding) : Type 0 where
  pub objects : (n : PlainObject) (a : PlainType) → HasType sig g h n a → HasType sig k l (ren r n) (ren_type r a)
  pub neutrals : (n : PlainNeutral) (a : PlainType) → Synthesizes sig g h n a → Synthesizes sig k l (ren_neutral r n) (ren_type r a)
  pub expressions : (e : PlainExpression) (s : PlainTelescope) → ExpressionHasType sig g h e s → ExpressionHasType sig k l (ren_expression r e) (ren_telescope r s)
  pub tuples : (t : PlainTuple) (s : PlainTelescope) → TupleHasType sig g h t s → TupleHasType sig k l (ren_tuple r t) (ren_telescope r s)

-- The other way round: what is typed over k after the renumbering is typed over g. Of a neutral the type is a renumbered one.
pub record AreBroughtBack (sig : PlainSignature) (r : Renumbering) (g k : Context) (h l : Holding) : Type 0 where
  pub objects : (n : PlainObject) (a : PlainType) → HasType sig k l (ren r n) (ren_type r a) → HasType sig g h n a
  pub neutrals : (n : PlainNeutral) (t : PlainType) → Synthesizes sig k l (ren_neutral r n) t → (a : PlainType) × (t ≡ ren_type r a) × Synthesizes sig g h n a
  pub expressions : (e : PlainExpression) (s : PlainTelescope) → ExpressionHasType sig k l (ren_expression r e) (ren_telescope r s) → ExpressionHasType sig g h e s
  pub tuples : (t : PlainTuple) (s : PlainTelescope) → TupleHasType sig k l (ren_tuple r t) (ren_telescope r s) → TupleHasType sig g h t s

-- Weakening: over a well-formed signature, what is typed stays typed where a context has one more entry, anywhere: a persistent one, or a
-- linear or affine one that is not held.
abbrev pub ContextWeakening : Type 0
ContextWeakening = (sig : PlainSignature) (g : Context) (h : Holding) (k : ℕ) (m : Mode) (b : PlainType) → WellFormedSignature sig → length h ≡ length g → k ≤ length g
    → AreCarried sig (raise 1 k) g (with_entry k (m, b) g) h (with_mark k (is_persistent m) h)

-- Strengthening: an entry that nothing mentions may go, whether it is held or not. (A persistent one is held.)
abbrev pub ContextStrengthening : Type 0
ContextStrengthening = (sig : PlainSignature) (g : Context) (h : Holding) (k : ℕ) (m : Mode) (b : PlainType) (held : Bool) → WellFormedSignature sig → k ≤ length g
    → (is_persistent m ≡ true → held ≡ true) → AreBroughtBack sig (raise 1 k) g (with_entry k (m, b) g) h (with_mark k held h)

-- Exchange: two neighbouring entries, of which the newer one does not mention the older one, change places.
abbrev pub ContextExchange : Type 0
ContextExchange = (sig : PlainSignature) (g : Context) (h : Holding) (k : ℕ) (e f : Mode × PlainType) → WellFormedSignature sig → length h ≡ suc (suc (length g)) → k ≤ length g
    → AreCarried sig (lifted k (crossed 1 1)) (with_entry k (past_one e) (with_entry k f g)) (with_entry k (past_one f) (with_entry k e g)) h (with_exchange k h)
