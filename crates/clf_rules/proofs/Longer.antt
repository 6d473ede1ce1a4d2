-- Judgments over a signature hold over every longer one.
use Rattle.std.specs.Prelude.{ℕ, zero, suc, ◌≡◌, true, List, [], ◌∷◌, ◌++◌, length, Some, None}
use Rattle.clf_syntax.specs.declared.tree.Mode.TheVariants.{Persistent}
use Rattle.clf_syntax.specs.declared.tree.Head.{Head}
use Rattle.clf_syntax.specs.declared.tree.Head.TheVariants.{Const, Var, Meta}
use Rattle.clf_syntax.specs.Tree.{PlainObject, lam, pair, unit, monadic, atomic, hole, PlainNeutral, head_alone, app, fst, snd, PlainExpression, step, done, PlainTuple, empty, entry}
use Rattle.clf_syntax.specs.TypeTree.{PlainType, family, function, both, top, monad, PlainTelescope, end, binding, PlainKind}
use Rattle.clf_syntax.specs.Renaming.{ren_telescope, up}
use Rattle.use_contexts.specs.Context.{Context, modes, with_entries}
use Rattle.use_contexts.specs.Holding.{Holding, all_held, persistent_alone}
use Rattle.clf_sig.specs.Entry.{PlainSignature, family_kind, constant_type}
use Rattle.clf_rules.specs.Typing.{HeadHasType, HasType, Synthesizes, ExpressionHasType, TupleHasType}
use Rattle.clf_rules.specs.WellFormed.{IndicesHaveTypes, WellFormedType, WellFormedTelescope, WellFormedKind}
use Rattle.clf_rules.specs.Laws.{LongerSignatures}

-- t has what s has
abbrev pub Kept : PlainSignature → PlainSignature → Type 0
Kept s t = ((c : ℕ) (a : PlainType) → constant_type s c ≡ Some a → constant_type t c ≡ Some a)
    × ((f : ℕ) (k : PlainKind) → family_kind s f ≡ Some k → family_kind t f ≡ Some k)

nothing : {X : Type 0} {x : X} → None ≡ Some x → ⊥
nothing e = cc

longer_constant : (s more : PlainSignature) (c : ℕ) (a : PlainType) → constant_type s c ≡ Some a → constant_type (s ++ more) c ≡ Some a
longer_constant [] more c a e = absurd (nothing e)
longer_constant (d ∷ s) more zero a e = e
longer_constant (d ∷ s) more (suc c) a e = longer_constant s more c a e

longer_family : (s more : PlainSignature) (f : ℕ) (k : PlainKind) → family_kind s f ≡ Some k → family_kind (s ++ more) f ≡ Some k
longer_family [] more f k e = absurd (nothing e)
longer_family (d ∷ s) more zero k e = e
longer_family (d ∷ s) more (suc f) k e = longer_family s more f k e

pub longer : (s more : PlainSignature) → Kept s (s ++ more)
longer s more = (longer_constant s more, longer_family s more)

kept_head : (s t : PlainSignature) → Kept s t → (g : Context) (h : Holding) (x : Head) (a : PlainType) → HeadHasType s g h x a → HeadHasType t g h x a
kept_head s t e g h (Const c) a p = (e.0 c a p.0, p.1)
kept_head s t e g h (Var i) a p = p
kept_head s t e g h (Meta k) a p = p

mutual
  pub kept_object : (s t : PlainSignature) → Kept s t → (n : PlainObject) (g : Context) (h : Holding) (a : PlainType) → HasType s g h n a → HasType t g h n a
  kept_object s t e (lam m b) g h a p = record { domain = p.domain; range = p.range; type = p.type; body = kept_object s t e b ((m, p.domain) ∷ g) (true ∷ h) p.range p.body }
  kept_object s t e (pair l r) g h a p = record {
    left_type = p.left_type;
    right_type = p.right_type;
    type = p.type;
    left = kept_object s t e l g h p.left_type p.left;
    right = kept_object s t e r g h p.right_type p.right;
  }
  kept_object s t e unit g h a p = p
  kept_object s t e (monadic x) g h a p = let (u, q, v) = p in (u, q, kept_expression s t e x g h u v)
  kept_object s t e (atomic n) g h a p = record {
    number = p.number;
    wanted = p.wanted;
    found = p.found;
    type = p.type;
    neutral = kept_neutral s t e n g h (family p.number p.found) p.neutral;
    indices = p.indices;
  }
  kept_object s t e hole g h a p = p

  pub kept_neutral : (s t : PlainSignature) → Kept s t → (n : PlainNeutral) (g : Context) (h : Holding) (a : PlainType) → Synthesizes s g h n a → Synthesizes t g h n a
  kept_neutral s t e (head_alone x) g h a p = kept_head s t e g h x a p
  kept_neutral s t e (app m r n) g h a p = record {
    domain = p.domain;
    range = p.range;
    for_function = p.for_function;
    for_argument = p.for_argument;
    split = p.split;
    applied = kept_neutral s t e r g p.for_function (function m p.domain p.range) p.applied;
    usable = p.usable;
    argument = kept_object s t e n g p.for_argument p.domain p.argument;
    type = p.type;
  }
  kept_neutral s t e (fst r) g h a p = let (c, u) = p in (c, kept_neutral s t e r g h (both a c) u)
  kept_neutral s t e (snd r) g h a p = let (c, u) = p in (c, kept_neutral s t e r g h (both c a) u)

  pub kept_expression : (s t : PlainSignature) → Kept s t → (x : PlainExpression) (g : Context) (h : Holding) (u : PlainTelescope) → ExpressionHasType s g h x u → ExpressionHasType t g h x u
  kept_expression s t e (step ms r x) g h u p = record {
    entries = p.entries;
    for_right = p.for_right;
    for_rest = p.for_rest;
    split = p.split;
    right = kept_neutral s t e r g p.for_right (monad p.entries) p.right;
    pattern = p.pattern;
    rest = kept_expression s t e x (with_entries p.entries g) (all_held ms p.for_rest) (ren_telescope (up (length ms)) u) p.rest;
  }
  kept_expression s t e (done x) g h u p = kept_tuple s t e x g h u p

  pub kept_tuple : (s t : PlainSignature) → Kept s t → (x : PlainTuple) (g : Context) (h : Holding) (u : PlainTelescope) → TupleHasType s g h x u → TupleHasType t g h x u
  kept_tuple s t e empty g h u p = p
  kept_tuple s t e (entry m n x) g h u p = record {
    first_type = p.first_type;
    later_types = p.later_types;
    after_put = p.after_put;
    for_first = p.for_first;
    for_later = p.for_later;
    type = p.type;
    split = p.split;
    usable = p.usable;
    first = kept_object s t e n g p.for_first p.first_type p.first;
    put = p.put;
    later = kept_tuple s t e x g p.for_later p.after_put p.later;
  }

kept_indices : (s t : PlainSignature) → Kept s t → (g : Context) (ns : List PlainObject) (k : PlainKind) → IndicesHaveTypes s g ns k → IndicesHaveTypes t g ns k
kept_indices s t e g [] [] p = p
kept_indices s t e g (n ∷ ns) (a ∷ k) p = record {
  after_put = p.after_put;
  index = kept_object s t e n g (persistent_alone (modes g)) a p.index;
  put = p.put;
  later = kept_indices s t e g ns p.after_put p.later;
}
kept_indices s t e g [] (a ∷ k) p = p
kept_indices s t e g (n ∷ ns) [] p = p

mutual
  pub kept_type : (s t : PlainSignature) → Kept s t → (a : PlainType) (g : Context) → WellFormedType s g a → WellFormedType t g a
  kept_type s t e (family f ns) g p = let (k, q, u) = p in (k, e.1 f k q, kept_indices s t e g ns k u)
  kept_type s t e (function m a b) g p = (kept_type s t e a g p.0, kept_type s t e b ((m, a) ∷ g) p.1)
  kept_type s t e (both a b) g p = (kept_type s t e a g p.0, kept_type s t e b g p.1)
  kept_type s t e top g p = p
  kept_type s t e (monad u) g p = kept_telescope s t e u g p

  pub kept_telescope : (s t : PlainSignature) → Kept s t → (u : PlainTelescope) (g : Context) → WellFormedTelescope s g u → WellFormedTelescope t g u
  kept_telescope s t e end g p = p
  kept_telescope s t e (binding m a u) g p = (kept_type s t e a g p.0, kept_telescope s t e u ((m, a) ∷ g) p.1)

pub kept_kind : (s t : PlainSignature) → Kept s t → (k : PlainKind) (g : Context) → WellFormedKind s g k → WellFormedKind t g k
kept_kind s t e [] g p = p
kept_kind s t e (a ∷ k) g p = (kept_type s t e a g p.0, kept_kind s t e k ((Persistent, a) ∷ g) p.1)

pub longer_signatures : LongerSignatures
longer_signatures s more g = (
  (λ h n a p. kept_object s (s ++ more) (longer s more) n g h a p),
  (λ h r a p. kept_neutral s (s ++ more) (longer s more) r g h a p),
  (λ h x u p. kept_expression s (s ++ more) (longer s more) x g h u p),
  (λ a p. kept_type s (s ++ more) (longer s more) a g p),
  (λ u p. kept_telescope s (s ++ more) (longer s more) u g p),
  (λ k p. kept_kind s (s ++ more) (longer s more) k g p),
)
