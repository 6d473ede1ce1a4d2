-- Where a substitution writes a number that passes 4,294,967,295: the rules of substitution, gone through up to the place where that number stands.
use Rattle.std.specs.Prelude.{ℕ, ◌+◌, ◌≡◌, false, List, ◌∷◌, length}
use Rattle.clf_syntax.specs.declared.tree.Mode.{Mode}
use Rattle.clf_syntax.specs.declared.tree.Head.{Head}
use Rattle.clf_syntax.specs.Tree.{PlainObject, lam, pair, monadic, atomic, PlainNeutral, head_alone, app, fst, snd, PlainExpression, step, done, PlainTuple, entry}
use Rattle.clf_syntax.specs.TypeTree.{PlainType, family, function, both, monad, PlainTelescope, binding, PlainKind}
use Rattle.clf_syntax.specs.Written.{fits, fits_head}
use Rattle.hered_subst.specs.Substitution.{keep, put, Environment, under, single, objects, Substituted, HasValue, SubstitutedExpression}
use Rattle.hered_put.specs.Tupled.{tupled}

mutual
  pub data Passes : Environment → PlainObject → Type 0 where
    passes_body : {s : Environment} {m : Mode} {b : PlainObject} → Passes (under 1 s) b → Passes s (lam m b)
    passes_left : {s : Environment} {l r : PlainObject} → Passes s l → Passes s (pair l r)
    passes_right : {s : Environment} {l r : PlainObject} → Passes s r → Passes s (pair l r)
    passes_monadic : {s : Environment} {e : PlainExpression} → PassesExpression s e → Passes s (monadic e)
    passes_atomic : {s : Environment} {r : PlainNeutral} → PassesNeutral s r → Passes s (atomic r)

  pub data PassesNeutral : Environment → PlainNeutral → Type 0 where
    -- What is kept or put for the head cannot be written.
    passes_kept : {s : Environment} {h j : Head} → s h ≡ keep j → fits_head j ≡ false → PassesNeutral s (head_alone h)
    passes_put : {s : Environment} {h : Head} {n : PlainObject} → s h ≡ put n → fits n ≡ false → PassesNeutral s (head_alone h)
    passes_function : {s : Environment} {m : Mode} {r : PlainNeutral} {o : PlainObject} → PassesNeutral s r → PassesNeutral s (app m r o)
    passes_argument : {s : Environment} {m : Mode} {r : PlainNeutral} {o : PlainObject} → Passes s o → PassesNeutral s (app m r o)
    -- The argument is put into the body of the value.
    passes_value : {s : Environment} {m : Mode} {r : PlainNeutral} {o b y : PlainObject} → HasValue s r (lam m b) → Substituted s o y → Passes (single y 0) b → PassesNeutral s (app m r o)
    passes_fst : {s : Environment} {r : PlainNeutral} → PassesNeutral s r → PassesNeutral s (fst r)
    passes_snd : {s : Environment} {r : PlainNeutral} → PassesNeutral s r → PassesNeutral s (snd r)

  pub data PassesExpression : Environment → PlainExpression → Type 0 where
    passes_step : {s : Environment} {ms : List Mode} {r : PlainNeutral} {e : PlainExpression} → PassesNeutral s r → PassesExpression s (step ms r e)
    passes_rest : {s : Environment} {ms : List Mode} {r : PlainNeutral} {e : PlainExpression} → PassesExpression (under (length ms) s) e → PassesExpression s (step ms r e)
    -- The right side has a monadic value, whose tuple is put for the variables of the step.
    passes_flattened : {s : Environment} {ms : List Mode} {r : PlainNeutral} {e f g : PlainExpression} → HasValue s r (monadic g) → SubstitutedExpression (under (length ms) s) e f → PassesFlattened 0 g f → PassesExpression s (step ms r e)
    passes_tuple : {s : Environment} {t : PlainTuple} → PassesTuple s t → PassesExpression s (done t)

  -- PassesFlattened p g f: after p binders the steps of g come, and then f with the tuple of g put for its newest variables.
  pub data PassesFlattened : ℕ → PlainExpression → PlainExpression → Type 0 where
    passes_behind : {p : ℕ} {ms : List Mode} {r : PlainNeutral} {g f : PlainExpression} → PassesFlattened (p + length ms) g f → PassesFlattened p (step ms r g) f
    passes_there : {p : ℕ} {t : PlainTuple} {f : PlainExpression} → PassesExpression (tupled (objects t) p) f → PassesFlattened p (done t) f

  pub data PassesTuple : Environment → PlainTuple → Type 0 where
    passes_entry : {s : Environment} {m : Mode} {o : PlainObject} {t : PlainTuple} → Passes s o → PassesTuple s (entry m o t)
    passes_later : {s : Environment} {m : Mode} {o : PlainObject} {t : PlainTuple} → PassesTuple s t → PassesTuple s (entry m o t)

pub data PassesEach : Environment → List PlainObject → Type 0 where
  passes_one : {s : Environment} {o : PlainObject} {os : List PlainObject} → Passes s o → PassesEach s (o ∷ os)
  passes_others : {s : Environment} {o : PlainObject} {os : List PlainObject} → PassesEach s os → PassesEach s (o ∷ os)

mutual
  pub data PassesType : Environment → PlainType → Type 0 where
    passes_indices : {s : Environment} {f : ℕ} {ns : List PlainObject} → PassesEach s ns → PassesType s (family f ns)
    passes_domain : {s : Environment} {m : Mode} {a b : PlainType} → PassesType s a → PassesType s (function m a b)
    passes_codomain : {s : Environment} {m : Mode} {a b : PlainType} → PassesType (under 1 s) b → PassesType s (function m a b)
    passes_left_type : {s : Environment} {a b : PlainType} → PassesType s a → PassesType s (both a b)
    passes_right_type : {s : Environment} {a b : PlainType} → PassesType s b → PassesType s (both a b)
    passes_monad : {s : Environment} {t : PlainTelescope} → PassesTelescope s t → PassesType s (monad t)

  pub data PassesTelescope : Environment → PlainTelescope → Type 0 where
    passes_binding : {s : Environment} {m : Mode} {a : PlainType} {t : PlainTelescope} → PassesType s a → PassesTelescope s (binding m a t)
    passes_later_binding : {s : Environment} {m : Mode} {a : PlainType} {t : PlainTelescope} → PassesTelescope (under 1 s) t → PassesTelescope s (binding m a t)

pub data PassesKind : Environment → PlainKind → Type 0 where
  passes_first_argument : {s : Environment} {a : PlainType} {k : PlainKind} → PassesType s a → PassesKind s (a ∷ k)
  passes_later_argument : {s : Environment} {a : PlainType} {k : PlainKind} → PassesKind (under 1 s) k → PassesKind s (a ∷ k)
