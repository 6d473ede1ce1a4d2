-- Renaming and exchange keep the size.
use Rattle.std.specs.Prelude.{ℕ, suc, ◌+◌, ◌≡◌, length, refl}
use Rattle.std.proofs.Common.{ap, sym, ◌∙◌, arith}
use Rattle.clf_syntax.specs.Tree.{PlainObject, lam, pair, unit, monadic, atomic, hole, PlainNeutral, head_alone, app, fst, snd, PlainExpression, step, done, PlainTuple, empty, entry}
use Rattle.clf_syntax.specs.Renaming.{Renumbering, lifted, ren, ren_neutral, ren_expression, ren_tuple, up, crossed}
use Rattle.trace_equal.specs.Exchange.{Exchanged, in_lam, in_left, in_right, in_monadic, in_atomic, ExchangedNeutral, in_function, in_argument, in_fst, in_snd, ExchangedExpression, in_right_side, in_later_steps, in_done, exchange, ExchangedTuple, in_entry, in_later_entry, stop, next, Joined}
use Rattle.unify_laws.specs.Rigid.{size, size_neutral, size_expression, size_tuple}

sums : {a b c d : ℕ} → a ≡ b → c ≡ d → suc (a + c) ≡ suc (b + d)
sums e f = omega arith

next_to : {a b : ℕ} → a ≡ b → suc a ≡ suc b
next_to e = ap suc e

mutual
  pub size_ren : (r : Renumbering) (o : PlainObject) → size (ren r o) ≡ size o
  size_ren r (lam m b) = next_to (size_ren (lifted 1 r) b)
  size_ren r (pair x y) = sums (size_ren r x) (size_ren r y)
  size_ren r unit = refl
  size_ren r (monadic e) = next_to (size_ren_expression r e)
  size_ren r (atomic n) = next_to (size_ren_neutral r n)
  size_ren r hole = refl

  pub size_ren_neutral : (r : Renumbering) (n : PlainNeutral) → size_neutral (ren_neutral r n) ≡ size_neutral n
  size_ren_neutral r (head_alone h) = refl
  size_ren_neutral r (app m x n) = sums (size_ren_neutral r x) (size_ren r n)
  size_ren_neutral r (fst x) = next_to (size_ren_neutral r x)
  size_ren_neutral r (snd x) = next_to (size_ren_neutral r x)

  pub size_ren_expression : (r : Renumbering) (e : PlainExpression) → size_expression (ren_expression r e) ≡ size_expression e
  size_ren_expression r (step ms x e) = sums (size_ren_neutral r x) (size_ren_expression (lifted (length ms) r) e)
  size_ren_expression r (done t) = next_to (size_ren_tuple r t)

  pub size_ren_tuple : (r : Renumbering) (t : PlainTuple) → size_tuple (ren_tuple r t) ≡ size_tuple t
  size_ren_tuple r empty = refl
  size_ren_tuple r (entry m n t) = sums (size_ren r n) (size_ren_tuple r t)

turned : {a b c d e f : ℕ} → a ≡ b → c ≡ d → e ≡ f → suc (c + suc (a + e)) ≡ suc (b + suc (d + f))
turned p q r = omega arith

mutual
  pub size_exchanged : {a b : PlainObject} → Exchanged a b → size a ≡ size b
  size_exchanged (in_lam x) = next_to (size_exchanged x)
  size_exchanged (in_left x) = sums (size_exchanged x) refl
  size_exchanged (in_right x) = sums refl (size_exchanged x)
  size_exchanged (in_monadic x) = next_to (size_exchanged_expression x)
  size_exchanged (in_atomic x) = next_to (size_exchanged_neutral x)

  size_exchanged_neutral : {a b : PlainNeutral} → ExchangedNeutral a b → size_neutral a ≡ size_neutral b
  size_exchanged_neutral (in_function x) = sums (size_exchanged_neutral x) refl
  size_exchanged_neutral (in_argument x) = sums refl (size_exchanged x)
  size_exchanged_neutral (in_fst x) = next_to (size_exchanged_neutral x)
  size_exchanged_neutral (in_snd x) = next_to (size_exchanged_neutral x)

  size_exchanged_expression : {a b : PlainExpression} → ExchangedExpression a b → size_expression a ≡ size_expression b
  size_exchanged_expression (in_right_side x) = sums (size_exchanged_neutral x) refl
  size_exchanged_expression (in_later_steps x) = sums refl (size_exchanged_expression x)
  size_exchanged_expression (in_done x) = next_to (size_exchanged_tuple x)
  size_exchanged_expression (exchange {p = p} {q = q} {r = r} {v = v} {e = e} i j k) = turned
      (ap size_neutral i ∙ size_ren_neutral (up (length p)) v)
      (sym (ap size_neutral j ∙ size_ren_neutral (up (length q)) r))
      (sym (ap size_expression k ∙ size_ren_expression (crossed (length p) (length q)) e))

  size_exchanged_tuple : {t u : PlainTuple} → ExchangedTuple t u → size_tuple t ≡ size_tuple u
  size_exchanged_tuple (in_entry x) = sums (size_exchanged x) refl
  size_exchanged_tuple (in_later_entry x) = sums refl (size_exchanged_tuple x)

pub size_joined : {a b : PlainObject} → Joined a b → size a ≡ size b
size_joined stop = refl
size_joined (next x c) = size_exchanged x ∙ size_joined c
