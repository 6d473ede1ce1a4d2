-- Exchanges under renaming.
use Rattle.std.specs.Prelude.{ℕ, ◌≡◌, List, length}
use Rattle.std.proofs.Common.{ap, sym, subst, ◌∙◌}
use Rattle.clf_syntax.specs.declared.tree.Mode.{Mode}
use Rattle.clf_syntax.specs.Tree.{PlainObject, lam, pair, monadic, atomic, PlainNeutral, app, fst, snd, PlainExpression, step, done, PlainTuple, entry}
use Rattle.clf_syntax.specs.Renaming.{Renumbering, lifted, ren, ren_neutral, ren_expression, ren_tuple, up, down, crossed}
use Rattle.clf_syntax.proofs.RenamingLaws.{pairs, apps, binds, entries, square_neutral, square_expression, undone_neutral, lift_up, lift_cross, down_up, composed_neutral}
use Rattle.trace_equal.specs.Exchange.{Exchanged, in_lam, in_left, in_right, in_monadic, in_atomic, ExchangedNeutral, in_function, in_argument, in_fst, in_snd, ExchangedExpression, in_right_side, in_later_steps, in_done, exchange, ExchangedTuple, in_entry, in_later_entry}

mutual
  pub renamed : (r : Renumbering) {a b : PlainObject} → Exchanged a b → Exchanged (ren r a) (ren r b)
  renamed r (in_lam x) = in_lam (renamed (lifted 1 r) x)
  renamed r (in_left x) = in_left (renamed r x)
  renamed r (in_right x) = in_right (renamed r x)
  renamed r (in_monadic x) = in_monadic (renamed_expression r x)
  renamed r (in_atomic x) = in_atomic (renamed_neutral r x)

  pub renamed_neutral : (r : Renumbering) {a b : PlainNeutral} → ExchangedNeutral a b → ExchangedNeutral (ren_neutral r a) (ren_neutral r b)
  renamed_neutral r (in_function x) = in_function (renamed_neutral r x)
  renamed_neutral r (in_argument x) = in_argument (renamed r x)
  renamed_neutral r (in_fst x) = in_fst (renamed_neutral r x)
  renamed_neutral r (in_snd x) = in_snd (renamed_neutral r x)

  pub renamed_expression : (r : Renumbering) {a b : PlainExpression} → ExchangedExpression a b → ExchangedExpression (ren_expression r a) (ren_expression r b)
  renamed_expression r (in_right_side x) = in_right_side (renamed_neutral r x)
  renamed_expression r (in_later_steps {p = p} x) = in_later_steps (renamed_expression (lifted (length p) r) x)
  renamed_expression r (in_done x) = in_done (renamed_tuple r x)
  renamed_expression r (exchange {p = p} {q = q} {r = n} {v = v} {e = e} g h k) = exchange
      (ap (ren_neutral (lifted (length p) r)) g ∙ square_neutral (lifted (length p) r) (up (length p)) (up (length p)) r (lift_up (length p) r) v)
      (ap (ren_neutral (lifted (length q) r)) h ∙ square_neutral (lifted (length q) r) (up (length q)) (up (length q)) r (lift_up (length q) r) n)
      (ap (ren_expression (lifted (length p) (lifted (length q) r))) k ∙ square_expression (lifted (length p) (lifted (length q) r)) (crossed (length p) (length q)) (crossed (length p) (length q)) (lifted (length q) (lifted (length p) r)) (lift_cross (length p) (length q) r) e)

  pub renamed_tuple : (r : Renumbering) {a b : PlainTuple} → ExchangedTuple a b → ExchangedTuple (ren_tuple r a) (ren_tuple r b)
  renamed_tuple r (in_entry x) = in_entry (renamed r x)
  renamed_tuple r (in_later_entry x) = in_later_entry (renamed_tuple r x)

body : {m : Mode} {b c : PlainObject} → lam m b ≡ lam m c → b ≡ c
body e = cc

left : {a b c d : PlainObject} → pair a b ≡ pair c d → a ≡ c
left e = cc

right : {a b c d : PlainObject} → pair a b ≡ pair c d → b ≡ d
right e = cc

of_mon : {e f : PlainExpression} → monadic e ≡ monadic f → e ≡ f
of_mon h = cc

of_at : {n o : PlainNeutral} → atomic n ≡ atomic o → n ≡ o
of_at h = cc

fun_of : {m : Mode} {a b : PlainNeutral} {c d : PlainObject} → app m a c ≡ app m b d → a ≡ b
fun_of h = cc

arg_of : {m : Mode} {a b : PlainNeutral} {c d : PlainObject} → app m a c ≡ app m b d → c ≡ d
arg_of h = cc

of_fst : {n o : PlainNeutral} → fst n ≡ fst o → n ≡ o
of_fst h = cc

of_snd : {n o : PlainNeutral} → snd n ≡ snd o → n ≡ o
of_snd h = cc

pub rhs_of : {p : List Mode} {a b : PlainNeutral} {c d : PlainExpression} → step p a c ≡ step p b d → a ≡ b
rhs_of h = cc

pub rest_of : {p : List Mode} {a b : PlainNeutral} {c d : PlainExpression} → step p a c ≡ step p b d → c ≡ d
rest_of h = cc

of_ret : {t u : PlainTuple} → done t ≡ done u → t ≡ u
of_ret h = cc

obj_of : {m : Mode} {a b : PlainObject} {c d : PlainTuple} → entry m a c ≡ entry m b d → a ≡ b
obj_of h = cc

more_of : {m : Mode} {a b : PlainObject} {c d : PlainTuple} → entry m a c ≡ entry m b d → c ≡ d
more_of h = cc

-- what is past n new variables is known by what it was before
pub up_once : (n : ℕ) {a b : PlainNeutral} → ren_neutral (up n) a ≡ ren_neutral (up n) b → a ≡ b
up_once n {a} {b} e = sym (undone_neutral (down n) (up n) (down_up n) a) ∙ ap (ren_neutral (down n)) e ∙ undone_neutral (down n) (up n) (down_up n) b

-- a renaming that leaves a tree as it is leaves it so after an exchange
mutual
  pub kept : (r : Renumbering) {a b : PlainObject} → Exchanged a b → ren r a ≡ a → ren r b ≡ b
  kept r (in_lam {m = m} x) e = ap (lam m) (kept (lifted 1 r) x (body e))
  kept r (in_left x) e = pairs (kept r x (left e)) (right e)
  kept r (in_right x) e = pairs (left e) (kept r x (right e))
  kept r (in_monadic x) e = ap monadic (kept_expression r x (of_mon e))
  kept r (in_atomic x) e = ap atomic (kept_neutral r x (of_at e))

  pub kept_neutral : (r : Renumbering) {a b : PlainNeutral} → ExchangedNeutral a b → ren_neutral r a ≡ a → ren_neutral r b ≡ b
  kept_neutral r (in_function {m = m} x) e = apps m (kept_neutral r x (fun_of e)) (arg_of e)
  kept_neutral r (in_argument {m = m} x) e = apps m (fun_of e) (kept r x (arg_of e))
  kept_neutral r (in_fst x) e = ap fst (kept_neutral r x (of_fst e))
  kept_neutral r (in_snd x) e = ap snd (kept_neutral r x (of_snd e))

  pub kept_expression : (r : Renumbering) {a b : PlainExpression} → ExchangedExpression a b → ren_expression r a ≡ a → ren_expression r b ≡ b
  kept_expression r (in_right_side {p = p} x) e = binds p (kept_neutral r x (rhs_of e)) (rest_of e)
  kept_expression r (in_later_steps {p = p} x) e = binds p (rhs_of e) (kept_expression (lifted (length p) r) x (rest_of e))
  kept_expression r (in_done x) e = ap done (kept_tuple r x (of_ret e))
  kept_expression r (exchange {p = p} {q = q} {r = n} {s = s} {v = v} {w = w} {e = g} {f = f} h k l) e = binds q
      (up_once (length p) (sym (square_neutral (lifted (length p) r) (up (length p)) (up (length p)) r (lift_up (length p) r) v) ∙ ap (ren_neutral (lifted (length p) r)) (sym h) ∙ rhs_of (rest_of e) ∙ h))
      (binds p
      (ap (ren_neutral (lifted (length q) r)) k ∙ square_neutral (lifted (length q) r) (up (length q)) (up (length q)) r (lift_up (length q) r) n ∙ ap (ren_neutral (up (length q))) (rhs_of e) ∙ sym k)
      (ap (ren_expression (lifted (length p) (lifted (length q) r))) l ∙ square_expression (lifted (length p) (lifted (length q) r)) (crossed (length p) (length q)) (crossed (length p) (length q)) (lifted (length q) (lifted (length p) r)) (lift_cross (length p) (length q) r) g ∙ ap (ren_expression (crossed (length p) (length q))) (rest_of (rest_of e)) ∙ sym l))

  pub kept_tuple : (r : Renumbering) {a b : PlainTuple} → ExchangedTuple a b → ren_tuple r a ≡ a → ren_tuple r b ≡ b
  kept_tuple r (in_entry {m = m} x) e = entries m (kept r x (obj_of e)) (more_of e)
  kept_tuple r (in_later_entry {m = m} x) e = entries m (obj_of e) (kept_tuple r x (more_of e))

-- an exchange in what is past n new variables is one before them
pub reflected : (n : ℕ) {a : PlainNeutral} {c d : PlainNeutral} → c ≡ ren_neutral (up n) a → ExchangedNeutral c d → (b : PlainNeutral) × (d ≡ ren_neutral (up n) b) × ExchangedNeutral a b
reflected n {a} {c} {d} e x = (
  ren_neutral (down n) d,
  sym (kept_neutral (λ i. up n (down n i)) x fixed) ∙ sym (composed_neutral (up n) (down n) d),
  subst (λ (o : PlainNeutral). ExchangedNeutral o (ren_neutral (down n) d)) (ap (ren_neutral (down n)) e ∙ undone_neutral (down n) (up n) (down_up n) a) (renamed_neutral (down n) x),
)
  where
    fixed : ren_neutral (λ i. up n (down n i)) c ≡ c
    fixed = sym (composed_neutral (up n) (down n) c) ∙ ap (λ o. ren_neutral (up n) (ren_neutral (down n) o)) e ∙ ap (ren_neutral (up n)) (undone_neutral (down n) (up n) (down_up n) a) ∙ sym e
