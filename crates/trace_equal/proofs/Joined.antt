-- Joined is an equivalence, and is identity on trees without steps.
use Rattle.std.specs.Prelude.{◌≡◌, Bool, true, false, ◌&&◌, length, refl}
use Rattle.std.proofs.Common.{sym, subst}
use Rattle.clf_syntax.specs.Tree.{PlainObject, PlainNeutral, PlainExpression, PlainTuple}
use Rattle.clf_syntax.specs.Renaming.{ren_neutral, down}
use Rattle.clf_syntax.specs.Occurs.{occurs_neutral}
use Rattle.clf_syntax.proofs.OccursLaws.{past, absent_past}
use Rattle.trace_equal.specs.Exchange.{Exchanged, in_lam, in_left, in_right, in_monadic, in_atomic, ExchangedNeutral, in_function, in_argument, in_fst, in_snd, ExchangedExpression, in_right_side, in_later_steps, in_done, exchange, ExchangedTuple, in_entry, in_later_entry, stop, next, Joined, JoinedNeutral}
use Rattle.trace_equal.specs.Laws.{IndependenceInWords, without_steps, neutral_without_steps, expression_without_steps, tuple_without_steps, JoinedWithoutSteps, JoinedIsEquivalence}
use Rattle.trace_equal.proofs.Closed.{trail, uncrossed, joined_matches}

pub independence_in_words : IndependenceInWords
independence_in_words n w = ((λ h. (ren_neutral (down n) w, past n w h)), (λ v i k. subst (λ x. occurs_neutral i x ≡ false) (sym v.1) (absent_past n v.0 i k)))

mutual
  pub undone : {a b : PlainObject} → Exchanged a b → Exchanged b a
  undone (in_lam x) = in_lam (undone x)
  undone (in_left x) = in_left (undone x)
  undone (in_right x) = in_right (undone x)
  undone (in_monadic x) = in_monadic (undone_expression x)
  undone (in_atomic x) = in_atomic (undone_neutral x)

  pub undone_neutral : {a b : PlainNeutral} → ExchangedNeutral a b → ExchangedNeutral b a
  undone_neutral (in_function x) = in_function (undone_neutral x)
  undone_neutral (in_argument x) = in_argument (undone x)
  undone_neutral (in_fst x) = in_fst (undone_neutral x)
  undone_neutral (in_snd x) = in_snd (undone_neutral x)

  pub undone_expression : {a b : PlainExpression} → ExchangedExpression a b → ExchangedExpression b a
  undone_expression (in_right_side x) = in_right_side (undone_neutral x)
  undone_expression (in_later_steps x) = in_later_steps (undone_expression x)
  undone_expression (in_done x) = in_done (undone_tuple x)
  undone_expression (exchange {p = p} {q = q} h k l) = exchange k h (uncrossed (length p) (length q) l)

  pub undone_tuple : {a b : PlainTuple} → ExchangedTuple a b → ExchangedTuple b a
  undone_tuple (in_entry x) = in_entry (undone x)
  undone_tuple (in_later_entry x) = in_later_entry (undone_tuple x)

backward : {a b c : PlainObject} → Joined a b → Joined a c → Joined b c
backward stop q = q
backward (next x p) q = backward p (next (undone x) q)

pub joined_is_equivalence : JoinedIsEquivalence
joined_is_equivalence = ((λ o. stop), (λ o u p. backward p stop), (λ o u v p q. trail p q))

first_of_both : (a b : Bool) → a && b ≡ true → a ≡ true
first_of_both true b e = refl
first_of_both false b e = e

second_of_both : (a b : Bool) → a && b ≡ true → b ≡ true
second_of_both true b e = e
second_of_both false b e = cc

no_steps : false ≡ true → ⊥
no_steps e = cc

mutual
  pub stays : {a b : PlainObject} → without_steps a ≡ true → Exchanged a b → ⊥
  stays e (in_lam x) = stays e x
  stays e (in_left {l = l} {r = r} x) = stays (first_of_both (without_steps l) (without_steps r) e) x
  stays e (in_right {l = l} {r = r} x) = stays (second_of_both (without_steps l) (without_steps r) e) x
  stays e (in_monadic x) = stays_expression e x
  stays e (in_atomic x) = stays_neutral e x

  pub stays_neutral : {a b : PlainNeutral} → neutral_without_steps a ≡ true → ExchangedNeutral a b → ⊥
  stays_neutral e (in_function {r = r} {o = o} x) = stays_neutral (first_of_both (neutral_without_steps r) (without_steps o) e) x
  stays_neutral e (in_argument {r = r} {o = o} x) = stays (second_of_both (neutral_without_steps r) (without_steps o) e) x
  stays_neutral e (in_fst x) = stays_neutral e x
  stays_neutral e (in_snd x) = stays_neutral e x

  pub stays_expression : {a b : PlainExpression} → expression_without_steps a ≡ true → ExchangedExpression a b → ⊥
  stays_expression e (in_right_side x) = no_steps e
  stays_expression e (in_later_steps x) = no_steps e
  stays_expression e (in_done x) = stays_tuple e x
  stays_expression e (exchange h k l) = no_steps e

  pub stays_tuple : {a b : PlainTuple} → tuple_without_steps a ≡ true → ExchangedTuple a b → ⊥
  stays_tuple e (in_entry {o = o} {t = t} x) = stays (first_of_both (without_steps o) (tuple_without_steps t) e) x
  stays_tuple e (in_later_entry {o = o} {t = t} x) = stays_tuple (second_of_both (without_steps o) (tuple_without_steps t) e) x

only_itself : {a b : PlainObject} → without_steps a ≡ true → Joined a b → a ≡ b
only_itself e stop = refl
only_itself e (next x p) = absurd (stays e x)

only_itself_neutral : {a b : PlainNeutral} → neutral_without_steps a ≡ true → JoinedNeutral a b → a ≡ b
only_itself_neutral e stop = refl
only_itself_neutral e (next x p) = absurd (stays_neutral e x)

pub joined_without_steps : JoinedWithoutSteps
joined_without_steps = ((λ o u e. (only_itself e, (λ h. subst (λ (x : PlainObject). Joined o x) h stop))), (λ n r e. (only_itself_neutral e, (λ h. subst (λ (x : PlainNeutral). JoinedNeutral n x) h stop))))

pub ruleset exchange_laws = (joined_matches, independence_in_words, joined_is_equivalence, joined_without_steps)
