-- An exchange of two steps can lose the type, where the unit of a later step takes what an earlier one binds.
use Rattle.std.specs.Prelude.{◌≡◌, true, false, [], ◌∷◌, refl}
use Rattle.std.proofs.Common.{ap, subst}
use Rattle.clf_syntax.specs.declared.tree.Mode.TheVariants.{Linear}
use Rattle.clf_syntax.specs.declared.tree.Head.TheVariants.{Const, Var}
use Rattle.clf_syntax.specs.Tree.{atomic, head_alone, PlainExpression, step, done, entry, empty}
use Rattle.clf_syntax.specs.TypeTree.{PlainType, family, top, PlainTelescope, end, binding}
use Rattle.clf_syntax.specs.Renaming.{ren_telescope, up}
use Rattle.use_contexts.specs.Context.{telescope_modes, with_entries}
use Rattle.use_contexts.specs.Holding.{Holding, Split, is_weak, without}
use Rattle.hered_subst.specs.Substitution.{in_family, in_monad, in_binding, in_end, each_none}
use Rattle.trace_equal.specs.Exchange.{ExchangedExpression, exchange}
use Rattle.clf_rules.specs.Typing.{Synthesizes, ExpressionHasType, TupleHasType}
use Rattle.typing_laws.specs.LostTypes.{four, in_monad_of, taking, before, after, ExchangeLosesTypes}

changes : ExchangedExpression before after
changes = exchange {v = taking} refl refl refl

abbrev result : PlainTelescope
result = binding Linear (family 1 []) end

takes : Synthesizes four ((Linear, family 0 []) ∷ []) (true ∷ []) taking (in_monad_of 1)
takes = record {
  domain = top;
  range = in_monad_of 1;
  for_function = false ∷ [];
  for_argument = true ∷ [];
  split = ((refl, refl), tt);
  applied = (refl, refl);
  usable = refl;
  argument = refl;
  type = in_monad (in_binding (in_family each_none) in_end);
}

-- the tuple y, over y and the older x, which is no longer held
the_result : TupleHasType four ((Linear, family 1 []) ∷ (Linear, family 0 []) ∷ []) (true ∷ false ∷ []) (entry Linear (atomic (head_alone (Var 0))) empty) result
the_result = record {
  first_type = family 1 [];
  later_types = end;
  after_put = end;
  for_first = true ∷ false ∷ [];
  for_later = false ∷ false ∷ [];
  type = refl;
  split = ((refl, refl), ((refl, refl), tt));
  usable = refl;
  first = record { number = 1; wanted = []; found = []; type = refl; neutral = ((refl, refl), (Linear, family 1 [], refl, refl)); indices = tt };
  put = in_end;
  later = (refl, refl);
}

second_step : ExpressionHasType four ((Linear, family 0 []) ∷ []) (true ∷ []) (step (Linear ∷ []) taking (done (entry Linear (atomic (head_alone (Var 0))) empty))) result
second_step = record { entries = result; for_right = true ∷ []; for_rest = false ∷ []; split = ((refl, refl), tt); right = takes; pattern = refl; rest = the_result }

typed : ExpressionHasType four [] [] before result
typed = record { entries = binding Linear (family 0 []) end; for_right = []; for_rest = []; split = tt; right = (refl, refl); pattern = refl; rest = second_step }

tf : true ≡ false → ⊥
tf e = cc

ft : false ≡ true → ⊥
ft e = cc

-- of two linear entries, both held, a part that uses the older one and leaves it weak leaves the newer one
two : (h k : Holding) → Split (Linear ∷ Linear ∷ []) (true ∷ true ∷ []) h k → is_weak (Linear ∷ Linear ∷ []) (without 1 h) ≡ true → is_weak (Linear ∷ Linear ∷ []) k ≡ true → ⊥
two [] k s w x = s
two (a ∷ h) [] s w x = s
two (a ∷ []) (c ∷ k) s w x = s.1
two (a ∷ b ∷ h) (c ∷ []) s w x = s.1
two (a ∷ b ∷ y ∷ h) (c ∷ d ∷ k) s w x = s.1.1
two (a ∷ b ∷ []) (c ∷ d ∷ z ∷ k) s w x = s.1.1
two (true ∷ b ∷ []) (c ∷ d ∷ []) s w x = ft w
two (false ∷ b ∷ []) (true ∷ d ∷ []) s w x = ft x
two (false ∷ b ∷ []) (false ∷ d ∷ []) s w x = tf s.0.0

-- the constant that comes second holds nothing of the one entry, so the rest holds it
rest_holds : (h k : Holding) → Split (Linear ∷ []) (true ∷ []) h k → is_weak (Linear ∷ []) h ≡ true → k ≡ true ∷ []
rest_holds [] k s w = absurd s
rest_holds (a ∷ h) [] s w = absurd s
rest_holds (true ∷ h) (c ∷ k) s w = absurd (ft w)
rest_holds (false ∷ []) (true ∷ []) s w = refl
rest_holds (false ∷ []) (false ∷ []) s w = absurd (tf s.0.0)
rest_holds (false ∷ []) (c ∷ z ∷ k) s w = absurd s.1
rest_holds (false ∷ y ∷ h) (c ∷ k) s w = absurd s.1

-- the tuple y, over two linear entries that are held, the older of which is y
tuple_fails : (a b : PlainType) (h : Holding) (s : PlainTelescope) → h ≡ true ∷ true ∷ [] → TupleHasType four ((Linear, a) ∷ (Linear, b) ∷ []) h (entry Linear (atomic (head_alone (Var 1))) empty) s → ⊥
tuple_fails a b h s e p = two p.for_first p.for_later (subst (λ l. Split (Linear ∷ Linear ∷ []) l p.for_first p.for_later) e p.split) p.first.neutral.0.1 p.later.1

one_entry : (u : PlainTelescope) → telescope_modes u ≡ Linear ∷ [] → (b : PlainType) × (u ≡ binding Linear b end)
one_entry end w = absurd (cc)
one_entry (binding m b end) w = (b, ap (λ k. binding k b end) (mode w))
  where
    mode : m ∷ [] ≡ Linear ∷ [] → m ≡ Linear
    mode w = cc
one_entry (binding m b (binding n c s)) w = absurd (cc)

none_left : (h1 h2 : Holding) → Split [] [] h1 h2 → h2 ≡ []
none_left [] [] s = refl
none_left _ _ s = absurd s

abbrev the_rest : PlainExpression
the_rest = done (entry Linear (atomic (head_alone (Var 1))) empty)

second_fails : (a : PlainType) (h : Holding) (s : PlainTelescope) → h ≡ true ∷ [] → ExpressionHasType four ((Linear, a) ∷ []) h (step (Linear ∷ []) (head_alone (Const 2)) the_rest) s → ⊥
second_fails a h s e p = let (b, k) = one_entry p.entries p.pattern in
    tuple_fails b a (true ∷ p.for_rest) (ren_telescope (up 1) s) (ap (λ l. true ∷ l) (rest_holds p.for_right p.for_rest (subst (λ l. Split (Linear ∷ []) l p.for_right p.for_rest) e p.split) p.right.1))
    (subst (λ t. ExpressionHasType four (with_entries t ((Linear, a) ∷ [])) (true ∷ p.for_rest) the_rest (ren_telescope (up 1) s)) k p.rest)

first_fails : (s : PlainTelescope) → ExpressionHasType four [] [] after s → ⊥
first_fails s p = let (b, k) = one_entry p.entries p.pattern in
    second_fails b (true ∷ p.for_rest) (ren_telescope (up 1) s) (ap (λ l. true ∷ l) (none_left p.for_right p.for_rest p.split))
    (subst (λ t. ExpressionHasType four (with_entries t []) (true ∷ p.for_rest) (step (Linear ∷ []) (head_alone (Const 2)) the_rest) (ren_telescope (up 1) s)) k p.rest)

pub exchange_loses_types : ExchangeLosesTypes
exchange_loses_types = (changes, typed, first_fails)
