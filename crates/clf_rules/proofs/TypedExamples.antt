-- The worked judgments of typing.
use Rattle.std.specs.Prelude.{ℕ, ◌≡◌, Bool, true, false, List, [], ◌∷◌, None, Some, refl}
use Rattle.std.specs.List.{slice_get}
use Rattle.std.proofs.Common.{ap, sym, subst, ◌∙◌}
use Rattle.clf_syntax.specs.declared.tree.Mode.{Mode}
use Rattle.clf_syntax.specs.declared.tree.Mode.TheVariants.{Persistent, Affine, Linear}
use Rattle.clf_syntax.specs.declared.tree.Head.TheVariants.{Meta}
use Rattle.clf_syntax.specs.Tree.{PlainObject, lam, pair, unit, monadic, atomic, PlainNeutral, head_alone, app, fst, snd, PlainExpression, step, done, empty, entry}
use Rattle.clf_syntax.specs.TypeTree.{PlainType, family, function, both, top, monad, PlainTelescope, end, binding}
use Rattle.clf_syntax.specs.Renaming.{ren_telescope, up}
use Rattle.use_contexts.specs.Context.{Context, modes, telescope_modes, with_entries}
use Rattle.use_contexts.specs.Holding.{Holding, Split, is_weak, is_unrestricted, may_use}
use Rattle.hered_subst.specs.Substitution.{single, Substituted, through_value, value_bare, through_kept, kept_bare, through_monadic, through_done, step_value, flat_step, flat_done, through_entry, through_empty, SubstitutedType, SubstitutedTelescope, in_family, in_function, each_next, each_none, in_binding, in_end}
use Rattle.hered_subst.proofs.Types.{is_determined}
use Rattle.trace_equal.specs.Exchange.{stop, next, in_monadic, exchange, JoinedEach}
use Rattle.trace_equal.proofs.Joined.{joined_without_steps}
use Rattle.clf_rules.specs.Typing.{HasType, Synthesizes, ExpressionHasType, TupleHasType}
use Rattle.clf_rules.specs.Examples.{coin, nat, vec, one_coin, two_coins, constant, local, variable, worked, z, sz, dz, gold, merged, minting, alone, together, opened, Typed, HeadExamples, ObjectExamples, NeutralExamples, ExpressionExamples, TupleExamples, TypeIsPresupposed}
use Rattle.clf_rules.proofs.OneType.{type_is_one}

-- ---- how typed trees are made
-- a neutral of a family without indices
plainly : (f : ℕ) (g : Context) (h : Holding) (r : PlainNeutral) → Synthesizes worked g h r (family f []) → HasType worked g h (atomic r) (family f [])
plainly f g h r p = record { number = f; wanted = []; found = []; type = refl; neutral = p; indices = tt }

-- a neutral of a family with one index
indexed : (f : ℕ) (i : PlainObject) (g : Context) (h : Holding) (r : PlainNeutral) → Synthesizes worked g h r (family f (i ∷ [])) → HasType worked g h (atomic r) (family f (i ∷ []))
indexed f i g h r p = record { number = f; wanted = i ∷ []; found = i ∷ []; type = refl; neutral = p; indices = (stop, tt) }

under : (m : Mode) (a c : PlainType) (g : Context) (h : Holding) (b : PlainObject) → HasType worked ((m, a) ∷ g) (true ∷ h) b c → HasType worked g h (lam m b) (function m a c)
under m a c g h b p = record { domain = a; range = c; type = refl; body = p }

-- an application whose type does not depend on the argument
applied : (m : Mode) (a c : PlainType) (g : Context) (h h1 h2 : Holding) (r : PlainNeutral) (n : PlainObject) → Split (modes g) h h1 h2 → Synthesizes worked g h1 r (function m a c)
    → may_use m (modes g) h2 ≡ true → HasType worked g h2 n a → SubstitutedType (single n 0) c c → Synthesizes worked g h (app m r n) c
applied m a c g h h1 h2 r n s p u q t = record { domain = a; range = c; for_function = h1; for_argument = h2; split = s; applied = p; usable = u; argument = q; type = t }

-- d at a variable or constant
made : (g : Context) (h h1 h2 : Holding) (n : PlainObject) → Split (modes g) h h1 h2 → is_weak (modes g) h1 ≡ true → is_unrestricted (modes g) h2 ≡ true
    → HasType worked g h2 n nat → HasType worked g h (atomic (app Persistent (constant 6) n)) (vec n)
made g h h1 h2 n s w u q = indexed 5 n g h (app Persistent (constant 6) n)
    (record { domain = nat; range = vec (variable 0); for_function = h1; for_argument = h2; split = s; applied = (refl, w); usable = u; argument = q; type = in_family (each_next (through_value (value_bare refl)) each_none) })

-- ---- what follows of a typed tree
tf : true ≡ false → ⊥
tf e = cc

pub ft : false ≡ true → ⊥
ft e = cc

domains : {m k : Mode} {a b c d : PlainType} → function m a c ≡ function k b d → a ≡ b
domains e = cc

ranges : {m k : Mode} {a b c d : PlainType} → function m a c ≡ function k b d → c ≡ d
ranges e = cc

families : {f k : ℕ} {ns os : List PlainObject} → family f ns ≡ family k os → f ≡ k
families e = cc

indices_of : {f k : ℕ} {ns os : List PlainObject} → family f ns ≡ family k os → ns ≡ os
indices_of e = cc

telescopes : {t u : PlainTelescope} → monad t ≡ monad u → t ≡ u
telescopes e = cc

inside : (m : Mode) (a c : PlainType) (g : Context) (h : Holding) (b : PlainObject) → HasType worked g h (lam m b) (function m a c) → HasType worked ((m, a) ∷ g) (true ∷ h) b c
inside m a c g h b p = subst (λ x. HasType worked ((m, x) ∷ g) (true ∷ h) b c) (sym (domains p.type)) (subst (λ y. HasType worked ((m, p.domain) ∷ g) (true ∷ h) b y) (sym (ranges p.type)) p.body)

-- the family of an object, with the indices that its neutral has
neutral_in : (g : Context) (h : Holding) (r : PlainNeutral) (f : ℕ) (ns : List PlainObject) → HasType worked g h (atomic r) (family f ns) → (os : List PlainObject) × Synthesizes worked g h r (family f os) × JoinedEach os ns
neutral_in g h r f ns p = (p.found, subst (λ k. Synthesizes worked g h r (family k p.found)) (sym (families p.type)) p.neutral, subst (λ l. JoinedEach p.found l) (sym (indices_of p.type)) p.indices)

-- A neutral of one family is no object of another.
other_family : (g : Context) (h k : Holding) (r : PlainNeutral) (f e : ℕ) (ns os : List PlainObject) → (f ≡ e → ⊥) → Synthesizes worked g h r (family f ns) → HasType worked g k (atomic r) (family e os) → ⊥
other_family g h k r f e ns os n p q = let (l, u, j) = neutral_in g k r e os q in n (families (type_is_one worked g h k r (family f ns) (family e l) p u))

expression_in : (g : Context) (h : Holding) (x : PlainExpression) (s : PlainTelescope) → HasType worked g h (monadic x) (monad s) → ExpressionHasType worked g h x s
expression_in g h x s p = subst (λ u. ExpressionHasType worked g h x u) (sym (telescopes p.1)) p.2

-- what an application is put to
function_of : (g : Context) (h k : Holding) (m : Mode) (r : PlainNeutral) (a t : PlainType) (n : PlainObject) → Synthesizes worked g h (app m r n) t → Synthesizes worked g k r a → (b c : PlainType) × (a ≡ function m b c)
function_of g h k m r a t n p q = (p.domain, p.range, type_is_one worked g k p.for_function r a (function m p.domain p.range) q p.applied)

-- ---- resources
pub value : {a b : Bool} → Some a ≡ Some b → a ≡ b
value e = cc

none : {b : Bool} → None ≡ Some b → ⊥
none e = cc

-- Both sides of a split cannot hold a linear entry.
not_both : (ms : List Mode) (h a b : Holding) → Split (Linear ∷ ms) h a b → slice_get a 0 ≡ Some true → slice_get b 0 ≡ Some true → ⊥
not_both ms (x ∷ h) (true ∷ a) (true ∷ b) s p q = tf s.0.1
not_both ms (x ∷ h) (false ∷ a) (v ∷ b) s p q = ft (value p)
not_both ms (x ∷ h) (true ∷ a) (false ∷ b) s p q = ft (value q)
not_both ms _ _ _ s p q = absurd s

-- What the second side of a split holds, the whole holds.
second_held : (ms : List Mode) (h a b : Holding) → Split (Linear ∷ ms) h a b → slice_get b 0 ≡ Some true → slice_get h 0 ≡ Some true
second_held ms (x ∷ h) (false ∷ a) (true ∷ b) s q = ap (λ y. Some y) s.0.0
second_held ms (x ∷ h) (true ∷ a) (true ∷ b) s q = absurd (tf s.0.1)
second_held ms (x ∷ h) (u ∷ a) (false ∷ b) s q = absurd (ft (value q))
second_held ms _ _ _ s q = absurd s

-- What is held is not unrestricted, unless it is persistent, nor weak where it is linear.
restricted : (m : Mode) (ms : List Mode) (h : Holding) → is_unrestricted (m ∷ ms) h ≡ true → slice_get h 0 ≡ Some true → m ≡ Persistent
restricted Persistent ms h u p = refl
restricted Affine ms (true ∷ h) u p = absurd (ft u)
restricted Affine ms (false ∷ h) u p = absurd (ft (value p))
restricted Linear ms (true ∷ h) u p = absurd (ft u)
restricted Linear ms (false ∷ h) u p = absurd (ft (value p))
restricted Affine ms [] u p = absurd (none p)
restricted Linear ms [] u p = absurd (none p)

no_linear : (ms : List Mode) (h : Holding) → is_weak (Linear ∷ ms) h ≡ true → slice_get h 0 ≡ Some true → ⊥
no_linear ms (true ∷ h) w p = ft w
no_linear ms (false ∷ h) w p = ft (value p)
no_linear ms [] w p = none p

-- the variable of a neutral object is held
pub held : (i : ℕ) (g : Context) (h : Holding) (f : ℕ) (ns : List PlainObject) → HasType worked g h (variable i) (family f ns) → slice_get h i ≡ Some true
held i g h f ns p = (neutral_in g h (local i) f ns p).1.0.0

-- What the first side of a split holds, the whole holds; the same of the second entry.
first_held : (ms : List Mode) (h a b : Holding) → Split (Linear ∷ ms) h a b → slice_get a 0 ≡ Some true → slice_get h 0 ≡ Some true
first_held ms (x ∷ h) (true ∷ a) (false ∷ b) s q = ap (λ y. Some y) s.0.0
first_held ms (x ∷ h) (true ∷ a) (true ∷ b) s q = absurd (tf s.0.1)
first_held ms (x ∷ h) (false ∷ a) (v ∷ b) s q = absurd (ft (value q))
first_held ms _ _ _ s q = absurd s

held_behind : (m : Mode) (ms : List Mode) (x : Bool) (h a b : Holding) → Split (m ∷ Linear ∷ ms) (x ∷ h) a b → slice_get a 1 ≡ Some true → slice_get h 0 ≡ Some true
held_behind m ms x h (u ∷ a) (v ∷ b) s q = first_held ms h a b s.1 q
held_behind m ms x h _ _ s q = absurd s

-- a pattern of one linear variable
one_entry : (u : PlainTelescope) → telescope_modes u ≡ Linear ∷ [] → (b : PlainType) × (u ≡ binding Linear b end)
one_entry end w = absurd (cc)
one_entry (binding m b end) w = (b, ap (λ k. binding k b end) (mode w))
  where
    mode : m ∷ [] ≡ Linear ∷ [] → m ≡ Linear
    mode w = cc
one_entry (binding m b (binding n c s)) w = absurd (cc)

-- a variable of type a alone in the context
coin_here : (m : Mode) → HasType worked ((m, coin) ∷ []) (true ∷ []) (variable 0) coin
coin_here Persistent = plainly 0 ((Persistent, coin) ∷ []) (true ∷ []) (local 0) ((refl, refl), (Persistent, coin, refl, refl))
coin_here Affine = plainly 0 ((Affine, coin) ∷ []) (true ∷ []) (local 0) ((refl, refl), (Affine, coin, refl, refl))
coin_here Linear = plainly 0 ((Linear, coin) ∷ []) (true ∷ []) (local 0) ((refl, refl), (Linear, coin, refl, refl))

pub head_examples : HeadExamples
head_examples = record {
  constant_typed = plainly 0 [] [] (constant 11) (refl, refl);
  at_another_type = λ p. other_family [] [] [] (constant 11) 0 2 [] [] (λ e. cc) (refl, refl) p;
  family_as_object = λ p. let e : None ≡ Some (family 0 (neutral_in [] [] (constant 0) 0 [] p).0) = (neutral_in [] [] (constant 0) 0 [] p).1.0 in cc;
  beside_affine_variable = under Affine coin coin [] [] gold (plainly 0 ((Affine, coin) ∷ []) (true ∷ []) (constant 11) (refl, refl));
  beside_linear_variable = λ p. ft (neutral_in ((Linear, coin) ∷ []) (true ∷ []) (constant 11) 0 [] (inside Linear coin coin [] [] gold p)).1.1;
  variable_typed = under Linear coin coin [] [] (variable 0) (coin_here Linear);
  variable_at_another_type = λ p. other_family ((Linear, coin) ∷ []) (true ∷ []) (true ∷ []) (local 0) 0 2 [] [] (λ e. cc) ((refl, refl), (Linear, coin, refl, refl)) (inside Linear coin nat [] [] (variable 0) p);
  variable_beside_linear_variable = λ p. ft (neutral_in ((Linear, coin) ∷ (Linear, coin) ∷ []) (true ∷ true ∷ []) (local 0) 0 []
      (inside Linear coin coin ((Linear, coin) ∷ []) (true ∷ []) (variable 0) (inside Linear coin (function Linear coin coin) [] [] (lam Linear (variable 0)) p))).1.0.1;
  unbound = λ p. none (held 0 [] [] 0 [] p);
  past_its_entry = under Persistent nat (function Linear (vec (variable 0)) (vec (variable 1))) [] [] (lam Linear (variable 0))
      (under Linear (vec (variable 0)) (vec (variable 1)) ((Persistent, nat) ∷ []) (true ∷ []) (variable 0)
      (indexed 5 (variable 1) ((Linear, vec (variable 0)) ∷ (Persistent, nat) ∷ []) (true ∷ true ∷ []) (local 0) ((refl, refl), (Linear, vec (variable 0), refl, refl))));
  metavariable = λ p. (neutral_in [] [] (head_alone (Meta 0)) 0 [] p).1;
}

-- ---- objects
left_in : (a c : PlainType) (g : Context) (h : Holding) (l r : PlainObject) → HasType worked g h (pair l r) (both a c) → HasType worked g h l a
left_in a c g h l r p = subst (λ x. HasType worked g h l x) (sym (firsts p.type)) p.left
  where
    firsts : {a b c d : PlainType} → both a c ≡ both b d → a ≡ b
    firsts e = cc

right_in : (a c : PlainType) (g : Context) (h : Holding) (l r : PlainObject) → HasType worked g h (pair l r) (both a c) → HasType worked g h r c
right_in a c g h l r p = subst (λ x. HasType worked g h r x) (sym (seconds p.type)) p.right
  where
    seconds : {a b c d : PlainType} → both a c ≡ both b d → c ≡ d
    seconds e = cc

gold_drops : HasType worked ((Linear, coin) ∷ []) (true ∷ []) gold coin → ⊥
gold_drops p = ft (neutral_in ((Linear, coin) ∷ []) (true ∷ []) (constant 11) 0 [] p).1.1

pub z_is_nat : Typed z nat
z_is_nat = plainly 2 [] [] (constant 3) (refl, refl)

pub put_for_variable : (n : PlainObject) → Substituted (single n 0) (variable 0) n
put_for_variable n = through_value (value_bare refl)

d_of_z : Synthesizes worked [] [] (app Persistent (constant 6) z) (vec z)
d_of_z = record { domain = nat; range = vec (variable 0); for_function = []; for_argument = []; split = tt; applied = (refl, refl); usable = refl; argument = z_is_nat; type = in_family (each_next (put_for_variable z) each_none) }

pub dz_is_vec : Typed dz (vec z)
dz_is_vec = indexed 5 z [] [] (app Persistent (constant 6) z) d_of_z

z_is_not_sz : z ≡ sz → ⊥
z_is_not_sz e = cc

pub no_other_index : (h : Holding) → HasType worked [] h dz (vec sz) → ⊥
no_other_index h p = let (os, u, j) = neutral_in [] h (app Persistent (constant 6) z) 5 (sz ∷ []) p in
    z_is_not_sz ((joined_without_steps.0 z sz refl).0 (subst (λ l. JoinedEach l (sz ∷ [])) (indices_of (type_is_one worked [] h [] (app Persistent (constant 6) z) (family 5 os) (vec z) u d_of_z)) j).0)

-- let {x} = c in let {x'} = c in [x, x']
abbrev mints : PlainExpression
mints = minting (minting (together (variable 1) (variable 0)))

abbrev both_coins : Context
both_coins = (Linear, coin) ∷ (Linear, coin) ∷ []

mints_typed : Typed (monadic mints) (monad two_coins)
mints_typed = (two_coins, refl, record { entries = one_coin; for_right = []; for_rest = []; split = tt; right = (refl, refl); pattern = refl; rest = second_step })
  where
    last : TupleHasType worked both_coins (true ∷ false ∷ []) (entry Linear (variable 0) empty) one_coin
    last = record {
      first_type = coin;
      later_types = end;
      after_put = end;
      for_first = true ∷ false ∷ [];
      for_later = false ∷ false ∷ [];
      type = refl;
      split = ((refl, refl), ((refl, refl), tt));
      usable = refl;
      first = plainly 0 both_coins (true ∷ false ∷ []) (local 0) ((refl, refl), (Linear, coin, refl, refl));
      put = in_end;
      later = (refl, refl);
    }

    result : TupleHasType worked both_coins (true ∷ true ∷ []) (entry Linear (variable 1) (entry Linear (variable 0) empty)) two_coins
    result = record {
      first_type = coin;
      later_types = one_coin;
      after_put = one_coin;
      for_first = false ∷ true ∷ [];
      for_later = true ∷ false ∷ [];
      type = refl;
      split = ((refl, refl), ((refl, refl), tt));
      usable = refl;
      first = plainly 0 both_coins (false ∷ true ∷ []) (local 1) ((refl, refl), (Linear, coin, refl, refl));
      put = in_binding (in_family each_none) in_end;
      later = last;
    }

    second_step : ExpressionHasType worked ((Linear, coin) ∷ []) (true ∷ []) (minting (together (variable 1) (variable 0))) two_coins
    second_step = record { entries = one_coin; for_right = false ∷ []; for_rest = true ∷ []; split = ((refl, refl), tt); right = (refl, refl); pattern = refl; rest = result }

-- mints, put for the variable of a step, comes before what follows that step
put_in_step : Substituted (single (monadic mints) 0) opened (monadic mints)
put_in_step = through_monadic (step_value (value_bare refl) (through_done (through_entry (through_kept (kept_bare refl)) (through_entry (through_kept (kept_bare refl)) through_empty)))
    (flat_step (flat_step (flat_done refl (through_done (through_entry (through_value (value_bare refl)) (through_entry (through_value (value_bare refl)) through_empty)))))))

y_of_mints : Synthesizes worked [] [] (app Persistent (constant 13) (monadic mints)) (family 12 (monadic mints ∷ []))
y_of_mints = record {
  domain = monad two_coins;
  range = family 12 (opened ∷ []);
  for_function = [];
  for_argument = [];
  split = tt;
  applied = (refl, refl);
  usable = refl;
  argument = mints_typed;
  type = in_family (each_next put_in_step each_none);
}

pub object_examples : ObjectExamples
object_examples = record {
  lambda_of_another_mode = λ p. let e : function Linear coin coin ≡ function Persistent p.domain p.range = p.type in cc;
  lambda_at_family = λ p. let e : family 0 [] ≡ function Linear p.domain p.range = p.type in cc;
  pair_typed = under Linear coin (both coin coin) [] [] (pair (variable 0) (variable 0)) (record { left_type = coin; right_type = coin; type = refl; left = coin_here Linear; right = coin_here Linear });
  left_part_drops = λ p. gold_drops (left_in coin coin ((Linear, coin) ∷ []) (true ∷ []) gold (variable 0) (inside Linear coin (both coin coin) [] [] (pair gold (variable 0)) p));
  right_part_drops = λ p. gold_drops (right_in coin coin ((Linear, coin) ∷ []) (true ∷ []) (variable 0) gold (inside Linear coin (both coin coin) [] [] (pair (variable 0) gold) p));
  unit_typed = under Linear coin top [] [] unit refl;
  unit_at_family = λ p. let e : family 0 [] ≡ top = p in cc;
  monadic_object = (end, refl, (refl, refl));
  monadic_object_at_family = λ p. let e : family 0 [] ≡ monad p.0 = p.1 in cc;
  index = dz_is_vec;
  another_index = λ p. no_other_index [] p;
  index_after_exchange = record {
    number = 12;
    wanted = monadic (minting (minting (together (variable 0) (variable 1)))) ∷ [];
    found = monadic mints ∷ [];
    type = refl;
    neutral = y_of_mints;
    indices = (next (in_monadic (exchange {v = constant 1} refl refl refl)) stop, tt);
  };
  not_expanded = λ p. let e : function Persistent nat nat ≡ family p.number p.wanted = p.type in cc;
  hole_untyped = λ p. p;
}

-- ---- neutrals
-- an argument that is the one variable of the context
with_variable : (m : Mode) (c : ℕ) (h : Holding) → Split (m ∷ []) (true ∷ []) h (true ∷ []) → Synthesizes worked ((m, coin) ∷ []) h (constant c) (function m coin coin) → may_use m (m ∷ []) (true ∷ []) ≡ true
    → Typed (lam m (atomic (app m (constant c) (variable 0)))) (function m coin coin)
with_variable m c h s p u = under m coin coin [] [] (atomic (app m (constant c) (variable 0))) (plainly 0 ((m, coin) ∷ []) (true ∷ []) (app m (constant c) (variable 0))
    (applied m coin coin ((m, coin) ∷ []) (true ∷ []) h (true ∷ []) (constant c) (variable 0) s p u (coin_here m) (in_family each_none)))

merges : Typed (lam Linear (lam Linear (merged (variable 1) (variable 0)))) (function Linear coin (function Linear coin coin))
merges = under Linear coin (function Linear coin coin) [] [] (lam Linear (merged (variable 1) (variable 0))) (under Linear coin coin ((Linear, coin) ∷ []) (true ∷ []) (merged (variable 1) (variable 0))
    (plainly 0 both_coins (true ∷ true ∷ []) (app Linear (app Linear (constant 8) (variable 1)) (variable 0))
    (applied Linear coin coin both_coins (true ∷ true ∷ []) (false ∷ true ∷ []) (true ∷ false ∷ []) (app Linear (constant 8) (variable 1)) (variable 0) ((refl, refl), ((refl, refl), tt))
    (applied Linear coin (function Linear coin coin) both_coins (false ∷ true ∷ []) (false ∷ false ∷ []) (false ∷ true ∷ []) (constant 8) (variable 1) ((refl, refl), ((refl, refl), tt)) (refl, refl) refl
    (plainly 0 both_coins (false ∷ true ∷ []) (local 1) ((refl, refl), (Linear, coin, refl, refl))) (in_function (in_family each_none) (in_family each_none)))
    refl (plainly 0 both_coins (true ∷ false ∷ []) (local 0) ((refl, refl), (Linear, coin, refl, refl))) (in_family each_none))))

a_pair : Synthesizes worked ((Linear, both coin nat) ∷ []) (true ∷ []) (local 0) (both coin nat)
a_pair = ((refl, refl), (Linear, both coin nat, refl, refl))

-- the application in an object \x. R N : A -> a
application_in : (m k : Mode) (c : PlainType) (f : ℕ) (r : PlainNeutral) (n : PlainObject) → Typed (lam m (atomic (app k r n))) (function m c (family f [])) → (os : List PlainObject) × Synthesizes worked ((m, c) ∷ []) (true ∷ []) (app k r n) (family f os)
application_in m k c f r n p = let (os, u, j) = neutral_in ((m, c) ∷ []) (true ∷ []) (app k r n) f [] (inside m c (family f []) [] [] (atomic (app k r n)) p) in (os, u)

pub neutral_examples : NeutralExamples
neutral_examples = record {
  application = merges;
  used_twice = λ p. let (os, u) = application_in Linear Linear coin 0 (app Linear (constant 8) (variable 0)) (variable 0) p in
      not_both [] (true ∷ []) u.for_function u.for_argument u.split (second_held [] u.for_function u.applied.for_function u.applied.for_argument u.applied.split u.applied.argument.neutral.0.0) u.argument.neutral.0.0;
  argument_of_another_mode = λ p. let (os, u, j) = neutral_in [] [] (app Linear (constant 10) gold) 0 [] p in
      let e : Some (function Persistent coin coin) ≡ Some (function Linear u.domain u.range) = u.applied.0 in cc;
  applied_to_no_function = λ p. let (os, u, j) = neutral_in [] [] (app Linear (constant 11) gold) 0 [] p in
      let e : Some (family 0 []) ≡ Some (function Linear u.domain u.range) = u.applied.0 in cc;
  argument_of_another_type = λ p. let (os, u, j) = neutral_in [] [] (app Persistent (constant 4) gold) 2 [] p in
      other_family [] [] u.for_argument (constant 11) 0 2 [] [] (λ e. cc) (refl, refl)
      (subst (λ a. HasType worked [] u.for_argument gold a) (sym (domains (type_is_one worked [] [] u.for_function (constant 4) (function Persistent nat nat) (function Persistent u.domain u.range) (refl, refl) u.applied))) u.argument);
  affine_argument = with_variable Affine 9 (false ∷ []) ((refl, refl), tt) (refl, refl) refl;
  affine_argument_uses_linear = λ p. let (os, u) = application_in Linear Affine coin 0 (constant 9) (variable 0) p in no_linear [] u.for_argument u.usable u.argument.neutral.0.0;
  persistent_argument = with_variable Persistent 10 (true ∷ []) ((refl, refl, refl), tt) (refl, refl) refl;
  persistent_argument_uses_affine = λ p. let (os, u) = application_in Affine Persistent coin 0 (constant 10) (variable 0) p in
      let e : Affine ≡ Persistent = restricted Affine [] u.for_argument u.usable u.argument.neutral.0.0 in cc;
  first_projection = under Linear (both coin nat) coin [] [] (atomic (fst (local 0))) (plainly 0 ((Linear, both coin nat) ∷ []) (true ∷ []) (fst (local 0)) (nat, a_pair));
  second_projection = under Linear (both coin nat) nat [] [] (atomic (snd (local 0))) (plainly 2 ((Linear, both coin nat) ∷ []) (true ∷ []) (snd (local 0)) (coin, a_pair));
  first_for_second = λ p. other_family ((Linear, both coin nat) ∷ []) (true ∷ []) (true ∷ []) (fst (local 0)) 0 2 [] [] (λ e. cc) (nat, a_pair) (inside Linear (both coin nat) nat [] [] (atomic (fst (local 0))) p);
  second_for_first = λ p. other_family ((Linear, both coin nat) ∷ []) (true ∷ []) (true ∷ []) (snd (local 0)) 2 0 [] [] (λ e. cc) (coin, a_pair) (inside Linear (both coin nat) coin [] [] (atomic (snd (local 0))) p);
  projection_of_no_pair = λ p. let (os, u, j) = neutral_in [] [] (fst (constant 11)) 0 [] p in let e : Some (family 0 []) ≡ Some (both (family 0 os) u.0) = u.1.0 in cc;
}

-- ---- expressions
monads : {t u : PlainTelescope} → Some (monad t) ≡ Some (monad u) → t ≡ u
monads e = cc

coin_alone : TupleHasType worked ((Linear, coin) ∷ []) (true ∷ []) (entry Linear (variable 0) empty) one_coin
coin_alone = record {
  first_type = coin;
  later_types = end;
  after_put = end;
  for_first = true ∷ [];
  for_later = false ∷ [];
  type = refl;
  split = ((refl, refl), tt);
  usable = refl;
  first = coin_here Linear;
  put = in_end;
  later = (refl, refl);
}

-- [y, d !x], where y is linear and x persistent
abbrev coin_and_number : Context
coin_and_number = (Linear, coin) ∷ (Persistent, nat) ∷ []

number_here : HasType worked coin_and_number (false ∷ true ∷ []) (variable 1) nat
number_here = plainly 2 coin_and_number (false ∷ true ∷ []) (local 1) ((refl, refl), (Persistent, nat, refl, refl))

abbrev made_of_it : PlainObject
made_of_it = atomic (app Persistent (constant 6) (variable 1))

made_here : HasType worked coin_and_number (false ∷ true ∷ []) made_of_it (vec (variable 1))
made_here = made coin_and_number (false ∷ true ∷ []) (false ∷ true ∷ []) (false ∷ true ∷ []) (variable 1) ((refl, refl), ((refl, refl, refl), tt)) refl refl number_here

coin_and_vec : TupleHasType worked coin_and_number (true ∷ true ∷ []) (entry Linear (variable 0) (entry Linear made_of_it empty)) (binding Linear coin (binding Linear (vec (variable 2)) end))
coin_and_vec = record {
  first_type = coin;
  later_types = binding Linear (vec (variable 2)) end;
  after_put = binding Linear (vec (variable 1)) end;
  for_first = true ∷ true ∷ [];
  for_later = false ∷ true ∷ [];
  type = refl;
  split = ((refl, refl), ((refl, refl, refl), tt));
  usable = refl;
  first = plainly 0 coin_and_number (true ∷ true ∷ []) (local 0) ((refl, refl), (Linear, coin, refl, refl));
  put = in_binding (in_family (each_next (through_kept (kept_bare refl)) each_none)) in_end;
  later = record {
    first_type = vec (variable 1);
    later_types = end;
    after_put = end;
    for_first = false ∷ true ∷ [];
    for_later = false ∷ true ∷ [];
    type = refl;
    split = ((refl, refl), ((refl, refl, refl), tt));
    usable = refl;
    first = made_here;
    put = in_end;
    later = (refl, refl);
  };
}

pub expression_examples : ExpressionExamples
expression_examples = record {
  step_typed = (one_coin, refl, record { entries = one_coin; for_right = []; for_rest = []; split = tt; right = (refl, refl); pattern = refl; rest = coin_alone });
  pattern_of_another_mode = λ p. let q = expression_in [] [] (step (Persistent ∷ []) (constant 1) (done empty)) end p in
      let e : Linear ∷ [] ≡ Persistent ∷ [] = ap telescope_modes (monads q.right.0) ∙ q.pattern in cc;
  dropped = λ p. let q = expression_in [] [] (minting (done empty)) end p in let (b, k) = one_entry q.entries q.pattern in
      ft (subst (λ u. TupleHasType worked (with_entries u []) (true ∷ q.for_rest) empty end) k q.rest).1;
  right_side_of_no_monad = λ p. let q = expression_in [] [] (step [] (constant 11) (done empty)) end p in let e : Some (family 0 []) ≡ Some (monad q.entries) = q.right.0 in cc;
  right_sides_share = λ p. shared (inside Linear (monad one_coin) (monad two_coins) [] [] (monadic shares) p);
  result_behind_a_step = under Persistent nat (monad (binding Linear coin (binding Linear (vec (variable 1)) end))) [] [] (monadic (minting (together (variable 0) made_of_it)))
      (binding Linear coin (binding Linear (vec (variable 1)) end), refl, record { entries = one_coin; for_right = true ∷ []; for_rest = true ∷ []; split = ((refl, refl, refl), tt); right = (refl, refl); pattern = refl; rest = coin_and_vec });
}
  where
    shares : PlainExpression
    shares = step (Linear ∷ []) (local 0) (step (Linear ∷ []) (local 1) (together (variable 1) (variable 0)))

    shared : HasType worked ((Linear, monad one_coin) ∷ []) (true ∷ []) (monadic shares) (monad two_coins) → ⊥
    shared p =
        let q = expression_in ((Linear, monad one_coin) ∷ []) (true ∷ []) shares two_coins p in let (b, k) = one_entry q.entries q.pattern in
        let w = subst (λ u. ExpressionHasType worked (with_entries u ((Linear, monad one_coin) ∷ [])) (true ∷ q.for_rest) (step (Linear ∷ []) (local 1) (together (variable 1) (variable 0))) (ren_telescope (up 1) two_coins)) k q.rest in
        not_both [] (true ∷ []) q.for_right q.for_rest q.split q.right.0.0 (held_behind Linear [] true q.for_rest w.for_right w.for_rest w.split w.right.0.0)

-- ---- tuples
tails : {m k : Mode} {a b : PlainType} {s t : PlainTelescope} → binding m a s ≡ binding k b t → s ≡ t
tails e = cc

firsts : {m k : Mode} {a b : PlainType} {s t : PlainTelescope} → binding m a s ≡ binding k b t → a ≡ b
firsts e = cc

-- x: n, v x
abbrev some_vec : PlainTelescope
some_vec = binding Persistent nat (binding Linear (vec (variable 0)) end)

-- what is put for x stands in the later type
later_vec : (n : PlainObject) (u : PlainTelescope) → SubstitutedTelescope (single n 0) (binding Linear (vec (variable 0)) end) u → u ≡ binding Linear (vec n) end
later_vec n u p = (is_determined (single n 0)).5 (binding Linear (vec (variable 0)) end) u (binding Linear (vec n) end) p (in_binding (in_family (each_next (put_for_variable n) each_none)) in_end)

pub tuple_examples : TupleExamples
tuple_examples = record {
  empty_tuple = under Affine coin (monad end) [] [] (monadic (done empty)) (end, refl, (refl, refl));
  empty_tuple_drops = λ p. ft (expression_in ((Linear, coin) ∷ []) (true ∷ []) (done empty) end (inside Linear coin (monad end) [] [] (monadic (done empty)) p)).1;
  too_short = λ p. let e : binding Linear coin end ≡ end = (expression_in [] [] (done empty) one_coin p).0 in cc;
  too_long = λ p. let q = expression_in [] [] (alone gold) end p in let e : end ≡ binding Linear q.first_type q.later_types = q.type in cc;
  dependent = (
    some_vec,
    refl,
    record {
      first_type = nat;
      later_types = binding Linear (vec (variable 0)) end;
      after_put = binding Linear (vec z) end;
      for_first = [];
      for_later = [];
      type = refl;
      split = tt;
      usable = refl;
      first = z_is_nat;
      put = in_binding (in_family (each_next (put_for_variable z) each_none)) in_end;
      later = record { first_type = vec z; later_types = end; after_put = end; for_first = []; for_later = []; type = refl; split = tt; usable = refl; first = dz_is_vec; put = in_end; later = (refl, refl) };
    },
  );
  another_first = λ p. let q = expression_in [] [] (done (entry Persistent sz (entry Linear dz empty))) some_vec p in
      let put = subst (λ u. SubstitutedTelescope (single sz 0) u q.after_put) (sym (tails q.type)) q.put in
      no_other_index q.later.for_first (subst (λ a. HasType worked [] q.later.for_first dz a) (sym (firsts (sym (later_vec sz q.after_put put) ∙ q.later.type))) q.later.first);
  entry_of_another_mode = λ p. let q = expression_in [] [] (done (entry Persistent gold empty)) one_coin p in
      let e : binding Linear coin end ≡ binding Persistent q.first_type q.later_types = q.type in cc;
  entry_uses_more = λ p. let q = expression_in ((Linear, coin) ∷ []) (true ∷ []) (done (entry Persistent (variable 0) empty)) (binding Persistent coin end)
      (inside Linear coin (monad (binding Persistent coin end)) [] [] (monadic (done (entry Persistent (variable 0) empty))) p) in
      let e : Linear ≡ Persistent = restricted Linear [] q.for_first q.usable q.first.neutral.0.0 in cc;
  entries_share = λ p. let q = expression_in ((Linear, coin) ∷ []) (true ∷ []) (together (variable 0) (variable 0)) two_coins (inside Linear coin (monad two_coins) [] [] (monadic (together (variable 0) (variable 0))) p) in
      not_both [] (true ∷ []) q.for_first q.for_later q.split q.first.neutral.0.0 (first_held [] q.for_later q.later.for_first q.later.for_later q.later.split q.later.first.neutral.0.0);
}

pub type_is_presupposed : TypeIsPresupposed
type_is_presupposed = record { domain = family 99 []; range = top; type = refl; body = refl }
