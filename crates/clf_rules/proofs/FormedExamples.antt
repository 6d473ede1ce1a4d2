-- The worked judgments of formation.
use Rattle.std.specs.Prelude.{ℕ, zero, suc, ◌≡◌, ◌≤◌, nat_le, Bool, true, false, not, ◌&&◌, List, [], ◌∷◌, ◌++◌, None, Some, refl, Contains}
use Rattle.std.proofs.Common.{ap, sym, subst, ◌∙◌, arith}
use Rattle.clf_syntax.specs.declared.tree.Mode.TheVariants.{Persistent, Linear}
use Rattle.clf_syntax.specs.Tree.{PlainObject, empty, entry}
use Rattle.clf_syntax.specs.TypeTree.{family, monad, end, PlainKind}
use Rattle.clf_syntax.specs.Word.{same_bytes, is_declarable}
use Rattle.use_contexts.specs.Context.{Context}
use Rattle.hered_subst.specs.Substitution.{single, SubstitutedKind, in_family, in_binding, in_end, each_next, each_none, in_argument, in_no_argument}
use Rattle.hered_subst.proofs.Types.{is_determined}
use Rattle.clf_sig.specs.Entry.{PlainSignature, Declaration, names, family_kind}
use Rattle.clf_rules.specs.Typing.{HasType, TupleHasType}
use Rattle.clf_rules.specs.WellFormed.{IndicesHaveTypes, WellFormedType, WellFormedClass, may_be_implicit, AllMayFollow, WellFormedSignature}
use Rattle.clf_rules.specs.Examples.{coin, nat, vec, one_coin, two_coins, variable, opened, worked, z, sz, dz, gold, Formed, TypeExamples, SignatureExamples}
use Rattle.clf_rules.proofs.TypedExamples.{z_is_nat, put_for_variable, dz_is_vec, no_other_index, held, value, ft, head_examples}

-- ---- types
nat_formed : Formed nat
nat_formed = ([], refl, tt)

coin_formed : Formed coin
coin_formed = ([], refl, tt)

kinds : {k l : PlainKind} → Some k ≡ Some l → k ≡ l
kinds e = cc

-- the indices of a family whose kind is known
indices_in : (g : Context) (f : ℕ) (k : PlainKind) (ns : List PlainObject) → family_kind worked f ≡ Some k → WellFormedType worked g (family f ns) → IndicesHaveTypes worked g ns k
indices_in g f k ns e p = subst (λ l. IndicesHaveTypes worked g ns l) (kinds (sym p.1 ∙ e)) p.2

-- what is left of a kind after an object is put for its first argument
after_none : (n : PlainObject) (l : PlainKind) → SubstitutedKind (single n 0) [] l → l ≡ []
after_none n l p = (is_determined (single n 0)).6 [] l [] p in_no_argument

after_vec : (n : PlainObject) (l : PlainKind) → SubstitutedKind (single n 0) (vec (variable 0) ∷ []) l → l ≡ vec n ∷ []
after_vec n l p = (is_determined (single n 0)).6 (vec (variable 0) ∷ []) l (vec n ∷ []) p (in_argument (in_family (each_next (put_for_variable n) each_none)) in_no_argument)

-- v x for a persistent number x
vec_formed : (sig : PlainSignature) → family_kind sig 5 ≡ Some (nat ∷ []) → WellFormedType sig ((Persistent, nat) ∷ []) (vec (variable 0))
vec_formed sig e = (nat ∷ [], e, record { after_put = []; index = number; put = in_no_argument; later = tt })
  where
    number : HasType sig ((Persistent, nat) ∷ []) (true ∷ []) (variable 0) nat
    number = record { number = 2; wanted = []; found = []; type = refl; neutral = ((refl, refl), (Persistent, nat, refl, refl)); indices = tt }

-- v x for a linear x
vec_unformed : WellFormedType worked ((Linear, nat) ∷ []) (vec (variable 0)) → ⊥
vec_unformed p = ft (value (held 0 ((Linear, nat) ∷ []) (false ∷ []) 2 [] (indices_in ((Linear, nat) ∷ []) 5 (nat ∷ []) (variable 0 ∷ []) refl p).index))

no_family : (g : Context) → WellFormedType worked g (family 3 []) → ⊥
no_family g p = let e : None ≡ Some p.0 = p.1 in cc

pub type_examples : TypeExamples
type_examples = record {
  indexed_family = (nat ∷ [], refl, record { after_put = []; index = z_is_nat; put = in_no_argument; later = tt });
  without_index = λ p. indices_in [] 5 (nat ∷ []) [] refl p;
  one_index_too_many = λ p. let q = indices_in [] 5 (nat ∷ []) (z ∷ z ∷ []) refl p in subst (λ l. IndicesHaveTypes worked [] (z ∷ []) l) (after_none z q.after_put q.put) q.later;
  index_of_another_type = λ p. head_examples.at_another_type (indices_in [] 5 (nat ∷ []) (gold ∷ []) refl p).index;
  constant_as_family = λ p. no_family [] p;
  later_index = (
    nat ∷ vec (variable 0) ∷ [],
    refl,
    record {
      after_put = vec z ∷ [];
      index = z_is_nat;
      put = in_argument (in_family (each_next (put_for_variable z) each_none)) in_no_argument;
      later = record { after_put = []; index = dz_is_vec; put = in_no_argument; later = tt };
    },
  );
  later_index_of_another_type = λ p. let q = indices_in [] 7 (nat ∷ vec (variable 0) ∷ []) (sz ∷ dz ∷ []) refl p in
      no_other_index [] (subst (λ l. IndicesHaveTypes worked [] (dz ∷ []) l) (after_vec sz q.after_put q.put) q.later).index;
  dependent_function = (nat_formed, vec_formed worked refl);
  linear_variable_in_its_range = λ p. vec_unformed p.1;
  function_from_no_type = λ p. no_family [] p.0;
  pair_formed = (coin_formed, nat_formed);
  left_part_unformed = λ p. no_family [] p.0;
  right_part_unformed = λ p. no_family [] p.1;
  top_formed = tt;
  dependent_telescope = (nat_formed, (vec_formed worked refl, tt));
  linear_variable_in_a_later_type = λ p. vec_unformed p.1.0;
}

-- ---- signatures
same_as_itself : (w : List ℕ) → same_bytes w w ≡ true
same_as_itself [] = refl
same_as_itself (b ∷ w) = grind (arith, same_as_itself w)

abbrev is_absent : List (List ℕ) → List ℕ → Bool
is_absent [] w = true
is_absent (x ∷ xs) w = not (same_bytes x w) && is_absent xs w

first_true : (a b : Bool) → a && b ≡ true → a ≡ true
first_true true b e = refl
first_true false b e = e

second_true : (a b : Bool) → a && b ≡ true → b ≡ true
second_true true b e = e
second_true false b e = cc

not_same : (x w : List ℕ) → not (same_bytes x w) ≡ true → x ≡ w → ⊥
not_same x w n e = ft (sym (ap not (ap (λ y. same_bytes y w) e ∙ same_as_itself w)) ∙ n)

absent : (xs : List (List ℕ)) (w : List ℕ) → is_absent xs w ≡ true → Contains xs w → ⊥
absent [] w e (k, l, q) = absurd (omega arith)
absent (x ∷ xs) w e (zero, l, q) = not_same x w (first_true (not (same_bytes x w)) (is_absent xs w) e) q
absent (x ∷ xs) w e (suc k, l, q) = absent xs w (second_true (not (same_bytes x w)) (is_absent xs w) e) (k, omega arith, q)

at_most : (m n : ℕ) → nat_le m n ≡ true → m ≤ n
at_most m n e = grind arith

-- the names and the implicit arguments of later declarations are in order
abbrev in_order : PlainSignature → List Declaration → Bool
in_order earlier [] = true
in_order earlier (d ∷ later) = is_declarable d.0 && is_absent (names earlier) d.0 && nat_le d.1.implicit (may_be_implicit d.1.class) && in_order (earlier ++ d ∷ []) later

abbrev ClassesFormed : PlainSignature → List Declaration → Type 0
ClassesFormed earlier [] = Unit {0}
ClassesFormed earlier (d ∷ later) = WellFormedClass earlier d.1.class × ClassesFormed (earlier ++ d ∷ []) later

all_true : (a b c d : Bool) → a && b && c && d ≡ true → (a ≡ true) × (b ≡ true) × (c ≡ true) × (d ≡ true)
all_true true true true true e = (refl, refl, refl, refl)
all_true true true true false e = absurd (ft e)
all_true true true false d e = absurd (ft e)
all_true true false c d e = absurd (ft e)
all_true false b c d e = absurd (ft e)

follow : (earlier : PlainSignature) (later : List Declaration) → in_order earlier later ≡ true → ClassesFormed earlier later → AllMayFollow earlier later
follow earlier [] e p = tt
follow earlier (d ∷ later) e p =
    let (a, b, c, n) = all_true (is_declarable d.0) (is_absent (names earlier) d.0) (nat_le d.1.implicit (may_be_implicit d.1.class)) (in_order (earlier ++ d ∷ []) later) e in
    ((a, absent (names earlier) d.0 b, (p.0, at_most d.1.implicit (may_be_implicit d.1.class) c)), follow (earlier ++ d ∷ []) later n p.1)

-- {let {x1, x2} = x in [x1, x2]} for a persistent x
opened_typed : (sig : PlainSignature) → HasType sig ((Persistent, monad two_coins) ∷ []) (true ∷ []) opened (monad two_coins)
opened_typed sig = (two_coins, refl, record { entries = two_coins; for_right = true ∷ []; for_rest = true ∷ []; split = ((refl, refl, refl), tt); right = ((refl, refl), (Persistent, monad two_coins, refl, refl)); pattern = refl; rest = result })
  where
    last : TupleHasType sig ((Linear, coin) ∷ (Linear, coin) ∷ (Persistent, monad two_coins) ∷ []) (true ∷ false ∷ true ∷ []) (entry Linear (variable 0) empty) one_coin
    last = record {
      first_type = coin;
      later_types = end;
      after_put = end;
      for_first = true ∷ false ∷ true ∷ [];
      for_later = false ∷ false ∷ true ∷ [];
      type = refl;
      split = ((refl, refl), ((refl, refl), ((refl, refl, refl), tt)));
      usable = refl;
      first = record { number = 0; wanted = []; found = []; type = refl; neutral = ((refl, refl), (Linear, coin, refl, refl)); indices = tt };
      put = in_end;
      later = (refl, refl);
    }

    result : TupleHasType sig ((Linear, coin) ∷ (Linear, coin) ∷ (Persistent, monad two_coins) ∷ []) (true ∷ true ∷ true ∷ []) (entry Linear (variable 1) (entry Linear (variable 0) empty)) two_coins
    result = record {
      first_type = coin;
      later_types = one_coin;
      after_put = one_coin;
      for_first = false ∷ true ∷ true ∷ [];
      for_later = true ∷ false ∷ true ∷ [];
      type = refl;
      split = ((refl, refl), ((refl, refl), ((refl, refl, refl), tt)));
      usable = refl;
      first = record { number = 0; wanted = []; found = []; type = refl; neutral = ((refl, refl), (Linear, coin, refl, refl)); indices = tt };
      put = in_binding (in_family each_none) in_end;
      later = last;
    }

indexed_by_mints : (sig : PlainSignature) → family_kind sig 12 ≡ Some (monad two_coins ∷ []) → WellFormedType sig ((Persistent, monad two_coins) ∷ []) (family 12 (opened ∷ []))
indexed_by_mints sig e = (monad two_coins ∷ [], e, record { after_put = []; index = opened_typed sig; put = in_no_argument; later = tt })

worked_is_formed : WellFormedSignature worked
worked_is_formed = follow [] worked refl (
  tt,
  (
    (([], refl, tt), tt),
    (
      tt,
      (
        ([], refl, tt),
        (
          (([], refl, tt), ([], refl, tt)),
          (
            (([], refl, tt), tt),
            (
              (([], refl, tt), vec_formed _ refl),
              (
                (([], refl, tt), (vec_formed _ refl, tt)),
                (
                  (([], refl, tt), (([], refl, tt), ([], refl, tt))),
                  (
                    (([], refl, tt), ([], refl, tt)),
                    (
                      (([], refl, tt), ([], refl, tt)),
                      (
                        ([], refl, tt),
                        (
                          ((([], refl, tt), (([], refl, tt), tt)), tt),
                          (((([], refl, tt), (([], refl, tt), tt)), indexed_by_mints _ refl), tt),
                        ),
                      ),
                    ),
                  ),
                ),
              ),
            ),
          ),
        ),
      ),
    ),
  ),
)

pub signature_examples : SignatureExamples
signature_examples = record {
  kind = (nat_formed, (vec_formed worked refl, tt));
  kind_from_no_type = λ p. no_family [] p.0;
  context = (vec_formed worked refl, (nat_formed, tt));
  linear_variable_in_the_context = λ p. vec_unformed p.0;
  signature = worked_is_formed;
  family_too_late = λ p. let e : None ≡ Some p.0.2.0.0 = p.0.2.0.1 in cc;
  name_again = λ p. p.1.0.1 (0, omega arith, refl);
  no_name = λ p. ft p.0;
  implicit_argument = (refl, absent (names worked) (113 ∷ []) refl, ((nat_formed, vec_formed worked refl), omega arith));
  implicit_linear_argument = λ p. absurd (omega (arith, p.2.1));
}
