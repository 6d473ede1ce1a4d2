-- Simple typing where families are heads of the type <T>: no such head stands in what is typed.
use Rattle.std.proofs.Common.{◌≡◌, ℕ, zero, suc, ◌+◌, ◌-◌, ◌<◌, ◌≤◌, Bool, true, false, if◌then◌else◌, List, [], ◌∷◌, ◌++◌, length, map, Some, refl, sym, ap, ◌∙◌, arith, nat_lt, ⊎_elim}
use Rattle.std.proofs.Math.Logic.{◌⊎◌, inl, inr}
use Rattle.std.specs.List.{slice_get}
use Rattle.std.specs.Option.{option_map}
use Rattle.std.proofs.lemmas.Option.{slice_get-map}
use Rattle.std.proofs.lemmas.List.{length-map}
use Rattle.clf_syntax.specs.declared.tree.Mode.{Mode}
use Rattle.clf_syntax.specs.declared.tree.Head.{Head}
use Rattle.clf_syntax.specs.declared.tree.Head.TheVariants.{Const, Var, Meta}
use Rattle.clf_syntax.specs.Tree.{PlainObject, lam, pair, unit, monadic, atomic, hole, PlainNeutral, head_alone, app, fst, snd, PlainExpression, step, done, PlainTuple, empty, entry}
use Rattle.clf_syntax.specs.TypeTree.{PlainType, SimpleType, arrow, simple_with, simple_top, lax, SimpleTelescope, simple_end, simple_binding}
use Rattle.clf_syntax.specs.Simple.{erase, Assignment, assigned, extended, extended_by, extended_over, no_holes, MayStand, SimplyTyped, SimplyTypedNeutral, SimplyTypedExpression, SimplyTypedTuple}
use Rattle.use_contexts.specs.Context.{Context}
use Rattle.clf_sig.specs.Entry.{PlainClass, family_of, constant_of, PlainSignature, type_in, constant_type, simple_class, simple_types}
use Rattle.clf_simple.specs.Decision.{typed}
use Rattle.clf_simple.proofs.Decided.{sound, complete}
use Rattle.pattern_laws.specs.Instantiations.{closed}
use Rattle.gathering.specs.Setting.{simple_locals}
use Rattle.elaboration_laws.specs.ItemSetting.{item_constants}

-- The second assignment has the types of the first but <T>.
abbrev Nearly : Assignment → Assignment → Type 0
Nearly b c = (h : Head) (t : SimpleType) → b h ≡ Some t → (c h ≡ Some t) ⊎ (t ≡ simple_top)

extended_nearly : (d : SimpleType) (b c : Assignment) → Nearly b c → Nearly (extended d b) (extended d c)
extended_nearly d b c n (Const x) t e = n (Const x) t e
extended_nearly d b c n (Var zero) t e = inl e
extended_nearly d b c n (Var (suc i)) t e = n (Var i) t e
extended_nearly d b c n (Meta m) t e = n (Meta m) t e

entered_nearly : (s : SimpleTelescope) (b c : Assignment) → Nearly b c → Nearly (extended_by s b) (extended_by s c)
entered_nearly simple_end b c n = n
entered_nearly (simple_binding m d s) b c n = entered_nearly s (extended d b) (extended d c) (extended_nearly d b c n)

not_standing : (n : PlainNeutral) (t : SimpleType) → MayStand (no_holes true) n t → t ≡ simple_top → ⊥
not_standing n t (inl p) e = let q = p.1 in cc
not_standing n t (inr (k, s, h, q, w)) e = cc

-- what is left of either, where the second cannot be
first_of : {A B : Type 0} → A ⊎ B → (B → ⊥) → A
first_of (inl a) n = a
first_of (inr b) n = absurd (n b)

no_arrow : {m : Mode} {d c : SimpleType} → arrow m d c ≡ simple_top → ⊥
no_arrow e = cc

no_pair : {d c : SimpleType} → simple_with d c ≡ simple_top → ⊥
no_pair e = cc

no_monad : {s : SimpleTelescope} → lax s ≡ simple_top → ⊥
no_monad e = cc

mutual
  pub typed_nearly : (o : PlainObject) (b c : Assignment) (t : SimpleType) → Nearly b c → SimplyTyped b o t → SimplyTyped c o t
  typed_nearly (lam m o) b c t n p = let (d, e, q, x) = p in (d, e, q, typed_nearly o (extended d b) (extended d c) e (extended_nearly d b c n) x)
  typed_nearly (pair l r) b c t n p = let (d, e, q, x, y) = p in (d, e, q, typed_nearly l b c d n x, typed_nearly r b c e n y)
  typed_nearly unit b c t n p = p
  typed_nearly (monadic e) b c t n p = let (s, q, x) = p in (s, q, expression_nearly e b c s n x)
  typed_nearly (atomic r) b c t n p = (p.0, first_of (neutral_nearly r b c t n p.1) (not_standing r t p.0))
  typed_nearly hole b c t n p = p

  neutral_nearly : (r : PlainNeutral) (b c : Assignment) (t : SimpleType) → Nearly b c → SimplyTypedNeutral b r t → SimplyTypedNeutral c r t ⊎ (t ≡ simple_top)
  neutral_nearly (head_alone h) b c t n p = n h t p
  neutral_nearly (app m r o) b c t n p = let (d, x, y) = p in inl (d, first_of (neutral_nearly r b c (arrow m d t) n x) no_arrow, typed_nearly o b c d n y)
  neutral_nearly (fst r) b c t n p = let (d, x) = p in inl (d, first_of (neutral_nearly r b c (simple_with t d) n x) no_pair)
  neutral_nearly (snd r) b c t n p = let (d, x) = p in inl (d, first_of (neutral_nearly r b c (simple_with d t) n x) no_pair)

  expression_nearly : (e : PlainExpression) (b c : Assignment) (s : SimpleTelescope) → Nearly b c → SimplyTypedExpression b e s → SimplyTypedExpression c e s
  expression_nearly (step ms r e) b c s n p = let (u, x, q, y) = p in (u, first_of (neutral_nearly r b c (lax u) n x) no_monad, q, expression_nearly e (extended_by u b) (extended_by u c) s (entered_nearly u b c n) y)
  expression_nearly (done t) b c s n p = tuple_nearly t b c s n p

  tuple_nearly : (x : PlainTuple) (b c : Assignment) (s : SimpleTelescope) → Nearly b c → SimplyTypedTuple b x s → SimplyTypedTuple c x s
  tuple_nearly empty b c s n p = p
  tuple_nearly (entry m o x) b c s n p = let (d, u, q, y, z) = p in (d, u, q, typed_nearly o b c d n y, tuple_nearly x b c u n z)

-- ---- the heads of an item
get_first : {X : Type 0} (xs ys : List X) (i : ℕ) → i < length xs → slice_get (xs ++ ys) i ≡ slice_get xs i
get_first [] ys i l = absurd (omega arith)
get_first (x ∷ xs) ys zero l = refl
get_first (x ∷ xs) ys (suc i) l = get_first xs ys i (omega arith)

get_second : {X : Type 0} (xs ys : List X) (i n : ℕ) → i ≡ length xs + n → slice_get (xs ++ ys) i ≡ slice_get ys n
get_second [] ys i n e = let k : i ≡ n = omega (arith, e) in ap (slice_get ys) k
get_second (x ∷ xs) ys zero n e = absurd (omega (arith, e))
get_second (x ∷ xs) ys (suc i) n e = get_second xs ys i n (omega (arith, e))

class_nearly : (c : PlainClass) (t : SimpleType) → Some (simple_class c) ≡ Some t → (option_map erase (type_in c) ≡ Some t) ⊎ (t ≡ simple_top)
class_nearly (family_of k) t e = inr (let i : simple_top ≡ t = cc in sym i)
class_nearly (constant_of a) t e = inl e

constant_nearly : (sig : PlainSignature) (c : ℕ) (t : SimpleType) → slice_get (simple_types sig) c ≡ Some t → (option_map erase (constant_type sig c) ≡ Some t) ⊎ (t ≡ simple_top)
constant_nearly [] c t e = absurd (cc)
constant_nearly (d ∷ sig) zero t e = class_nearly d.1.class t e
constant_nearly (d ∷ sig) (suc c) t e = constant_nearly sig c t e

class_more : (c : PlainClass) (t : SimpleType) → option_map erase (type_in c) ≡ Some t → Some (simple_class c) ≡ Some t
class_more (family_of k) t e = absurd (cc)
class_more (constant_of a) t e = e

constant_more : (sig : PlainSignature) (c : ℕ) (t : SimpleType) → option_map erase (constant_type sig c) ≡ Some t → slice_get (simple_types sig) c ≡ Some t
constant_more [] c t e = absurd (cc)
constant_more (d ∷ sig) zero t e = class_more d.1.class t e
constant_more (d ∷ sig) (suc c) t e = constant_more sig c t e

module _ (sig : PlainSignature) (xs : List PlainType) where
  length_types : length (simple_types sig) ≡ length sig
  length_types = length-map sig (λ e. simple_class e.1.class)

  given_nearly : (c : ℕ) (t : SimpleType) (b : Bool) → nat_lt c (length sig) ≡ b → slice_get (simple_types sig ++ map erase xs) c ≡ Some t → (item_constants sig xs c ≡ Some t) ⊎ (t ≡ simple_top)
  given_nearly c t true l e =
      let i : c < length sig = grind (arith, l) in
      let n = length_types in
      ⊎_elim (λ p. inl (ap (λ b. option_map erase (if b then constant_type sig c else slice_get xs (c - length sig))) l ∙ p)) (λ p. inr p)
      (constant_nearly sig c t (sym (get_first (simple_types sig) (map erase xs) c (omega (arith, i, n))) ∙ e))
  given_nearly c t false l e =
      let i : length sig ≤ c = grind (arith, l) in
      let n = length_types in
      inl (ap (λ b. option_map erase (if b then constant_type sig c else slice_get xs (c - length sig))) l
      ∙ sym (slice_get-map erase xs (c - length sig)) ∙ sym (get_second (simple_types sig) (map erase xs) c (c - length sig) (omega (arith, i, n))) ∙ e)

  given_more : (c : ℕ) (t : SimpleType) (b : Bool) → nat_lt c (length sig) ≡ b → item_constants sig xs c ≡ Some t → slice_get (simple_types sig ++ map erase xs) c ≡ Some t
  given_more c t true l e =
      let i : c < length sig = grind (arith, l) in
      let n = length_types in
      get_first (simple_types sig) (map erase xs) c (omega (arith, i, n)) ∙ constant_more sig c t (ap (λ b. option_map erase (if b then constant_type sig c else slice_get xs (c - length sig))) (sym l) ∙ e)
  given_more c t false l e =
      let i : length sig ≤ c = grind (arith, l) in
      let n = length_types in
      get_second (simple_types sig) (map erase xs) c (c - length sig) (omega (arith, i, n)) ∙ slice_get-map erase xs (c - length sig)
      ∙ ap (λ b. option_map erase (if b then constant_type sig c else slice_get xs (c - length sig))) (sym l) ∙ e

  -- what the lists give is what the setting gives
  heads_nearly : (ms : List SimpleType) (g : Context) → Nearly (assigned (simple_types sig ++ map erase xs) ms (map (λ e. e.1) (simple_locals g))) (extended_over g (closed (item_constants sig xs) (slice_get ms)))
  heads_nearly ms [] (Const c) t e = given_nearly c t (nat_lt c (length sig)) refl e
  heads_nearly ms [] (Var i) t e = absurd (cc)
  heads_nearly ms [] (Meta m) t e = inl e
  heads_nearly ms (x ∷ g) (Const c) t e = heads_nearly ms g (Const c) t e
  heads_nearly ms (x ∷ g) (Var zero) t e = inl e
  heads_nearly ms (x ∷ g) (Var (suc i)) t e = heads_nearly ms g (Var i) t e
  heads_nearly ms (x ∷ g) (Meta m) t e = heads_nearly ms g (Meta m) t e

  -- what is decided over the lists is so over the setting
  pub filled_typed : (ms : List SimpleType) (g : Context) (o : PlainObject) (t : SimpleType) → typed (record { constants = simple_types sig ++ map erase xs; metavariables = ms }) (map (λ e. e.1) (simple_locals g)) o t ≡ true
      → SimplyTyped (extended_over g (closed (item_constants sig xs) (slice_get ms))) o t
  filled_typed ms g o t e = typed_nearly o (assigned (simple_types sig ++ map erase xs) ms (map (λ e. e.1) (simple_locals g))) (extended_over g (closed (item_constants sig xs) (slice_get ms))) t (heads_nearly ms g)
      (sound (record { constants = simple_types sig ++ map erase xs; metavariables = ms }) (map (λ e. e.1) (simple_locals g)) o t e)

  heads_more : (ms : List SimpleType) (g : Context) (h : Head) (t : SimpleType) → extended_over g (closed (item_constants sig xs) (slice_get ms)) h ≡ Some t
      → assigned (simple_types sig ++ map erase xs) ms (map (λ e. e.1) (simple_locals g)) h ≡ Some t
  heads_more ms [] (Const c) t e = given_more c t (nat_lt c (length sig)) refl e
  heads_more ms [] (Var i) t e = absurd (cc)
  heads_more ms [] (Meta m) t e = e
  heads_more ms (x ∷ g) (Const c) t e = heads_more ms g (Const c) t e
  heads_more ms (x ∷ g) (Var zero) t e = e
  heads_more ms (x ∷ g) (Var (suc i)) t e = heads_more ms g (Var i) t e
  heads_more ms (x ∷ g) (Meta m) t e = heads_more ms g (Meta m) t e

  -- what is so over the setting is decided over the lists
  pub typed_filled : (ms : List SimpleType) (g : Context) (o : PlainObject) (t : SimpleType) → SimplyTyped (extended_over g (closed (item_constants sig xs) (slice_get ms))) o t
      → typed (record { constants = simple_types sig ++ map erase xs; metavariables = ms }) (map (λ e. e.1) (simple_locals g)) o t ≡ true
  typed_filled ms g o t p = complete (record { constants = simple_types sig ++ map erase xs; metavariables = ms }) (map (λ e. e.1) (simple_locals g)) o t
      (typed_nearly o (extended_over g (closed (item_constants sig xs) (slice_get ms))) (assigned (simple_types sig ++ map erase xs) ms (map (λ e. e.1) (simple_locals g))) t (λ h u e. inl (heads_more ms g h u e)) p)
