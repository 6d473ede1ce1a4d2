-- The tree of a declaration is simply formed where an elaboration is well formed.
use Rattle.std.specs.Prelude.{ℕ, zero, suc, ◌+◌, ◌-◌, ◌≡◌, ◌<◌, ◌≤◌, Bool, true, false, if◌then◌else◌, nat_lt, List, [], ◌∷◌, length, map, Option, Some, None, refl}
use Rattle.std.specs.List.{slice_get}
use Rattle.std.specs.Option.{option_map}
use Rattle.std.proofs.Common.{ap, arith, inl, subst, sym, ◌∙◌}
use Rattle.clf_syntax.proofs.Lists.{get-front}
use Rattle.clf_syntax.specs.declared.tree.Head.{Head}
use Rattle.clf_syntax.specs.declared.tree.Head.TheVariants.{Const, Meta, Var}
use Rattle.clf_syntax.specs.Tree.{PlainObject}
use Rattle.clf_syntax.specs.TypeTree.{PlainType, PlainTelescope, PlainKind, SimpleType, binding, end}
use Rattle.clf_syntax.specs.Simple.{Assignment, Families, SimplyFormed, SimplyFormedKind, SimplyFormedTelescope, SimplyTyped, erase, extended}
use Rattle.clf_syntax.specs.Renaming.{up}
use Rattle.use_contexts.specs.Context.{Context, HasVariable}
use Rattle.hered_subst.specs.Substitution.{Environment, keep, ren_image, under, SubstitutedType, SubstitutedTelescope, in_binding, in_end, in_function, in_top}
use Rattle.hered_subst.specs.TypedEnvironments.{StandsFor, TypedEnvironment, is_metavariable}
use Rattle.hered_subst.proofs.Renamed.{under_in}
use Rattle.hered_subst.proofs.SimpleTyping.{under_zero}
use Rattle.hered_subst.proofs.TypedResults.{typed_has_result}
use Rattle.hered_subst.proofs.Types.{determined_type}
use Rattle.subst_laws.specs.Environments.{Instantiation, instant}
use Rattle.pattern_laws.specs.Equations.{Locals, scoped}
use Rattle.pattern_laws.specs.Instantiations.{Instantiates, Types, closed, over}
use Rattle.pattern_laws.proofs.Instances.{keeps as instance_keeps}
use Rattle.clf_sig.specs.Entry.{PlainClass, PlainSignature, constant_of, constant_type, family_of, simple_class, simple_types, type_in}
use Rattle.clf_rules.specs.WellFormed.{WellFormedKind, WellFormedType}
use Rattle.typing_laws.specs.SimpleTyping.{constants_of, families_of, simple_of}
use Rattle.typing_laws.proofs.Erased.{of_constant, put_type}
use Rattle.typing_laws.proofs.FormedTypes.{well_formed_is_simply_formed}
use Rattle.gathering.proofs.TypedObjects.{variable_simple}
use Rattle.elaboration_laws.specs.InFront.{PutsInFront, StandsInFront}
use Rattle.elaboration_laws.specs.ItemSetting.{ReadTypes, given_type, item_constants}
use Rattle.elaboration_laws.proofs.Composites.{typed_under}
use Rattle.metavars.specs.Fresh.{new_types, scope_of}
use Rattle.metavars.proofs.FreshTyped.{fresh_is_typed}
use Rattle.metavars.proofs.Gets.{get-behind}
use Rattle.celf_sugar.specs.declared.plain.PName.{PName}
use Rattle.celf_sugar.specs.PlainTree.{DesugaredTelescope, DesugaredType}
use Rattle.celf_explicit.specs.Types.{kind_of}
use Rattle.celf_elaboration.specs.Readings.{ReadsTelescope, ReadsType}
use Rattle.celf_elaboration.specs.Declarations.{declared_heads}
use Rattle.celf_elaboration.specs.Fillings.{Filling, Fillings, AreNew, KnownLocals, Scoped, types_of_new}
use Rattle.celf_elaboration.specs.Names.{ImplicitVariable, Meaning, TypedVariable, meaning, types_read, with_simple_type}
use Rattle.reconstruction_laws.specs.Laws.{KindTreeConforms, TreeConforms}
use Rattle.reconstruction_laws.specs.Trees.{HasNewTypes, as_type}
use Rattle.reconstruction_laws.proofs.Rereading.{known_length}
use Rattle.reconstruction_laws.proofs.Conforming.{GoodFilling, GoodFillings, NameStays}
use Rattle.reconstruction_laws.proofs.ConformingTypes.{telescope_back, type_back}
use Rattle.reconstruction_laws.proofs.KindsAsTypes.{one_kind}
use Rattle.reconstruction_laws.proofs.Meanings.{NamedHead, named_head, names_constant, names_implicit, names_local}

pub the_type : {a b : SimpleType} → Some a ≡ Some b → a ≡ b
the_type e = cc

pub no_type : {u : SimpleType} → None ≡ Some u → ⊥
no_type e = cc

scoped_constant : (g : Assignment) (ls : Locals) (c : ℕ) → scoped ls g (Const c) ≡ g (Const c)
scoped_constant g [] c = refl
scoped_constant g (l ∷ ls) c = scoped_constant g ls c

scoped_metavariable : (g : Assignment) (ls : Locals) (m : ℕ) → scoped ls g (Meta m) ≡ g (Meta m)
scoped_metavariable g [] m = refl
scoped_metavariable g (l ∷ ls) m = scoped_metavariable g ls m

-- variables past the locals
scoped_past : (g : Assignment) (ls : Locals) (i : ℕ) → scoped ls g (Var (i + length ls)) ≡ g (Var i)
scoped_past g [] i = ap (λ n. g (Var n)) (none i)
  where
    none : (i : ℕ) → i + 0 ≡ i
    none i = omega arith
scoped_past g (l ∷ ls) i = ap (λ n. scoped (l ∷ ls) g (Var n)) (one (length ls)) ∙ scoped_past g ls i
  where
    one : (n : ℕ) → i + suc n ≡ suc (i + n)
    one n = omega arith

scope_variable : (g : Assignment) (ls : Locals) (i : ℕ) (u : SimpleType) → slice_get (map (λ l. l.type) (scope_of ls)) i ≡ Some u → scoped ls g (Var i) ≡ Some u
scope_variable g [] i u e = absurd (no_type e)
scope_variable g (l ∷ ls) zero u e = e
scope_variable g (l ∷ ls) (suc i) u e = scope_variable g ls i u e

-- a local of a text, with the simple type of its place
record KnownAt (ls : List Scoped) (l : Locals) (i : ℕ) (s : Scoped) : Type 0 where
  type : SimpleType
  place : s.place ≡ Some type
  there : (g : Assignment) → scoped l g (Var i) ≡ Some type

known_at : (ls : List Scoped) (l : Locals) (i : ℕ) (s : Scoped) → KnownLocals ls l → slice_get ls i ≡ Some s → KnownAt ls l i s
known_at [] l i s k e = absurd (no_scoped e)
  where
    no_scoped : {s : Scoped} → None ≡ Some s → ⊥
    no_scoped e = cc
known_at (x ∷ ls) l zero s k e = let (t, m, p, q, r) = k in
    record { type = t; place = ap (λ (s : Scoped). s.place) (sym (the_scoped e)) ∙ p; there = λ g. ap (λ l. scoped l g (Var 0)) q }
  where
    the_scoped : {a b : Scoped} → Some a ≡ Some b → a ≡ b
    the_scoped e = cc
known_at (x ∷ ls) l (suc i) s k e = let (t, m, p, q, r) = k in let a = known_at ls m i s r e in
    record { type = a.type; place = a.place; there = λ g. ap (λ l. scoped l g (Var (suc i))) q ∙ a.there g }

-- the constant that stands at a place has its simple type there
constant_place : (sig : PlainSignature) (c : ℕ) (a : PlainType) → constant_type sig c ≡ Some a → slice_get (simple_types sig) c ≡ Some (erase a)
constant_place sig c a e = at sig c e
  where
    no_plain : {a : PlainType} → None ≡ Some a → ⊥
    no_plain e = cc

    of_class : (x : PlainClass) → type_in x ≡ Some a → Some (simple_class x) ≡ Some (erase a)
    of_class (family_of k) e = absurd (no_plain e)
    of_class (constant_of b) e = ap (option_map erase) e

    at : (s : PlainSignature) (c : ℕ) → constant_type s c ≡ Some a → slice_get (simple_types s) c ≡ Some (erase a)
    at [] c e = absurd (no_plain e)
    at (d ∷ s) zero e = of_class d.1.class e
    at (d ∷ s) (suc c) e = at s c e

none_read : (vs : List TypedVariable) (x : ℕ) (v : ImplicitVariable) → slice_get (map with_simple_type vs) x ≡ Some v → (a : PlainType) × (slice_get (types_read vs) x ≡ Some a) × (v.type ≡ erase a)
none_read [] x v e = absurd (no_variable e)
  where
    no_variable : {v : ImplicitVariable} → None ≡ Some v → ⊥
    no_variable e = cc
none_read (w ∷ vs) zero v e = (w.type, refl, ap (λ (v : ImplicitVariable). v.type) (sym (the_variable e)))
  where
    the_variable : {a b : ImplicitVariable} → Some a ≡ Some b → a ≡ b
    the_variable e = cc
none_read (w ∷ vs) (suc x) v e = none_read vs x v e

-- a given type at a place past the signature, or in it
pub given_past : (sig : PlainSignature) (xs : List PlainType) (x : ℕ) → given_type sig xs (length sig + x) ≡ slice_get xs x
given_past sig xs x = at (nat_lt (length sig + x) (length sig)) refl
  where
    at : (b : Bool) → nat_lt (length sig + x) (length sig) ≡ b → given_type sig xs (length sig + x) ≡ slice_get xs x
    at true i = absurd (beyond (length sig) i)
      where
        beyond : (n : ℕ) → nat_lt (n + x) n ≡ true → ⊥
        beyond n i = grind arith
    at false i = ap (λ b. if b then constant_type sig (length sig + x) else slice_get xs (length sig + x - length sig)) i ∙ ap (slice_get xs) (left (length sig))
      where
        left : (n : ℕ) → n + x - n ≡ x
        left n = omega arith

pub given_below : (sig : PlainSignature) (xs : List PlainType) (c : ℕ) → c < length sig → given_type sig xs c ≡ constant_type sig c
given_below sig xs c h = ap (λ b. if b then constant_type sig c else slice_get xs (c - length sig)) (inside (length sig) h)
  where
    inside : (n : ℕ) → c < n → nat_lt c n ≡ true
    inside n h = grind (arith, h)

pub from_map : {x : Option PlainType} {u : SimpleType} → option_map erase x ≡ Some u → (a : PlainType) × (x ≡ Some a) × (erase a ≡ u)
from_map {x = None} e = absurd (no_type e)
from_map {x = Some a} e = (a, refl, the_type e)

kind_substituted : {v : Environment} {s r : PlainTelescope} → SubstitutedTelescope v s r → SubstitutedType v (as_type (kind_of s)) (as_type (kind_of r))
kind_substituted in_end = in_top
kind_substituted (in_binding p q) = in_function p (kind_substituted q)

formed_telescope : (arguments : Families) (s : PlainTelescope) (g : Assignment) → SimplyFormedKind arguments g (kind_of s) → SimplyFormedTelescope arguments g s
formed_telescope arguments end g p = tt
formed_telescope arguments (binding m a s) g p = (p.0, formed_telescope arguments s (extended (erase a) g) p.1)

formed_arguments : (arguments : Families) (s : PlainTelescope) (g : Assignment) → SimplyFormedTelescope arguments g s → SimplyFormedKind arguments g (kind_of s)
formed_arguments arguments end g p = tt
formed_arguments arguments (binding m a s) g p = (p.0, formed_arguments arguments s (extended (erase a) g) p.1)

module _ (sig : PlainSignature) (vs : List TypedVariable) (metas parameters : Types) (t : Instantiation) (front : Context) (e : Environment) (stands_for : ℕ → Head)
    (read : ReadTypes sig (types_read vs) metas) (inst : Instantiates (item_constants sig (types_read vs)) metas parameters t)
    (puts : PutsInFront sig (types_read vs) parameters t front e stands_for) where
  abbrev xs : List PlainType
  xs = types_read vs

  abbrev g : Assignment
  g = closed (item_constants sig xs) metas

  abbrev z : Assignment
  z = over (item_constants sig xs) parameters

  abbrev y : Assignment
  y = simple_of sig front

  typed_t : TypedEnvironment true g z (instant t)
  typed_t = instance_keeps (item_constants sig xs) metas parameters t inst

  filled_read : (x : ℕ) (a : PlainType) → slice_get xs x ≡ Some a → (b : PlainType) × SubstitutedType (instant t) a b × (erase b ≡ erase a)
  filled_read x a i = let (b, c, p, q) = (typed_has_result true (families_of sig) g z (instant t) typed_t).type a (read x a i).formed in (b, c, q)

  stands : (x : ℕ) (a : PlainType) (i : slice_get xs x ≡ Some a) → StandsInFront front e stands_for (Const (length sig + x)) (filled_read x a i).0
  stands x a i = puts.implicit x a (filled_read x a i).0 i (filled_read x a i).1

  front_type : (i : ℕ) (b : PlainType) → HasVariable front i b → y (Var i) ≡ Some (erase b)
  front_type i b p = variable_simple front (constants_of sig) i b p

  stands_type : (x : ℕ) (a : PlainType) (i : slice_get xs x ≡ Some a) → y (Var (stands x a i).number) ≡ Some (erase a)
  stands_type x a i = let s = stands x a i in front_type s.number s.type s.variable ∙ ap (λ v. Some v) (put_type s.carried ∙ (filled_read x a i).2)

  -- a given constant is one of the signature, or an implicit variable
  typed_constant : (c : ℕ) (u : SimpleType) (b : Bool) → nat_lt c (length sig) ≡ b → item_constants sig xs c ≡ Some u → StandsFor true y u (Const c) (e (Const c))
  typed_constant c u true i k = inl (Const c, puts.constants c (below i), of_constant (constants_of sig) front c ∙ ap (option_map erase) (sym (given_below sig xs c (below i))) ∙ k, refl)
    where
      below : nat_lt c (length sig) ≡ true → c < length sig
      below i = grind (arith, i)
  typed_constant c u false i k = let j = past i in
      let (a, l, q) = from_map (ap (option_map erase) (sym (given_past sig xs (c - length sig))) ∙ ap (item_constants sig xs) (sym j) ∙ k) in
      inl (Var (stands (c - length sig) a l).number, ap (λ n. e (Const n)) j ∙ (stands (c - length sig) a l).put, stands_type (c - length sig) a l ∙ ap (λ v. Some v) q, refl)
    where
      past : nat_lt c (length sig) ≡ false → c ≡ length sig + (c - length sig)
      past i = sums (length sig) i
        where
          sums : (n : ℕ) → nat_lt c n ≡ false → c ≡ n + (c - n)
          sums n i = let h : n ≤ c = grind (arith, i) in omega (arith, h)

  typed_e : TypedEnvironment true z y e
  typed_e (Const c) u i = typed_constant c u (nat_lt c (length sig)) refl i
  typed_e (Var v) u i = let (j, k, l) = puts.parameter v u i in let (b, p, q) = puts.placed v j u i k in inl (Var j, k, front_type j b p ∙ ap (λ v. Some v) q, refl)
  typed_e (Meta m) u i = absurd (no_type i)

  abbrev heads : ℕ → Head
  heads = declared_heads sig

  abbrev us : List ImplicitVariable
  us = map with_simple_type vs

  named : (ls : List Scoped) (n : PName) (m : Meaning) → meaning sig heads us ls n ≡ Some m → NameStays sig heads us (instant t) e g y ls m
  named ls n m i = at (named_head sig heads us ls n m i)
    where
      constant : (c : ℕ) → m.head ≡ Const c → c < length sig → m.place ≡ slice_get (simple_types sig) c → NameStays sig heads us (instant t) e g y ls m
      constant c j h p = record {
        head = Const c;
        once = subst (λ (h : Head). under (length ls) (instant t) h ≡ keep h) (sym j) refl;
        again = subst (λ (h : Head). under (length ls) e h ≡ keep (Const c)) (sym j) (ap (ren_image (up (length ls))) (puts.constants c h));
        no_metavariable = subst (λ (h : Head). is_metavariable h ≡ false) (sym j) refl;
        none_after = refl;
        back = λ l k w q. let (a, x, v) = from_map (sym (of_constant (constants_of sig) front c) ∙ sym (scoped_constant y l c) ∙ q) in
            (ap (scoped l g) j ∙ scoped_constant g l c ∙ ap (option_map erase) (given_below sig xs c h ∙ x) ∙ ap (λ v. Some v) v, p ∙ constant_place sig c a x ∙ ap (λ v. Some v) v);
      }

      local : (i : ℕ) (s : Scoped) → m.head ≡ Var i → i < length ls → slice_get ls i ≡ Some s → m.place ≡ s.place → NameStays sig heads us (instant t) e g y ls m
      local i s j h r p = record {
        head = Var i;
        once = subst (λ (h : Head). under (length ls) (instant t) h ≡ keep h) (sym j) (under_in (length ls) (instant t) i h);
        again = subst (λ (h : Head). under (length ls) e h ≡ keep (Var i)) (sym j) (under_in (length ls) e i h);
        no_metavariable = subst (λ (h : Head). is_metavariable h ≡ false) (sym j) refl;
        none_after = refl;
        back = λ l k w q. let a = known_at ls l i s k r in let same = sym (a.there y) ∙ q in (ap (scoped l g) j ∙ a.there g ∙ same, p ∙ a.place ∙ same);
      }

      implicit : (x : ℕ) (v : ImplicitVariable) → m.head ≡ heads x → slice_get us x ≡ Some v → m.place ≡ Some v.type → NameStays sig heads us (instant t) e g y ls m
      implicit x v j r p = let (a, i, k) = none_read vs x v r in let s = stands x a i in record {
        head = Var (s.number + length ls);
        once = subst (λ (h : Head). under (length ls) (instant t) h ≡ keep h) (sym j) refl;
        again = subst (λ (h : Head). under (length ls) e h ≡ keep (Var (s.number + length ls))) (sym j) (ap (ren_image (up (length ls))) s.put);
        no_metavariable = subst (λ (h : Head). is_metavariable h ≡ false) (sym j) refl;
        none_after = refl;
        back = λ l q w o. let same = sym (stands_type x a i) ∙ sym (scoped_past y l s.number) ∙ ap (λ n. scoped l y (Var (s.number + n))) (known_length ls l q) ∙ o in
            (ap (scoped l g) j ∙ scoped_constant g l (length sig + x) ∙ ap (option_map erase) (given_past sig xs x ∙ i) ∙ same, p ∙ ap (λ v. Some v) k ∙ same);
      }

      at : NamedHead sig heads us ls m → NameStays sig heads us (instant t) e g y ls m
      at (names_constant {c} j h p) = constant c j h p
      at (names_local {i} {l} j h r p) = local i l j h r p
      at (names_implicit {x} {v} j r p) = implicit x v j r p

  good_filling : (f : Filling) → SimplyTyped (scoped f.locals g) f.object f.type → GoodFilling sig heads us (instant t) e g y f
  good_filling f p =
      let (m, a, b) = (typed_has_result true (families_of sig) (scoped f.locals g) (scoped f.locals z) (under (length f.locals) (instant t)) (typed_under g z (instant t) typed_t f.locals)).object f.object f.type p in
      let (x, c, d) = (typed_has_result true (families_of sig) (scoped f.locals z) (scoped f.locals y) (under (length f.locals) e) (typed_under z y e typed_e f.locals)).object m f.type b in
      record { typed = p; result = x; twice = record { between = m; once = a; again = c } }

  good_fillings : (k : ℕ) (fs : Fillings) → AreNew k fs → ((j : ℕ) (u : SimpleType) → slice_get (types_of_new fs) j ≡ Some u → metas (k + j) ≡ Some u) → GoodFillings sig heads us (instant t) e g y fs
  good_fillings k [] p h = tt
  good_fillings k (f ∷ fs) p h = (
    good_filling f (subst (λ (o : PlainObject). SimplyTyped (scoped f.locals g) o f.type) (sym p.0)
        (fresh_is_typed (scoped f.locals g) k (scope_of f.locals) f.type (λ j u i. scoped_metavariable g f.locals (k + j) ∙ h j u (get-front (new_types (scope_of f.locals) f.type) (types_of_new fs) j u i))
        (λ i u j. scope_variable g f.locals i u j))),
    good_fillings (k + length (new_types (scope_of f.locals) f.type)) fs p.1
        (λ j u i. ap metas (moved k (length (new_types (scope_of f.locals) f.type)) j) ∙ h (length (new_types (scope_of f.locals) f.type) + j) u (get-behind (new_types (scope_of f.locals) f.type) (types_of_new fs) j ∙ i)),
  )
    where
      moved : (k n j : ℕ) → k + n + j ≡ k + (n + j)
      moved k n j = omega arith

  pub tree_formed : (written : DesugaredType) (fs : Fillings) (tree filled b : PlainType) → AreNew 0 fs → HasNewTypes metas fs → ReadsType sig heads us [] written fs tree
      → SubstitutedType (instant t) tree filled → SubstitutedType e filled b → WellFormedType sig front b → SimplyFormed (families_of sig) g tree
  tree_formed written fs tree filled b new have reading p q formed =
      let a = type_back sig heads us (instant t) e g y named (good_fillings 0 fs new (λ j u i. ap metas (none j) ∙ have j u i)) reading in
      let between = determined_type (subst (λ (v : Environment). SubstitutedType v tree a.twice.between) (under_zero (instant t)) a.twice.once) p in
      let same = determined_type (subst (λ (v : PlainType). SubstitutedType e v a.result) between (subst (λ (v : Environment). SubstitutedType v a.twice.between a.result) (under_zero e) a.twice.again)) q in
      a.back [] refl (subst (λ (v : PlainType). SimplyFormed (families_of sig) y v) (sym same) ((well_formed_is_simply_formed sig front).types true b formed))
    where
      none : (j : ℕ) → 0 + j ≡ j
      none j = omega arith

  pub kind_tree_formed : (written : DesugaredTelescope) (fs : Fillings) (tree : PlainTelescope) (filled : PlainType) (k : PlainKind) → AreNew 0 fs → HasNewTypes metas fs
      → ReadsTelescope sig heads us [] written fs tree → SubstitutedType (instant t) (as_type (kind_of tree)) filled → SubstitutedType e filled (as_type k) → WellFormedKind sig front k
      → SimplyFormedKind (families_of sig) g (kind_of tree)
  kind_tree_formed written fs tree filled k new have reading p q formed =
      let a = telescope_back sig heads us (instant t) e g y named (good_fillings 0 fs new (λ j u i. ap metas (none j) ∙ have j u i)) reading in
      let between = determined_type (kind_substituted (subst (λ (v : Environment). SubstitutedTelescope v tree a.twice.between) (under_zero (instant t)) a.twice.once)) p in
      let again = kind_substituted (subst (λ (v : Environment). SubstitutedTelescope v a.twice.between a.result) (under_zero e) a.twice.again) in
      let same = one_kind (kind_of a.result) k (determined_type (subst (λ (v : PlainType). SubstitutedType e v (as_type (kind_of a.result))) between again) q) in
      formed_arguments (families_of sig) tree g (a.back [] refl (formed_telescope (families_of sig) a.result y
      (subst (λ (v : PlainKind). SimplyFormedKind (families_of sig) y v) (sym same) ((well_formed_is_simply_formed sig front).kinds true k formed))))
    where
      none : (j : ℕ) → 0 + j ≡ j
      none j = omega arith

pub kind_tree_conforms : KindTreeConforms
kind_tree_conforms sig vs metas written fillings tree is_tree have read front k elaboration formed =
    subst (λ (v : PlainKind). SimplyFormedKind (families_of sig) (closed (item_constants sig (types_read vs)) metas) v) (sym is_tree.is_kind)
    (kind_tree_formed sig vs metas elaboration.parameters elaboration.fills front elaboration.put elaboration.stands_for read elaboration.instantiates elaboration.in_front
    written fillings is_tree.arguments elaboration.filled k is_tree.new have is_tree.reading
    (subst (λ (v : PlainKind). SubstitutedType (instant elaboration.fills) (as_type v) elaboration.filled) is_tree.is_kind elaboration.filling) elaboration.putting formed)

pub tree_conforms : TreeConforms
tree_conforms sig vs metas written fillings tree is_tree have read front b elaboration formed =
    tree_formed sig vs metas elaboration.parameters elaboration.fills front elaboration.put elaboration.stands_for read elaboration.instantiates elaboration.in_front
    written fillings tree elaboration.filled b is_tree.new have is_tree.reading elaboration.filling elaboration.putting formed
