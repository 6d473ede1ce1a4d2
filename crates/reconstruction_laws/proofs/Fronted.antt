-- What is found of a declaration, with variables put in front for its binders, is one of its elaborations.
use Rattle.std.specs.Prelude.{ℕ, zero, suc, ◌+◌, ◌-◌, ◌≡◌, ◌<◌, ◌≤◌, Bool, true, false, if◌then◌else◌, nat_lt, List, [], ◌∷◌, length, Option, Some, None, refl, slice_get}
use Rattle.std.specs.Option.{option_map}
use Rattle.std.proofs.Common.{ap, arith, inl, inr, subst, sym, ⊎_elim, ◌∙◌}
use Rattle.clf_syntax.specs.declared.tree.Head.{Head}
use Rattle.clf_syntax.specs.declared.tree.Head.TheVariants.{Const, Meta, Var}
use Rattle.clf_syntax.specs.Tree.{PlainObject}
use Rattle.clf_syntax.specs.TypeTree.{PlainType, SimpleType}
use Rattle.clf_syntax.specs.Simple.{Assignment, SimplyFormed, SimplyTyped, erase}
use Rattle.use_contexts.specs.Context.{Context, HasVariable}
use Rattle.hered_subst.specs.Substitution.{Environment, Image, keep, put, Substituted, SubstitutedType}
use Rattle.hered_subst.specs.TypedEnvironments.{StandsFor, TypedEnvironment}
use Rattle.hered_subst.proofs.TypedResults.{result_is_typed, typed_has_result}
use Rattle.hered_subst.proofs.Determined.{determined}
use Rattle.hered_subst.proofs.Types.{determined_type}
use Rattle.subst_laws.specs.Environments.{Composed, Follows, Instantiation, image_or, instant}
use Rattle.subst_laws.proofs.Results.{composition}
use Rattle.pattern_laws.specs.Instantiations.{Instantiates, Types, closed, over}
use Rattle.pattern_laws.proofs.Instances.{keeps as instance_keeps}
use Rattle.clf_sig.specs.Entry.{PlainSignature, constant_type}
use Rattle.typing_laws.specs.SimpleTyping.{constants_of, families_of, simple_of}
use Rattle.typing_laws.proofs.Erased.{of_constant, put_type}
use Rattle.gathering.proofs.TypedObjects.{variable_simple}
use Rattle.elaboration_laws.proofs.Composites.{composed, in_turn}
use Rattle.elaboration_laws.specs.InFront.{ElaboratesType, PutsInFront, StandsInFront}
use Rattle.elaboration_laws.specs.ItemSetting.{ReadTypes, item_constants}
use Rattle.celf_elaboration.specs.Names.{types_read}
use Rattle.celf_elaboration.specs.Directives.{no_parameters}
use Rattle.reconstruction_laws.specs.Fronts.{FrontsBinders, IsAllPutIn, IsInFront, binder_constants, named_count}
use Rattle.reconstruction_laws.specs.Laws.{DeclarationIsElaboration}
use Rattle.reconstruction_laws.proofs.TreesFormed.{from_map, given_below, given_past, no_type, the_type}

pub get_below : {X : Type 0} (xs : List X) (i : ℕ) (x : X) → slice_get xs i ≡ Some x → i < length xs
get_below {X = X} [] i x e = absurd (none e)
  where
    none : {x : X} → None ≡ Some x → ⊥
    none e = cc
get_below (y ∷ xs) zero x e = omega arith
get_below (y ∷ xs) (suc i) x e = let h = get_below xs i x e in omega (arith, h)

get_there : {X : Type 0} (xs : List X) (i : ℕ) → i < length xs → (x : X) × (slice_get xs i ≡ Some x)
get_there [] i h = absurd (none h)
  where
    none : {i : ℕ} → i < 0 → ⊥
    none h = omega (arith, h)
get_there (y ∷ xs) zero h = (y, refl)
get_there (y ∷ xs) (suc i) h = get_there xs i (omega (arith, h))

the_number : {i j : ℕ} → keep (Var i) ≡ keep (Var j) → i ≡ j
the_number e = cc

is_below : (c n : ℕ) → nat_lt c n ≡ true → c < n
is_below c n e = grind (arith, e)

is_past : (c n : ℕ) → nat_lt c n ≡ false → n ≤ c
is_past c n e = grind (arith, e)

lt_true : (c n : ℕ) → c < n → nat_lt c n ≡ true
lt_true c n h = grind (arith, h)

lt_false : (c n : ℕ) → n ≤ c → nat_lt c n ≡ false
lt_false c n h = grind (arith, h)

sum_back : (c n : ℕ) → n ≤ c → n + (c - n) ≡ c
sum_back c n h = omega (arith, h)

take_back : (n i : ℕ) → n + i - n ≡ i
take_back n i = omega arith

module _ (sig : PlainSignature) (xs : List PlainType) where
  abbrev bound : ℕ
  bound = named_count sig xs

  -- what is given stands before the unnamed binders
  item_below : (c : ℕ) (u : SimpleType) → item_constants sig xs c ≡ Some u → c < length sig + length xs
  item_below c u e = at (nat_lt c (length sig)) refl
    where
      nearer : (n k : ℕ) → c < n → c < n + k
      nearer n k h = omega (arith, h)

      further : (n k : ℕ) → n ≤ c → c - n < k → c < n + k
      further n k h l = omega (arith, h, l)

      at : (b : Bool) → nat_lt c (length sig) ≡ b → c < length sig + length xs
      at true i = nearer (length sig) (length xs) (is_below c (length sig) i)
      at false i = let h = is_past c (length sig) i in
          let (a, k, q) = from_map (ap (option_map erase) (sym (given_past sig xs (c - length sig))) ∙ ap (item_constants sig xs) (sum_back c (length sig) h) ∙ e) in
          further (length sig) (length xs) h (get_below xs (c - length sig) a k)

  -- an item's constant is an entry's, or that of an implicit variable
  data ItemAs (c : ℕ) (u : SimpleType) : Type 0 where
    as_entry : c < length sig → option_map erase (constant_type sig c) ≡ Some u → ItemAs c u
    as_implicit : (x : ℕ) (a : PlainType) → length sig + x ≡ c → slice_get xs x ≡ Some a → erase a ≡ u → ItemAs c u

  item_as : (c : ℕ) (u : SimpleType) → item_constants sig xs c ≡ Some u → ItemAs c u
  item_as c u e = at (nat_lt c (length sig)) refl
    where
      at : (b : Bool) → nat_lt c (length sig) ≡ b → ItemAs c u
      at true i = let h = is_below c (length sig) i in as_entry h (ap (option_map erase) (sym (given_below sig xs c h)) ∙ e)
      at false i = let h = sum_back c (length sig) (is_past c (length sig) i) in
          let (a, k, q) = from_map (ap (option_map erase) (sym (given_past sig xs (c - length sig))) ∙ ap (item_constants sig xs) h ∙ e) in as_implicit (c - length sig) a h k q

  pub given_bound : (unnamed : List SimpleType) (k : ℕ) (u : SimpleType) → item_constants sig xs k ≡ Some u → binder_constants sig xs unnamed k ≡ Some u
  given_bound unnamed k u i = ap (λ b. if b then item_constants sig xs k else slice_get unnamed (k - bound)) (lt_true k bound (item_below k u i)) ∙ i

  module _ (metas : Types) (read : ReadTypes sig xs metas) (unnamed : List SimpleType) (final : Instantiation) (types : List PlainType) (all : IsAllPutIn sig xs metas unnamed final types)
      (front : Context) (e : Environment) (binder_of : ℕ → ℕ) (fronts : FrontsBinders (length sig) types front e binder_of) where
    abbrev binders : Types
    binders = binder_constants sig xs unnamed

    abbrev parameters : Types
    parameters i = slice_get unnamed i

    -- over the item's constants and metavariables; over constants and binders; over constants and parameters; over the front context
    abbrev g : Assignment
    g = closed (item_constants sig xs) metas

    abbrev c : Assignment
    c = over binders no_parameters

    abbrev z : Assignment
    z = over (item_constants sig xs) parameters

    abbrev y : Assignment
    y = simple_of sig front

    wider : (h : Head) (u : SimpleType) → g h ≡ Some u → closed binders metas h ≡ Some u
    wider (Const k) u i = given_bound unnamed k u i
    wider (Var j) u i = absurd (no_type i)
    wider (Meta m) u i = i

    typed_final : TypedEnvironment true g c (instant final)
    typed_final h u i = instance_keeps binders metas no_parameters final all.instantiates h u (wider h u i)

    -- unnamed binders become parameters
    abbrev parameter_head : ℕ → Bool → Head
    parameter_head k true = Const k
    parameter_head k false = Var (k - bound)

    abbrev unbinding : Environment
    unbinding (Const k) = keep (parameter_head k (nat_lt k bound))
    unbinding (Var i) = keep (Var i)
    unbinding (Meta m) = keep (Meta m)

    typed_unbinding : TypedEnvironment true c z unbinding
    typed_unbinding (Const k) u i = at (nat_lt k bound) refl i
      where
        at : (b : Bool) → nat_lt k bound ≡ b → (if nat_lt k bound then item_constants sig xs k else slice_get unnamed (k - bound)) ≡ Some u → StandsFor true z u (Const k) (unbinding (Const k))
        at true j i = inl (Const k, ap (λ b. keep (parameter_head k b)) j, ap (λ b. if b then item_constants sig xs k else slice_get unnamed (k - bound)) (sym j) ∙ i, refl)
        at false j i = inl (Var (k - bound), ap (λ b. keep (parameter_head k b)) j, ap (λ b. if b then item_constants sig xs k else slice_get unnamed (k - bound)) (sym j) ∙ i, refl)
    typed_unbinding (Var j) u i = absurd (no_type i)
    typed_unbinding (Meta m) u i = absurd (no_type i)

    -- the object that an environment puts for a metavariable
    abbrev object_of : Image → Option PlainObject
    object_of (keep h) = None
    object_of (put n) = Some n

    abbrev filling : Environment
    filling = in_turn g c z (instant final) unbinding typed_final typed_unbinding

    fills : Instantiation
    fills m = object_of (filling (Meta m))

    -- what a metavariable of the item becomes
    record Filled (m : ℕ) (u : SimpleType) : Type 0 where
      before : PlainObject
      after : PlainObject
      finally : final m ≡ Some before
      filled : fills m ≡ Some after
      becomes : Substituted unbinding before after
      typed : SimplyTyped z after u

    final_image : (m : ℕ) (o : PlainObject) → final m ≡ Some o → instant final (Meta m) ≡ put o
    final_image m o i = ap (image_or (Meta m)) i

    kept_put : {h : Head} {n : PlainObject} → keep h ≡ put n → ⊥
    kept_put i = cc

    the_object : {n o : PlainObject} → put n ≡ put o → n ≡ o
    the_object i = cc

    filled_at : (m : ℕ) (u : SimpleType) → metas m ≡ Some u → Filled m u
    unfolding fills
    filled_at m u i = let (o, p, q) = all.instantiates m u i in let (x, r, k) = (typed_has_result true (λ f. None) c z unbinding typed_unbinding).object o u q in
        ⊎_elim (λ a. absurd (kept_put (sym a.1 ∙ final_image m o p)))
        (λ a. record {
          before = o;
          after = x;
          finally = p;
          filled = ap object_of a.3 ∙ ap (λ n. Some n) (determined (subst (λ (n : PlainObject). Substituted unbinding n a.1) (the_object (sym a.2 ∙ final_image m o p)) a.4) r);
          becomes = r;
          typed = k;
        }) (composed g c z (instant final) unbinding typed_final typed_unbinding (Meta m) u i)

    instantiates : Instantiates (item_constants sig xs) metas parameters fills
    instantiates m u i = let f = filled_at m u i in (f.after, f.filled, f.typed)

    typed_fills : TypedEnvironment true g z (instant fills)
    typed_fills = instance_keeps (item_constants sig xs) metas parameters fills instantiates

    fills_do_both : Composed g (instant final) unbinding (instant fills)
    fills_do_both (Const k) u i = inl (Const k, refl, ap (λ b. keep (parameter_head k b)) (sym (lt_true k bound (item_below k u i))))
    fills_do_both (Var j) u i = absurd (no_type i)
    fills_do_both (Meta m) u i = let f = filled_at m u i in inr (f.before, f.after, final_image m f.before f.finally, ap (image_or (Meta m)) f.filled, f.becomes)

    -- variables of the front context for implicit variables and parameters
    putting : Environment
    putting (Const k) = e (Const k)
    putting (Var i) = e (Const (bound + i))
    putting (Meta m) = e (Meta m)

    putting_does_both : Composed c unbinding putting e
    unfolding putting
    putting_does_both (Const k) u i = at (nat_lt k bound) refl
      where
        at : (b : Bool) → nat_lt k bound ≡ b → Follows putting (unbinding (Const k)) (e (Const k))
        at true j = inl (Const k, ap (λ b. keep (parameter_head k b)) j, refl)
        at false j = inl (Var (k - bound), ap (λ b. keep (parameter_head k b)) j, ap (λ n. e (Const n)) (sym (sum_back k bound (is_past k bound j))))
    putting_does_both (Var j) u i = absurd (no_type i)
    putting_does_both (Meta m) u i = absurd (no_type i)

    front_type : (j : ℕ) (b : PlainType) → HasVariable front j b → y (Var j) ≡ Some (erase b)
    front_type j b p = variable_simple front (constants_of sig) j b p

    in_front_type : (x : ℕ) (a : PlainType) (j : ℕ) → IsInFront (length sig) front e x a j → y (Var j) ≡ Some (erase a)
    in_front_type x a j p = front_type j p.type p.variable ∙ ap (λ v. Some v) (put_type p.carried)

    -- the type of an implicit variable's binder, and that of an unnamed one
    implicit_type : (x : ℕ) (a : PlainType) → slice_get xs x ≡ Some a → (b : PlainType) × (slice_get types x ≡ Some b) × (erase b ≡ erase a)
    implicit_type x a i = let (b, k) = get_there types x (first (length types) (length xs) (length unnamed) all.count (get_below xs x a i)) in (b, k, put_type (all.implicit x a b i k))
      where
        first : (n k l : ℕ) → n ≡ k + l → x < k → x < n
        first n k l e h = omega (arith, e, h)

    unnamed_type : (i : ℕ) (u : SimpleType) → parameters i ≡ Some u → (b : PlainType) × (slice_get types (length xs + i) ≡ Some b) × (erase b ≡ u)
    unnamed_type i u p = let (b, k) = get_there types (length xs + i) (last (length types) (length xs) (length unnamed) all.count (get_below unnamed i u p)) in (b, k, the_type (sym (all.others i b k) ∙ p))
      where
        last : (n k l : ℕ) → n ≡ k + l → i < l → k + i < n
        last n k l e h = omega (arith, e, h)

    past_entries : (n k i : ℕ) → n + k + i ≡ n + (k + i)
    past_entries n k i = omega arith

    typed_putting : TypedEnvironment true z y putting
    unfolding putting
    typed_putting (Const k) u i = at (item_as k u i)
      where
        at : ItemAs k u → StandsFor true y u (Const k) (putting (Const k))
        at (as_entry h p) = inl (Const k, fronts.constants k h, of_constant (constants_of sig) front k ∙ p, refl)
        at (as_implicit x a h p q) = let (b, k', l) = implicit_type x a p in let (j, r, s) = fronts.each x b k' in
            inl (Var j, ap (λ n. e (Const n)) (sym h) ∙ r.put, in_front_type x b j r ∙ ap (λ v. Some v) (l ∙ q), refl)
    typed_putting (Var i) u p = let (b, k, l) = unnamed_type i u p in let (j, r, s) = fronts.each (length xs + i) b k in
        inl (Var j, ap (λ n. e (Const n)) (past_entries (length sig) (length xs) i) ∙ r.put, in_front_type (length xs + i) b j r ∙ ap (λ v. Some v) l, refl)
    typed_putting (Meta m) u i = absurd (no_type i)

    -- what becomes of a type by way of its objects over parameters
    record Through (tree elaborated : PlainType) : Type 0 where
      filled : PlainType
      by_fills : SubstitutedType (instant fills) tree filled
      by_putting : SubstitutedType putting filled elaborated

    through : (tree core elaborated : PlainType) → SimplyFormed (families_of sig) g tree → SubstitutedType (instant final) tree core → SubstitutedType e core elaborated → Through tree elaborated
    through tree core elaborated formed p q =
        let formed_core = ((result_is_typed true (families_of sig) g c (instant final) typed_final).type tree core formed p).0 in
        let (filled, r, formed_filled, s) = (typed_has_result true (families_of sig) c z unbinding typed_unbinding).type core formed_core in
        let (x, k, l, m) = (typed_has_result true (families_of sig) z y putting typed_putting).type filled formed_filled in
        let same = determined_type ((composition (families_of sig) c z y unbinding putting e typed_unbinding typed_putting putting_does_both).type core filled x formed_core r k) q in record {
          filled = filled;
          by_fills = (composition (families_of sig) g c z (instant final) unbinding (instant fills) typed_final typed_unbinding fills_do_both).type tree core filled formed p r;
          by_putting = subst (λ (v : PlainType). SubstitutedType putting filled v) same k;
        }

    -- the head of a binder: the constant of an implicit variable, or a parameter
    abbrev head_by : ℕ → Bool → Head
    head_by x true = Const (length sig + x)
    head_by x false = Var (x - length xs)

    abbrev head_of_binder : ℕ → Head
    head_of_binder x = head_by x (nat_lt x (length xs))

    stands_for : ℕ → Head
    stands_for j = head_of_binder (binder_of j)

    implicit_head : (x j : ℕ) → x < length xs → binder_of j ≡ x → stands_for j ≡ Const (length sig + x)
    unfolding stands_for
    implicit_head x j h i = ap head_of_binder i ∙ ap (head_by x) (lt_true x (length xs) h)

    unnamed_head : (i j : ℕ) → binder_of j ≡ length xs + i → stands_for j ≡ Var i
    unfolding stands_for
    unnamed_head i j k = ap head_of_binder k ∙ ap (head_by (length xs + i)) (lt_false (length xs + i) (length xs) (more (length xs))) ∙ ap Var (take_back (length xs) i)
      where
        more : (n : ℕ) → n ≤ n + i
        more n = omega arith

    stands_implicit : (x : ℕ) (a b : PlainType) → slice_get xs x ≡ Some a → SubstitutedType (instant fills) a b → StandsInFront front putting stands_for (Const (length sig + x)) b
    unfolding putting
    stands_implicit x a b i p = let (d, k, l) = implicit_type x a i in let (j, r, s) = fronts.each x d k in let w = through a d r.type (read x a i).formed (all.implicit x a d i k) r.carried in record {
      number = j;
      type = r.type;
      put = r.put;
      back = implicit_head x j (get_below xs x a i) s;
      variable = r.variable;
      carried = subst (λ (v : PlainType). SubstitutedType putting v r.type) (determined_type w.by_fills p) w.by_putting;
    }

    parameter_put : (i : ℕ) (u : SimpleType) → parameters i ≡ Some u → (j : ℕ) × (putting (Var i) ≡ keep (Var j)) × (stands_for j ≡ Var i)
    unfolding putting
    parameter_put i u p = let (b, k, l) = unnamed_type i u p in let (j, r, s) = fronts.each (length xs + i) b k in
        (j, ap (λ n. e (Const n)) (past_entries (length sig) (length xs) i) ∙ r.put, unnamed_head i j s)

    parameter_placed : (i j : ℕ) (u : SimpleType) → parameters i ≡ Some u → putting (Var i) ≡ keep (Var j) → (b : PlainType) × HasVariable front j b × (erase b ≡ u)
    unfolding putting
    parameter_placed i j u p q = let (b, k, l) = unnamed_type i u p in let (j', r, s) = fronts.each (length xs + i) b k in
        let same = the_number (sym (ap (λ n. e (Const n)) (past_entries (length sig) (length xs) i) ∙ r.put) ∙ q) in
        (r.type, subst (λ n. HasVariable front n r.type) same r.variable, put_type r.carried ∙ l)

    binder_known : (j : ℕ) (b : PlainType) → HasVariable front j b → z (stands_for j) ≡ Some (erase b)
    binder_known j b v = let (a, i, r) = fronts.only j b v in
        let same = the_type (sym (in_front_type (binder_of j) a j r) ∙ front_type j b v) in at a i (nat_lt (binder_of j) (length xs)) refl ∙ ap (λ v. Some v) same
      where
        at : (a : PlainType) → slice_get types (binder_of j) ≡ Some a → (b : Bool) → nat_lt (binder_of j) (length xs) ≡ b → z (stands_for j) ≡ Some (erase a)
        at a i true k = let (d, l) = get_there xs (binder_of j) (is_below (binder_of j) (length xs) k) in
            ap z (implicit_head (binder_of j) j (is_below (binder_of j) (length xs) k) refl) ∙ ap (option_map erase) (given_past sig xs (binder_of j) ∙ l)
            ∙ ap (λ v. Some v) (sym (put_type (all.implicit (binder_of j) d a l i)))
        at a i false k = let h = sum_back (binder_of j) (length xs) (is_past (binder_of j) (length xs) k) in
            ap z (unnamed_head (binder_of j - length xs) j (sym h)) ∙ all.others (binder_of j - length xs) a (ap (slice_get types) h ∙ i)

    puts : PutsInFront sig xs parameters fills front putting stands_for
    unfolding putting
    puts = record {
      constants = fronts.constants;
      implicit = stands_implicit;
      parameter = parameter_put;
      known = binder_known;
      placed = parameter_placed;
    }

    pub elaborates : (tree core elaborated : PlainType) → SimplyFormed (families_of sig) g tree → SubstitutedType (instant final) tree core → SubstitutedType e core elaborated → ElaboratesType sig xs metas tree front elaborated
    elaborates tree core elaborated formed p q = let w = through tree core elaborated formed p q in record {
      parameters = parameters;
      fills = fills;
      put = putting;
      stands_for = stands_for;
      filled = w.filled;
      instantiates = instantiates;
      in_front = puts;
      filling = w.by_fills;
      putting = w.by_putting;
    }

pub declaration_is_elaboration : DeclarationIsElaboration
declaration_is_elaboration sig vs metas tree read formed unnamed final types all front e binder_of fronts persistent core elaborated p q written = record {
  front = front;
  type = elaborated;
  elaborates = elaborates sig (types_read vs) metas read unnamed final types all front e binder_of fronts tree core elaborated formed p q;
  persistent = persistent;
  implicit = refl;
  class = refl;
}
