-- An item has a core exactly where each of its names has a meaning and it is explicit; so where it has a core, each of them has one.
use Rattle.std.specs.Prelude.{ℕ, ◌+◌, ◌≡◌, Bool, true, false, not, ◌||◌, ◌&&◌, if◌then◌else◌, List, [], ◌∷◌, ◌++◌, Option, Some, None, is_some, is_none, option_map, option_and_then, refl, nat_lt}
use Rattle.std.specs.Option.{option_or}
use Rattle.std.specs.List.{list_any, list_all, flat_map}
use Rattle.std.proofs.Common.{sym, ◌∙◌, ap, append-nil, append_assoc}
use Rattle.std.proofs.lemmas.List.Folds.{list_any-append}
use Rattle.clf_syntax.specs.declared.tree.Mode.{Mode}
use Rattle.clf_syntax.specs.Word.{same_bytes}
use Rattle.clf_syntax.specs.Tree as core
use Rattle.clf_syntax.specs.TypeTree as core_type
use Rattle.clf_syntax.specs.TypeTree.{SimpleType}
use Rattle.clf_sig.specs.Entry.{constant_of, family_of, PlainSignature, entry_at}
use Rattle.clf_sig.specs.Core.{declares, queries, traces, checks}
use Rattle.celf_sugar.specs.declared.plain.PName.{PName}
use Rattle.celf_sugar.specs.declared.plain.PBinder.{PBinder}
use Rattle.celf_sugar.specs.Earliest.{sooner, earliest}
use Rattle.celf_sugar.specs.PlainTree as plain
use Rattle.celf_names.specs.Names.{family_named, constant_named, is_bound, is_known, begins_with_capital, bound, bound_by_pattern}
use Rattle.celf_unknown.specs.Unknown.{bound_by_steps, unknown_head, unknown_family, unknown_in_object, unknown_in_spine, unknown_in_act, unknown_in_steps, unknown_in_tuple, unknown_in_type, unknown_in_telescope, unknown_in_class, unknown_names, place, first_unknown}
use Rattle.celf_places.specs.Places.{Place, marked, function_parts, pair_parts, entries_at, next_part, behind_act}
use Rattle.celf_places.specs.Heads.{Local, Typed, has_name, local_from, place_of_head, has_no_implicit, all_written, constant_typed, head, family_head, arguments_of}
use Rattle.celf_places.specs.Combined.{combined, with_mode}
use Rattle.celf_explicit.specs.Objects.{long_at, under_spine, step_entries, pattern_modes, with_pattern, with_steps, expression_of, read_object, read_spine, read_act, read_steps, read_tuple}
use Rattle.celf_places.specs.SimpleTypes.{local_of, simple_type}
use Rattle.celf_explicit.specs.Types.{read_indices, at_indices, read_type, read_telescope, kind_of}
use Rattle.celf_explicit.specs.Explicit.{read_class, entry_of, read_against, equates_both, both_objects, core_of_body}
use Rattle.celf_explicit.specs.Explicitness.{needs_nothing, is_explicit_name, family_needs_nothing, is_explicit_family, is_explicit_object, is_explicit_spine, is_explicit_act, are_explicit_steps, is_explicit_tuple, is_explicit_type, is_explicit_telescope, is_explicit_class, is_explicit_body, is_explicit}
use Rattle.celf_explicit.specs.Laws.{CoreWhereExplicit, KnownWhereRead}

abbrev is_nil : {X : Type 0} → List X → Bool
is_nil [] = true
is_nil (x ∷ xs) = false

nil-append : {X : Type 0} (xs ys : List X) → is_nil (xs ++ ys) ≡ (is_nil xs && is_nil ys)
nil-append [] ys = refl
nil-append (x ∷ xs) ys = refl

some-map : {X Y : Type 0} (f : X → Y) (o : Option X) → is_some (option_map f o) ≡ is_some o
some-map f None = refl
some-map f (Some x) = refl

some-combined : {X Y Z : Type 0} (f : X → Y → Z) (o : Option X) (p : Option Y) → is_some (combined f o p) ≡ (is_some o && is_some p)
some-combined f None p = refl
some-combined f (Some x) None = refl
some-combined f (Some x) (Some y) = refl

some-and-then : {X Y : Type 0} (f : X → Option Y) (o : Option X) (b : Bool) → ((x : X) → is_some (f x) ≡ b) → is_some (option_and_then f o) ≡ (is_some o && b)
some-and-then f None b h = refl
some-and-then f (Some x) b h = h x

four : (n e m d : Bool) → ((n && e) && (m && d)) ≡ ((n && m) && (e && d))
four false e m d = refl
four true false false d = refl
four true false true d = refl
four true true m d = refl

-- two parts of which each is read where its names have meanings and it is explicit
joined : {X Y Z N : Type 0} (f : X → Y → Z) (o : Option X) (p : Option Y) (ns ms : List N) (e d : Bool) → is_some o ≡ (is_nil ns && e) → is_some p ≡ (is_nil ms && d)
    → is_some (combined f o p) ≡ (is_nil (ns ++ ms) && (e && d))
joined f o p ns ms e d r s = rw (some-combined f o p, r, s, nil-append ns ms) (four (is_nil ns) e (is_nil ms) d)

mapped : {X Y : Type 0} (f : X → Y) (o : Option X) (b : Bool) → is_some o ≡ b → is_some (option_map f o) ≡ b
mapped f o b e = some-map f o ∙ e

-- ---- scopes: the locals have the names that are bound

abbrev Same : List Local → List (List ℕ) → Type 0
Same ls scope = (name : List ℕ) → is_bound scope name ≡ list_any (has_name name) ls

or-turned : (a b : Bool) → (a || (b || false)) ≡ (b || a)
or-turned true true = refl
or-turned true false = refl
or-turned false true = refl
or-turned false false = refl

same-bound : (ls : List Local) (scope : List (List ℕ)) (n : Option (List ℕ)) (t : Place) → Same ls scope → Same ((n, t) ∷ ls) (scope ++ bound n)
same-bound ls scope None t all name = rw (append-nil scope) (all name)
same-bound ls scope (Some m) t all name = rw (list_any-append (same_bytes name) scope (m ∷ []), all name) (or-turned (list_any (has_name name) ls) (same_bytes name m))

same-along : (ls : List Local) (scope names more : List (List ℕ)) → Same ls ((scope ++ names) ++ more) → Same ls (scope ++ (names ++ more))
same-along ls scope names more all name = rw (← append_assoc scope names more) (all name)

same-nil : (ls : List Local) (scope : List (List ℕ)) → Same ls scope → Same ls (scope ++ [])
same-nil ls scope all name = rw (append-nil scope) (all name)

same-pattern : (bs : List PBinder) (ps : List (Mode × SimpleType)) (ls : List Local) (scope : List (List ℕ)) → Same ls scope → Same (with_pattern ls ps bs) (scope ++ bound_by_pattern bs)
same-pattern [] ps ls scope all = same-nil ls scope all
same-pattern (b ∷ bs) ps ls scope all =
    same-along (with_pattern ls ps (b ∷ bs)) scope (bound b.name) (bound_by_pattern bs)
    (same-pattern bs (next_part ps).later ((b.name, (next_part ps).place) ∷ ls) (scope ++ bound b.name) (same-bound ls scope b.name (next_part ps).place all))

same-steps : (sig : PlainSignature) (ss : plain.DesugaredSteps) (ls : List Local) (scope : List (List ℕ)) → Same ls scope → Same (with_steps sig ls ss) (scope ++ bound_by_steps ss)
same-steps sig plain.no_steps ls scope all = same-nil ls scope all
same-steps sig (plain.step p h es ss) ls scope all =
    same-along (with_steps sig ls (plain.step p h es ss)) scope (bound_by_pattern p) (bound_by_steps ss)
    (same-steps sig ss (with_pattern ls (step_entries sig ls h es) p) (scope ++ bound_by_pattern p) (same-pattern p (step_entries sig ls h es) ls scope all))

same-local : (sig : PlainSignature) (ls : List Local) (scope : List (List ℕ)) (n : Option (List ℕ)) (a : plain.DesugaredType) → Same ls scope → Same (local_of sig n a ∷ ls) (scope ++ bound n)
same-local sig ls scope None a all = same-bound ls scope None None all
same-local sig ls scope (Some n) a all = same-bound ls scope (Some n) (simple_type sig a) all

-- ---- names

chosen : {X : Type 0} (b : Bool) (x : X) (o : Option X) → is_some (if b then Some x else o) ≡ (b || is_some o)
chosen true x o = refl
chosen false x o = refl

local-some : (k : ℕ) (name : List ℕ) (ls : List Local) → is_some (local_from k name ls) ≡ list_any (has_name name) ls
local-some k name [] = refl
local-some k name (l ∷ ls) = chosen (has_name name l) _ (local_from (k + 1) name ls) ∙ ap (λ b. has_name name l || b) (local-some (k + 1) name ls)

kept-some : {X Y : Type 0} (g : X → Y) (h : Bool) (x : X) → is_some (option_map g (if h then Some x else None)) ≡ h
kept-some g true x = refl
kept-some g false x = refl

nil-unless : {X : Type 0} (b : Bool) (x : X) → is_nil (if b then [] else x ∷ []) ≡ b
nil-unless true x = refl
nil-unless false x = refl

needed : (capital : Bool) → false ≡ ((false || (false || capital)) && not capital)
needed true = refl
needed false = refl

module _ (sig : PlainSignature) where
  head-cases : (d : Bool) (l : Option Typed) (b : Bool) (name : List ℕ) (c : Option ℕ) → b ≡ is_some l
      → is_some (if d then option_map (constant_typed sig) (option_and_then (all_written sig d) c) else option_or l (option_map (constant_typed sig) (option_and_then (all_written sig d) c)))
      ≡ ((if d then is_some c else (b || is_some c || begins_with_capital name)) && (if d then true else (if b then true else needs_nothing sig name c)))
  head-cases true l b name None e = refl
  head-cases true l b name (Some c) e = refl
  head-cases false (Some x) b name c e = rw e refl
  head-cases false None b name None e = rw e (needed (begins_with_capital name))
  head-cases false None b name (Some c) e = rw e (kept-some (constant_typed sig) (has_no_implicit (entry_at sig c)) c)

  head-some : (ls : List Local) (scope : List (List ℕ)) (n : PName) → Same ls scope → is_some (head sig ls n) ≡ (is_nil (unknown_head sig scope n) && is_explicit_name sig scope n)
  head-some ls scope n all =
      rw (nil-unless (is_known sig scope n) n)
      (head-cases n.dollar (local_from 0 n.name ls) (is_bound scope n.name) n.name (constant_named sig n.name) (all n.name ∙ sym (local-some 0 n.name ls)))

  family-cases : (d : Bool) (n : PName) (f : Option ℕ)
      → is_some (option_and_then (all_written sig d) f) ≡ (is_nil (if is_some f then [] else n ∷ []) && (if d then true else family_needs_nothing sig f))
  family-cases true n None = refl
  family-cases true n (Some f) = refl
  family-cases false n None = refl
  family-cases false n (Some f) = chosen (has_no_implicit (entry_at sig f)) f None ∙ or-false (has_no_implicit (entry_at sig f))
    where
      or-false : (b : Bool) → (b || false) ≡ b
      or-false true = refl
      or-false false = refl

  -- ---- objects

  mutual
    object-some : (ls : List Local) (scope : List (List ℕ)) (t : Place) (o : plain.DesugaredObject) → Same ls scope
        → is_some (read_object sig ls t o) ≡ (is_nil (unknown_in_object sig scope o) && is_explicit_object sig scope o)
    object-some ls scope t (plain.lam s m n b) all =
        mapped (core.lam (marked m (function_parts t).mode)) (read_object sig ((n, (function_parts t).domain) ∷ ls) (function_parts t).codomain b) _
        (object-some ((n, (function_parts t).domain) ∷ ls) (scope ++ bound n) (function_parts t).codomain b (same-bound ls scope n (function_parts t).domain all))
    object-some ls scope t (plain.pair s l r) all =
        joined core.pair (read_object sig ls (pair_parts t).left l) (read_object sig ls (pair_parts t).right r) (unknown_in_object sig scope l) (unknown_in_object sig scope r) (is_explicit_object sig scope l) (is_explicit_object sig scope r)
        (object-some ls scope (pair_parts t).left l all) (object-some ls scope (pair_parts t).right r all)
    object-some ls scope t (plain.unit s) all = refl
    object-some ls scope t (plain.monadic s ss u) all =
        joined expression_of (read_steps sig ls ss) (read_tuple sig (with_steps sig ls ss) (entries_at t) u) (unknown_in_steps sig scope ss) (unknown_in_tuple sig (scope ++ bound_by_steps ss) u)
        (are_explicit_steps sig scope ss) (is_explicit_tuple sig (scope ++ bound_by_steps ss) u)
        (steps-some ls scope ss all) (tuple-some (with_steps sig ls ss) (scope ++ bound_by_steps ss) (entries_at t) u (same-steps sig ss ls scope all))
    object-some ls scope t (plain.atomic s h es) all =
        mapped (long_at t) (combined under_spine (head sig ls h) (read_spine sig ls (place_of_head (head sig ls h)) es)) _
        (joined under_spine (head sig ls h) (read_spine sig ls (place_of_head (head sig ls h)) es) (unknown_head sig scope h) (unknown_in_spine sig scope es) (is_explicit_name sig scope h) (is_explicit_spine sig scope es)
        (head-some ls scope h all) (spine-some ls scope (place_of_head (head sig ls h)) es all))
    object-some ls scope t (plain.hole s) all = refl

    spine-some : (ls : List Local) (scope : List (List ℕ)) (t : Place) (es : plain.DesugaredSpine) → Same ls scope
        → is_some (read_spine sig ls t es) ≡ (is_nil (unknown_in_spine sig scope es) && is_explicit_spine sig scope es)
    spine-some ls scope t plain.end_of_spine all = refl
    spine-some ls scope t (plain.and_then a es) all =
        joined (◌∷◌) (read_act sig ls t a) (read_spine sig ls (behind_act t a) es) (unknown_in_act sig scope a) (unknown_in_spine sig scope es) (is_explicit_act sig scope a) (is_explicit_spine sig scope es)
        (act-some ls scope t a all) (spine-some ls scope (behind_act t a) es all)

    act-some : (ls : List Local) (scope : List (List ℕ)) (t : Place) (a : plain.DesugaredAct) → Same ls scope
        → is_some (read_act sig ls t a) ≡ (is_nil (unknown_in_act sig scope a) && is_explicit_act sig scope a)
    act-some ls scope t (plain.argument m o) all =
        mapped (core.arg (marked m (function_parts t).mode)) (read_object sig ls (function_parts t).domain o) _ (object-some ls scope (function_parts t).domain o all)
    act-some ls scope t plain.first all = refl
    act-some ls scope t plain.second all = refl

    steps-some : (ls : List Local) (scope : List (List ℕ)) (ss : plain.DesugaredSteps) → Same ls scope
        → is_some (read_steps sig ls ss) ≡ (is_nil (unknown_in_steps sig scope ss) && are_explicit_steps sig scope ss)
    steps-some ls scope plain.no_steps all = refl
    steps-some ls scope (plain.step p h es ss) all =
        joined (◌∷◌) (option_map (with_mode (pattern_modes (step_entries sig ls h es) p)) (combined under_spine (head sig ls h) (read_spine sig ls (place_of_head (head sig ls h)) es)))
        (read_steps sig (with_pattern ls (step_entries sig ls h es) p) ss)
        (unknown_head sig scope h ++ unknown_in_spine sig scope es) (unknown_in_steps sig (scope ++ bound_by_pattern p) ss)
        (is_explicit_name sig scope h && is_explicit_spine sig scope es) (are_explicit_steps sig (scope ++ bound_by_pattern p) ss)
        (mapped (with_mode (pattern_modes (step_entries sig ls h es) p)) (combined under_spine (head sig ls h) (read_spine sig ls (place_of_head (head sig ls h)) es)) _
        (joined under_spine (head sig ls h) (read_spine sig ls (place_of_head (head sig ls h)) es) (unknown_head sig scope h) (unknown_in_spine sig scope es) (is_explicit_name sig scope h) (is_explicit_spine sig scope es)
        (head-some ls scope h all) (spine-some ls scope (place_of_head (head sig ls h)) es all)))
        (steps-some (with_pattern ls (step_entries sig ls h es) p) (scope ++ bound_by_pattern p) ss (same-pattern p (step_entries sig ls h es) ls scope all))

    tuple-some : (ls : List Local) (scope : List (List ℕ)) (ps : List (Mode × SimpleType)) (u : plain.DesugaredTuple) → Same ls scope
        → is_some (read_tuple sig ls ps u) ≡ (is_nil (unknown_in_tuple sig scope u) && is_explicit_tuple sig scope u)
    tuple-some ls scope ps plain.end_of_tuple all = refl
    tuple-some ls scope ps (plain.entry m o u) all =
        joined (◌∷◌) (option_map (with_mode (marked m (next_part ps).mode)) (read_object sig ls (next_part ps).place o)) (read_tuple sig ls (next_part ps).later u)
        (unknown_in_object sig scope o) (unknown_in_tuple sig scope u) (is_explicit_object sig scope o) (is_explicit_tuple sig scope u)
        (mapped (with_mode (marked m (next_part ps).mode)) (read_object sig ls (next_part ps).place o) _ (object-some ls scope (next_part ps).place o all))
        (tuple-some ls scope (next_part ps).later u all)

  -- ---- types

  indices-some : (ls : List Local) (scope : List (List ℕ)) (ps : List (Mode × SimpleType)) (os : List plain.DesugaredObject) → Same ls scope
      → is_some (read_indices sig ls ps os) ≡ (is_nil (flat_map (unknown_in_object sig scope) os) && list_all (is_explicit_object sig scope) os)
  indices-some ls scope ps [] all = refl
  indices-some ls scope ps (o ∷ os) all =
      joined (◌∷◌) (read_object sig ls (next_part ps).place o) (read_indices sig ls (next_part ps).later os) (unknown_in_object sig scope o) (flat_map (unknown_in_object sig scope) os)
      (is_explicit_object sig scope o) (list_all (is_explicit_object sig scope) os)
      (object-some ls scope (next_part ps).place o all) (indices-some ls scope (next_part ps).later os all)

  family-some : (ls : List Local) (scope : List (List ℕ)) (h : PName) (is : List plain.DesugaredObject) → Same ls scope
      → is_some (option_and_then (at_indices sig ls is) (family_head sig h))
      ≡ (is_nil (unknown_family sig h ++ flat_map (unknown_in_object sig scope) is) && (is_explicit_family sig h && list_all (is_explicit_object sig scope) is))
  family-some ls scope h is all =
      some-and-then (at_indices sig ls is) (family_head sig h) (is_nil (flat_map (unknown_in_object sig scope) is) && list_all (is_explicit_object sig scope) is)
      (λ f. mapped (core_type.family f) (read_indices sig ls (arguments_of sig f) is) _ (indices-some ls scope (arguments_of sig f) is all))
      ∙ rw (family-cases h.dollar h (family_named sig h.name), nil-append (unknown_family sig h) (flat_map (unknown_in_object sig scope) is))
      (four (is_nil (unknown_family sig h)) (is_explicit_family sig h) (is_nil (flat_map (unknown_in_object sig scope) is)) (list_all (is_explicit_object sig scope) is))

  mutual
    type-some : (ls : List Local) (scope : List (List ℕ)) (t : plain.DesugaredType) → Same ls scope
        → is_some (read_type sig ls t) ≡ (is_nil (unknown_in_type sig scope t) && is_explicit_type sig scope t)
    type-some ls scope (plain.family s h is) all = family-some ls scope h is all
    type-some ls scope (plain.function s m n a b) all =
        joined (core_type.function m) (read_type sig ls a) (read_type sig (local_of sig n a ∷ ls) b) (unknown_in_type sig scope a) (unknown_in_type sig (scope ++ bound n) b)
        (is_explicit_type sig scope a) (is_explicit_type sig (scope ++ bound n) b)
        (type-some ls scope a all) (type-some (local_of sig n a ∷ ls) (scope ++ bound n) b (same-local sig ls scope n a all))
    type-some ls scope (plain.both s a b) all =
        joined core_type.both (read_type sig ls a) (read_type sig ls b) (unknown_in_type sig scope a) (unknown_in_type sig scope b) (is_explicit_type sig scope a) (is_explicit_type sig scope b)
        (type-some ls scope a all) (type-some ls scope b all)
    type-some ls scope (plain.top s) all = refl
    type-some ls scope (plain.monad s t) all = mapped core_type.monad (read_telescope sig ls t) _ (telescope-some ls scope t all)

    telescope-some : (ls : List Local) (scope : List (List ℕ)) (t : plain.DesugaredTelescope) → Same ls scope
        → is_some (read_telescope sig ls t) ≡ (is_nil (unknown_in_telescope sig scope t) && is_explicit_telescope sig scope t)
    telescope-some ls scope plain.end all = refl
    telescope-some ls scope (plain.binding m n a t) all =
        joined (core_type.binding m) (read_type sig ls a) (read_telescope sig (local_of sig n a ∷ ls) t) (unknown_in_type sig scope a) (unknown_in_telescope sig (scope ++ bound n) t)
        (is_explicit_type sig scope a) (is_explicit_telescope sig (scope ++ bound n) t)
        (type-some ls scope a all) (telescope-some (local_of sig n a ∷ ls) (scope ++ bound n) t (same-local sig ls scope n a all))

  -- ---- items

  none-bound : Same [] []
  none-bound name = refl

  class-some : (c : plain.DesugaredClass) → is_some (read_class sig c) ≡ (is_nil (unknown_in_class sig [] c) && is_explicit_class sig c)
  class-some (plain.of_family t) = mapped (λ s. family_of (kind_of s)) (read_telescope sig [] t) _ (telescope-some [] [] t none-bound)
  class-some (plain.of_constant a) = mapped constant_of (read_type sig [] a) _ (type-some [] [] a none-bound)

  against-some : (t : plain.DesugaredType) (o : plain.DesugaredObject) → is_some (read_against sig t o) ≡ (is_nil (unknown_in_object sig [] o) && is_explicit_object sig [] o)
  against-some t o = object-some [] [] (simple_type sig t) o none-bound

  and-grouped : (a b c : Bool) → ((a && b) && c) ≡ (a && (b && c))
  and-grouped true b c = refl
  and-grouped false b c = refl

  body-some : (b : plain.DesugaredBody) → is_some (core_of_body sig b) ≡ (is_nil (unknown_names sig b) && is_explicit_body sig b)
  body-some (plain.declare name count class) = mapped (λ c. declares name (entry_of count c)) (read_class sig class) _ (class-some class)
  body-some (plain.query d e l a t) = mapped queries (read_type sig [] t) _ (type-some [] [] t none-bound)
  body-some (plain.trace n t) = mapped traces (read_telescope sig [] t) _ (telescope-some [] [] t none-bound)
  body-some (plain.equal l r t) =
      joined equates_both (combined both_objects (read_against sig t l) (read_against sig t r)) (read_type sig [] t) (unknown_in_object sig [] l ++ unknown_in_object sig [] r) (unknown_in_type sig [] t)
      (is_explicit_object sig [] l && is_explicit_object sig [] r) (is_explicit_type sig [] t)
      (joined both_objects (read_against sig t l) (read_against sig t r) (unknown_in_object sig [] l) (unknown_in_object sig [] r) (is_explicit_object sig [] l) (is_explicit_object sig [] r) (against-some t l) (against-some t r))
      (type-some [] [] t none-bound)
      ∙ rw (append_assoc (unknown_in_object sig [] l) (unknown_in_object sig [] r) (unknown_in_type sig [] t), and-grouped (is_explicit_object sig [] l) (is_explicit_object sig [] r) (is_explicit_type sig [] t)) refl
  body-some (plain.check o t) =
      joined checks (read_against sig t o) (read_type sig [] t) (unknown_in_object sig [] o) (unknown_in_type sig [] t) (is_explicit_object sig [] o) (is_explicit_type sig [] t)
      (against-some t o) (type-some [] [] t none-bound)

none-chosen : {X : Type 0} (b : Bool) (y x : X) → is_none (if b then Some y else Some x) ≡ false
none-chosen true y x = refl
none-chosen false y x = refl

none-sooner : {X : Type 0} (f : X → ℕ) (x : X) (o : Option X) → is_none (sooner f (Some x) o) ≡ false
none-sooner f x None = refl
none-sooner f x (Some y) = none-chosen (nat_lt (f y) (f x)) y x

none-earliest : {X : Type 0} (f : X → ℕ) (xs : List X) → is_nil xs ≡ is_none (earliest f xs)
none-earliest f [] = refl
none-earliest f (x ∷ xs) = sym (none-sooner f x (earliest f xs))

pub core_where_explicit : CoreWhereExplicit
core_where_explicit sig item = body-some sig item.body ∙ ap (λ b. b && is_explicit_body sig item.body) (none-earliest place (unknown_names sig item.body))

none-of : {X : Type 0} (o : Option X) (b : Bool) → (is_none o && b) ≡ true → o ≡ None
none-of None b e = refl
none-of (Some x) b e = absurd (cc)

pub known_where_read : KnownWhereRead
known_where_read sig item core e =
    none-of (first_unknown sig item) (is_explicit sig item) (sym (core_where_explicit sig item) ∙ ap is_some e)
