-- The simple types that implicit variables are determined with have the families of the signature.
use Rattle.std.proofs.Common.{subst}
use Rattle.std.proofs.lemmas.List.Elements.{All-cons, All-nil}
use Rattle.std.specs.List.{All, cons_option, filter, filter_map, find}
use Rattle.std.specs.Option.{option_and_then, option_map}
use Rattle.std.specs.Prelude.{Bool, List, None, Option, Some, [], cond, false, if◌then◌else◌, length, map, nat_lt, slice_get, suc, true, zero, ℕ, ◌++◌, ◌∷◌, ◌≡◌}
use Rattle.clf_syntax.specs.TypeTree.{SimpleType, arrow}
use Rattle.clf_syntax.specs.declared.tree.Mode.{Mode}
use Rattle.clf_sig.specs.Entry.{PlainSignature, entry_at, simple_types}
use Rattle.clf_rules.specs.WellFormed.{WellFormedSignature}
use Rattle.celf_surface.specs.declared.surface.SMode.{SMode}
use Rattle.celf_sugar.specs.Earliest.{sooner}
use Rattle.celf_sugar.specs.PlainTree.{DesugaredAct, DesugaredBody, DesugaredClass, DesugaredObject, DesugaredSpine, DesugaredSteps, DesugaredTelescope, DesugaredTuple, DesugaredType, and_then, argument, atomic, binding, both, check, declare, end, end_of_spine, end_of_tuple, entry, equal, family, first, function, hole, lam, monad, monadic, no_steps, of_constant, of_family, pair, query, second, step, top, trace, unit}
use Rattle.celf_sugar.specs.declared.plain.PBinder.{PBinder}
use Rattle.celf_sugar.specs.declared.plain.PName.{PName}
use Rattle.celf_names.specs.Names.{constant_named, family_named}
use Rattle.celf_places.specs.Combined.{combined}
use Rattle.celf_places.specs.Heads.{Local, Typed, arguments_of, local_from}
use Rattle.celf_places.specs.Places.{Place, behind_act, behind_spine, entries_at, function_parts, marked, next_part, pair_parts}
use Rattle.celf_places.specs.SimpleTypes.{local_of, simple_type}
use Rattle.celf_implicit.specs.Occurrences.{AppliedLocal, Occurrence, after_step, after_steps, applied_local, are_distinct, at_head, distinct_locals, in_act, in_class, in_indices, in_object, in_spine, in_steps, in_telescope, in_tuple, in_type, inside, local_argument, local_named, locals_applied_to, occurrences, where_distinct, written_parts}
use Rattle.celf_implicit.specs.Rounds.{after_rounds, at_distinct, determined, determined_by, first_of_each, found, from_locals, is_open, is_other, start}
use Rattle.celf_implicit.specs.Scopes.{Binders, Scope, bind, bind_pattern, outermost, under}
use Rattle.celf_implicit.specs.Variables.{PlainImplicit, after_arguments, constant_or, has_name, head_place, is_variable, left_out, local_or, variable_place}
use Rattle.filled_laws.specs.Families.{HasFamilies}
use Rattle.filled_laws.specs.Laws.{DeterminedHaveFamilies}
use Rattle.filled_laws.proofs.Places.{EntriesOver, HeadOver, IsOver, LocalsOver, arguments_over, codomain_over, constant_over, domain_over, dropped_over, entries_over, left_over, local_from_over, local_over, next_over, right_over, spine_over, type_over}

module _ (sig : PlainSignature) where
  abbrev VariablesOver : List PlainImplicit → Type 0
  VariablesOver [] = Unit {0}
  VariablesOver (x ∷ xs) = IsOver sig x.place × VariablesOver xs

  abbrev AppliedOver : List AppliedLocal → Type 0
  AppliedOver [] = Unit {0}
  AppliedOver (a ∷ as_) = IsOver sig a.place × AppliedOver as_

  abbrev AtOver : Option (List AppliedLocal) → Type 0
  AtOver None = Unit {0}
  AtOver (Some as_) = AppliedOver as_

  abbrev OneOver : Option AppliedLocal → Type 0
  OneOver None = Unit {0}
  OneOver (Some a) = IsOver sig a.place

  abbrev OccurrencesOver : List Occurrence → Type 0
  OccurrencesOver [] = Unit {0}
  OccurrencesOver (o ∷ os) = (IsOver sig o.place × AtOver o.at_locals) × OccurrencesOver os

  abbrev ScopeOver : Scope → Type 0
  ScopeOver s = LocalsOver sig s.binders.locals

  both_over : (os ps : List Occurrence) → OccurrencesOver os → OccurrencesOver ps → OccurrencesOver (os ++ ps)
  both_over [] ps h k = k
  both_over (o ∷ os) ps h k = (h.0, both_over os ps h.1 k)

  -- ---- what an occurrence is applied to

  head_applied : (ms : List Mode) (m : SMode) (h : Option Typed) → HeadOver sig h → OneOver (option_map (applied_local ms m) h)
  head_applied ms m None h = tt
  head_applied ms m (Some x) h = h

  named_over : (bs : Binders) (m : SMode) (o : DesugaredObject) → LocalsOver sig bs.locals → OneOver (local_named bs m o)
  named_over bs m (atomic p n end_of_spine) h = here n.dollar
    where
      here : (b : Bool) → OneOver (if b then None else option_map (applied_local bs.modes m) (local_from 0 n.name bs.locals))
      here true = tt
      here false = head_applied bs.modes m (local_from 0 n.name bs.locals) (local_from_over sig 0 n.name bs.locals h)
  named_over bs m (atomic p n (and_then a es)) h = tt
  named_over bs m (lam p q n b) h = tt
  named_over bs m (pair p l r) h = tt
  named_over bs m (unit p) h = tt
  named_over bs m (monadic p ss u) h = tt
  named_over bs m (hole p) h = tt

  argument_over : (bs : Binders) (a : DesugaredAct) → LocalsOver sig bs.locals → OneOver (local_argument bs a)
  argument_over bs (argument m o) h = named_over bs m o h
  argument_over bs first h = tt
  argument_over bs second h = tt

  joined_over : (a : Option AppliedLocal) (as_ : Option (List AppliedLocal)) → OneOver a → AtOver as_ → AtOver (combined (◌∷◌) a as_)
  joined_over (Some a) (Some as_) h k = (h, k)
  joined_over (Some a) None h k = tt
  joined_over None as_ h k = tt

  applied_over : (bs : Binders) (es : DesugaredSpine) → LocalsOver sig bs.locals → AtOver (locals_applied_to bs es)
  applied_over bs end_of_spine h = tt
  applied_over bs (and_then a es) h = joined_over (local_argument bs a) (locals_applied_to bs es) (argument_over bs a h) (applied_over bs es h)

  distinct_over : (as_ : Option (List AppliedLocal)) → AtOver as_ → AtOver (option_and_then where_distinct as_)
  distinct_over None h = tt
  distinct_over (Some as_) h = here (are_distinct as_)
    where
      here : (b : Bool) → AtOver (if b then Some as_ else None)
      here true = h
      here false = tt

  -- ---- scopes

  pattern_over : (ps : List (Mode × SimpleType)) (bs : List PBinder) (b : Binders) → EntriesOver sig ps → LocalsOver sig b.locals
      → LocalsOver sig (bind_pattern ps bs b).locals
  pattern_over ps [] b h k = k
  pattern_over ps (p ∷ bs) b h k = let (x, y) = next_over sig ps h in
      pattern_over (next_part ps).later bs (bind (marked p.mode (next_part ps).mode) (p.name, (next_part ps).place) b) y (x, k)

  variable_over : (xs : List PlainImplicit) (n : List ℕ) → VariablesOver xs → IsOver sig (variable_place xs n)
  variable_over [] n h = tt
  variable_over (x ∷ xs) n h = here (has_name n x) (variable_over xs n h.1)
    where
      here : (b : Bool) → IsOver sig (variable_place xs n) → IsOver sig (if b then x.place else variable_place xs n)
      here true k = h.0
      here false k = k

  after_over : (n : ℕ) (p : Place) → IsOver sig p → IsOver sig (after_arguments n p)
  after_over zero p h = h
  after_over (suc n) p h = after_over n (function_parts p).codomain (codomain_over sig p h)

  module _ (formed : WellFormedSignature sig) (xs : List PlainImplicit) (known : VariablesOver xs) where
    constant_place_over : (dollar : Bool) (c : Option ℕ) (p : Place) → IsOver sig p → IsOver sig (constant_or sig dollar c p)
    constant_place_over dollar (Some c) p h = after_over (left_out dollar (entry_at sig c)) (slice_get (simple_types sig) c) (constant_over sig formed c)
    constant_place_over dollar None p h = h

    local_place_over : (h : Option Typed) (p : Place) → HeadOver sig h → IsOver sig p → IsOver sig (local_or h p)
    local_place_over (Some x) p h k = h
    local_place_over None p h k = k

    head_over : (ls : List Local) (n : PName) → LocalsOver sig ls → IsOver sig (head_place sig xs ls n)
    head_over ls n h = here n.dollar
      where
        here : (b : Bool) → IsOver sig (if b then constant_or sig true (constant_named sig n.name) None
            else local_or (local_from 0 n.name ls) (constant_or sig false (constant_named sig n.name) (variable_place xs n.name)))
        here true = constant_place_over true (constant_named sig n.name) None tt
        here false = local_place_over (local_from 0 n.name ls) (constant_or sig false (constant_named sig n.name) (variable_place xs n.name))
            (local_from_over sig 0 n.name ls h)
            (constant_place_over false (constant_named sig n.name) (variable_place xs n.name) (variable_over xs n.name known))

    step_over : (s : Scope) (p : List PBinder) (h : PName) (es : DesugaredSpine) → ScopeOver s → ScopeOver (after_step sig xs s p h es)
    step_over s p h es k = pattern_over (entries_at (behind_spine (head_place sig xs s.binders.locals h) es)) p s.binders
        (entries_over sig (behind_spine (head_place sig xs s.binders.locals h) es) (spine_over sig (head_place sig xs s.binders.locals h) es (head_over s.binders.locals h k))) k

    steps_over : (s : Scope) (ss : DesugaredSteps) → ScopeOver s → ScopeOver (after_steps sig xs s ss)
    steps_over s no_steps k = k
    steps_over s (step p h es ss) k = steps_over (after_step sig xs s p h es) ss (step_over s p h es k)

    -- ---- the walk

    here_over : (s : Scope) (as_ : Option (List AppliedLocal)) (t : Place) (n : PName) → AtOver as_ → IsOver sig t → OccurrencesOver (at_head sig xs s as_ t n)
    here_over s as_ t n h k = here (is_variable sig s.binders.locals n)
      where
        here : (b : Bool) → OccurrencesOver (if b then record { name = n; checked = s.checked; at_locals = as_; place = t } ∷ [] else [])
        here true = ((k, h), tt)
        here false = tt

    behind_over : (t : Place) (a : DesugaredAct) → IsOver sig t → IsOver sig (behind_act t a)
    behind_over t a k = spine_over sig t (and_then a end_of_spine) k

    mutual
      object_over : (s : Scope) (t : Place) (o : DesugaredObject) → ScopeOver s → IsOver sig t → OccurrencesOver (in_object sig xs s t o)
      object_over s t (lam p m n b) h k = object_over (under (marked m (function_parts t).mode) (n, (function_parts t).domain) s)
          (function_parts t).codomain b (domain_over sig t k, h) (codomain_over sig t k)
      object_over s t (pair p l r) h k = both_over (in_object sig xs s (pair_parts t).left l) (in_object sig xs s (pair_parts t).right r)
          (object_over s (pair_parts t).left l h (left_over sig t k)) (object_over s (pair_parts t).right r h (right_over sig t k))
      object_over s t (unit p) h k = tt
      object_over s t (monadic p ss u) h k = both_over (in_steps sig xs s ss) (in_tuple sig xs (after_steps sig xs s ss) (entries_at t) u)
          (in_steps_over s ss h) (tuple_over (after_steps sig xs s ss) (entries_at t) u (steps_over s ss h) (entries_over sig t k))
      object_over s t (atomic p n es) h k = both_over (at_head sig xs s (distinct_locals s.binders es) t n)
          (in_spine sig xs (inside sig xs s n) (head_place sig xs s.binders.locals n) es)
          (here_over s (distinct_locals s.binders es) t n (distinct_over (locals_applied_to s.binders es) (applied_over s.binders es h)) k)
          (acts_over (inside sig xs s n) (head_place sig xs s.binders.locals n) es h (head_over s.binders.locals n h))
      object_over s t (hole p) h k = tt

      acts_over : (s : Scope) (t : Place) (es : DesugaredSpine) → ScopeOver s → IsOver sig t → OccurrencesOver (in_spine sig xs s t es)
      acts_over s t end_of_spine h k = tt
      acts_over s t (and_then a es) h k = both_over (in_act sig xs s t a) (in_spine sig xs s (behind_act t a) es) (one_act_over s t a h k)
          (acts_over s (behind_act t a) es h (behind_over t a k))

      one_act_over : (s : Scope) (t : Place) (a : DesugaredAct) → ScopeOver s → IsOver sig t → OccurrencesOver (in_act sig xs s t a)
      one_act_over s t (argument m o) h k = object_over s (function_parts t).domain o h (domain_over sig t k)
      one_act_over s t first h k = tt
      one_act_over s t second h k = tt

      in_steps_over : (s : Scope) (ss : DesugaredSteps) → ScopeOver s → OccurrencesOver (in_steps sig xs s ss)
      in_steps_over s no_steps h = tt
      in_steps_over s (step p n es ss) h =
          both_over (at_head sig xs s None None n ++ in_spine sig xs (inside sig xs s n) (head_place sig xs s.binders.locals n) es)
          (in_steps sig xs (after_step sig xs s p n es) ss)
          (both_over (at_head sig xs s None None n) (in_spine sig xs (inside sig xs s n) (head_place sig xs s.binders.locals n) es) (here_over s None None n tt tt)
          (acts_over (inside sig xs s n) (head_place sig xs s.binders.locals n) es h (head_over s.binders.locals n h)))
          (in_steps_over (after_step sig xs s p n es) ss (step_over s p n es h))

      tuple_over : (s : Scope) (ps : List (Mode × SimpleType)) (u : DesugaredTuple) → ScopeOver s → EntriesOver sig ps
          → OccurrencesOver (in_tuple sig xs s ps u)
      tuple_over s ps end_of_tuple h k = tt
      tuple_over s ps (entry m o u) h k = let (x, y) = next_over sig ps k in
          both_over (in_object sig xs s (next_part ps).place o) (in_tuple sig xs s (next_part ps).later u) (object_over s (next_part ps).place o h x)
          (tuple_over s (next_part ps).later u h y)

    indices_over : (s : Scope) (ps : List (Mode × SimpleType)) (os : List DesugaredObject) → ScopeOver s → EntriesOver sig ps
        → OccurrencesOver (in_indices sig xs s ps os)
    indices_over s ps [] h k = tt
    indices_over s ps (o ∷ os) h k = let (x, y) = next_over sig ps k in
        both_over (in_object sig xs s (next_part ps).place o) (in_indices sig xs s (next_part ps).later os) (object_over s (next_part ps).place o h x)
        (indices_over s (next_part ps).later os h y)

    written_over : (dollar : Bool) (f : Option ℕ) → EntriesOver sig (written_parts sig dollar f)
    written_over dollar None = tt
    written_over dollar (Some f) = dropped_over sig (left_out dollar (entry_at sig f)) (arguments_of sig f) (arguments_over sig formed f)

    mutual
      in_type_over : (s : Scope) (t : DesugaredType) → ScopeOver s → OccurrencesOver (in_type sig xs s t)
      in_type_over s (family p n is) h = indices_over s (written_parts sig n.dollar (family_named sig n.name)) is h
          (written_over n.dollar (family_named sig n.name))
      in_type_over s (function p m n a b) h = both_over (in_type sig xs s a) (in_type sig xs (under m (local_of sig n a) s) b) (in_type_over s a h)
          (in_type_over (under m (local_of sig n a) s) b (local_over sig n a, h))
      in_type_over s (both p a b) h = both_over (in_type sig xs s a) (in_type sig xs s b) (in_type_over s a h) (in_type_over s b h)
      in_type_over s (top p) h = tt
      in_type_over s (monad p t) h = in_telescope_over s t h

      in_telescope_over : (s : Scope) (t : DesugaredTelescope) → ScopeOver s → OccurrencesOver (in_telescope sig xs s t)
      in_telescope_over s end h = tt
      in_telescope_over s (binding m n a t) h = both_over (in_type sig xs s a) (in_telescope sig xs (under m (local_of sig n a) s) t) (in_type_over s a h)
          (in_telescope_over (under m (local_of sig n a) s) t (local_over sig n a, h))

    class_over : (c : DesugaredClass) → OccurrencesOver (in_class sig xs c)
    class_over (of_family t) = in_telescope_over outermost t tt
    class_over (of_constant a) = in_type_over outermost a tt

    occurrences_over : (body : DesugaredBody) → OccurrencesOver (occurrences sig xs body)
    occurrences_over (declare n i c) = class_over c
    occurrences_over (query d e l a t) = in_type_over outermost t tt
    occurrences_over (trace n t) = in_telescope_over outermost t tt
    occurrences_over (equal l r t) = both_over (in_object sig xs outermost (simple_type sig t) l)
        (in_object sig xs outermost (simple_type sig t) r ++ in_type sig xs outermost t)
        (object_over outermost (simple_type sig t) l tt (type_over sig t))
        (both_over (in_object sig xs outermost (simple_type sig t) r) (in_type sig xs outermost t) (object_over outermost (simple_type sig t) r tt (type_over sig t)) (in_type_over outermost t tt))
    occurrences_over (check o t) = both_over (in_object sig xs outermost (simple_type sig t) o) (in_type sig xs outermost t)
        (object_over outermost (simple_type sig t) o tt (type_over sig t)) (in_type_over outermost t tt)

  -- ---- rounds

  abbrev VariableOver : Option PlainImplicit → Type 0
  VariableOver None = Unit {0}
  VariableOver (Some x) = IsOver sig x.place

  arrow_over : (m : Mode) (p q : Place) → IsOver sig p → IsOver sig q → IsOver sig (combined (arrow m) p q)
  arrow_over m (Some t) (Some u) h k = (h, k)
  arrow_over m (Some t) None h k = tt
  arrow_over m None q h k = tt

  functions_over : (as_ : List AppliedLocal) (t : Place) → AppliedOver as_ → IsOver sig t → IsOver sig (from_locals as_ t)
  functions_over [] t h k = k
  functions_over (a ∷ as_) t h k = arrow_over a.mode a.place (from_locals as_ t) h.0 (functions_over as_ t h.1 k)

  kept_open : (xs : List PlainImplicit) (os : List Occurrence) → OccurrencesOver os → OccurrencesOver (filter (is_open xs) os)
  kept_open xs [] h = tt
  kept_open xs (o ∷ os) h = here (is_open xs o) (kept_open xs os h.1)
    where
      here : (b : Bool) → OccurrencesOver (filter (is_open xs) os) → OccurrencesOver (cond b (o ∷ filter (is_open xs) os) (filter (is_open xs) os))
      here true k = (h.0, k)
      here false k = k

  distinct_determined : (o : Occurrence) (as_ : Option (List AppliedLocal)) → IsOver sig o.place → AtOver as_ → VariableOver (at_distinct o as_)
  distinct_determined o None h k = tt
  distinct_determined o (Some as_) h k = functions_over as_ o.place k h

  determined_over : (o : Occurrence) → IsOver sig o.place × AtOver o.at_locals → VariableOver (determined_by o)
  determined_over o h = here o.checked
    where
      here : (b : Bool) → VariableOver (if b then at_distinct o o.at_locals else None)
      here true = distinct_determined o o.at_locals h.0 h.1
      here false = tt

  added_over : (x : Option PlainImplicit) (xs : List PlainImplicit) → VariableOver x → VariablesOver xs → VariablesOver (cons_option x xs)
  added_over None xs h k = k
  added_over (Some x) xs h k = (h, k)

  found_over : (os : List Occurrence) → OccurrencesOver os → VariablesOver (filter_map determined_by os)
  found_over [] h = tt
  found_over (o ∷ os) h = added_over (determined_by o) (filter_map determined_by os) (determined_over o h.0) (found_over os h.1)

  others_over : (x : PlainImplicit) (xs : List PlainImplicit) → VariablesOver xs → VariablesOver (filter (is_other x) xs)
  others_over x [] h = tt
  others_over x (y ∷ ys) h = here (is_other x y) (others_over x ys h.1)
    where
      here : (b : Bool) → VariablesOver (filter (is_other x) ys) → VariablesOver (cond b (y ∷ filter (is_other x) ys) (filter (is_other x) ys))
      here true k = (h.0, k)
      here false k = k

  one_found : (n : List ℕ) (xs : List PlainImplicit) → VariablesOver xs → VariableOver (find (has_name n) xs)
  one_found n [] h = tt
  one_found n (x ∷ xs) h = here (has_name n x) (one_found n xs h.1)
    where
      here : (b : Bool) → VariableOver (find (has_name n) xs) → VariableOver (cond b (Some x) (find (has_name n) xs))
      here true k = h.0
      here false k = k

  sooner_over : (x y : Option PlainImplicit) → VariableOver x → VariableOver y → VariableOver (sooner start x y)
  sooner_over None y h k = k
  sooner_over (Some x) None h k = h
  sooner_over (Some x) (Some y) h k = here (nat_lt (start y) (start x))
    where
      here : (b : Bool) → VariableOver (if b then Some y else Some x)
      here true = k
      here false = h

  firsts_over : (xs : List PlainImplicit) → VariablesOver xs → VariablesOver (first_of_each xs)
  firsts_over [] h = tt
  firsts_over (x ∷ xs) h = let k = firsts_over xs h.1 in
      added_over (sooner start (Some x) (find (has_name x.name) (first_of_each xs))) (filter (is_other x) (first_of_each xs))
      (sooner_over (Some x) (find (has_name x.name) (first_of_each xs)) h.0 (one_found x.name (first_of_each xs) k)) (others_over x (first_of_each xs) k)

  more_over : (xs ys : List PlainImplicit) → VariablesOver xs → VariablesOver ys → VariablesOver (xs ++ ys)
  more_over [] ys h k = k
  more_over (x ∷ xs) ys h k = (h.0, more_over xs ys h.1 k)

  module _ (formed : WellFormedSignature sig) (body : DesugaredBody) where
    rounds_over : (n : ℕ) → VariablesOver (after_rounds sig body n)
    rounds_over zero = tt
    rounds_over (suc n) = let h = rounds_over n in let xs = after_rounds sig body n in
        more_over xs (first_of_each (found sig body xs)) h (firsts_over (found sig body xs)
        (found_over (filter (is_open xs) (occurrences sig xs body)) (kept_open xs (occurrences sig xs body) (occurrences_over formed xs h body))))

  each_over : (xs : List PlainImplicit) (ts : List SimpleType) → VariablesOver xs → map (λ x. x.place) xs ≡ map (λ t. Some t) ts → All (HasFamilies sig) ts
  each_over [] [] h e = All-nil (HasFamilies sig)
  each_over [] (t ∷ ts) h e = absurd (cc)
  each_over (x ∷ xs) [] h e = absurd (cc)
  each_over (x ∷ xs) (t ∷ ts) h e = All-cons (HasFamilies sig) t ts (subst (IsOver sig) (the_first e) h.0) (each_over xs ts h.1 (the_rest e))
    where
      the_first : {a b : Place} {as_ bs : List Place} → a ∷ as_ ≡ b ∷ bs → a ≡ b
      the_first e = cc

      the_rest : {a b : Place} {as_ bs : List Place} → a ∷ as_ ≡ b ∷ bs → as_ ≡ bs
      the_rest e = cc

pub determined_have_families : DeterminedHaveFamilies
determined_have_families sig body ts formed e = each_over sig (determined sig body) ts (rounds_over sig formed body (length (occurrences sig [] body))) e
