-- The reading looks at no place: what is read of a tree without its places is what is read of the tree.
use Rattle.std.proofs.Common.{ℕ, ◌≡◌, refl, ap, ◌∙◌, List, [], ◌∷◌, map, Option, Some, None, option_map, option_and_then}
use Rattle.clf_syntax.specs.declared.tree.Mode.{Mode}
use Rattle.clf_syntax.specs.Tree as core
use Rattle.clf_syntax.specs.TypeTree as core_type
use Rattle.clf_syntax.specs.TypeTree.{SimpleType, base, arrow, simple_with, lax, simple_binding}
use Rattle.clf_sig.specs.Entry.{PlainSignature, family_of, constant_of}
use Rattle.clf_sig.specs.Core.{declares, queries, traces, checks}
use Rattle.celf_sugar.specs.declared.plain.PName.{PName}
use Rattle.celf_sugar.specs.PlainTree.{DesugaredObject, lam, pair, unit, monadic, atomic, hole, DesugaredSpine, end_of_spine, and_then, DesugaredAct, argument, first, second, DesugaredSteps, no_steps, step, DesugaredTuple, end_of_tuple, entry, DesugaredType, family, function, both, top, monad, DesugaredTelescope, end, binding, DesugaredClass, of_family, of_constant, DesugaredBody, declare, query, trace, equal, check}
use Rattle.celf_places.specs.Places.{Place, marked, function_parts, pair_parts, entries_at, next_part, behind_act, behind_spine}
use Rattle.celf_places.specs.Heads.{Local, place_of_head, head, family_head, arguments_of}
use Rattle.celf_places.specs.Combined.{combined, with_mode}
use Rattle.celf_explicit.specs.Objects.{long_at, under_spine, step_entries, pattern_modes, with_pattern, with_steps, expression_of, read_object, read_spine, read_act, read_steps, read_tuple}
use Rattle.celf_places.specs.SimpleTypes.{simple_type, simple_telescope, local_of}
use Rattle.celf_explicit.specs.Types.{read_indices, at_indices, read_type, read_telescope, kind_of}
use Rattle.celf_explicit.specs.Explicit.{read_class, entry_of, read_against, equates_both, both_objects, core_of_body}
use Rattle.celf_spelling.specs.Placeless.{placeless_name, placeless_object, placeless_spine, placeless_act, placeless_steps, placeless_tuple, placeless_type, placeless_telescope, placeless_class, placeless_body}

both_same : {A B C : Type 0} (f : A → B → C) {o u : Option A} {p v : Option B} → o ≡ u → p ≡ v → combined f o p ≡ combined f u v
both_same f {u = u} {p = p} e h = ap (λ x. combined f x p) e ∙ ap (combined f u) h

behind_act_placeless : (t : Place) (a : DesugaredAct) → behind_act t (placeless_act a) ≡ behind_act t a
behind_act_placeless t (argument m o) = refl
behind_act_placeless t first = refl
behind_act_placeless t second = refl

behind_placeless : (t : Place) (es : DesugaredSpine) → behind_spine t (placeless_spine es) ≡ behind_spine t es
behind_placeless t end_of_spine = refl
behind_placeless t (and_then a es) = ap (λ p. behind_spine p (placeless_spine es)) (behind_act_placeless t a) ∙ behind_placeless (behind_act t a) es

module _ (sig : PlainSignature) where
  step_entries_placeless : (ls : List Local) (h : PName) (es : DesugaredSpine) → step_entries sig ls (placeless_name h) (placeless_spine es) ≡ step_entries sig ls h es
  step_entries_placeless ls h es = ap entries_at (behind_placeless (place_of_head (head sig ls h)) es)

  with_steps_placeless : (ls : List Local) (ss : DesugaredSteps) → with_steps sig ls (placeless_steps ss) ≡ with_steps sig ls ss
  with_steps_placeless ls no_steps = refl
  with_steps_placeless ls (step p h es ss) = ap (λ ps. with_steps sig (with_pattern ls ps p) (placeless_steps ss)) (step_entries_placeless ls h es) ∙ with_steps_placeless (with_pattern ls (step_entries sig ls h es) p) ss

  mutual
    pub object_placeless : (ls : List Local) (t : Place) (o : DesugaredObject) → read_object sig ls t (placeless_object o) ≡ read_object sig ls t o
    object_placeless ls t (lam s m n b) = ap (option_map (core.lam (marked m (function_parts t).mode))) (object_placeless ((n, (function_parts t).domain) ∷ ls) (function_parts t).codomain b)
    object_placeless ls t (pair s l r) = both_same core.pair (object_placeless ls (pair_parts t).left l) (object_placeless ls (pair_parts t).right r)
    object_placeless ls t (unit s) = refl
    object_placeless ls t (monadic s ss u) = both_same expression_of (steps_placeless ls ss)
        (ap (λ k. read_tuple sig k (entries_at t) (placeless_tuple u)) (with_steps_placeless ls ss) ∙ tuple_placeless (with_steps sig ls ss) (entries_at t) u)
    object_placeless ls t (atomic s h es) = ap (λ x. option_map (long_at t) (combined under_spine (head sig ls h) x)) (spine_placeless ls (place_of_head (head sig ls h)) es)
    object_placeless ls t (hole s) = refl

    pub spine_placeless : (ls : List Local) (t : Place) (es : DesugaredSpine) → read_spine sig ls t (placeless_spine es) ≡ read_spine sig ls t es
    spine_placeless ls t end_of_spine = refl
    spine_placeless ls t (and_then a es) = both_same (◌∷◌) (act_placeless ls t a) (ap (λ p. read_spine sig ls p (placeless_spine es)) (behind_act_placeless t a) ∙ spine_placeless ls (behind_act t a) es)

    act_placeless : (ls : List Local) (t : Place) (a : DesugaredAct) → read_act sig ls t (placeless_act a) ≡ read_act sig ls t a
    act_placeless ls t (argument m o) = ap (option_map (core.arg (marked m (function_parts t).mode))) (object_placeless ls (function_parts t).domain o)
    act_placeless ls t first = refl
    act_placeless ls t second = refl

    steps_placeless : (ls : List Local) (ss : DesugaredSteps) → read_steps sig ls (placeless_steps ss) ≡ read_steps sig ls ss
    steps_placeless ls no_steps = refl
    steps_placeless ls (step p h es ss) =
        both_same (◌∷◌)
        (ap (λ ps. option_map (with_mode (pattern_modes ps p)) (combined under_spine (head sig ls h) (read_spine sig ls (place_of_head (head sig ls h)) (placeless_spine es)))) (step_entries_placeless ls h es)
        ∙ ap (λ x. option_map (with_mode (pattern_modes (step_entries sig ls h es) p)) (combined under_spine (head sig ls h) x)) (spine_placeless ls (place_of_head (head sig ls h)) es))
        (ap (λ ps. read_steps sig (with_pattern ls ps p) (placeless_steps ss)) (step_entries_placeless ls h es) ∙ steps_placeless (with_pattern ls (step_entries sig ls h es) p) ss)

    tuple_placeless : (ls : List Local) (ps : List (Mode × SimpleType)) (u : DesugaredTuple) → read_tuple sig ls ps (placeless_tuple u) ≡ read_tuple sig ls ps u
    tuple_placeless ls ps end_of_tuple = refl
    tuple_placeless ls ps (entry m o u) = both_same (◌∷◌) (ap (option_map (with_mode (marked m (next_part ps).mode))) (object_placeless ls (next_part ps).place o)) (tuple_placeless ls (next_part ps).later u)

  -- ---- types

  mutual
    pub simple_placeless : (a : DesugaredType) → simple_type sig (placeless_type a) ≡ simple_type sig a
    simple_placeless (family s h is) = refl
    simple_placeless (function s m n a b) = both_same (arrow m) (simple_placeless a) (simple_placeless b)
    simple_placeless (both s a b) = both_same simple_with (simple_placeless a) (simple_placeless b)
    simple_placeless (top s) = refl
    simple_placeless (monad s t) = ap (option_map lax) (simple_entries_placeless t)

    simple_entries_placeless : (t : DesugaredTelescope) → simple_telescope sig (placeless_telescope t) ≡ simple_telescope sig t
    simple_entries_placeless end = refl
    simple_entries_placeless (binding m n a t) = both_same (simple_binding m) (simple_placeless a) (simple_entries_placeless t)

  local_placeless : (n : Option (List ℕ)) (a : DesugaredType) → local_of sig n (placeless_type a) ≡ local_of sig n a
  local_placeless None a = refl
  local_placeless (Some n) a = ap (λ p. (Some n, p)) (simple_placeless a)

  indices_placeless : (ls : List Local) (ps : List (Mode × SimpleType)) (is : List DesugaredObject) → read_indices sig ls ps (map (λ o. placeless_object o) is) ≡ read_indices sig ls ps is
  indices_placeless ls ps [] = refl
  indices_placeless ls ps (o ∷ os) = both_same (◌∷◌) (object_placeless ls (next_part ps).place o) (indices_placeless ls (next_part ps).later os)

  at_placeless : (ls : List Local) (is : List DesugaredObject) (f : Option ℕ) → option_and_then (at_indices sig ls (map (λ o. placeless_object o) is)) f ≡ option_and_then (at_indices sig ls is) f
  at_placeless ls is None = refl
  at_placeless ls is (Some f) = ap (option_map (core_type.family f)) (indices_placeless ls (arguments_of sig f) is)

  mutual
    pub type_placeless : (ls : List Local) (a : DesugaredType) → read_type sig ls (placeless_type a) ≡ read_type sig ls a
    type_placeless ls (family s h is) = at_placeless ls is (family_head sig h)
    type_placeless ls (function s m n a b) = both_same (core_type.function m) (type_placeless ls a) (ap (λ l. read_type sig (l ∷ ls) (placeless_type b)) (local_placeless n a) ∙ type_placeless (local_of sig n a ∷ ls) b)
    type_placeless ls (both s a b) = both_same core_type.both (type_placeless ls a) (type_placeless ls b)
    type_placeless ls (top s) = refl
    type_placeless ls (monad s t) = ap (option_map core_type.monad) (telescope_placeless ls t)

    pub telescope_placeless : (ls : List Local) (t : DesugaredTelescope) → read_telescope sig ls (placeless_telescope t) ≡ read_telescope sig ls t
    telescope_placeless ls end = refl
    telescope_placeless ls (binding m n a t) = both_same (core_type.binding m) (type_placeless ls a) (ap (λ l. read_telescope sig (l ∷ ls) (placeless_telescope t)) (local_placeless n a) ∙ telescope_placeless (local_of sig n a ∷ ls) t)

  -- ---- items

  class_placeless : (c : DesugaredClass) → read_class sig (placeless_class c) ≡ read_class sig c
  class_placeless (of_family t) = ap (option_map (λ s. family_of (kind_of s))) (telescope_placeless [] t)
  class_placeless (of_constant a) = ap (option_map constant_of) (type_placeless [] a)

  against_placeless : (t : DesugaredType) (o : DesugaredObject) → read_against sig (placeless_type t) (placeless_object o) ≡ read_against sig t o
  against_placeless t o = ap (λ p. read_object sig [] p (placeless_object o)) (simple_placeless t) ∙ object_placeless [] (simple_type sig t) o

  pub body_placeless : (b : DesugaredBody) → core_of_body sig (placeless_body b) ≡ core_of_body sig b
  body_placeless (declare name count class) = ap (option_map (λ c. declares name (entry_of count c))) (class_placeless class)
  body_placeless (query d e l a t) = ap (option_map queries) (type_placeless [] t)
  body_placeless (trace n t) = ap (option_map traces) (telescope_placeless [] t)
  body_placeless (equal l r t) = both_same equates_both (both_same both_objects (against_placeless t l) (against_placeless t r)) (type_placeless [] t)
  body_placeless (check o t) = both_same checks (against_placeless t o) (type_placeless [] t)
