-- The tree that an object is printed as is read as the object: where it is eta-long, its heads have names and what occurs in it is named.
use Rattle.std.proofs.Common.{ℕ, ◌≡◌, ◌+◌, ◌<◌, ◌^◌, true, false, refl, sym, ap, subst, ◌∙◌, List, [], ◌∷◌, ◌++◌, length, Some, arith, add-one, ⊎_elim}
use Rattle.std.specs.Prelude.{max}
use Rattle.std.proofs.Math.Nat.{le-max_left, le-max_right}
use Rattle.clf_syntax.specs.declared.tree.Mode.{Mode}
use Rattle.clf_syntax.specs.declared.tree.Mode.TheVariants.{Persistent, Affine, Linear}
use Rattle.clf_syntax.specs.declared.tree.Head.{Head}
use Rattle.clf_syntax.specs.Tree.{PlainObject, lam, pair, unit, monadic, atomic, hole, PlainNeutral, head_alone, app, fst, snd, PlainExpression, step, done, PlainTuple, empty, entry, PlainElimination, arg, first, second, eliminated, spine_on, steps_on, tuple_of}
use Rattle.clf_syntax.specs.TypeTree.{SimpleType, base, arrow, simple_with, lax, SimpleTelescope, simple_end, simple_binding}
use Rattle.clf_syntax.specs.Simple.{Assignment, simple_modes, no_holes, SimplyTypedWith, NeutralSimplyTypedWith, ExpressionSimplyTypedWith, TupleSimplyTypedWith}
use Rattle.clf_syntax.specs.Occurs.{occurs, occurs_neutral, occurs_expression, occurs_tuple}
use Rattle.clf_printer.specs.Depth.{scope_depth, neutral_depth, expression_depth, tuple_depth}
use Rattle.clf_sig.specs.Entry.{PlainSignature}
use Rattle.celf_sugar.specs.PlainTree.{DesugaredAct, argument, spine_of}
use Rattle.celf_sugar.specs.PlainTree as plain
use Rattle.celf_places.specs.Places.{Place, marked, entries_of, entries_at, behind_act, behind_spine}
use Rattle.celf_places.specs.Heads.{Local, place_of_head, head}
use Rattle.celf_places.specs.Combined.{combined, with_mode}
use Rattle.celf_places.proofs.Options.{combined-some}
use Rattle.typing_laws.specs.SimpleTyping.{constants_of}
use Rattle.celf_explicit.specs.Objects.{long_at, under_spine, step_entries, pattern_modes, with_pattern, with_steps, expression_of, read_object, read_spine, read_act, read_steps, read_tuple}
use Rattle.celf_spelling.specs.Printed.{mark_for, printed_binders, printed_head, printed_object, printed_acts, printed_steps, printed_result, printed_tuple}
use Rattle.celf_spelling.specs.Printable.{HasNames, NeutralHasNames, ExpressionHasNames, TupleHasNames}
use Rattle.celf_meaning.proofs.Made.{mapped, combined_of, the_same}
use Rattle.celf_meaning.proofs.Scopes.{Scope, locals_in, types_in, pushed, NamedWhere, named_left, named_right, named_under, named_pushed, pushed_length, pushed_types, pushed_locals}
use Rattle.celf_meaning.proofs.Meanings.{FindsItself, head_means}

-- at a place of its mode a mark means that mode
pub marked-for : (m : Mode) → marked (mark_for m) m ≡ m
marked-for Persistent = refl
marked-for Affine = refl
marked-for Linear = refl

pattern_modes_of : (s : SimpleTelescope) (level : ℕ) → pattern_modes (entries_of s) (printed_binders level (simple_modes s)) ≡ simple_modes s
pattern_modes_of simple_end level = refl
pattern_modes_of (simple_binding m t s) level = ap (λ k. k ∷ pattern_modes (entries_of s) (printed_binders (level + 1) (simple_modes s))) (marked-for m) ∙ ap (λ ms. m ∷ ms) (pattern_modes_of s (level + 1))

pub less_left : (k a b n : ℕ) → k + max a b < n → k + a < n
less_left k a b n h = omega (arith, le-max_left a b)

pub less_right : (k a b n : ℕ) → k + max a b < n → k + b < n
less_right k a b n h = omega (arith, le-max_right a b)

never : {X : Type 0} → false ≡ true → X
never e = absurd (cc)

spine_more : (es : List PlainElimination) (e : PlainElimination) (r : PlainNeutral) → spine_on (es ++ e ∷ []) r ≡ eliminated e (spine_on es r)
spine_more [] e r = refl
spine_more (d ∷ es) e r = spine_more es e (eliminated d r)

behind_more : (p : Place) (xs : List DesugaredAct) (a : DesugaredAct) → behind_spine p (spine_of (xs ++ a ∷ [])) ≡ behind_act (behind_spine p (spine_of xs)) a
behind_more p [] a = refl
behind_more p (x ∷ xs) a = behind_more (behind_act p x) xs a

read_more : (sig : PlainSignature) (ls : List Local) (p : Place) (xs : List DesugaredAct) (a : DesugaredAct) (es : List PlainElimination) (e : PlainElimination)
    → read_spine sig ls p (spine_of xs) ≡ Some es → read_act sig ls (behind_spine p (spine_of xs)) a ≡ Some e → read_spine sig ls p (spine_of (xs ++ a ∷ [])) ≡ Some (es ++ e ∷ [])
read_more sig ls p [] a es e h last = combined_of (◌∷◌) last refl ∙ ap (λ fs. Some (fs ++ e ∷ [])) (the_same h)
read_more sig ls p (x ∷ xs) a es e h last =
    let parts = combined-some (◌∷◌) (read_act sig ls p x) (read_spine sig ls (behind_act p x) (spine_of xs)) es h in
    combined_of (◌∷◌) parts.2 (read_more sig ls (behind_act p x) xs a parts.1 e parts.3 last) ∙ ap (λ fs. Some (fs ++ e ∷ [])) parts.4

module _ (sig : PlainSignature) where
  abbrev pub constants : Assignment
  constants = constants_of sig

  -- The printed neutral is read as this one, whose simple type is t.
  pub record NeutralRead (g : Scope) (r : PlainNeutral) (t : SimpleType) : Type 0 where
    pub start : Head
    pub from : SimpleType
    pub spine : List PlainElimination
    pub starts : head sig (locals_in g) (printed_head sig (length g) r) ≡ Some (start, Some from)
    pub goes_on : read_spine sig (locals_in g) (Some from) (spine_of (printed_acts sig (length g) r)) ≡ Some spine
    pub is : spine_on spine (head_alone start) ≡ r
    pub ends : behind_spine (Some from) (spine_of (printed_acts sig (length g) r)) ≡ Some t

  -- The printed expression is read as this one, whose tuple stands at the entries of s.
  pub record ExpressionRead (g : Scope) (e : PlainExpression) (s : SimpleTelescope) : Type 0 where
    pub steps : List (List Mode × PlainNeutral)
    pub entries : List (Mode × PlainObject)
    pub steps_read : read_steps sig (locals_in g) (printed_steps sig (length g) e) ≡ Some steps
    pub tuple_read : read_tuple sig (with_steps sig (locals_in g) (printed_steps sig (length g) e)) (entries_of s) (printed_result sig (length g) e) ≡ Some entries
    pub is : steps_on steps (done (tuple_of entries)) ≡ e

  pub record TupleRead (g : Scope) (t : PlainTuple) (s : SimpleTelescope) : Type 0 where
    pub entries : List (Mode × PlainObject)
    pub tuple_read : read_tuple sig (locals_in g) (entries_of s) (printed_tuple sig (length g) t) ≡ Some entries
    pub is : tuple_of entries ≡ t

  whole : (g : Scope) (r : PlainNeutral) (t : SimpleType) → NeutralRead g r t
      → combined under_spine (head sig (locals_in g) (printed_head sig (length g) r)) (read_spine sig (locals_in g) (place_of_head (head sig (locals_in g) (printed_head sig (length g) r))) (spine_of (printed_acts sig (length g) r))) ≡ Some r
  whole g r t q = combined_of under_spine q.starts (ap (λ h. read_spine sig (locals_in g) (place_of_head h) (spine_of (printed_acts sig (length g) r))) q.starts ∙ q.goes_on) ∙ ap Some q.is

  -- one elimination more
  one_more : (g : Scope) (r : PlainNeutral) (u t : SimpleType) (a : DesugaredAct) (e : PlainElimination) (q : NeutralRead g r u)
      → read_act sig (locals_in g) (Some u) a ≡ Some e → behind_act (Some u) a ≡ Some t
      → (read_spine sig (locals_in g) (Some q.from) (spine_of (printed_acts sig (length g) r ++ a ∷ [])) ≡ Some (q.spine ++ e ∷ []))
      × (spine_on (q.spine ++ e ∷ []) (head_alone q.start) ≡ eliminated e r)
      × (behind_spine (Some q.from) (spine_of (printed_acts sig (length g) r ++ a ∷ [])) ≡ Some t)
  one_more g r u t a e q last next = (
    read_more sig (locals_in g) (Some q.from) (printed_acts sig (length g) r) a q.spine e q.goes_on (ap (λ p. read_act sig (locals_in g) p a) q.ends ∙ last),
    spine_more q.spine e (head_alone q.start) ∙ ap (eliminated e) q.is,
    behind_more (Some q.from) (printed_acts sig (length g) r) a ∙ ap (λ p. behind_act p a) q.ends ∙ next,
  )

  -- a step, whose right side has the monad of u
  step_read : (g : Scope) (u s : SimpleTelescope) (r : PlainNeutral) (e : PlainExpression) → NeutralRead g r (lax u) → ExpressionRead (pushed u g) e s → ExpressionRead g (step (simple_modes u) r e) s
  step_read g u s r e x y =
      let ls = locals_in g in
      let ms = simple_modes u in
      let acts = spine_of (printed_acts sig (length g) r) in
      let name = printed_head sig (length g) r in
      let bs = printed_binders (length g) ms in
      let entries_are : step_entries sig ls name acts ≡ entries_of u = ap (λ h. entries_at (behind_spine (place_of_head h) acts)) x.starts ∙ ap entries_at x.ends in
      let locals_are : with_pattern ls (step_entries sig ls name acts) bs ≡ locals_in (pushed u g) = ap (λ ps. with_pattern ls ps bs) entries_are ∙ pushed_locals u g in
      let modes_are : pattern_modes (step_entries sig ls name acts) bs ≡ ms = ap (λ ps. pattern_modes ps bs) entries_are ∙ pattern_modes_of u (length g) in
      let deep : length g + length ms ≡ length (pushed u g) = sym (pushed_length u g) in
      record {
        steps = (ms, r) ∷ y.steps;
        entries = y.entries;
        steps_read = combined_of (◌∷◌) (mapped (with_mode (pattern_modes (step_entries sig ls name acts) bs)) (whole g r (lax u) x) ∙ ap (λ ks. Some (ks, r)) modes_are)
            (ap (λ l. read_steps sig l (printed_steps sig (length g + length ms) e)) locals_are ∙ ap (λ k. read_steps sig (locals_in (pushed u g)) (printed_steps sig k e)) deep ∙ y.steps_read);
        tuple_read = ap (λ l. read_tuple sig (with_steps sig l (printed_steps sig (length g + length ms) e)) (entries_of s) (printed_result sig (length g + length ms) e)) locals_are
            ∙ ap (λ k. read_tuple sig (with_steps sig (locals_in (pushed u g)) (printed_steps sig k e)) (entries_of s) (printed_result sig k e)) deep
            ∙ y.tuple_read;
        is = ap (step ms r) y.is;
      }

  module _ (distinct : FindsItself sig) where
    mutual
      pub object_read : (g : Scope) (n : PlainObject) (t : SimpleType) → SimplyTypedWith (no_holes false) (types_in constants g) n t → HasNames sig n → length g + scope_depth n < 2 ^ 64 → NamedWhere g (λ i. occurs i n)
          → read_object sig (locals_in g) (Some t) (printed_object sig (length g) n) ≡ Some n
      object_read g (lam m b) t (d, c, e, p) names small named =
          let inner : read_object sig (locals_in ((true, d) ∷ g)) (Some c) (printed_object sig (length g + 1) b) ≡ Some b
          = ap (λ l. read_object sig (locals_in ((true, d) ∷ g)) (Some c) (printed_object sig l b)) (add-one (length g))
          ∙ object_read ((true, d) ∷ g) b c p names (omega arith) (named_under g true d (λ i. occurs i b) (λ q. refl) named) in
          subst (λ u. read_object sig (locals_in g) (Some u) (printed_object sig (length g) (lam m b)) ≡ Some (lam m b)) (sym e)
          (mapped (lam (marked (mark_for m) m)) inner ∙ ap (λ k. Some (lam k b)) (marked-for m))
      object_read g (pair l r) t (c, d, e, p, q) names small named =
          subst (λ u. read_object sig (locals_in g) (Some u) (printed_object sig (length g) (pair l r)) ≡ Some (pair l r)) (sym e)
          (combined_of pair (object_read g l c p names.0 (less_left (length g) (scope_depth l) (scope_depth r) _ small) (named_left g (λ i. occurs i l) (λ i. occurs i r) named))
          (object_read g r d q names.1 (less_right (length g) (scope_depth l) (scope_depth r) _ small) (named_right g (λ i. occurs i l) (λ i. occurs i r) named)))
      object_read g unit t p names small named = refl
      object_read g (monadic x) t (s, e, p) names small named =
          let y = expression_read g x s p names small named in
          subst (λ u. read_object sig (locals_in g) (Some u) (printed_object sig (length g) (monadic x)) ≡ Some (monadic x)) (sym e)
          (combined_of expression_of y.steps_read y.tuple_read ∙ ap (λ k. Some (monadic k)) y.is)
      object_read g (atomic n) t (stands, p) names small named =
          let x = neutral_read g n t p names small named in
          ⊎_elim (λ (f, e). subst (λ u. read_object sig (locals_in g) (Some u) (printed_object sig (length g) (atomic n)) ≡ Some (atomic n)) (sym e) (mapped (long_at (Some (base f))) (whole g n t x)))
          (λ (k, s, h, e, w). never w) stands
      object_read g hole t p names small named = never p

      neutral_read : (g : Scope) (r : PlainNeutral) (t : SimpleType) → NeutralSimplyTypedWith (no_holes false) (types_in constants g) r t → NeutralHasNames sig r → length g + neutral_depth r < 2 ^ 64 → NamedWhere g (λ i. occurs_neutral i r)
          → NeutralRead g r t
      neutral_read g (head_alone h) t p names small named = record {
        start = h;
        from = t;
        spine = [];
        starts = head_means sig distinct g h t (omega arith) p names named;
        goes_on = refl;
        is = refl;
        ends = refl;
      }
      neutral_read g (app m r n) t (d, p, q) names small named =
          let x = neutral_read g r (arrow m d t) p names.0 (less_left (length g) (neutral_depth r) (scope_depth n) _ small) (named_left g (λ i. occurs_neutral i r) (λ i. occurs i n) named) in
          let y = object_read g n d q names.1 (less_right (length g) (neutral_depth r) (scope_depth n) _ small) (named_right g (λ i. occurs_neutral i r) (λ i. occurs i n) named) in
          let more = one_more g r (arrow m d t) t (argument (mark_for m) (printed_object sig (length g) n)) (arg m n) x (mapped (arg (marked (mark_for m) m)) y ∙ ap (λ k. Some (arg k n)) (marked-for m)) refl in
          record { start = x.start; from = x.from; spine = x.spine ++ arg m n ∷ []; starts = x.starts; goes_on = more.0; is = more.1; ends = more.2 }
      neutral_read g (fst r) t (d, p) names small named =
          let x = neutral_read g r (simple_with t d) p names small named in
          let more = one_more g r (simple_with t d) t plain.first first x refl refl in
          record { start = x.start; from = x.from; spine = x.spine ++ first ∷ []; starts = x.starts; goes_on = more.0; is = more.1; ends = more.2 }
      neutral_read g (snd r) t (c, p) names small named =
          let x = neutral_read g r (simple_with c t) p names small named in
          let more = one_more g r (simple_with c t) t plain.second second x refl refl in
          record { start = x.start; from = x.from; spine = x.spine ++ second ∷ []; starts = x.starts; goes_on = more.0; is = more.1; ends = more.2 }

      expression_read : (g : Scope) (e : PlainExpression) (s : SimpleTelescope) → ExpressionSimplyTypedWith (no_holes false) (types_in constants g) e s → ExpressionHasNames sig e → length g + expression_depth e < 2 ^ 64
          → NamedWhere g (λ i. occurs_expression i e) → ExpressionRead g e s
      expression_read g (step ms r e) s (u, p, m, q) names small named =
          subst (λ ks. (length g + expression_depth (step ks r e) < 2 ^ 64) → NamedWhere g (λ i. occurs_expression i (step ks r e)) → ExpressionRead g (step ks r e) s) m
          (λ few all.
          let deep : length (pushed u g) ≡ length g + length (simple_modes u) = pushed_length u g in
          let right = less_right (length g) (neutral_depth r) (expression_depth e + length (simple_modes u)) _ few in
          let x = neutral_read g r (lax u) p names.0 (less_left (length g) (neutral_depth r) (expression_depth e + length (simple_modes u)) _ few)
          (named_left g (λ i. occurs_neutral i r) (λ i. occurs_expression (i + length (simple_modes u)) e) all) in
          step_read g u s r e x
          (expression_read (pushed u g) e s (subst (λ k. ExpressionSimplyTypedWith (no_holes false) k e s) (sym (pushed_types constants u g)) q) names.1 (omega arith)
          (named_pushed u g (λ i. occurs_expression i e) (named_right g (λ i. occurs_neutral i r) (λ i. occurs_expression (i + length (simple_modes u)) e) all))))
          small named
      expression_read g (done t) s p names small named =
          let x = tuple_read_of g t s p names small named in
          record { steps = []; entries = x.entries; steps_read = refl; tuple_read = x.tuple_read; is = ap done x.is }

      tuple_read_of : (g : Scope) (t : PlainTuple) (s : SimpleTelescope) → TupleSimplyTypedWith (no_holes false) (types_in constants g) t s → TupleHasNames sig t → length g + tuple_depth t < 2 ^ 64
          → NamedWhere g (λ i. occurs_tuple i t) → TupleRead g t s
      tuple_read_of g empty s p names small named = record { entries = []; tuple_read = refl; is = refl }
      tuple_read_of g (entry m n t) s (d, u, e, p, q) names small named =
          let x = object_read g n d p names.0 (less_left (length g) (scope_depth n) (tuple_depth t) _ small) (named_left g (λ i. occurs i n) (λ i. occurs_tuple i t) named) in
          let y = tuple_read_of g t u q names.1 (less_right (length g) (scope_depth n) (tuple_depth t) _ small) (named_right g (λ i. occurs i n) (λ i. occurs_tuple i t) named) in
          subst (λ v. TupleRead g (entry m n t) v) (sym e) (record {
            entries = (m, n) ∷ y.entries;
            tuple_read = combined_of (◌∷◌) (mapped (with_mode (marked (mark_for m) m)) x ∙ ap (λ k. Some (k, n)) (marked-for m)) y.tuple_read;
            is = ap (entry m n) y.is;
          })
