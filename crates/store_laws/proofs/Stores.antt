-- The solutions of a store may be put in: one after the other, in the order in which they were added.
use Rattle.std.specs.Prelude.{ℕ, zero, suc, ◌+◌, ◌≡◌, ◌⊎◌, ◌||◌, nat_eq, if◌then◌else◌, Bool, true, false, List, [], ◌∷◌, ◌++◌, length, Option, Some, None, refl}
use Rattle.std.proofs.Common.{ap, sym, subst, ◌∙◌, arith, inl, inr, ⊎_elim, append_assoc, add-one}
use Rattle.std.proofs.lemmas.List.{append-nil}
use Rattle.std.specs.List.{slice_get}
use Rattle.clf_syntax.specs.declared.tree.Mode.{Mode}
use Rattle.clf_syntax.specs.declared.tree.Head.{Head}
use Rattle.clf_syntax.specs.declared.tree.Head.TheVariants.{Const, Var, Meta}
use Rattle.clf_syntax.specs.Tree.{PlainObject, PlainNeutral, PlainExpression, PlainTuple}
use Rattle.clf_syntax.specs.TypeTree.{SimpleType, SimpleTelescope}
use Rattle.clf_syntax.specs.Simple.{Assignment, assigned, extended, extended_by, simple_modes, SimplyTyped}
use Rattle.clf_syntax.specs.Occurs.{occurs, occurs_neutral, occurs_expression, occurs_tuple}
use Rattle.clf_syntax.proofs.OccursLaws.{either, not_true}
use Rattle.clf_syntax.proofs.RenamingLaws.{ext}
use Rattle.hered_subst.specs.Substitution.{Substituted}
use Rattle.hered_subst.proofs.SimpleTyping.{Typed, typed_lam, typed_pair, typed_unit, typed_monadic, typed_metavariable, typed_atomic, TypedNeutral, typed_bare, typed_app, typed_fst, typed_snd, TypedExpression, typed_step, typed_done, TypedTuple, typed_empty, typed_entry, to_typed, of_typed, extended_out}
use Rattle.hered_subst.proofs.TypedResults.{typed_has_result, result_is_typed}
use Rattle.subst_laws.specs.Environments.{Instantiation, instant, TypedInstantiation}
use Rattle.subst_laws.proofs.Environs.{instant_is_environment}
use Rattle.store_laws.specs.Mentions.{mentions}
use Rattle.store_laws.specs.Additions.{Addition, new, solved, meta_types, set, given, heads_of}
use Rattle.store_laws.specs.PutIn.{PutIn, IsClosed}
use Rattle.store_laws.specs.Store.{MaySolve, IsStore}
use Rattle.store_laws.specs.Laws.{StoreIsPutIn, StoreGrows, StoreIsCut}
use Rattle.store_laws.proofs.Mentioned.{typed_where, Ordinary, Where}
use Rattle.store_laws.proofs.Numbers.{number_cases, set_there, set_else, some_none}
use Rattle.store_laws.proofs.Closing.{dropped, without, silent, Gives, gives_typed, no_families, next, closed_again, next_gives, at_false}
use Rattle.clf_syntax.proofs.Lists.{get-front}
use Rattle.store_laws.proofs.Lists.{by_end, types-append, given-new, given-solved}

-- ---- variables

same_number : (i v : ℕ) → nat_eq i v ≡ true → i ≡ v
same_number i v e = grind arith

-- A variable that occurs has a type.
mutual
  occurring : {w : Bool} {g : Assignment} {o : PlainObject} {t : SimpleType} → Typed w g o t → (i : ℕ) → occurs i o ≡ true → (u : SimpleType) × (g (Var i) ≡ Some u)
  occurring (typed_lam {g = g} {d = d} p) i e = let (u, f) = occurring p (i + 1) e in (u, sym (ap (λ j. extended d g (Var j)) (add-one i)) ∙ f)
  occurring (typed_pair {l = l} {r = r} p q) i e = ⊎_elim (λ f. occurring p i f) (λ f. occurring q i f) (either (occurs i l) (occurs i r) e)
  occurring typed_unit i e = absurd (cc)
  occurring (typed_monadic p) i e = occurring_expression p i e
  occurring (typed_metavariable h p j) i e = occurring_neutral p i e
  occurring (typed_atomic p) i e = occurring_neutral p i e

  occurring_neutral : {w : Bool} {g : Assignment} {n : PlainNeutral} {t : SimpleType} → TypedNeutral w g n t → (i : ℕ) → occurs_neutral i n ≡ true → (u : SimpleType) × (g (Var i) ≡ Some u)
  occurring_neutral (typed_bare {h = Const c} f) i e = absurd (cc)
  occurring_neutral (typed_bare {g = g} {h = Var v} {t = t} f) i e = (t, ap (λ j. g (Var j)) (sym (same_number v i e)) ∙ f)
  occurring_neutral (typed_bare {h = Meta m} f) i e = absurd (cc)
  occurring_neutral (typed_app {r = r} {o = o} p q) i e = ⊎_elim (λ f. occurring_neutral p i f) (λ f. occurring q i f) (either (occurs_neutral i r) (occurs i o) e)
  occurring_neutral (typed_fst p) i e = occurring_neutral p i e
  occurring_neutral (typed_snd p) i e = occurring_neutral p i e

  occurring_expression : {w : Bool} {g : Assignment} {x : PlainExpression} {ts : SimpleTelescope} → TypedExpression w g x ts → (i : ℕ) → occurs_expression i x ≡ true → (u : SimpleType) × (g (Var i) ≡ Some u)
  occurring_expression (typed_step {g = g} {ms = ms} {r = r} {e = x} {ts = ts} p m q) i e = ⊎_elim (λ f. occurring_neutral p i f)
      (λ f. let (u, h) = occurring_expression q (i + length ms) f in (u, sym (extended_out ts g i) ∙ ap (λ (l : List Mode). extended_by ts g (Var (i + length l))) (sym m) ∙ h))
      (either (occurs_neutral i r) (occurs_expression (i + length ms) x) e)
  occurring_expression (typed_done p) i e = occurring_tuple p i e

  occurring_tuple : {w : Bool} {g : Assignment} {x : PlainTuple} {ts : SimpleTelescope} → TypedTuple w g x ts → (i : ℕ) → occurs_tuple i x ≡ true → (u : SimpleType) × (g (Var i) ≡ Some u)
  occurring_tuple typed_empty i e = absurd (cc)
  occurring_tuple (typed_entry {o = o} {t = t} p q) i e = ⊎_elim (λ f. occurring p i f) (λ f. occurring_tuple q i f) (either (occurs i o) (occurs_tuple i t) e)

gives_closed : (g : Assignment) (s : Instantiation) → ((i : ℕ) → g (Var i) ≡ None) → Gives g s → IsClosed s
gives_closed g s h typed m x e v = not_true (occurs v x) (λ f. some_none (h v) (occurring (to_typed true g x (typed m x e).0 (typed m x e).2) v f).1)

-- ---- more types

grown : (g z : Assignment) → ((h : Head) (u : SimpleType) → g h ≡ Some u → z h ≡ Some u) → (o : PlainObject) (t : SimpleType) → SimplyTyped g o t → SimplyTyped z o t
grown g z f o t p = of_typed (typed_where z (to_typed true g o t p) (λ h u n e. f h u e) (λ m u n e. f (Meta m) u e))

gives_grown : (g z : Assignment) → ((h : Head) (u : SimpleType) → g h ≡ Some u → z h ≡ Some u) → (s : Instantiation) → Gives g s → Gives z s
gives_grown g z f s typed k x e = let (a, i, p) = typed k x e in (a, f (Meta k) a i, grown g z f x a p)

heads_new : (constants : List SimpleType) (zs : List Addition) (t : SimpleType) (h : Head) (u : SimpleType) → heads_of constants zs h ≡ Some u → heads_of constants (zs ++ new t ∷ []) h ≡ Some u
heads_new constants zs t (Const c) u e = e
heads_new constants zs t (Var i) u e = e
heads_new constants zs t (Meta m) u e = ap (λ ts. slice_get ts m) (types-append zs (new t ∷ [])) ∙ get-front (meta_types zs) (t ∷ []) m u e

heads_solved : (constants : List SimpleType) (zs : List Addition) (m : ℕ) (o : PlainObject) → meta_types (zs ++ solved m o ∷ []) ≡ meta_types zs
heads_solved constants zs m o = types-append zs (solved m o ∷ []) ∙ append-nil (meta_types zs)

no_variable : (constants : List SimpleType) (zs : List Addition) (i : ℕ) → heads_of constants zs (Var i) ≡ None
no_variable constants zs i = refl

-- ---- what is put in mentions nothing that is solved

put_in_clears : (g : Assignment) (given s : Instantiation) → PutIn given s → Gives g s → (j : ℕ) (u : PlainObject) → given j ≡ Some u → (x y : PlainObject) (b : SimpleType) → SimplyTyped g x b → Substituted (instant s) x y → mentions j y ≡ false
put_in_clears g given s all typed j u f x y b p i = silent g j y b ((result_is_typed true no_families g (dropped j g) (instant s) ((instant_is_environment g).0 (dropped j g) s there)).object x y b p i)
  where
    solved_there : (z : PlainObject) × (s j ≡ Some z) × Substituted (instant s) u z
    solved_there = all.solved j u f

    at : (k : ℕ) (c : SimpleType) → g (Meta k) ≡ Some c → (x : Option PlainObject) → s k ≡ x → ((s k ≡ None) × (dropped j g (Meta k) ≡ Some c)) ⊎ ((n : PlainObject) × (s k ≡ Some n) × SimplyTyped (dropped j g) n c)
    at k c e None h = inl (h, ⊎_elim (λ q. absurd (some_none (sym (ap s q) ∙ h) solved_there.1)) (λ q. at_false (g (Meta k)) q ∙ e) (number_cases k j))
    at k c e (Some x) h = let (a, q, t) = typed k x h in inr (x, h, without g j x c (subst (λ d. SimplyTyped g x d) (one_type (sym q ∙ e)) t) (all.finished k x h j u f))
      where
        one_type : {a b : SimpleType} → Some a ≡ Some b → a ≡ b
        one_type e = cc

    there : TypedInstantiation g (dropped j g) s
    there = ((λ c t e. e), (λ i t e. e), (λ k c e. at k c e (s k) refl))

-- ---- stores

pub store_is_cut : StoreIsCut
store_is_cut constants zs more h before m o after e = h before m o (after ++ more) (ap (λ l. l ++ more) e ∙ append_assoc before (solved m o ∷ after) more)

-- what is wanted of a store, with the types of what was given
abbrev Good : List SimpleType → List Addition → Type 0
Good constants zs = (s : Instantiation) × PutIn (given zs) s × Gives (heads_of constants zs) s × Gives (heads_of constants zs) (given zs)

good_none : (constants : List SimpleType) → Good constants []
good_none constants = ((λ m. None), record { unsolved = λ m e. refl; solved = λ m o e. absurd (cc); finished = λ m x e. absurd (cc) }, (λ k x e. absurd (cc)), (λ k x e. absurd (cc)))

good_new : (constants : List SimpleType) (zs : List Addition) (t : SimpleType) → Good constants zs → Good constants (zs ++ new t ∷ [])
good_new constants zs t (s, all, typed, typed_given) =
    let same : given (zs ++ new t ∷ []) ≡ given zs = ext (given-new zs t) in (
      s,
      subst (λ f. PutIn f s) (sym same) all,
      gives_grown (heads_of constants zs) (heads_of constants (zs ++ new t ∷ [])) (heads_new constants zs t) s typed,
      subst (Gives (heads_of constants (zs ++ new t ∷ []))) (sym same) (gives_grown (heads_of constants zs) (heads_of constants (zs ++ new t ∷ [])) (heads_new constants zs t) (given zs) typed_given),
    )

good_solved : (constants : List SimpleType) (zs : List Addition) (m : ℕ) (o : PlainObject) → MaySolve constants zs m o → Good constants zs → Good constants (zs ++ solved m o ∷ [])
good_solved constants zs m o may (s, all, typed, typed_given) =
    let g = heads_of constants zs in
    let same : given (zs ++ solved m o ∷ []) ≡ set m o (given zs) = ext (given-solved zs m o may.unsolved) in
    let (a, type_of, typed_o) = may.typed in
    let (x, put, typed_x) = (typed_has_result true no_families g g (instant s) ((instant_is_environment g).0 g s (gives_typed g s typed))).object o a typed_o in
    let free = may.no_circle s x all put in
    let whole = λ (k : ℕ) (u : PlainObject) (e : given zs k ≡ Some u). put_in_clears g (given zs) s all typed k u e o x a typed_o put in
    let types = heads_solved constants zs m o in (
      next g (given zs) s all typed m o x a may.unsolved type_of put typed_o typed_x free whole typed_given,
      subst (λ f. PutIn f (next g (given zs) s all typed m o x a may.unsolved type_of put typed_o typed_x free whole typed_given)) (sym same)
          (closed_again g (given zs) s all typed m o x a may.unsolved type_of put typed_o typed_x free whole typed_given),
      subst (λ ts. Gives (assigned constants ts []) (next g (given zs) s all typed m o x a may.unsolved type_of put typed_o typed_x free whole typed_given)) (sym types)
          (next_gives g (given zs) s all typed m o x a may.unsolved type_of put typed_o typed_x free whole typed_given),
      subst (Gives (heads_of constants (zs ++ solved m o ∷ []))) (sym same) (subst (λ ts. Gives (assigned constants ts []) (set m o (given zs))) (sym types) (more_given g a type_of typed_o typed_given)),
    )
  where
    one_object : {a b : PlainObject} → Some a ≡ Some b → a ≡ b
    one_object e = cc

    more_given : (g : Assignment) (a : SimpleType) → g (Meta m) ≡ Some a → SimplyTyped g o a → Gives g (given zs) → Gives g (set m o (given zs))
    more_given g a e p q k x f = ⊎_elim
        (λ h. (a, ap (λ j. g (Meta j)) h ∙ e, subst (λ v. SimplyTyped g v a) (one_object (sym (set_there m o (given zs)) ∙ sym (ap (set m o (given zs)) h) ∙ f)) p))
        (λ h. q k x (sym (set_else m k o (given zs) h) ∙ f))
        (number_cases k m)

good : (constants : List SimpleType) (zs : List Addition) → IsStore constants zs → Good constants zs
good constants zs = by_end (λ l. IsStore constants l → Good constants l) (λ h. good_none constants) step zs
  where
    step : (xs : List Addition) (x : Addition) → (IsStore constants xs → Good constants xs) → IsStore constants (xs ++ x ∷ []) → Good constants (xs ++ x ∷ [])
    step xs (new t) f h = good_new constants xs t (f (store_is_cut constants xs (new t ∷ []) h))
    step xs (solved m o) f h = good_solved constants xs m o (h xs m o [] refl) (f (store_is_cut constants xs (solved m o ∷ []) h))

pub store_is_put_in : StoreIsPutIn
store_is_put_in constants zs h = let (s, all, typed, typed_given) = good constants zs h in
    (s, all, gives_typed (heads_of constants zs) s typed, gives_closed (heads_of constants zs) s (no_variable constants zs) typed)

-- ---- growing

no_end : {X : Type 0} (before : List X) (x : X) (after : List X) → [] ≡ before ++ x ∷ after → ⊥
no_end [] x after e = cc
no_end (y ∷ before) x after e = cc

-- A place of a list that grew by one is a place of the list, or the last.
at_end : {X : Type 0} (zs before after : List X) (a x : X) → zs ++ a ∷ [] ≡ before ++ x ∷ after → ((rest : List X) × (zs ≡ before ++ x ∷ rest)) ⊎ ((zs ≡ before) × (a ≡ x))
at_end [] [] after a x e = inr (refl, cc)
at_end [] (b ∷ before) after a x e = absurd (no_end before x after (cc (e)))
at_end (c ∷ zs) [] after a x e = inl (zs, ap (λ y. y ∷ zs) (cc (e)))
at_end (c ∷ zs) (b ∷ before) after a x e = let tail : zs ++ a ∷ [] ≡ before ++ x ∷ after = cc (e) in let head : c ≡ b = cc (e) in
    ⊎_elim (λ h. inl (h.0, ap (λ l. c ∷ l) h.1 ∙ ap (λ y. y ∷ (before ++ x ∷ h.0)) head)) (λ h. inr (ap (λ l. c ∷ l) h.0 ∙ ap (λ y. y ∷ before) head, h.1)) (at_end zs before after a x tail)

pub store_grows : StoreGrows
store_grows constants = (
  (λ before m o after e. absurd (no_end before (solved m o) after e)),
  (λ zs h. (
    (λ t before m o after e. ⊎_elim (λ p. h before m o p.0 p.1) (λ p. absurd (not_solved p.1)) (at_end zs before after (new t) (solved m o) e)),
    (λ k u may before m o after e. ⊎_elim (λ p. h before m o p.0 p.1) (λ p. here zs before k m u o may p.0 p.1) (at_end zs before after (solved k u) (solved m o) e)),
  )),
)
  where
    not_solved : {t : SimpleType} {m : ℕ} {o : PlainObject} → new t ≡ solved m o → ⊥
    not_solved e = cc

    here : (zs before : List Addition) (k m : ℕ) (u o : PlainObject) → MaySolve constants zs k u → zs ≡ before → solved k u ≡ solved m o → MaySolve constants before m o
    here zs before k m u o may e f = let i : k ≡ m = cc (f) in let j : u ≡ o = cc (f) in subst (λ l. MaySolve constants l m o) e (subst (λ n. MaySolve constants zs n o) i (subst (MaySolve constants zs k) j may))
