-- What is gathered of an object without holes the function makes, or a number passes its range.
use Rattle.std.proofs.Common.{◌≡◌, ◌==◌, ℕ, ◌+◌, Bool, true, false, ◌&&◌, if◌then◌else◌, List, [], ◌∷◌, ◌++◌, length, Some, refl, sym, ap, subst, ⊎_elim, ◌∙◌, arith}
use Rattle.std.specs.Option.{option_map}
use Rattle.std.proofs.lemmas.List.{append_assoc, append-nil}
use Rattle.std.proofs.lemmas.Option.{slice_get-map}
use Rattle.clf_syntax.specs.declared.tree.Mode.{Mode}
use Rattle.clf_syntax.specs.declared.tree.Mode.TheVariants.{Persistent, Affine, Linear}
use Rattle.clf_syntax.specs.declared.tree.Head.{Head}
use Rattle.clf_syntax.specs.declared.tree.Head.TheVariants.{Const, Var, Meta}
use Rattle.clf_syntax.specs.Modes.{same_mode}
use Rattle.clf_syntax.specs.Tree.{PlainObject, lam, pair, unit, monadic, atomic, hole, PlainNeutral, head_alone, app, fst, snd, PlainExpression, step, done, PlainTuple, empty, entry}
use Rattle.clf_syntax.specs.TypeTree.{PlainType, family, function, both, monad, PlainTelescope, end, binding, SimpleType}
use Rattle.clf_syntax.specs.Simple.{erase, extended, extended_over, SimplyTyped, SimplyFormed, SimplyFormedTelescope, SimplyFormedKind, SimplyFormedContext}
use Rattle.clf_syntax.specs.Renaming.{ren_telescope, up}
use Rattle.use_contexts.specs.Context.{Context, telescope_modes, with_entries}
use Rattle.hered_subst.specs.Substitution.{single, SubstitutedType, SubstitutedTelescope, SubstitutedKind}
use Rattle.hered_subst.specs.TypedEnvironments.{is_metavariable}
use Rattle.hered_subst.proofs.SimpleTyping.{rank}
use Rattle.hered_subst.proofs.Types.{determined_type, determined_telescope, determined_kind}
use Rattle.hered_put.specs.Function.{Answer, made, untyped, too_far, nested, run_type, run_telescope, run_kind, after}
use Rattle.hered_put.specs.Laws.{Meets, Fine}
use Rattle.hered_put.specs.Passes.{PassesType, PassesTelescope, PassesKind}
use Rattle.hered_put.proofs.Results.{function_is_sound, function_keeps_forms}
use Rattle.clf_sig.specs.Entry.{PlainSignature}
use Rattle.clf_simple.specs.Decision.{is_meta}
use Rattle.typing_laws.specs.SimpleTyping.{families_of}
use Rattle.typing_laws.proofs.FormedTypes.{as_inserted}
use Rattle.pattern_laws.specs.Equations.{Locals, Equation}
use Rattle.gathering.specs.Shape.{Shape, at_function, at_both, at_monad, EntryShapes, an_entry, unmarked_shape, unmarked_entries, with_shapes}
use Rattle.gathering.specs.Setting.{Setting, Pairs, simple_locals}
use Rattle.gathering.specs.Complete.{HasNoHole, NeutralHasNoHole, ExpressionHasNoHole, TupleHasNoHole}
use Rattle.gathering.specs.Instances.{FormedSetting}
use Rattle.gathering.specs.Gather.{Gathers, NeutralGathers, ExpressionGathers, TupleGathers, HeadGathers, PartGathers}
use Rattle.gathering.proofs.Heads.{filled}
use Rattle.gathering.proofs.Formed.{formed_entries, formed_past}
use Rattle.gathering.proofs.Puts.{formed_put_telescope}
use Rattle.gathering.proofs.GatheredTyped.{gathered_object, gathered_neutral}
use Rattle.gathering.proofs.Parts.{application_gathers_parts, entry_gathers_parts, lambda_gathers_parts, leaf_gathers_parts, monadic_gathers_parts, pair_gathers_parts, step_gathers_parts}
use Rattle.celf_gather.specs.Scene.{Scene, entry_type, head_type, put_in_type, put_in_telescope, put_in_kind}
use Rattle.celf_gather.specs.Gathered.{gathered, inferred, expression_after, tuple_after, pairs_after, known_pairs, found_after, leaf_after, lambda_after, pair_after, unit_after, monadic_after, with_type, application_after, first_after, second_after, modes_fit, entered, entered_if, entry_after, none_left, filled_after, is_filled}
use Rattle.celf_gather.proofs.Assigned.{typed_filled}
use Rattle.celf_gather.proofs.Shapes.{shapes_of, renumbered_shape, renumbered_entries, put_shape, put_entries, entered_shapes}
use Rattle.celf_gather.proofs.Sound.{scene, setting}

-- ---- what does not give up
pub fine_after : {A B : Type 0} (w : Answer A) (P : A → Type 0) (f : A → Answer B) (Q : B → Type 0) → Fine w P → ((x : A) → P x → Fine (f x) Q) → Fine (after w f) Q
fine_after (made x) P f Q p g = g x p
fine_after untyped P f Q p g = p
fine_after too_far P f Q p g = tt

-- a part that makes one thing alone
pub fine_then : {A B : Type 0} (w : Answer A) (x : A) (f : A → Answer B) (Q : B → Type 0) → Fine w (λ y. y ≡ x) → Fine (f x) Q → Fine (after w f) Q
fine_then w x f Q p g = fine_after w (λ y. y ≡ x) f Q p (λ y e. subst (λ z. Fine (f z) Q) (sym e) g)

pub fine_as : {A : Type 0} (w v : Answer A) (P : A → Type 0) → v ≡ w → Fine w P → Fine v P
fine_as w v P e p = subst (λ y. Fine y P) (sym e) p

pub fine_same : {A : Type 0} (w : Answer A) {x y : A} → x ≡ y → Fine w (λ z. z ≡ x) → Fine w (λ z. z ≡ y)
fine_same w e p = subst (λ v. Fine w (λ z. z ≡ v)) e p

mode_itself : (m : Mode) → same_mode m m ≡ true
mode_itself Persistent = refl
mode_itself Affine = refl
mode_itself Linear = refl

if_true : {A : Type 0} (b : Bool) (w : Answer A) → b ≡ true → (if b then w else untyped) ≡ w
if_true b w e = ap (λ c. if c then w else untyped) e

-- ---- what is put
determined_fine : {X : Type 0} (w : Answer X) (A P : X → Type 0) (F : Type 0) (t : X) → ((x : X) → P x → x ≡ t) → Fine w A → Meets w P F → Fine w (λ x. x ≡ t)
determined_fine (made x) A P F t d f m = d x m
determined_fine untyped A P F t d f m = f
determined_fine too_far A P F t d f m = tt

module _ (z : Setting) (g : Context) (n : PlainObject) (a : PlainType) (p : SimplyTyped (extended_over g z.simple) n (erase a)) where
  pub type_fine : (c t : PlainType) → SimplyFormed z.arguments (extended (erase a) (extended_over g z.simple)) c → SubstitutedType (single n 0) c t → Fine (put_in_type n a c) (λ x. x ≡ t)
  unfolding put_in_type
  type_fine c t f s = determined_fine (run_type (nested (rank (erase a))) (single n 0) c) (λ x. SimplyFormed z.arguments (extended_over g z.simple) x) (SubstitutedType (single n 0) c) (PassesType (single n 0) c) t (λ x r. determined_type r s)
      ((function_keeps_forms z.arguments (extended_over g z.simple) 0 n (erase a) p).0 c (subst (λ y. SimplyFormed z.arguments y c) (sym (as_inserted (erase a) (extended_over g z.simple))) f))
      ((function_is_sound (rank (erase a)) (single n 0)).3 c)

  pub telescope_fine : (c t : PlainTelescope) → SimplyFormedTelescope z.arguments (extended (erase a) (extended_over g z.simple)) c → SubstitutedTelescope (single n 0) c t → Fine (put_in_telescope n a c) (λ x. x ≡ t)
  unfolding put_in_telescope
  telescope_fine c t f s = determined_fine (run_telescope (nested (rank (erase a))) (single n 0) c) (λ x. SimplyFormedTelescope z.arguments (extended_over g z.simple) x) (SubstitutedTelescope (single n 0) c) (PassesTelescope (single n 0) c) t (λ x r. determined_telescope r s)
      ((function_keeps_forms z.arguments (extended_over g z.simple) 0 n (erase a) p).1 c (subst (λ y. SimplyFormedTelescope z.arguments y c) (sym (as_inserted (erase a) (extended_over g z.simple))) f))
      ((function_is_sound (rank (erase a)) (single n 0)).4 c)

  pub kind_fine : (c t : List PlainType) → SimplyFormedKind z.arguments (extended (erase a) (extended_over g z.simple)) c → SubstitutedKind (single n 0) c t → Fine (put_in_kind n a c) (λ x. x ≡ t)
  unfolding put_in_kind
  kind_fine c t f s = determined_fine (run_kind (nested (rank (erase a))) (single n 0) c) (λ x. SimplyFormedKind z.arguments (extended_over g z.simple) x) (SubstitutedKind (single n 0) c) (PassesKind (single n 0) c) t (λ x r. determined_kind r s)
      ((function_keeps_forms z.arguments (extended_over g z.simple) 0 n (erase a) p).2 c (subst (λ y. SimplyFormedKind z.arguments y c) (sym (as_inserted (erase a) (extended_over g z.simple))) f))
      ((function_is_sound (rank (erase a)) (single n 0)).5 c)

-- ---- parts at types of their form
lambda_in : (m : Mode) (a c t : PlainType) (body : PlainType → PlainType → Answer (List Equation)) → t ≡ function m a c → lambda_after m t body ≡ body a c
lambda_in m a c t body e = ap (λ u. lambda_after m u body) e ∙ if_true (same_mode m m) (body a c) (mode_itself m)

application_in : (m : Mode) (n : PlainObject) (a c : PlainType) (p : List Equation) (argument : PlainType → List Equation → Answer (List Equation))
    → application_after m n (function m a c, p) argument ≡ after (argument a p) (λ q. after (put_in_type n a c) (λ t. made (t, q)))
application_in m n a c p argument = if_true (same_mode m m) (after (argument a p) (λ q. after (put_in_type n a c) (λ t. made (t, q)))) (mode_itself m)

entry_in : (m : Mode) (n : PlainObject) (a : PlainType) (u : PlainTelescope) (p : List Equation) (argument : PlainType → List Equation → Answer (List Equation))
    → entry_after m n (binding m a u, p) argument ≡ after (argument a p) (λ q. after (put_in_telescope n a u) (λ v. made (v, q)))
entry_in m n a u p argument = if_true (same_mode m m) (after (argument a p) (λ q. after (put_in_telescope n a u) (λ v. made (v, q)))) (mode_itself m)

and_in : {b c : Bool} → b ≡ true → c ≡ true → (b && c) ≡ true
and_in e f = cc

modes_in : (s : PlainTelescope) → modes_fit s (telescope_modes s) ≡ true
modes_in end = refl
modes_in (binding m a s) = and_in (mode_itself m) (modes_in s)

entered_in : (ms : List Mode) (g : Context) (u : PlainTelescope) (p : List Equation) → telescope_modes u ≡ ms → entered ms g (monad u, p) ≡ made (with_entries u g, p)
entered_in ms g u p e = ap (λ b. entered_if b (with_entries u g, p)) (subst (λ l. modes_fit u l ≡ true) e (modes_in u))

pairs_in : (l : Locals) (ts : List SimpleType) (os ns : List PlainObject) (q p : List Equation) → Pairs l ts os ns q → pairs_after l ts os ns p ≡ made (p ++ q)
pairs_in l [] [] [] q p r = ap made (sym (append-nil p) ∙ ap (λ x. p ++ x) (sym r))
pairs_in l (t ∷ ts) (o ∷ os) (n ∷ ns) q p r =
    let one : Equation = record { locals = l; left = o; right = n; type = t } in
    pairs_in l ts os ns r.0 (p ++ one ∷ []) r.2 ∙ ap made (append_assoc p (one ∷ []) r.0 ∙ ap (λ x. p ++ x) (sym r.1))
pairs_in l [] (o ∷ os) ns q p r = absurd r
pairs_in l [] [] (n ∷ ns) q p r = absurd r
pairs_in l (t ∷ ts) [] ns q p r = absurd r
pairs_in l (t ∷ ts) (o ∷ os) [] q p r = absurd r

number_itself : (f : ℕ) → (f == f) ≡ true
number_itself f = grind arith

found_in : (k : Scene) (g : Context) (f : ℕ) (os ns : List PlainObject) (ts : List SimpleType) (q p : List Equation) → families_of k.signature f ≡ Some ts → Pairs (simple_locals g) ts os ns q → found_after k g f ns (family f os, p) ≡ made (p ++ q)
found_in k g f os ns ts q p e r = if_true (f == f) (known_pairs (simple_locals g) (families_of k.signature f) os ns p) (number_itself f) ∙ ap (λ w. known_pairs (simple_locals g) w os ns p) e ∙ pairs_in (simple_locals g) ts os ns q p r

function_shapes : {d e : Bool} {u v x y : Shape} → at_function d u x ≡ at_function e v y → (d ≡ e) × (u ≡ v) × (x ≡ y)
function_shapes e = (cc, cc, cc)

pair_shapes : {u v x y : Shape} → at_both u x ≡ at_both v y → (u ≡ v) × (x ≡ y)
pair_shapes e = (cc, cc)

monad_shape : {x y : EntryShapes} → at_monad x ≡ at_monad y → x ≡ y
monad_shape e = cc

entry_shapes : {d e : Bool} {u v : Shape} {x y : EntryShapes} → an_entry d u x ≡ an_entry e v y → (d ≡ e) × (u ≡ v) × (x ≡ y)
entry_shapes e = (cc, cc, cc)

the_shape : {a b : Shape} → Some a ≡ Some b → a ≡ b
the_shape e = cc

not_both : {d : Bool} → d ≡ true → d ≡ false → ⊥
not_both e f = cc

pub more : (p q r x : List Equation) → x ≡ q ++ r → (p ++ q) ++ r ≡ p ++ x
more p q r x e = append_assoc p q r ∙ ap (λ y. p ++ y) (sym e)

pub none : (p q : List Equation) → q ≡ [] → p ≡ p ++ q
none p q e = sym (append-nil p) ∙ ap (λ x. p ++ x) (sym e)

module _ (sig : PlainSignature) (xs : List PlainType) (ms : List SimpleType) (formed : FormedSetting (setting sig xs ms)) where
  abbrev z : Setting
  z = setting sig xs ms

  abbrev k : Scene
  k = scene sig xs ms

  abbrev IsFormed : Context → Type 0
  IsFormed g = SimplyFormedContext z.arguments z.simple g

  -- ---- heads and shapes
  head_in : (g : Context) (w : List Shape) (x : Head) (a : PlainType) (o : Shape) → HeadGathers z g w x a o → head_type k g x ≡ Some a
  head_in g w (Const c) a o p = p.0
  head_in g w (Var i) a o p = let (m, b, e, j) = p.0 in ap (entry_type i) e ∙ ap Some (sym j)
  head_in g w (Meta m) a o p = let q = p.0 in absurd (cc)

  head_shape : (g : Context) (x : Head) (a : PlainType) (o : Shape) → HeadGathers z g (shapes_of g) x a o → o ≡ unmarked_shape a
  head_shape g (Const c) a o p = p.1
  head_shape g (Var i) a o p = let (m, b, e, j) = p.0 in
      the_shape (sym p.1 ∙ slice_get-map (λ e. unmarked_shape e.1) g i ∙ ap (option_map (λ (e : Mode × PlainType). unmarked_shape e.1)) e) ∙ sym (renumbered_shape (up (i + 1)) b) ∙ ap unmarked_shape (sym j)
  head_shape g (Meta m) a o p = let q = p.0 in absurd (cc)

  neutral_shape : (n : PlainNeutral) (g : Context) (a : PlainType) (o : Shape) (q : List Equation) → NeutralGathers z g (shapes_of g) n a o q → o ≡ unmarked_shape a
  neutral_shape (head_alone x) g a o q p = head_shape g x a o p.0
  neutral_shape (app m r n) g a o q p = let (d, c, l, u, q1, q2, p1, p2, p3, p4) = application_gathers_parts p in
      (function_shapes (neutral_shape r g (function m d c) (at_function l u o) q1 p1)).2 ∙ sym (put_shape c a p3)
  neutral_shape (fst r) g a o q p = (pair_shapes (neutral_shape r g (both a p.0) (at_both o p.1) q p.2)).0
  neutral_shape (snd r) g a o q p = (pair_shapes (neutral_shape r g (both p.0 a) (at_both p.1 o) q p.2)).1

  not_meta : (n : PlainNeutral) (g : Context) (w : List Shape) (a : PlainType) (o : Shape) (q : List Equation) → NeutralGathers z g w n a o q → is_meta n ≡ false
  not_meta (head_alone (Const c)) g w a o q p = refl
  not_meta (head_alone (Var i)) g w a o q p = refl
  not_meta (head_alone (Meta m)) g w a o q p = let r = p.0.0 in absurd (cc)
  not_meta (app m r n) g w a o q p = let (d, c, l, u, q1, q2, p1, p2, p3, p4) = application_gathers_parts p in not_meta r g w (function m d c) (at_function l u o) q1 p1
  not_meta (fst r) g w a o q p = not_meta r g w (both a p.0) (at_both o p.1) q p.2
  not_meta (snd r) g w a o q p = not_meta r g w (both p.0 a) (at_both p.1 o) q p.2

  -- a part that is not passed over
  searched : (g : Context) (n : PlainObject) (a : PlainType) (l : Bool) (q : List Equation) {u v : Shape} → l ≡ false → u ≡ v → PartGathers z g l n a q (Gathers z g (shapes_of g) n a u q) → Gathers z g (shapes_of g) n a v q
  searched g n a l q {v = v} e f p = ⊎_elim (λ p. absurd (not_both p.0 e)) (λ p. subst (λ o. Gathers z g (shapes_of g) n a o q) f p.1) p

  pub typed_at : (n : PlainObject) (g : Context) (a : PlainType) (o : Shape) (q : List Equation) → IsFormed g → HasNoHole n → SimplyFormed z.arguments (extended_over g z.simple) a → Gathers z g (shapes_of g) n a o q → SimplyTyped (extended_over g z.simple) n (erase a)
  typed_at n g a o q f h d p = (gathered_object z formed (λ j. refl) (λ i. refl) n g (shapes_of g) a o q f h p d).1

  formed_of : (n : PlainNeutral) (g : Context) (a : PlainType) (o : Shape) (q : List Equation) → IsFormed g → NeutralHasNoHole n → NeutralGathers z g (shapes_of g) n a o q → SimplyFormed z.arguments (extended_over g z.simple) a
  formed_of n g a o q f h p = (gathered_neutral z formed (λ j. refl) (λ i. refl) n g (shapes_of g) a o q f h p).2

  mutual
    pub object_complete : (n : PlainObject) (g : Context) (t : PlainType) (o : Shape) (q p : List Equation) → IsFormed g → HasNoHole n → SimplyFormed z.arguments (extended_over g z.simple) t → o ≡ unmarked_shape t
        → Gathers z g (shapes_of g) n t o q → Fine (gathered k g n t p) (λ x. x ≡ p ++ q)
    object_complete (lam m b) g t o q p f h d s r =
        let (a, c, l, u, v, i, j, x) = lambda_gathers_parts r in let d' = subst (λ y. SimplyFormed z.arguments (extended_over g z.simple) y) i d in
        let (e1, e2, e3) = function_shapes (sym j ∙ s ∙ ap unmarked_shape i) in
        fine_as (gathered k ((m, a) ∷ g) b c p) (gathered k g (lam m b) t p) (λ x. x ≡ p ++ q) (lambda_in m a c t (λ a c. gathered k ((m, a) ∷ g) b c p) i)
        (object_complete b ((m, a) ∷ g) c v q p (d'.0, f) h d'.1 e3 (subst (λ y. Gathers z ((m, a) ∷ g) (y ∷ shapes_of g) b c v q) e2 x))
    object_complete (pair l r) g t o q p f h d s w =
        let (a, c, u, v, q1, q2, i, j, x, y, e) = pair_gathers_parts w in let d' = subst (λ y. SimplyFormed z.arguments (extended_over g z.simple) y) i d in
        let (e1, e2) = pair_shapes (sym j ∙ s ∙ ap unmarked_shape i) in
        fine_as (after (gathered k g l a p) (gathered k g r c)) (gathered k g (pair l r) t p) (λ x. x ≡ p ++ q) (ap (λ t. pair_after t (λ a. gathered k g l a p) (λ c q. gathered k g r c q)) i)
        (fine_then (gathered k g l a p) (p ++ q1) (gathered k g r c) (λ x. x ≡ p ++ q) (object_complete l g a u q1 p f h.0 d'.0 e1 x)
        (fine_same (gathered k g r c (p ++ q1)) (more p q1 q2 q e) (object_complete r g c v q2 (p ++ q1) f h.1 d'.1 e2 y)))
    object_complete unit g t o q p f h d s w = fine_as (made p) (unit_after t p) (λ x. x ≡ p ++ q) (ap (λ t. unit_after t p) w.0) (none p q w.1)
    object_complete (monadic b) g t o q p f h d s w =
        let (a, v, i, j, x) = monadic_gathers_parts w in let d' = subst (λ y. SimplyFormed z.arguments (extended_over g z.simple) y) i d in
        fine_as (expression_after k g b a p) (gathered k g (monadic b) t p) (λ x. x ≡ p ++ q) (ap (λ t. monadic_after t (λ s. expression_after k g b s p)) i)
        (expression_complete b g a v q p f h d' (monad_shape (sym j ∙ s ∙ ap unmarked_shape i)) x)
    object_complete (atomic n) g t o q p f h d s w = ⊎_elim
        (λ w. let (a, ns, os, ts, u, q1, q2, i, x, e, y, j) = leaf_gathers_parts w in
        fine_as (leaf_after k g t (inferred k g n p)) (gathered k g (atomic n) t p) (λ x. x ≡ p ++ q) (ap (λ b. if b then filled_after (is_filled k g (atomic n) t) p else leaf_after k g t (inferred k g n p)) (not_meta n g (shapes_of g) (family a os) u q1 x))
        (fine_as (after (inferred k g n p) (found_after k g a ns)) (leaf_after k g t (inferred k g n p)) (λ x. x ≡ p ++ q) (ap (λ t. leaf_after k g t (inferred k g n p)) i)
        (fine_then (inferred k g n p) (family a os, p ++ q1) (found_after k g a ns) (λ x. x ≡ p ++ q) (neutral_complete n g (family a os) u q1 p f h x)
        (fine_as (made ((p ++ q1) ++ q2)) (found_after k g a ns (family a os, p ++ q1)) (λ x. x ≡ p ++ q) (found_in k g a os ns ts q2 (p ++ q1) e y) (more p q1 q2 q j)))))
        (λ w. let w = filled z (λ j. refl) w in
        fine_as (filled_after (is_filled k g (atomic n) t) p) (gathered k g (atomic n) t p) (λ x. x ≡ p ++ q) (ap (λ b. if b then filled_after (is_filled k g (atomic n) t) p else leaf_after k g t (inferred k g n p)) (ap is_metavariable w.head))
        (fine_as (made p) (filled_after (is_filled k g (atomic n) t) p) (λ x. x ≡ p ++ q) (ap (λ b. filled_after b p) (typed_filled sig xs ms g (atomic n) (erase t) w.typed)) (none p q w.equations))) w
    object_complete hole g t o q p f h d s w = absurd h

    pub neutral_complete : (n : PlainNeutral) (g : Context) (a : PlainType) (o : Shape) (q p : List Equation) → IsFormed g → NeutralHasNoHole n → NeutralGathers z g (shapes_of g) n a o q → Fine (inferred k g n p) (λ y. y ≡ (a, p ++ q))
    neutral_complete (head_alone x) g a o q p f h w = fine_as (made (a, p)) (inferred k g (head_alone x) p) (λ y. y ≡ (a, p ++ q)) (ap (λ b. with_type b p) (head_in g (shapes_of g) x a o w.0)) (ap (λ l. (a, l)) (none p q w.1))
    neutral_complete (app m r n) g a o q p f h w =
        let (d, c, l, u, q1, q2, p1, p2, p3, p4) = application_gathers_parts w in
        let (e1, e2, e3) = function_shapes (neutral_shape r g (function m d c) (at_function l u o) q1 p1) in
        let fd = formed_of r g (function m d c) (at_function l u o) q1 f h.0 p1 in
        let x = searched g n d l q2 e1 e2 p2 in
        fine_then (inferred k g r p) (function m d c, p ++ q1) (λ x. application_after m n x (λ a q. gathered k g n a q)) (λ y. y ≡ (a, p ++ q)) (neutral_complete r g (function m d c) (at_function l u o) q1 p f h.0 p1)
        (fine_as (after (gathered k g n d (p ++ q1)) (λ q. after (put_in_type n d c) (λ t. made (t, q)))) (application_after m n (function m d c, p ++ q1) (λ a q. gathered k g n a q)) (λ y. y ≡ (a, p ++ q)) (application_in m n d c (p ++ q1) (λ a q. gathered k g n a q))
        (fine_then (gathered k g n d (p ++ q1)) ((p ++ q1) ++ q2) (λ q. after (put_in_type n d c) (λ t. made (t, q))) (λ y. y ≡ (a, p ++ q)) (object_complete n g d (unmarked_shape d) q2 (p ++ q1) f h.1 fd.0 refl x)
        (fine_then (put_in_type n d c) a (λ t. made (t, (p ++ q1) ++ q2)) (λ y. y ≡ (a, p ++ q)) (type_fine z g n d (typed_at n g d (unmarked_shape d) q2 f h.1 fd.0 x) c a fd.1 p3) (ap (λ l. (a, l)) (more p q1 q2 q p4)))))
    neutral_complete (fst r) g a o q p f h w = fine_then (inferred k g r p) (both a w.0, p ++ q) first_after (λ y. y ≡ (a, p ++ q)) (neutral_complete r g (both a w.0) (at_both o w.1) q p f h w.2) refl
    neutral_complete (snd r) g a o q p f h w = fine_then (inferred k g r p) (both w.0 a, p ++ q) second_after (λ y. y ≡ (a, p ++ q)) (neutral_complete r g (both w.0 a) (at_both w.1 o) q p f h w.2) refl

    pub expression_complete : (b : PlainExpression) (g : Context) (s : PlainTelescope) (o : EntryShapes) (q p : List Equation) → IsFormed g → ExpressionHasNoHole b → SimplyFormedTelescope z.arguments (extended_over g z.simple) s → o ≡ unmarked_entries s
        → ExpressionGathers z g (shapes_of g) b s o q → Fine (expression_after k g b s p) (λ x. x ≡ p ++ q)
    expression_complete (step ns r b) g s o q p f h d i w =
        let (u, v, q1, q2, p1, p2, p3, p4) = step_gathers_parts w in
        let fu = formed_of r g (monad u) (at_monad v) q1 f h.0 p1 in
        let e = monad_shape (neutral_shape r g (monad u) (at_monad v) q1 p1) in
        let x = subst (λ y. ExpressionGathers z (with_entries u g) y b (ren_telescope (up (length ns)) s) o q2) (ap (λ y. with_shapes y (shapes_of g)) e ∙ entered_shapes u g) p3 in
        fine_then (after (inferred k g r p) (entered ns g)) (with_entries u g, p ++ q1) (λ x. expression_after k x.0 b (ren_telescope (up (length ns)) s) x.1) (λ x. x ≡ p ++ q)
        (fine_then (inferred k g r p) (monad u, p ++ q1) (entered ns g) (λ y. y ≡ (with_entries u g, p ++ q1)) (neutral_complete r g (monad u) (at_monad v) q1 p f h.0 p1)
        (fine_as (made (with_entries u g, p ++ q1)) (entered ns g (monad u, p ++ q1)) (λ y. y ≡ (with_entries u g, p ++ q1)) (entered_in ns g u (p ++ q1) p2) refl))
        (fine_same (expression_after k (with_entries u g) b (ren_telescope (up (length ns)) s) (p ++ q1)) (more p q1 q2 q p4)
        (expression_complete b (with_entries u g) (ren_telescope (up (length ns)) s) o q2 (p ++ q1) (formed_entries z.arguments z.simple u g fu f) h.1 (formed_past z g u s ns p2 d) (i ∙ sym (renumbered_entries (up (length ns)) s)) x))
    expression_complete (done t) g s o q p f h d i w = tuple_complete t g s o q p f h d i w

    pub tuple_complete : (b : PlainTuple) (g : Context) (s : PlainTelescope) (o : EntryShapes) (q p : List Equation) → IsFormed g → TupleHasNoHole b → SimplyFormedTelescope z.arguments (extended_over g z.simple) s → o ≡ unmarked_entries s
        → TupleGathers z g (shapes_of g) b s o q → Fine (tuple_after k g b s p) (λ x. x ≡ p ++ q)
    tuple_complete empty g s o q p f h d i w = fine_as (made p) (none_left (s, p)) (λ x. x ≡ p ++ q) (ap (λ s. none_left (s, p)) w.0) (none p q w.1)
    tuple_complete (entry m n b) g s o q p f h d i w =
        let (a, c, t, l, u, v, q1, q2, e, j, p1, p2, p3, p4) = entry_gathers_parts w in let d' = subst (λ y. SimplyFormedTelescope z.arguments (extended_over g z.simple) y) e d in
        let (e1, e2, e3) = entry_shapes (sym j ∙ i ∙ ap unmarked_entries e) in
        let x = searched g n a l q1 e1 e2 p1 in
        let y = typed_at n g a (unmarked_shape a) q1 f h.0 d'.0 x in
        fine_then (entry_after m n (s, p) (λ a q. gathered k g n a q)) (t, p ++ q1) (λ x. tuple_after k g b x.0 x.1) (λ x. x ≡ p ++ q)
        (fine_as (after (gathered k g n a p) (λ q. after (put_in_telescope n a c) (λ v. made (v, q)))) (entry_after m n (s, p) (λ a q. gathered k g n a q)) (λ y. y ≡ (t, p ++ q1)) (ap (λ s. entry_after m n (s, p) (λ a q. gathered k g n a q)) e ∙ entry_in m n a c p (λ a q. gathered k g n a q))
        (fine_then (gathered k g n a p) (p ++ q1) (λ q. after (put_in_telescope n a c) (λ v. made (v, q))) (λ y. y ≡ (t, p ++ q1)) (object_complete n g a (unmarked_shape a) q1 p f h.0 d'.0 refl x)
        (fine_then (put_in_telescope n a c) t (λ v. made (v, p ++ q1)) (λ y. y ≡ (t, p ++ q1)) (telescope_fine z g n a y c t d'.1 p2) refl)))
        (fine_same (tuple_after k g b t (p ++ q1)) (more p q1 q2 q p4) (tuple_complete b g t v q2 (p ++ q1) f h.1 (formed_put_telescope z g n (erase a) y c t d'.1 p2).0 (e3 ∙ sym (put_entries c t p2)) p3))
