-- What the function makes is gathered.
use Rattle.std.proofs.Common.{◌≡◌, ℕ, ◌+◌, Bool, true, false, if◌then◌else◌, List, [], ◌∷◌, ◌++◌, length, map, Option, Some, None, refl, sym, ap, subst, ⊎_elim, ◌∙◌}
use Rattle.std.proofs.Math.Logic.{◌⊎◌, inl, inr}
use Rattle.std.specs.List.{slice_get}
use Rattle.std.specs.Option.{option_map}
use Rattle.std.proofs.lemmas.List.{append_assoc, append-nil}
use Rattle.std.proofs.lemmas.Option.{slice_get-map}
use Rattle.clf_syntax.specs.declared.tree.Mode.{Mode}
use Rattle.clf_syntax.specs.declared.tree.Head.{Head}
use Rattle.clf_syntax.specs.declared.tree.Head.TheVariants.{Const, Var, Meta}
use Rattle.clf_syntax.specs.Tree.{PlainObject, lam, pair, unit, monadic, atomic, hole, PlainNeutral, head_alone, app, fst, snd, PlainExpression, step, done, PlainTuple, empty, entry, head_of}
use Rattle.clf_syntax.specs.TypeTree.{PlainType, family, function, PlainTelescope, SimpleType}
use Rattle.clf_syntax.specs.Simple.{erase}
use Rattle.clf_syntax.specs.Renaming.{ren_type, ren_telescope, up}
use Rattle.use_contexts.specs.Context.{Context, HasVariable, with_entries}
use Rattle.hered_subst.specs.Substitution.{single, SubstitutedType, SubstitutedTelescope, SubstitutedKind}
use Rattle.hered_subst.specs.TypedEnvironments.{is_metavariable}
use Rattle.hered_subst.proofs.SimpleTyping.{rank}
use Rattle.hered_put.specs.Function.{Answer, made, nested, run_type, run_telescope, run_kind, after}
use Rattle.hered_put.specs.Laws.{Meets}
use Rattle.hered_put.specs.Passes.{PassesType, PassesTelescope, PassesKind}
use Rattle.hered_put.proofs.Results.{function_is_sound}
use Rattle.clf_sig.specs.Entry.{PlainSignature, simple_types}
use Rattle.clf_simple.specs.Decision.{is_meta}
use Rattle.pattern_laws.specs.Equations.{Equation}
use Rattle.gathering.specs.Shape.{at_function, unmarked_shape, unmarked_entries, with_shapes}
use Rattle.gathering.specs.Setting.{Setting}
use Rattle.gathering.specs.Gather.{Gathers, NeutralGathers, ExpressionGathers, TupleGathers, HeadGathers}
use Rattle.elaboration_laws.specs.ItemSetting.{item_setting}
use Rattle.celf_gather.specs.Scene.{Scene, entry_type, head_type, put_in_type, put_in_telescope, put_in_kind}
use Rattle.celf_gather.specs.Gathered.{Inferred, gathered, inferred, expression_after, tuple_after, application_after, first_after, second_after, entered, entry_after, leaf_after, filled_after, is_filled}
use Rattle.celf_gather.proofs.Assigned.{filled_typed}
use Rattle.celf_gather.proofs.Parts.{after_out, the_made, lambda_out, pair_out, unit_out, monadic_out, filled_out, found_out, leaf_out, with_type_out, application_out, first_out, second_out, entered_out, none_out, entry_out}
use Rattle.celf_gather.proofs.Shapes.{shapes_of, renumbered_shape, renumbered_entries, put_shape, put_entries, entered_shapes}

-- ---- what is put
meets : {X : Type 0} (w : Answer X) (x : X) (P : X → Type 0) (F : Type 0) → Meets w P F → w ≡ made x → P x
meets w x P F m e = subst (λ v. Meets v P F) e m

pub type_put : (n : PlainObject) (a c t : PlainType) → put_in_type n a c ≡ made t → SubstitutedType (single n 0) c t
unfolding put_in_type
type_put n a c t e = meets (run_type (nested (rank (erase a))) (single n 0) c) t (SubstitutedType (single n 0) c) (PassesType (single n 0) c) ((function_is_sound (rank (erase a)) (single n 0)).3 c) e

pub telescope_put : (n : PlainObject) (a : PlainType) (s t : PlainTelescope) → put_in_telescope n a s ≡ made t → SubstitutedTelescope (single n 0) s t
unfolding put_in_telescope
telescope_put n a s t e = meets (run_telescope (nested (rank (erase a))) (single n 0) s) t (SubstitutedTelescope (single n 0) s) (PassesTelescope (single n 0) s) ((function_is_sound (rank (erase a)) (single n 0)).4 s) e

pub kind_put : (n : PlainObject) (a : PlainType) (s t : List PlainType) → put_in_kind n a s ≡ made t → SubstitutedKind (single n 0) s t
unfolding put_in_kind
kind_put n a s t e = meets (run_kind (nested (rank (erase a))) (single n 0) s) t (SubstitutedKind (single n 0) s) (PassesKind (single n 0) s) ((function_is_sound (rank (erase a)) (single n 0)).5 s) e

-- ---- heads
is_number : (h : Head) → is_metavariable h ≡ true → (m : ℕ) × (h ≡ Meta m)
is_number (Const c) e = absurd (cc)
is_number (Var i) e = absurd (cc)
is_number (Meta m) e = (m, refl)

variable_out : (g : Context) (i : ℕ) (w : Option (Mode × PlainType)) (a : PlainType) → slice_get g i ≡ w → entry_type i w ≡ Some a → HasVariable g i a × (slice_get (shapes_of g) i ≡ Some (unmarked_shape a))
variable_out g i (Some e) a p q =
    let r : ren_type (up (i + 1)) e.1 ≡ a = cc in
    ((e.0, e.1, p, sym r), slice_get-map (λ e. unmarked_shape e.1) g i ∙ ap (option_map (λ (e : Mode × PlainType). unmarked_shape e.1)) p ∙ ap Some (sym (renumbered_shape (up (i + 1)) e.1) ∙ ap unmarked_shape r))
variable_out g i None a p q = absurd (cc)

if_split : {A : Type 0} (b : Bool) (v w : Answer A) (y : A) → (if b then v else w) ≡ made y → ((b ≡ true) × (v ≡ made y)) ⊎ ((b ≡ false) × (w ≡ made y))
if_split true v w y e = inl (refl, e)
if_split false v w y e = inr (refl, e)

-- equations of three parts, and of one part
pub behind : (p q r : List Equation) {x y : List Equation} → x ≡ p ++ q → y ≡ x ++ r → y ≡ p ++ (q ++ r)
behind p q r e f = f ∙ ap (λ l. l ++ r) e ∙ append_assoc p q r

pub nothing : {p x : List Equation} → p ≡ x → x ≡ p ++ []
nothing {p} e = sym e ∙ sym (append-nil p)

module _ (sig : PlainSignature) (xs : List PlainType) (ms : List SimpleType) where
  abbrev pub scene : Scene
  scene = record { signature = sig; variables = xs; types = record { constants = simple_types sig ++ map erase xs; metavariables = ms } }

  abbrev pub setting : Setting
  setting = item_setting sig xs (slice_get ms)

  head_sound : (g : Context) (x : Head) (a : PlainType) → head_type scene g x ≡ Some a → HeadGathers setting g (shapes_of g) x a (unmarked_shape a)
  head_sound g (Const c) a e = (e, refl)
  head_sound g (Var i) a e = variable_out g i (slice_get g i) a refl e
  head_sound g (Meta m) a e = absurd (cc)

  mutual
    pub object_sound : (n : PlainObject) (g : Context) (t : PlainType) (p x : List Equation) → gathered scene g n t p ≡ made x → (q : List Equation) × (x ≡ p ++ q) × Gathers setting g (shapes_of g) n t (unmarked_shape t) q
    object_sound (lam m b) g t p x e =
        let (a, c, i, r) = lambda_out m t (λ a c. gathered scene ((m, a) ∷ g) b c p) x e in
        let (q, f, y) = object_sound b ((m, a) ∷ g) c p x r in
        (q, f, record { domain = a; range = c; passed = false; domain_shape = unmarked_shape a; range_shape = unmarked_shape c; type = i; shape = ap unmarked_shape i; body = y })
    object_sound (pair l r) g t p x e =
        let (a, c, x1, i, u, v) = pair_out t (λ a. gathered scene g l a p) (λ c q. gathered scene g r c q) x e in
        let (q1, f1, y1) = object_sound l g a p x1 u in
        let (q2, f2, y2) = object_sound r g c x1 x v in (
          q1 ++ q2,
          behind p q1 q2 f1 f2,
          record { left_type = a; right_type = c; left_shape = unmarked_shape a; right_shape = unmarked_shape c; of_left = q1; of_right = q2; type = i; shape = ap unmarked_shape i; left = y1; right = y2; equations = refl },
        )
    object_sound unit g t p x e = let (i, j) = unit_out t p x e in ([], nothing j, (i, refl))
    object_sound (monadic b) g t p x e =
        let (s, i, r) = monadic_out t (λ s. expression_after scene g b s p) x e in
        let (q, f, y) = expression_sound b g s p x r in
        (q, f, record { entries = s; entry_shapes = unmarked_entries s; type = i; shape = ap unmarked_shape i; body = y })
    object_sound (atomic n) g t p x e = ⊎_elim
        (λ (s : (is_meta n ≡ true) × (filled_after (is_filled scene g (atomic n) t) p ≡ made x)).
        let (m, h) = is_number (head_of n) s.0 in
        let (i, j) = filled_out (is_filled scene g (atomic n) t) p x s.1 in
        ([], nothing j, inr (inl (record { number = m; fills = refl; head = h; not_implicit = refl; typed = filled_typed sig xs ms g (atomic n) (erase t) i; equations = refl }))))
        (λ (s : (is_meta n ≡ false) × (leaf_after scene g t (inferred scene g n p) ≡ made x)).
        let (f, ns, y, i, u, v) = leaf_out scene g t (inferred scene g n p) x s.1 in
        let (os, ts, q2, j, k, r, l) = found_out scene g f ns y x v in
        let (q1, o, z) = neutral_sound n g p y u in (
          q1 ++ q2,
          behind p q1 q2 o l,
          inl (record {
            number = f;
            wanted = ns;
            found = os;
            types = ts;
            found_shape = unmarked_shape (family f os);
            of_neutral = q1;
            of_indices = q2;
            type = i;
            neutral = subst (λ a. NeutralGathers setting g (shapes_of g) n a (unmarked_shape a) q1) j z;
            arguments = k;
            pairs = r;
            equations = refl;
          }),
        ))
        (if_split (is_meta n) (filled_after (is_filled scene g (atomic n) t) p) (leaf_after scene g t (inferred scene g n p)) x e)
    object_sound hole g t p x e = ([], nothing (the_made e), refl)

    pub neutral_sound : (n : PlainNeutral) (g : Context) (p : List Equation) (y : Inferred) → inferred scene g n p ≡ made y → (q : List Equation) × (y.1 ≡ p ++ q) × NeutralGathers setting g (shapes_of g) n y.0 (unmarked_shape y.0) q
    neutral_sound (head_alone x) g p y e = let (i, j) = with_type_out (head_type scene g x) p y e in ([], nothing j, (head_sound g x y.0 i, refl))
    neutral_sound (app m r n) g p y e =
        let (x, u, v) = after_out (inferred scene g r p) (λ x. application_after m n x (λ a q. gathered scene g n a q)) y e in
        let (a, c, i, k, l) = application_out m n x (λ a q. gathered scene g n a q) y v in
        let (q1, f1, z1) = neutral_sound r g p x u in
        let (q2, f2, z2) = object_sound n g a x.1 y.1 k in
        let s = type_put n a c y.0 l in (
          q1 ++ q2,
          behind p q1 q2 f1 f2,
          record {
            domain = a;
            range = c;
            passed = false;
            domain_shape = unmarked_shape a;
            of_function = q1;
            of_argument = q2;
            applied = subst (λ o. NeutralGathers setting g (shapes_of g) r (function m a c) (at_function false (unmarked_shape a) o) q1) (sym (put_shape c y.0 s)) (subst (λ b. NeutralGathers setting g (shapes_of g) r b (unmarked_shape b) q1) i z1);
            argument = inr (refl, z2);
            type = s;
            equations = refl;
          },
        )
    neutral_sound (fst r) g p y e =
        let (x, u, v) = after_out (inferred scene g r p) first_after y e in
        let (c, i, j) = first_out x y v in
        let (q, f, z) = neutral_sound r g p x u in
        (q, sym j ∙ f, (c, unmarked_shape c, subst (λ b. NeutralGathers setting g (shapes_of g) r b (unmarked_shape b) q) i z))
    neutral_sound (snd r) g p y e =
        let (x, u, v) = after_out (inferred scene g r p) second_after y e in
        let (a, i, j) = second_out x y v in
        let (q, f, z) = neutral_sound r g p x u in
        (q, sym j ∙ f, (a, unmarked_shape a, subst (λ b. NeutralGathers setting g (shapes_of g) r b (unmarked_shape b) q) i z))

    pub expression_sound : (b : PlainExpression) (g : Context) (s : PlainTelescope) (p x : List Equation) → expression_after scene g b s p ≡ made x
        → (q : List Equation) × (x ≡ p ++ q) × ExpressionGathers setting g (shapes_of g) b s (unmarked_entries s) q
    expression_sound (step ns r b) g s p x e =
        let (y, u, v) = after_out (after (inferred scene g r p) (entered ns g)) (λ y. expression_after scene y.0 b (ren_telescope (up (length ns)) s) y.1) x e in
        let (z, u1, u2) = after_out (inferred scene g r p) (entered ns g) y u in
        let (w, i, j, k, l) = entered_out ns g z y u2 in
        let (q1, f1, z1) = neutral_sound r g p z u1 in
        let (q2, f2, z2) = expression_sound b y.0 (ren_telescope (up (length ns)) s) y.1 x v in (
          q1 ++ q2,
          behind p q1 q2 (sym l ∙ f1) f2,
          record {
            entries = w;
            entry_shapes = unmarked_entries w;
            of_right = q1;
            of_rest = q2;
            right = subst (λ a. NeutralGathers setting g (shapes_of g) r a (unmarked_shape a) q1) i z1;
            pattern = j;
            rest = subst (λ o. ExpressionGathers setting (with_entries w g) (with_shapes (unmarked_entries w) (shapes_of g)) b (ren_telescope (up (length ns)) s) o q2) (renumbered_entries (up (length ns)) s)
                (subst (λ h. ExpressionGathers setting (with_entries w g) h b (ren_telescope (up (length ns)) s) (unmarked_entries (ren_telescope (up (length ns)) s)) q2) (sym (entered_shapes w g))
                (subst (λ h. ExpressionGathers setting h (shapes_of h) b (ren_telescope (up (length ns)) s) (unmarked_entries (ren_telescope (up (length ns)) s)) q2) (sym k) z2));
            equations = refl;
          },
        )
    expression_sound (done t) g s p x e = tuple_sound t g s p x e

    pub tuple_sound : (b : PlainTuple) (g : Context) (s : PlainTelescope) (p x : List Equation) → tuple_after scene g b s p ≡ made x
        → (q : List Equation) × (x ≡ p ++ q) × TupleGathers setting g (shapes_of g) b s (unmarked_entries s) q
    tuple_sound empty g s p x e = let (i, j) = none_out s p x e in ([], nothing j, (i, refl))
    tuple_sound (entry m n b) g s p x e =
        let (y, u, v) = after_out (entry_after m n (s, p) (λ a q. gathered scene g n a q)) (λ y. tuple_after scene g b y.0 y.1) x e in
        let (a, c, i, k, l) = entry_out m n s p (λ a q. gathered scene g n a q) y u in
        let (q1, f1, z1) = object_sound n g a p y.1 k in
        let (q2, f2, z2) = tuple_sound b g y.0 y.1 x v in
        let o = telescope_put n a c y.0 l in (
          q1 ++ q2,
          behind p q1 q2 f1 f2,
          record {
            first_type = a;
            later_types = c;
            after_put = y.0;
            passed = false;
            first_shape = unmarked_shape a;
            later_shapes = unmarked_entries c;
            of_first = q1;
            of_later = q2;
            type = i;
            shape = ap unmarked_entries i;
            first = inr (refl, z1);
            put = o;
            later = subst (λ h. TupleGathers setting g (shapes_of g) b y.0 h q2) (put_entries c y.0 o) z2;
            equations = refl;
          },
        )
