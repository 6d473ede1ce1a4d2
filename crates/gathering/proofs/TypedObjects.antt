-- What has a type fits it.
use Rattle.std.proofs.Common.{ap, inl, inr, subst, sym, ⊎_elim, ◌∙◌}
use Rattle.std.specs.List.{slice_get}
use Rattle.std.specs.Prelude.{Bool, List, Some, [], false, length, refl, suc, true, zero, ℕ, ◌&&◌, ◌∷◌, ◌≡◌, ◌⊎◌}
use Rattle.clf_syntax.specs.Occurs.{occurs_telescope, occurs_type}
use Rattle.clf_syntax.specs.Renaming.{ren_telescope, up}
use Rattle.clf_syntax.specs.Simple.{Assignment, SimplyTyped, erase, erase_telescope, extended_over}
use Rattle.clf_syntax.specs.Tree.{PlainExpression, PlainNeutral, PlainObject, PlainTuple, app, atomic, done, empty, entry, fst, head_alone, hole, lam, monadic, pair, snd, step, unit}
use Rattle.clf_syntax.specs.TypeTree.{PlainTelescope, PlainType, SimpleTelescope, SimpleType, arrow, binding, both, end, family, function, lax, monad, simple_binding, simple_with, top}
use Rattle.clf_syntax.specs.declared.tree.Head.{Head}
use Rattle.clf_syntax.specs.declared.tree.Head.TheVariants.{Const, Meta, Var}
use Rattle.clf_syntax.specs.declared.tree.Mode.{Mode}
use Rattle.use_contexts.specs.Context.{Context, HasVariable, with_entries}
use Rattle.use_contexts.specs.Holding.{Holding, all_held, is_persistent}
use Rattle.clf_sig.specs.Entry.{PlainSignature}
use Rattle.subst_laws.proofs.Renamed.{erase_renamed, erase_renamed_telescope}
use Rattle.clf_rules.specs.Typing.{ExpressionHasType, HasType, HeadHasType, Synthesizes, TupleHasType}
use Rattle.typing_laws.proofs.Erased.{entered, erased_modes, of_constant, put_telescope, put_type}
use Rattle.gathering.proofs.Conforming.{conforms_typed}
use Rattle.gathering.proofs.Heads.{variable_first, variable_next}
use Rattle.gathering.proofs.Parts.{application_rule_parts, atomic_rule_parts, entry_shape_parts, function_shape_parts, lambda_rule_parts, pair_rule_parts, step_rule_parts, to_application_conforms, to_entry_conforms, to_entry_shape, to_function_shape, to_lambda_conforms, to_leaf_conforms, to_monadic_conforms, to_pair_conforms, to_step_conforms, tuple_entry_rule_parts}
use Rattle.gathering.specs.Conform.{Conforms, ExpressionConforms, HeadConforms, NeutralConforms, TupleConforms}
use Rattle.gathering.specs.Instances.{HasSignature}
use Rattle.gathering.specs.Laws.{TypedConforms}
use Rattle.gathering.specs.Setting.{Setting}
use Rattle.gathering.specs.Shape.{AreEntriesOf, AreShapesOf, EntryShapes, IsShapeOf, Shape, an_entry, at_both, at_family, at_function, at_monad, at_top, no_entry, unmarked_entries, unmarked_shape, with_shapes, written_entries, written_shape}

and_left : (a b : Bool) → a && b ≡ true → a ≡ true
and_left true b e = refl
and_left false b e = e

not_true : false ≡ true → ⊥
not_true e = cc

mutual
  pub written_is : (a : PlainType) → IsShapeOf (written_shape a) (erase a)
  written_is (family f ns) = refl
  written_is (function m a b) = to_function_shape (m, erase a, erase b, refl, and_left (is_persistent m) (occurs_type 0 b), written_is a, written_is b)
  written_is (both a b) = (erase a, erase b, refl, written_is a, written_is b)
  written_is top = refl
  written_is (monad s) = (erase_telescope s, refl, written_entries_are s)

  written_entries_are : (s : PlainTelescope) → AreEntriesOf (written_entries s) (erase_telescope s)
  written_entries_are end = refl
  written_entries_are (binding m a s) = to_entry_shape (m, erase a, erase_telescope s, refl, and_left (is_persistent m) (occurs_telescope 0 s), written_is a, written_entries_are s)

mutual
  pub unmarked_is : (a : PlainType) → IsShapeOf (unmarked_shape a) (erase a)
  unmarked_is (family f ns) = refl
  unmarked_is (function m a b) = to_function_shape (m, erase a, erase b, refl, (λ e. absurd (not_true e)), unmarked_is a, unmarked_is b)
  unmarked_is (both a b) = (erase a, erase b, refl, unmarked_is a, unmarked_is b)
  unmarked_is top = refl
  unmarked_is (monad s) = (erase_telescope s, refl, unmarked_entries_are s)

  unmarked_entries_are : (s : PlainTelescope) → AreEntriesOf (unmarked_entries s) (erase_telescope s)
  unmarked_entries_are end = refl
  unmarked_entries_are (binding m a s) = to_entry_shape (m, erase a, erase_telescope s, refl, (λ e. absurd (not_true e)), unmarked_is a, unmarked_entries_are s)

-- shapes, by the types that they belong to
pub shape_of_function : (o : Shape) (m : Mode) (a c : SimpleType) → IsShapeOf o (arrow m a c) → (d : Bool) × (u v : Shape) × (o ≡ at_function d u v) × IsShapeOf u a × IsShapeOf v c × (d ≡ true → is_persistent m ≡ true)
shape_of_function (at_family f) m a c p = absurd (cc)
shape_of_function (at_function d u v) m a c p = let (n, b, e, i, l, j, k) = function_shape_parts p in (d, u, v, refl, subst (IsShapeOf u) (cc) j, subst (IsShapeOf v) (cc) k, let f : n ≡ m = cc in subst (λ y. d ≡ true → is_persistent y ≡ true) f l)
shape_of_function (at_both u v) m a c p = absurd (let e = p.2 in cc)
shape_of_function at_top m a c p = absurd (cc)
shape_of_function (at_monad x) m a c p = absurd (let e = p.1 in cc)

pub shape_of_both : (o : Shape) (a c : SimpleType) → IsShapeOf o (simple_with a c) → (u v : Shape) × (o ≡ at_both u v) × IsShapeOf u a × IsShapeOf v c
shape_of_both (at_family f) a c p = absurd (cc)
shape_of_both (at_function d u v) a c p = absurd (let e = p.type in cc)
shape_of_both (at_both u v) a c p = let (b, e, i, j, k) = p in (u, v, refl, subst (IsShapeOf u) (cc) j, subst (IsShapeOf v) (cc) k)
shape_of_both at_top a c p = absurd (cc)
shape_of_both (at_monad x) a c p = absurd (let e = p.1 in cc)

pub shape_of_monad : (o : Shape) (s : SimpleTelescope) → IsShapeOf o (lax s) → (x : EntryShapes) × (o ≡ at_monad x) × AreEntriesOf x s
shape_of_monad (at_family f) s p = absurd (cc)
shape_of_monad (at_function d u v) s p = absurd (let e = p.type in cc)
shape_of_monad (at_both u v) s p = absurd (let e = p.2 in cc)
shape_of_monad at_top s p = absurd (cc)
shape_of_monad (at_monad x) s p = let (t, e, j) = p in (x, refl, subst (AreEntriesOf x) (cc) j)

pub shape_of_entry : (x : EntryShapes) (m : Mode) (a : SimpleType) (c : SimpleTelescope) → AreEntriesOf x (simple_binding m a c) → (d : Bool) × (u : Shape) × (v : EntryShapes) × (x ≡ an_entry d u v) × IsShapeOf u a × AreEntriesOf v c × (d ≡ true → is_persistent m ≡ true)
shape_of_entry no_entry m a c p = absurd (cc)
shape_of_entry (an_entry d u v) m a c p = let (n, b, e, i, l, j, k) = entry_shape_parts p in (d, u, v, refl, subst (IsShapeOf u) (cc) j, subst (AreEntriesOf v) (cc) k, let f : n ≡ m = cc in subst (λ y. d ≡ true → is_persistent y ≡ true) f l)

pub over_shapes : (x : EntryShapes) (t : PlainTelescope) (w : List Shape) (g : Context) → AreEntriesOf x (erase_telescope t) → AreShapesOf w g → AreShapesOf (with_shapes x w) (with_entries t g)
over_shapes no_entry end w g p r = r
over_shapes (an_entry d u x) (binding m a t) w g p r = let (n, b, c, e, l, i, j) = entry_shape_parts p in
    over_shapes x t (u ∷ w) ((m, a) ∷ g) (subst (AreEntriesOf x) (later_rest e) j) (subst (IsShapeOf u) (later_type e) i, r)
  where
    later_rest : {n m : Mode} {a b : SimpleType} {s c : SimpleTelescope} → simple_binding m a s ≡ simple_binding n b c → c ≡ s
    later_rest e = cc

    later_type : {n m : Mode} {a b : SimpleType} {s c : SimpleTelescope} → simple_binding m a s ≡ simple_binding n b c → b ≡ a
    later_type e = cc
over_shapes no_entry (binding m a t) w g p r = absurd (cc)
over_shapes (an_entry d u x) end w g p r = absurd (let e = p.type in cc)

pub variable_shape : (w : List Shape) (g : Context) → AreShapesOf w g → (i : ℕ) (a : PlainType) → HasVariable g i a → (o : Shape) × (slice_get w i ≡ Some o) × IsShapeOf o (erase a)
variable_shape [] [] p i a q = absurd (none i q.2)
  where
    none : (i : ℕ) {x : Mode × PlainType} → slice_get [] i ≡ Some x → ⊥
    none i k = cc
variable_shape (u ∷ w) (e ∷ g) p zero a q = (u, refl, subst (IsShapeOf u) (sym (ap erase (variable_first e g a q) ∙ erase_renamed (up 1) e.1)) p.0)
variable_shape (u ∷ w) (e ∷ g) p (suc i) a q = let (b, k, l) = variable_next e g i a q in let (o, j, m) = variable_shape w g p.1 i b k in (o, j, subst (IsShapeOf o) (sym (ap erase l ∙ erase_renamed (up 1) b)) m)
variable_shape [] (e ∷ g) p i a q = absurd p
variable_shape (u ∷ w) [] p i a q = absurd p

pub variable_simple : (g : Context) (b : Assignment) (i : ℕ) (a : PlainType) → HasVariable g i a → extended_over g b (Var i) ≡ Some (erase a)
variable_simple [] b i a q = absurd (none i q.2)
  where
    none : (i : ℕ) {x : Mode × PlainType} → slice_get [] i ≡ Some x → ⊥
    none i k = cc
variable_simple (e ∷ g) b zero a q = ap (λ t. Some t) (sym (ap erase (variable_first e g a q) ∙ erase_renamed (up 1) e.1))
variable_simple (e ∷ g) b (suc i) a q = let (c, k, l) = variable_next e g i a q in variable_simple g b i c k ∙ ap (λ t. Some t) (sym (ap erase l ∙ erase_renamed (up 1) c))

pub decide : (d : Bool) → (d ≡ true) ⊎ (d ≡ false)
decide true = inl refl
decide false = inr refl

module _ (sig : PlainSignature) (z : Setting) (has : HasSignature sig z) where
  abbrev Z : Context → Assignment
  Z g = extended_over g z.simple

  pub head_conforms : (g : Context) (w : List Shape) (h : Holding) → AreShapesOf w g → (x : Head) (a : PlainType) → HeadHasType sig g h x a → (o : Shape) × (Z g x ≡ Some (erase a)) × HeadConforms z w x o × IsShapeOf o (erase a)
  head_conforms g w h p (Const c) a q = let i = has.given c a q.0 in let j = has.simple c a q.0 in (z.shape a, of_constant z.simple g c ∙ j, (a, i, refl), has.shapes a)
  head_conforms g w h p (Var i) a q = let (o, j, k) = variable_shape w g p i a q.1 in (o, variable_simple g z.simple i a q.1, j, k)
  head_conforms g w h p (Meta m) a q = absurd q

  argument_conforms : (g : Context) (w : List Shape) (n : PlainObject) (t : SimpleType) (d : Bool) (u : Shape) → Conforms z w (Z g) n t u → ((d ≡ true) × SimplyTyped (Z g) n t) ⊎ ((d ≡ false) × Conforms z w (Z g) n t u)
  argument_conforms g w n t d u p = ⊎_elim (λ e. inl (e, conforms_typed z n w (Z g) t u p)) (λ e. inr (e, p)) (decide d)

  mutual
    pub object_conforms : (n : PlainObject) (g : Context) (w : List Shape) (h : Holding) (t : PlainType) (s : SimpleType) (o : Shape) → AreShapesOf w g → erase t ≡ s → IsShapeOf o s → HasType sig g h n t → Conforms z w (Z g) n s o
    object_conforms (lam m b) g w h t s o p e q r = let (a, c, j, r') = lambda_rule_parts r in let k = sym e ∙ ap erase j in let (d, u, v, l, x, y, z') = shape_of_function o m (erase a) (erase c) (subst (IsShapeOf o) k q) in
        to_lambda_conforms (erase a, erase c, d, u, v, k, l, object_conforms b ((m, a) ∷ g) (u ∷ w) (true ∷ h) c (erase c) v (x, p) refl y r')
    object_conforms (pair f r) g w h t s o p e q y = let (a, c, j, y1, y2) = pair_rule_parts y in let k = sym e ∙ ap erase j in let (u, v, l, x1, x2) = shape_of_both o (erase a) (erase c) (subst (IsShapeOf o) k q) in
        to_pair_conforms (erase a, erase c, u, v, k, l, object_conforms f g w h a (erase a) u p refl x1 y1, object_conforms r g w h c (erase c) v p refl x2 y2)
    object_conforms unit g w h t s o p e q r = sym e ∙ ap erase r
    object_conforms (monadic n) g w h t s o p e q r = let (a, j, r') = r in let k = sym e ∙ ap erase j in let (x, l, y) = shape_of_monad o (erase_telescope a) (subst (IsShapeOf o) k q) in
        to_monadic_conforms (erase_telescope a, x, k, l, result_conforms n g w h a (erase_telescope a) x p refl y r')
    object_conforms (atomic n) g w h t s o p e q r = let (f, ns, os, j, r', y) = atomic_rule_parts r in let (u, x, k) = neutral_conforms n g w h (family f os) p r' in
        inl (to_leaf_conforms (f, u, sym e ∙ ap erase j, subst (λ v. NeutralConforms z w (Z g) n v u) (sym (sym e ∙ ap erase j)) x))
    object_conforms hole g w h t s o p e q r = absurd r

    pub neutral_conforms : (n : PlainNeutral) (g : Context) (w : List Shape) (h : Holding) (t : PlainType) → AreShapesOf w g → Synthesizes sig g h n t → (o : Shape) × NeutralConforms z w (Z g) n (erase t) o × IsShapeOf o (erase t)
    neutral_conforms (head_alone x) g w h t p r = let (o, i, j, k) = head_conforms g w h p x t r in (o, (i, j), k)
    neutral_conforms (app m r n) g w h t p y = let (a, c, h1, h2, y0, y1, y2, y3, y4) = application_rule_parts y in let (o, x, k) = neutral_conforms r g w h1 (function m a c) p y1 in
        let (d, u, v, l, k1, k2, k3) = shape_of_function o m (erase a) (erase c) k in let e = put_type y4 in (
          v,
          to_application_conforms (
            erase a,
            d,
            u,
            subst (λ b. NeutralConforms z w (Z g) r (arrow m (erase a) b) (at_function d u v)) (sym e) (subst (λ b. NeutralConforms z w (Z g) r (arrow m (erase a) (erase c)) b) l x),
            argument_conforms g w n (erase a) d u (object_conforms n g w h2 a (erase a) u p refl k1 y3),
          ),
          subst (IsShapeOf v) (sym e) k2,
        )
    neutral_conforms (fst r) g w h t p y = let (c, y') = y in let (o, x, k) = neutral_conforms r g w h (both t c) p y' in let (u, v, l, k1, k2) = shape_of_both o (erase t) (erase c) k in
        (u, (erase c, v, subst (λ b. NeutralConforms z w (Z g) r (simple_with (erase t) (erase c)) b) l x), k1)
    neutral_conforms (snd r) g w h t p y = let (c, y') = y in let (o, x, k) = neutral_conforms r g w h (both c t) p y' in let (u, v, l, k1, k2) = shape_of_both o (erase c) (erase t) k in
        (v, (erase c, u, subst (λ b. NeutralConforms z w (Z g) r (simple_with (erase c) (erase t)) b) l x), k2)

    pub result_conforms : (n : PlainExpression) (g : Context) (w : List Shape) (h : Holding) (t : PlainTelescope) (s : SimpleTelescope) (o : EntryShapes) → AreShapesOf w g → erase_telescope t ≡ s → AreEntriesOf o s → ExpressionHasType sig g h n t → ExpressionConforms z w (Z g) n s o
    result_conforms (step ms r n) g w h t s o p e q y = let (a, h1, h2, y0, y1, m, y2) = step_rule_parts y in let (u, x, k) = neutral_conforms r g w h1 (monad a) p y1 in let (v, l, k') = shape_of_monad u (erase_telescope a) k in
        to_step_conforms (
          erase_telescope a,
          v,
          subst (λ b. NeutralConforms z w (Z g) r (lax (erase_telescope a)) b) l x,
          erased_modes a ∙ m,
          subst (λ (b : Assignment). ExpressionConforms z (with_shapes v w) b n s o) (entered z.simple a g)
              (result_conforms n (with_entries a g) (with_shapes v w) (all_held ms h2) (ren_telescope (up (length ms)) t) s o (over_shapes v a w g k' p) (erase_renamed_telescope (up (length ms)) t ∙ e) q y2),
        )
    result_conforms (done n) g w h t s o p e q y = tuple_conforms n g w h t s o p e q y

    pub tuple_conforms : (n : PlainTuple) (g : Context) (w : List Shape) (h : Holding) (t : PlainTelescope) (s : SimpleTelescope) (o : EntryShapes) → AreShapesOf w g → erase_telescope t ≡ s → AreEntriesOf o s → TupleHasType sig g h n t → TupleConforms z w (Z g) n s o
    tuple_conforms empty g w h t s o p e q y = sym e ∙ ap erase_telescope y.0
    tuple_conforms (entry m n x) g w h t s o p e q y = let (a, b, c, h1, h2, j, y0, y1, y2, y3, y4) = tuple_entry_rule_parts y in let k = sym e ∙ ap erase_telescope j in
        let (d, u, v, l, k1, k2, k3) = shape_of_entry o m (erase a) (erase_telescope b) (subst (AreEntriesOf o) k q) in
        to_entry_conforms (
          erase a,
          erase_telescope b,
          d,
          u,
          v,
          k,
          l,
          argument_conforms g w n (erase a) d u (object_conforms n g w h1 a (erase a) u p refl k1 y2),
          tuple_conforms x g w h2 c (erase_telescope b) v p (put_telescope y3) k2 y4,
        )

pub typed_conforms : TypedConforms
typed_conforms sig z has g w h n a o p q r = object_conforms sig z has n g w h a (erase a) o p refl q r
