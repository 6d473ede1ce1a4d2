-- The laws that the functions state.
use Rattle.clf_syntax.proofs.RenamingLaws.{identity, identity_expression, lift_id}
use Rattle.clf_syntax.proofs.TypeRenaming.{identity_telescope, identity_type}
use Rattle.clf_syntax.specs.Renaming.{raise, ren, ren_expression}
use Rattle.clf_syntax.specs.Simple.{Assignment, Families, SimplyFormed, SimplyFormedKind, SimplyFormedTelescope, SimplyTyped, SimplyTypedExpression}
use Rattle.clf_syntax.specs.Tree.{PlainExpression, PlainObject}
use Rattle.clf_syntax.specs.TypeTree.{PlainKind, PlainTelescope, PlainType, SimpleTelescope, SimpleType}
use Rattle.clf_syntax.specs.declared.tree.Head.{Head}
use Rattle.clf_syntax.specs.declared.tree.Head.TheVariants.{Const, Meta, Var}
use Rattle.std.proofs.Common.{ap, arith, inl, subst, sym, ◌∙◌}
use Rattle.std.specs.Prelude.{List, Some, [], refl, true, ℕ, ◌+◌, ◌<◌, ◌∷◌, ◌≡◌, ◌≤◌}
use Rattle.hered_subst.proofs.Determined.{determined, determined_expression}
use Rattle.hered_subst.proofs.SimpleTyping.{of_expression, of_typed, renamed_typed, renamed_typed_expression, to_expression, to_typed}
use Rattle.hered_subst.proofs.Single.{fits_one, renames, renames_expression, single_low, under_keeping}
use Rattle.hered_subst.proofs.TypedEnvironments.{keeps_single, to_kept}
use Rattle.hered_subst.proofs.TypedResults.{result_is_typed, typed_has_result}
use Rattle.hered_subst.proofs.Types.{determined_kind, determined_telescope, determined_type, renames_telescope, renames_type}
use Rattle.hered_subst.specs.Laws.{inserted, keeping}
use Rattle.hered_subst.specs.Substitution.{Environment, Substituted, SubstitutedEach, SubstitutedExpression, SubstitutedKind, SubstitutedTelescope, SubstitutedType, each_next, each_none, in_argument, in_no_argument, keep, single, under}
use Rattle.hered_subst.specs.TypedEnvironments.{TypedEnvironment}
use Rattle.subst_laws.proofs.Composing.{compose_each, compose_kind, compose_object, compose_steps, compose_telescope, compose_type}
use Rattle.subst_laws.proofs.Environs.{over_keeps, put_first, put_later, together}
use Rattle.subst_laws.proofs.TypedBack.{typed_back, typed_back_expression}
use Rattle.subst_laws.specs.Environments.{Composed, GoesOver}
use Rattle.subst_laws.specs.Laws.{Agreement, Composition, PutCommutes, RenamingKeepsTypes, SingleGoesOver, Unmoved}

pub composition : Composition
composition arguments g z y s u v es eu f = record {
  object = λ o x r t p a b. compose_object true g z y s u v (to_kept true g z s es) (to_kept true z y u eu) f (to_typed true g o t p) a b;
  expression = λ o x r t p a b. compose_steps true g z y s u v (to_kept true g z s es) (to_kept true z y u eu) f (to_expression true g o t p) a b;
  each = λ o x r t p a b. compose_each g z y s u v es eu f t p a b;
  type = λ o x r p a b. compose_type arguments g z y s u v es eu f o p a b;
  telescope = λ o x r p a b. compose_telescope arguments g z y s u v es eu f o p a b;
  kind = λ o x r p a b. compose_kind arguments g z y s u v es eu f o p a b;
}

-- the environment that keeps everything
same_head : (h : Head) → keeping (λ i. i) h ≡ keep h
same_head (Const c) = refl
same_head (Var i) = refl
same_head (Meta m) = refl

keeps_same : (g : Assignment) → TypedEnvironment true g g (keeping (λ i. i))
keeps_same g h u e = inl (h, same_head h, e, refl)

composed_same : (g : Assignment) (s v : Environment) → ((h : Head) (t : SimpleType) → g h ≡ Some t → v h ≡ s h) → Composed g (keeping (λ i. i)) s v
composed_same g s v f h t e = inl (h, same_head h, f h t e)

same_object : (o : PlainObject) → Substituted (keeping (λ i. i)) o o
same_object o = subst (Substituted (keeping (λ i. i)) o) (identity o) (renames (λ i. i) o)

same_steps : (e : PlainExpression) → SubstitutedExpression (keeping (λ i. i)) e e
same_steps e = subst (SubstitutedExpression (keeping (λ i. i)) e) (identity_expression e) (renames_expression (λ i. i) e)

same_each : (ns : List PlainObject) → SubstitutedEach (keeping (λ i. i)) ns ns
same_each [] = each_none
same_each (n ∷ ns) = each_next (same_object n) (same_each ns)

same_type : (a : PlainType) → SubstitutedType (keeping (λ i. i)) a a
same_type a = subst (SubstitutedType (keeping (λ i. i)) a) (identity_type a) (renames_type (λ i. i) a)

same_telescope : (u : PlainTelescope) → SubstitutedTelescope (keeping (λ i. i)) u u
same_telescope u = subst (SubstitutedTelescope (keeping (λ i. i)) u) (identity_telescope u) (renames_telescope (λ i. i) u)

same_under : under 1 (keeping (λ i. i)) ≡ keeping (λ i. i)
same_under = under_keeping 1 (λ i. i) ∙ ap keeping (lift_id 1)

same_kind : (k : PlainKind) → SubstitutedKind (keeping (λ i. i)) k k
same_kind [] = in_no_argument
same_kind (a ∷ k) = in_argument (same_type a) (subst (λ (s : Environment). SubstitutedKind s k k) (sym same_under) (same_kind k))

pub agreement : Agreement
agreement arguments g z s v f j = let all = composition arguments g g z (keeping (λ i. i)) s v (keeps_same g) f (composed_same g s v j) in record {
  object = λ o x t p q. all.object o o x t p (same_object o) q;
  expression = λ o x t p q. all.expression o o x t p (same_steps o) q;
  each = λ o x t p q. all.each o o x t p (same_each o) q;
  type = λ o x p q. all.type o o x p (same_type o) q;
  telescope = λ o x p q. all.telescope o o x p (same_telescope o) q;
  kind = λ o x p q. all.kind o o x p (same_kind o) q;
}

pub unmoved : Unmoved
unmoved arguments g s j = let all = agreement arguments g g (keeping (λ i. i)) s (keeps_same g) (λ h t e. j h t e ∙ sym (same_head h)) in record {
  object = λ o t p. all.object o o t p (same_object o);
  expression = λ o t p. all.expression o o t p (same_steps o);
  each = λ o t p. all.each o o t p (same_each o);
  type = λ o p. all.type o o p (same_type o);
  telescope = λ o p. all.telescope o o p (same_telescope o);
  kind = λ o p. all.kind o o p (same_kind o);
}

-- put and then an environment, or the environment that goes over it and then put
module _ (arguments : Families) (g z : Assignment) (k : ℕ) (a : SimpleType) (s v : Environment) (es : TypedEnvironment true g z s) (over : GoesOver k s v) (n i : PlainObject) (tn : SimplyTyped g n a) (sn : Substituted s n i) where
  ti : SimplyTyped z i a
  ti = (result_is_typed true arguments g z s es).object n i a tn sn

  first_typed : TypedEnvironment true (inserted k a g) g (single n k)
  first_typed = keeps_single true g k n a tn

  over_typed : TypedEnvironment true (inserted k a g) (inserted k a z) v
  over_typed = over_keeps g z k a s v es over

  later_typed : TypedEnvironment true (inserted k a z) z (single i k)
  later_typed = keeps_single true z k i a ti

  one_way : Composed (inserted k a g) (single n k) s (together n k s i)
  one_way = put_first (inserted k a g) n i k s sn

  other_way : Composed (inserted k a g) v (single i k) (together n k s i)
  other_way = put_later (inserted k a g) n i k s v over

  commutes_object : (o p q r : PlainObject) (t : SimpleType) → SimplyTyped (inserted k a g) o t → Substituted (single n k) o p → Substituted v o q
      → (Substituted s p r → Substituted (single i k) q r) × (Substituted (single i k) q r → Substituted s p r)
  commutes_object o p q r t to sp vq = (
    (λ sr. let (x, b, c) = (typed_has_result true arguments (inserted k a z) z (single i k) later_typed).object q t ((result_is_typed true arguments (inserted k a g) (inserted k a z) v over_typed).object o q t to vq) in
        subst (Substituted (single i k) q) (determined (there x b) (here r sr)) b),
    (λ ir. let (x, b, c) = (typed_has_result true arguments g z s es).object p t ((result_is_typed true arguments (inserted k a g) g (single n k) first_typed).object o p t to sp) in
        subst (Substituted s p) (determined (here x b) (there r ir)) b),
  )
    where
      here : (x : PlainObject) → Substituted s p x → Substituted (together n k s i) o x
      here x b = (composition arguments (inserted k a g) g z (single n k) s (together n k s i) first_typed es one_way).object o p x t to sp b

      there : (x : PlainObject) → Substituted (single i k) q x → Substituted (together n k s i) o x
      there x b = (composition arguments (inserted k a g) (inserted k a z) z v (single i k) (together n k s i) over_typed later_typed other_way).object o q x t to vq b

  commutes_steps : (o p q r : PlainExpression) (t : SimpleTelescope) → SimplyTypedExpression (inserted k a g) o t → SubstitutedExpression (single n k) o p → SubstitutedExpression v o q
      → (SubstitutedExpression s p r → SubstitutedExpression (single i k) q r) × (SubstitutedExpression (single i k) q r → SubstitutedExpression s p r)
  commutes_steps o p q r t to sp vq = (
    (λ sr. let (x, b, c) = (typed_has_result true arguments (inserted k a z) z (single i k) later_typed).expression q t ((result_is_typed true arguments (inserted k a g) (inserted k a z) v over_typed).expression o q t to vq) in
        subst (SubstitutedExpression (single i k) q) (determined_expression (there x b) (here r sr)) b),
    (λ ir. let (x, b, c) = (typed_has_result true arguments g z s es).expression p t ((result_is_typed true arguments (inserted k a g) g (single n k) first_typed).expression o p t to sp) in
        subst (SubstitutedExpression s p) (determined_expression (here x b) (there r ir)) b),
  )
    where
      here : (x : PlainExpression) → SubstitutedExpression s p x → SubstitutedExpression (together n k s i) o x
      here x b = (composition arguments (inserted k a g) g z (single n k) s (together n k s i) first_typed es one_way).expression o p x t to sp b

      there : (x : PlainExpression) → SubstitutedExpression (single i k) q x → SubstitutedExpression (together n k s i) o x
      there x b = (composition arguments (inserted k a g) (inserted k a z) z v (single i k) (together n k s i) over_typed later_typed other_way).expression o q x t to vq b

  commutes_type : (o p q r : PlainType) → SimplyFormed arguments (inserted k a g) o → SubstitutedType (single n k) o p → SubstitutedType v o q
      → (SubstitutedType s p r → SubstitutedType (single i k) q r) × (SubstitutedType (single i k) q r → SubstitutedType s p r)
  commutes_type o p q r to sp vq = (
    (λ sr. let (x, b, c, d) = (typed_has_result true arguments (inserted k a z) z (single i k) later_typed).type q ((result_is_typed true arguments (inserted k a g) (inserted k a z) v over_typed).type o q to vq).0 in
        subst (SubstitutedType (single i k) q) (determined_type (there x b) (here r sr)) b),
    (λ ir. let (x, b, c, d) = (typed_has_result true arguments g z s es).type p ((result_is_typed true arguments (inserted k a g) g (single n k) first_typed).type o p to sp).0 in
        subst (SubstitutedType s p) (determined_type (here x b) (there r ir)) b),
  )
    where
      here : (x : PlainType) → SubstitutedType s p x → SubstitutedType (together n k s i) o x
      here x b = (composition arguments (inserted k a g) g z (single n k) s (together n k s i) first_typed es one_way).type o p x to sp b

      there : (x : PlainType) → SubstitutedType (single i k) q x → SubstitutedType (together n k s i) o x
      there x b = (composition arguments (inserted k a g) (inserted k a z) z v (single i k) (together n k s i) over_typed later_typed other_way).type o q x to vq b

  commutes_telescope : (o p q r : PlainTelescope) → SimplyFormedTelescope arguments (inserted k a g) o → SubstitutedTelescope (single n k) o p → SubstitutedTelescope v o q
      → (SubstitutedTelescope s p r → SubstitutedTelescope (single i k) q r) × (SubstitutedTelescope (single i k) q r → SubstitutedTelescope s p r)
  commutes_telescope o p q r to sp vq = (
    (λ sr. let (x, b, c, d) = (typed_has_result true arguments (inserted k a z) z (single i k) later_typed).telescope q ((result_is_typed true arguments (inserted k a g) (inserted k a z) v over_typed).telescope o q to vq).0 in
        subst (SubstitutedTelescope (single i k) q) (determined_telescope (there x b) (here r sr)) b),
    (λ ir. let (x, b, c, d) = (typed_has_result true arguments g z s es).telescope p ((result_is_typed true arguments (inserted k a g) g (single n k) first_typed).telescope o p to sp).0 in
        subst (SubstitutedTelescope s p) (determined_telescope (here x b) (there r ir)) b),
  )
    where
      here : (x : PlainTelescope) → SubstitutedTelescope s p x → SubstitutedTelescope (together n k s i) o x
      here x b = (composition arguments (inserted k a g) g z (single n k) s (together n k s i) first_typed es one_way).telescope o p x to sp b

      there : (x : PlainTelescope) → SubstitutedTelescope (single i k) q x → SubstitutedTelescope (together n k s i) o x
      there x b = (composition arguments (inserted k a g) (inserted k a z) z v (single i k) (together n k s i) over_typed later_typed other_way).telescope o q x to vq b

  commutes_kind : (o p q r : PlainKind) → SimplyFormedKind arguments (inserted k a g) o → SubstitutedKind (single n k) o p → SubstitutedKind v o q
      → (SubstitutedKind s p r → SubstitutedKind (single i k) q r) × (SubstitutedKind (single i k) q r → SubstitutedKind s p r)
  commutes_kind o p q r to sp vq = (
    (λ sr. let (x, b, c) = (typed_has_result true arguments (inserted k a z) z (single i k) later_typed).kind q ((result_is_typed true arguments (inserted k a g) (inserted k a z) v over_typed).kind o q to vq) in
        subst (SubstitutedKind (single i k) q) (determined_kind (there x b) (here r sr)) b),
    (λ ir. let (x, b, c) = (typed_has_result true arguments g z s es).kind p ((result_is_typed true arguments (inserted k a g) g (single n k) first_typed).kind o p to sp) in
        subst (SubstitutedKind s p) (determined_kind (here x b) (there r ir)) b),
  )
    where
      here : (x : PlainKind) → SubstitutedKind s p x → SubstitutedKind (together n k s i) o x
      here x b = (composition arguments (inserted k a g) g z (single n k) s (together n k s i) first_typed es one_way).kind o p x to sp b

      there : (x : PlainKind) → SubstitutedKind (single i k) q x → SubstitutedKind (together n k s i) o x
      there x b = (composition arguments (inserted k a g) (inserted k a z) z v (single i k) (together n k s i) over_typed later_typed other_way).kind o q x to vq b

pub put_commutes : PutCommutes
put_commutes arguments g z k a s v es over n i tn sn = record {
  object = commutes_object arguments g z k a s v es over n i tn sn;
  expression = commutes_steps arguments g z k a s v es over n i tn sn;
  type = commutes_type arguments g z k a s v es over n i tn sn;
  telescope = commutes_telescope arguments g z k a s v es over n i tn sn;
  kind = commutes_kind arguments g z k a s v es over n i tn sn;
}

pub single_goes_over : SingleGoesOver
single_goes_over n j k h = (fits_one (raise 1 k) (raise 1 k) n j (j + 1) low here high, single_low (ren (raise 1 k) n) (j + 1) k (omega arith))
  where
    low : (i : ℕ) → i < j → (raise 1 k i < j + 1) × (raise 1 k i ≡ raise 1 k i)
    low i l = (grind arith, refl)

    here : raise 1 k j ≡ j + 1
    here = grind arith

    high : (i : ℕ) → j ≤ i → (j + 1 ≤ raise 1 k i) × (raise 1 k (i + 1) ≡ raise 1 k i + 1)
    high i l = (grind arith, grind arith)

pub renaming_keeps_types : RenamingKeepsTypes
renaming_keeps_types w g z r f = (
  (λ o t. ((λ p. of_typed (renamed_typed z r (to_typed w g o t p) f)), (λ p. of_typed (typed_back w z r g f o (to_typed w z (ren r o) t p))))),
  (λ e t. ((λ p. of_expression (renamed_typed_expression z r (to_expression w g e t p) f)), (λ p. of_expression (typed_back_expression w z r g f e (to_expression w z (ren_expression r e) t p))))),
)
