-- The heads of gathering: what becomes of them, and of their types, under an environment.
use Rattle.std.proofs.Common.{add-one, ap, arith, subst, sym, ⊎_elim, ◌∙◌}
use Rattle.std.specs.List.{slice_get}
use Rattle.std.specs.Prelude.{List, None, Option, Some, [], length, refl, suc, zero, ℕ, ◌+◌, ◌<◌, ◌∷◌, ◌≡◌, ◌⊎◌}
use Rattle.clf_syntax.proofs.RenamingLaws.{ext}
use Rattle.clf_syntax.proofs.TypeRenaming.{composed_type}
use Rattle.clf_syntax.specs.Renaming.{ren_head, ren_type, up}
use Rattle.clf_syntax.specs.Tree.{PlainNeutral}
use Rattle.clf_syntax.specs.TypeTree.{PlainType}
use Rattle.clf_syntax.specs.declared.tree.Head.{Head}
use Rattle.clf_syntax.specs.declared.tree.Head.TheVariants.{Const, Meta, Var}
use Rattle.clf_syntax.specs.declared.tree.Mode.{Mode}
use Rattle.use_contexts.specs.Context.{Context, HasVariable}
use Rattle.clf_sig.specs.Entry.{PlainSignature}
use Rattle.hered_subst.proofs.Renamed.{under_in}
use Rattle.hered_subst.proofs.SimpleTyping.{under_zero}
use Rattle.hered_subst.specs.Substitution.{Environment, SubstitutedType, keep, ren_image, under}
use Rattle.subst_laws.proofs.Environs.{under_sum}
use Rattle.pattern_laws.specs.Equations.{Equation}
use Rattle.gathering.proofs.Unders.{past_type}
use Rattle.gathering.specs.Gather.{FilledIn, ImplicitAtMonad}
use Rattle.gathering.specs.Instances.{ConstantsAreClosed, FixedHeads, HeadType, InstanceContext}
use Rattle.gathering.specs.Setting.{NoImplicit, Setting, SettingType}
use Rattle.gathering.specs.Shape.{Shape}

second_part : {e : Mode × PlainType} {m : Mode} {a : PlainType} (x : Option (Mode × PlainType)) → x ≡ Some e → x ≡ Some (m, a) → e.1 ≡ a
second_part x e f = cc

pub variable_first : (e : Mode × PlainType) (g : Context) (a : PlainType) → HasVariable (e ∷ g) zero a → a ≡ ren_type (up 1) e.1
variable_first e g a p = let (m, b, i, j) = p in j ∙ ap (ren_type (up 1)) (sym (second_part (slice_get (e ∷ g) zero) refl i))

pub next_number : (i : ℕ) (b : PlainType) → ren_type (up (suc i + 1)) b ≡ ren_type (up 1) (ren_type (up (i + 1)) b)
next_number i b = ap (λ r. ren_type r b) (ext (λ j. same j)) ∙ sym (composed_type (up 1) (up (i + 1)) b)
  where
    same : (j : ℕ) → j + (suc i + 1) ≡ j + (i + 1) + 1
    same j = omega arith

pub variable_next : (e : Mode × PlainType) (g : Context) (i : ℕ) (a : PlainType) → HasVariable (e ∷ g) (suc i) a → (b : PlainType) × HasVariable g i b × (a ≡ ren_type (up 1) b)
variable_next e g i a p = let (m, b, k, j) = p in (ren_type (up (i + 1)) b, (m, b, k, refl), j ∙ next_number i b)

-- no metavariable has a type
pub not_implicit : (z : Setting) → NoImplicit z → (k : ℕ) (a : PlainType) → z.implicit k ≡ Some a → ⊥
not_implicit z none k a e = unequal (z.implicit k) (none k) e
  where
    unequal : (x : Option PlainType) → x ≡ None → x ≡ Some a → ⊥
    unequal x i j = cc

-- so what is no leaf at a family is filled in
pub filled : (z : Setting) → NoImplicit z → {g : Context} {n : PlainNeutral} {t : PlainType} {q : List Equation} {Neutral : PlainType → Shape → List Equation → Type 0}
    → FilledIn z g n t q ⊎ ImplicitAtMonad z g n t q Neutral → FilledIn z g n t q
filled z none p = ⊎_elim (λ p. p) (λ p. absurd (not_implicit z none p.number p.read p.implicit)) p

module _ (sig : PlainSignature) (z : Setting) (front : Context) (s : Environment) (closed : ConstantsAreClosed sig) (none : NoImplicit z) (fixed : FixedHeads sig z front s) where
  -- a constant under the binders of a context
  carries_constant : (g h : Context) → InstanceContext s front g h → (c : ℕ) (a : PlainType) → z.given c ≡ Some a
      → (j : Head) × (under (length g) s (Const c) ≡ keep j) × ((b : PlainType) → HeadType sig h j b → SubstitutedType (under (length g) s) a b)
  carries_constant [] h p c a e = let f = fixed c a e in (
    f.head,
    ap (λ (u : Environment). u (Const c)) (under_zero s) ∙ f.kept,
    (λ b q. subst (λ (u : Environment). SubstitutedType u a b) (sym (under_zero s)) (f.carried b (subst (λ (x : Context). HeadType sig x f.head b) p q))),
  )
  carries_constant (e ∷ g) [] p c a i = absurd p
  carries_constant (e ∷ g) (d ∷ h) p c a i = let (j, k, f) = carries_constant g h p.2 c a i in
      (ren_head (up 1) j, ap (λ (u : Environment). u (Const c)) (sym (under_sum (length g) s)) ∙ ap (ren_image (up 1)) k, (λ b q. higher j f b q))
    where
      moved : (b : PlainType) → SubstitutedType (under (length g) s) a b → SubstitutedType (under (suc (length g)) s) a (ren_type (up 1) b)
      moved b q = subst (λ (u : Environment). SubstitutedType u a (ren_type (up 1) b)) (under_sum (length g) s)
          (subst (λ (x : PlainType). SubstitutedType (under 1 (under (length g) s)) x (ren_type (up 1) b)) ((fixed c a i).closed (up 1)) (past_type 1 (under (length g) s) q))

      higher : (j : Head) → ((b : PlainType) → HeadType sig h j b → SubstitutedType (under (length g) s) a b) → (b : PlainType) → HeadType sig (d ∷ h) (ren_head (up 1) j) b → SubstitutedType (under (suc (length g)) s) a b
      higher (Const x) f b q = subst (λ (y : PlainType). SubstitutedType (under (suc (length g)) s) a y) (closed x b q (up 1)) (moved b (f b q))
      higher (Var v) f b q = let (y, k, l) = variable_next d h v b (subst (λ n. HasVariable (d ∷ h) n b) (add-one v) q) in subst (λ (y : PlainType). SubstitutedType (under (suc (length g)) s) a y) (sym l) (moved y (f y k))
      higher (Meta m) f b q = absurd q

  carries_variable : (g h : Context) → InstanceContext s front g h → (i : ℕ) (a : PlainType) → HasVariable g i a
      → (under (length g) s (Var i) ≡ keep (Var i)) × ((b : PlainType) → HasVariable h i b → SubstitutedType (under (length g) s) a b)
  carries_variable [] h p i a e = absurd (nowhere e.2)
    where
      nowhere : {x : Mode × PlainType} → slice_get [] i ≡ Some x → ⊥
      nowhere k = cc
  carries_variable (e ∷ g) [] p i a q = absurd p
  carries_variable (e ∷ g) (d ∷ h) p zero a q = (
    ap (λ (u : Environment). u (Var 0)) (sym (under_sum (length g) s)) ∙ under_in 1 (under (length g) s) 0 (omega arith),
    (λ b r. subst (λ (u : Environment). SubstitutedType u a b) (under_sum (length g) s)
        (subst (λ (x : PlainType). SubstitutedType (under 1 (under (length g) s)) x b) (sym (variable_first e g a q))
        (subst (λ (y : PlainType). SubstitutedType (under 1 (under (length g) s)) (ren_type (up 1) e.1) y) (sym (variable_first d h b r)) (past_type 1 (under (length g) s) p.1)))),
  )
  carries_variable (e ∷ g) (d ∷ h) p (suc i) a q = let (a', k, l) = variable_next e g i a q in let (m, f) = carries_variable g h p.2 i a' k in (
    under_in (suc (length g)) s (suc i) (below g i a' k),
    (λ b r. let (b', o, n) = variable_next d h i b r in
        subst (λ (u : Environment). SubstitutedType u a b) (under_sum (length g) s)
        (subst (λ (x : PlainType). SubstitutedType (under 1 (under (length g) s)) x b) (sym l)
        (subst (λ (y : PlainType). SubstitutedType (under 1 (under (length g) s)) (ren_type (up 1) a') y) (sym n) (past_type 1 (under (length g) s) (f b' o))))),
  )
    where
      below : (g : Context) (i : ℕ) (a : PlainType) → HasVariable g i a → suc i < suc (length g)
      below [] i a e = absurd (nowhere e.2)
        where
          nowhere : {x : Mode × PlainType} → slice_get [] i ≡ Some x → ⊥
          nowhere k = cc
      below (e ∷ g) zero a q = omega arith
      below (e ∷ g) (suc i) a q = let (b, k, l) = variable_next e g i a q in let f = below g i b k in omega (arith, f)

  pub carries : (g h : Context) → InstanceContext s front g h → (x : Head) (a : PlainType) → SettingType z g x a
      → (j : Head) × (under (length g) s x ≡ keep j) × ((b : PlainType) → HeadType sig h j b → SubstitutedType (under (length g) s) a b)
  carries g h p (Const c) a q = carries_constant g h p c a q
  carries g h p (Var i) a q = let (k, f) = carries_variable g h p i a q in (Var i, k, f)
  carries g h p (Meta m) a q = absurd (not_implicit z none m a q)
