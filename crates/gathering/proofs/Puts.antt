-- An argument that is put before an environment, and after.
use Rattle.std.proofs.Common.{arith, subst, sym}
use Rattle.std.specs.Prelude.{length, true, ◌≡◌}
use Rattle.clf_syntax.specs.Simple.{Assignment, SimplyFormed, SimplyFormedTelescope, SimplyTyped, erase, erase_telescope, extended, extended_over}
use Rattle.clf_syntax.specs.Tree.{PlainObject}
use Rattle.clf_syntax.specs.TypeTree.{PlainTelescope, PlainType, SimpleType}
use Rattle.use_contexts.specs.Context.{Context}
use Rattle.hered_subst.proofs.SimpleTyping.{under_zero}
use Rattle.hered_subst.proofs.TypedEnvironments.{put_is_typed}
use Rattle.hered_subst.proofs.TypedResults.{result_is_typed, typed_has_result}
use Rattle.hered_subst.specs.Laws.{inserted}
use Rattle.hered_subst.specs.Substitution.{Environment, Substituted, SubstitutedTelescope, SubstitutedType, single, under}
use Rattle.hered_subst.specs.TypedEnvironments.{TypedEnvironment}
use Rattle.subst_laws.proofs.Environs.{under_context, under_goes_over}
use Rattle.subst_laws.proofs.Results.{put_commutes}
use Rattle.subst_laws.specs.Environments.{GoesOver}
use Rattle.typing_laws.proofs.FormedTypes.{as_inserted}
use Rattle.gathering.specs.Setting.{Setting}

module _ (z : Setting) where
  pub formed_put : (g : Context) (n : PlainObject) (a : SimpleType) → SimplyTyped (extended_over g z.simple) n a → (c t : PlainType) → SimplyFormed z.arguments (extended a (extended_over g z.simple)) c → SubstitutedType (single n 0) c t
      → SimplyFormed z.arguments (extended_over g z.simple) t × (erase t ≡ erase c)
  formed_put g n a p c t f x = (result_is_typed true z.arguments (inserted 0 a (extended_over g z.simple)) (extended_over g z.simple) (single n 0) ((put_is_typed true (extended_over g z.simple)).0 0 n a p)).type c t
      (subst (λ (b : Assignment). SimplyFormed z.arguments b c) (sym (as_inserted a (extended_over g z.simple))) f) x

  pub formed_put_telescope : (g : Context) (n : PlainObject) (a : SimpleType) → SimplyTyped (extended_over g z.simple) n a → (c t : PlainTelescope) → SimplyFormedTelescope z.arguments (extended a (extended_over g z.simple)) c → SubstitutedTelescope (single n 0) c t
      → SimplyFormedTelescope z.arguments (extended_over g z.simple) t × (erase_telescope t ≡ erase_telescope c)
  formed_put_telescope g n a p c t f x = (result_is_typed true z.arguments (inserted 0 a (extended_over g z.simple)) (extended_over g z.simple) (single n 0) ((put_is_typed true (extended_over g z.simple)).0 0 n a p)).telescope c t
      (subst (λ (b : Assignment). SimplyFormedTelescope z.arguments b c) (sym (as_inserted a (extended_over g z.simple))) f) x

module _ (z : Setting) (zf : Assignment) (s : Environment) (keeps : TypedEnvironment true z.simple zf s) where
  abbrev Z : Context → Assignment
  Z g = extended_over g z.simple

  abbrev S : Context → Environment
  S g = under (length g) s

  pub keeps_at : (g : Context) → TypedEnvironment true (Z g) (extended_over g zf) (S g)
  keeps_at g = (under_context g).0 z.simple zf s keeps

  pub goes_at : (g : Context) → GoesOver 0 (S g) (under 1 (S g))
  goes_at g = subst (λ (u : Environment). GoesOver 0 u (under 1 (S g))) (under_zero (S g)) (under_goes_over (S g) 0 0 (omega arith))

  -- an argument put before, and after
  pub put_after : (g : Context) (n i : PlainObject) (a : SimpleType) → SimplyTyped (Z g) n a → Substituted (S g) n i → (c t d u : PlainType) → SimplyFormed z.arguments (extended a (Z g)) c
      → SubstitutedType (single n 0) c t → SubstitutedType (under 1 (S g)) c d → SubstitutedType (single i 0) d u → SubstitutedType (S g) t u
  put_after g n i a p q c t d u f x y v =
      ((put_commutes z.arguments (Z g) (extended_over g zf) 0 a (S g) (under 1 (S g)) (keeps_at g) (goes_at g) n i p q).type c t d u
      (subst (λ (b : Assignment). SimplyFormed z.arguments b c) (sym (as_inserted a (Z g))) f) x y).1 v

  pub put_after_telescope : (g : Context) (n i : PlainObject) (a : SimpleType) → SimplyTyped (Z g) n a → Substituted (S g) n i → (c t d u : PlainTelescope) → SimplyFormedTelescope z.arguments (extended a (Z g)) c
      → SubstitutedTelescope (single n 0) c t → SubstitutedTelescope (under 1 (S g)) c d → SubstitutedTelescope (single i 0) d u → SubstitutedTelescope (S g) t u
  put_after_telescope g n i a p q c t d u f x y v =
      ((put_commutes z.arguments (Z g) (extended_over g zf) 0 a (S g) (under 1 (S g)) (keeps_at g) (goes_at g) n i p q).telescope c t d u
      (subst (λ (b : Assignment). SimplyFormedTelescope z.arguments b c) (sym (as_inserted a (Z g))) f) x y).1 v

  -- an argument put, and then the environment
  pub put_there : (g : Context) (n i : PlainObject) (a : SimpleType) → SimplyTyped (Z g) n a → Substituted (S g) n i → (c t d : PlainType) → SimplyFormed z.arguments (extended a (Z g)) c
      → SubstitutedType (single n 0) c t → SubstitutedType (under 1 (S g)) c d → (u : PlainType) × SubstitutedType (single i 0) d u × SubstitutedType (S g) t u
  put_there g n i a p q c t d f x v =
      let (ft, et) = formed_put z g n a p c t f x in
      let (u, e1, e2, e3) = (typed_has_result true z.arguments (Z g) (extended_over g zf) (S g) (keeps_at g)).type t ft in (
        u,
        ((put_commutes z.arguments (Z g) (extended_over g zf) 0 a (S g) (under 1 (S g)) (keeps_at g) (goes_at g) n i p q).type c t d u
            (subst (λ (b : Assignment). SimplyFormed z.arguments b c) (sym (as_inserted a (Z g))) f) x v).0 e1,
        e1,
      )

  pub put_there_telescope : (g : Context) (n i : PlainObject) (a : SimpleType) → SimplyTyped (Z g) n a → Substituted (S g) n i → (c t d : PlainTelescope) → SimplyFormedTelescope z.arguments (extended a (Z g)) c
      → SubstitutedTelescope (single n 0) c t → SubstitutedTelescope (under 1 (S g)) c d → (u : PlainTelescope) × SubstitutedTelescope (single i 0) d u × SubstitutedTelescope (S g) t u
  put_there_telescope g n i a p q c t d f x v =
      let (ft, et) = formed_put_telescope z g n a p c t f x in
      let (u, e1, e2, e3) = (typed_has_result true z.arguments (Z g) (extended_over g zf) (S g) (keeps_at g)).telescope t ft in (
        u,
        ((put_commutes z.arguments (Z g) (extended_over g zf) 0 a (S g) (under 1 (S g)) (keeps_at g) (goes_at g) n i p q).telescope c t d u
            (subst (λ (b : Assignment). SimplyFormedTelescope z.arguments b c) (sym (as_inserted a (Z g))) f) x v).0 e1,
        e1,
      )
