-- What the checks put is the substitution, and is what the limited function makes where numbers fit. So the checks with it agree with the rules.
use Rattle.std.proofs.Common.{◌≡◌, sym, subst, ap, ◌∙◌}
use Rattle.clf_syntax.specs.Tree.{PlainObject}
use Rattle.clf_syntax.specs.TypeTree.{PlainType, PlainTelescope, PlainKind}
use Rattle.clf_syntax.specs.Simple.{erase, SimplyFormed, SimplyFormedTelescope, SimplyFormedKind}
use Rattle.hered_subst.specs.Substitution.{single, SubstitutedType, SubstitutedTelescope, SubstitutedKind}
use Rattle.hered_subst.proofs.SimpleTyping.{rank}
use Rattle.hered_put.specs.Function.{Answer, made, untyped, too_far, nested, nested_freely, free, run_type, run_telescope, run_kind, run_type_by, run_telescope_by, run_kind_by}
use Rattle.hered_put.specs.Laws.{Makes, AnswersAs}
use Rattle.hered_put.proofs.Freely.{freely_makes, freely_answers_as}
use Rattle.clf_sig.specs.Entry.{PlainSignature}
use Rattle.clf_rules.specs.WellFormed.{WellFormedSignature}
use Rattle.typing_laws.proofs.FormedTypes.{as_inserted}
use Rattle.clf_decision.specs.Puts.{ArePuts}
use Rattle.clf_decision.specs.Hereditary.{or_itself, hereditary}
use Rattle.clf_decision.proofs.AgreesWith.{ChecksAgree, FormationAgrees}
use Rattle.clf_decision.proofs.Agreement.{checks_agree}
use Rattle.clf_decision.proofs.AgreementOfTypes.{formation_agrees}

-- what is made is such
taken : {X : Type 0} (x : X) (a : Answer X) (P : X → Type 0) → Makes a P → P (or_itself a x)
taken x a P m = subst (λ b. P (or_itself b x)) (sym m.1) m.2

pub are_puts : ArePuts hereditary
unfolding hereditary
are_puts = record {
  types = λ arguments z n a c t f.
      taken c (run_type_by free (nested_freely (rank (erase a))) (single n 0) c) (λ x. SubstitutedType (single n 0) c x)
      ((freely_makes arguments z 0 n (erase a) t).0 c (subst (λ y. SimplyFormed arguments y c) (sym (as_inserted (erase a) z)) f));
  telescopes = λ arguments z n a s t f.
      taken s (run_telescope_by free (nested_freely (rank (erase a))) (single n 0) s) (λ x. SubstitutedTelescope (single n 0) s x)
      ((freely_makes arguments z 0 n (erase a) t).1 s (subst (λ y. SimplyFormedTelescope arguments y s) (sym (as_inserted (erase a) z)) f));
  kinds = λ arguments z n a k t f.
      taken k (run_kind_by free (nested_freely (rank (erase a))) (single n 0) k) (λ x. SubstitutedKind (single n 0) k x)
      ((freely_makes arguments z 0 n (erase a) t).2 k (subst (λ y. SimplyFormedKind arguments y k) (sym (as_inserted (erase a) z)) f));
}

pub checks_agree_with_rules : (sig : PlainSignature) → ChecksAgree hereditary sig
checks_agree_with_rules sig = checks_agree hereditary are_puts sig

pub formation_agrees_with_rules : (sig : PlainSignature) → WellFormedSignature sig → FormationAgrees hereditary sig
formation_agrees_with_rules sig w = formation_agrees hereditary are_puts sig (checks_agree_with_rules sig) w

-- ---- where numbers fit
made_as : {X : Type 0} (x y : X) (a b : Answer X) → AnswersAs a b → a ≡ made y → or_itself b x ≡ y
made_as x y (made z) b e q = let w : z ≡ y = cc in ap (λ r. or_itself r x) e ∙ w
made_as x y untyped b e q = absurd (cc)
made_as x y too_far b e q = absurd (cc)

untyped_as : {X : Type 0} (x : X) (a b : Answer X) → AnswersAs a b → a ≡ untyped → or_itself b x ≡ x
untyped_as x (made z) b e q = absurd (cc)
untyped_as x untyped b e q = ap (λ r. or_itself r x) e
untyped_as x too_far b e q = absurd (cc)

module _ (n : PlainObject) (a : PlainType) where
  -- what the limited function makes is put
  pub type_made : (c x : PlainType) → run_type (nested (rank (erase a))) (single n 0) c ≡ made x → hereditary.into_type n a c ≡ x
  unfolding hereditary
  type_made c x e = made_as c x (run_type (nested (rank (erase a))) (single n 0) c) (run_type_by free (nested_freely (rank (erase a))) (single n 0) c) ((freely_answers_as (rank (erase a)) (single n 0)).3 c) e

  pub telescope_made : (s x : PlainTelescope) → run_telescope (nested (rank (erase a))) (single n 0) s ≡ made x → hereditary.into_telescope n a s ≡ x
  unfolding hereditary
  telescope_made s x e =
      made_as s x (run_telescope (nested (rank (erase a))) (single n 0) s) (run_telescope_by free (nested_freely (rank (erase a))) (single n 0) s) ((freely_answers_as (rank (erase a)) (single n 0)).4 s) e

  pub kind_made : (k x : PlainKind) → run_kind (nested (rank (erase a))) (single n 0) k ≡ made x → hereditary.into_kind n a k ≡ x
  unfolding hereditary
  kind_made k x e = made_as k x (run_kind (nested (rank (erase a))) (single n 0) k) (run_kind_by free (nested_freely (rank (erase a))) (single n 0) k) ((freely_answers_as (rank (erase a)) (single n 0)).5 k) e

  -- where it gives up, all stays
  pub type_kept : (c : PlainType) → run_type (nested (rank (erase a))) (single n 0) c ≡ untyped → hereditary.into_type n a c ≡ c
  unfolding hereditary
  type_kept c e = untyped_as c (run_type (nested (rank (erase a))) (single n 0) c) (run_type_by free (nested_freely (rank (erase a))) (single n 0) c) ((freely_answers_as (rank (erase a)) (single n 0)).3 c) e

  pub telescope_kept : (s : PlainTelescope) → run_telescope (nested (rank (erase a))) (single n 0) s ≡ untyped → hereditary.into_telescope n a s ≡ s
  unfolding hereditary
  telescope_kept s e =
      untyped_as s (run_telescope (nested (rank (erase a))) (single n 0) s) (run_telescope_by free (nested_freely (rank (erase a))) (single n 0) s) ((freely_answers_as (rank (erase a)) (single n 0)).4 s) e

  pub kind_kept : (k : PlainKind) → run_kind (nested (rank (erase a))) (single n 0) k ≡ untyped → hereditary.into_kind n a k ≡ k
  unfolding hereditary
  kind_kept k e = untyped_as k (run_kind (nested (rank (erase a))) (single n 0) k) (run_kind_by free (nested_freely (rank (erase a))) (single n 0) k) ((freely_answers_as (rank (erase a)) (single n 0)).5 k) e

pub ruleset hereditary_laws = (type_made, telescope_made, kind_made, type_kept, telescope_kept, kind_kept)
