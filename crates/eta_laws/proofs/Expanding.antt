-- Eta-long trees: those without metavariables, and what becomes of a neutral and of its eta-long form.
use Rattle.clf_syntax.specs.Simple.{Assignment, extended, extended_by}
use Rattle.clf_syntax.specs.Tree.{PlainExpression, PlainNeutral, PlainObject, PlainTuple, atomic, head_of}
use Rattle.clf_syntax.specs.TypeTree.{SimpleTelescope, SimpleType}
use Rattle.clf_syntax.specs.declared.tree.Head.TheVariants.{Meta}
use Rattle.eta_laws.proofs.EtaLaws.{all_same, eta_ren, meets, never}
use Rattle.eta_laws.specs.Eta.{eta}
use Rattle.eta_laws.specs.Laws.{EtaCommutes, EtaExpands, TypedIsEtaLong}
use Rattle.std.proofs.Common.{ap, arith, subst, sym, ◌∙◌}
use Rattle.std.specs.Prelude.{Bool, None, Some, false, refl, true, ℕ, ◌≡◌}
use Rattle.hered_subst.proofs.SimpleTyping.{of_neutral, Typed, TypedExpression, TypedNeutral, TypedTuple, of_typed, rank, to_neutral, to_typed, typed_app, typed_atomic, typed_bare, typed_done, typed_empty, typed_entry, typed_fst, typed_lam, typed_metavariable, typed_monadic, typed_pair, typed_snd, typed_step, typed_unit}
use Rattle.hered_subst.proofs.Total.{extended_metavariable}
use Rattle.hered_subst.specs.Substitution.{Environment, Substituted, through_kept, through_value}
use Rattle.subst_laws.proofs.Instances.{no_type}

typed_head : {w : Bool} {g : Assignment} {n : PlainNeutral} {t : SimpleType} → TypedNeutral w g n t → (u : SimpleType) × (g (head_of n) ≡ Some u)
typed_head (typed_bare {t = t} e) = (t, e)
typed_head (typed_app p q) = typed_head p
typed_head (typed_fst p) = typed_head p
typed_head (typed_snd p) = typed_head p

abbrev NoMetavariable : Assignment → Type 0
NoMetavariable g = (m : ℕ) → g (Meta m) ≡ None

mutual
  pub long : (g : Assignment) → NoMetavariable g → {o : PlainObject} {t : SimpleType} → Typed true g o t → Typed false g o t
  long g f (typed_lam {d = d} p) = typed_lam (long (extended d g) f p)
  long g f (typed_pair p q) = typed_pair (long g f p) (long g f q)
  long g f typed_unit = typed_unit
  long g f (typed_monadic p) = typed_monadic (long_expression g f p)
  long g f (typed_metavariable {k = k} i p e) = let (u, q) = typed_head p in absurd (no_type (f k) (ap g (sym e) ∙ q))
  long g f (typed_atomic p) = typed_atomic (long_neutral g f p)

  pub long_neutral : (g : Assignment) → NoMetavariable g → {n : PlainNeutral} {t : SimpleType} → TypedNeutral true g n t → TypedNeutral false g n t
  long_neutral g f (typed_bare e) = typed_bare e
  long_neutral g f (typed_app p q) = typed_app (long_neutral g f p) (long g f q)
  long_neutral g f (typed_fst p) = typed_fst (long_neutral g f p)
  long_neutral g f (typed_snd p) = typed_snd (long_neutral g f p)

  long_expression : (g : Assignment) → NoMetavariable g → {e : PlainExpression} {t : SimpleTelescope} → TypedExpression true g e t → TypedExpression false g e t
  long_expression g f (typed_step {ts = ts} p m q) = typed_step (long_neutral g f p) m (long_expression (extended_by ts g) (λ i. extended_metavariable ts g i ∙ f i) q)
  long_expression g f (typed_done p) = typed_done (long_tuple g f p)

  long_tuple : (g : Assignment) → NoMetavariable g → {e : PlainTuple} {t : SimpleTelescope} → TypedTuple true g e t → TypedTuple false g e t
  long_tuple g f typed_empty = typed_empty
  long_tuple g f (typed_entry p q) = typed_entry (long g f p) (long_tuple g f q)

pub typed_is_eta_long : TypedIsEtaLong
typed_is_eta_long g f = ((λ o t p. of_typed (long g f (to_typed true g o t p))), (λ n t p. of_neutral (long_neutral g f (to_neutral true g n t p))))

at_base : {g : Assignment} {x : PlainNeutral} {t : SimpleType} → Typed false g (atomic x) t → (n : PlainNeutral) → eta t n ≡ atomic n
at_base (typed_atomic p) n = refl
at_base (typed_metavariable i p e) n = absurd (never i)

expands : {g : Assignment} {s : Environment} {n : PlainNeutral} {o : PlainObject} {t : SimpleType} → Typed false g o t → Substituted s (atomic n) o → Substituted s (eta t n) o
expands {s = s} {n = n} {o = o} p (through_kept k) = subst (λ i. Substituted s i o) (sym (at_base p n)) (through_kept k)
expands {s = s} {n = n} {t = t} p (through_value v) = meets (rank t) (λ j l. all_same j) s n p (omega arith) v

pub eta_expands : EtaExpands
eta_expands g s n o t p q = expands (to_typed false g o t p) q

pub eta_commutes : EtaCommutes
eta_commutes = eta_ren
