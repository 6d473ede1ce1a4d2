-- Expansions: the eta-long form, save that a metavariable at a monad stays.
use Rattle.clf_syntax.proofs.RenamingLaws.{apps, identity, lift_up, pairs, square_neutral}
use Rattle.clf_syntax.specs.Renaming.{Renumbering, lifted, ren, ren_head, ren_neutral, up}
use Rattle.clf_syntax.specs.Simple.{Assignment, extended}
use Rattle.clf_syntax.specs.Tree.{PlainNeutral, PlainObject, app, atomic, fst, head_alone, head_of, lam, snd}
use Rattle.clf_syntax.specs.TypeTree.{SimpleTelescope, SimpleType, arrow, base, lax, simple_top, simple_with}
use Rattle.clf_syntax.specs.declared.tree.Head.{Head}
use Rattle.clf_syntax.specs.declared.tree.Head.TheVariants.{Const, Meta, Var}
use Rattle.eta_laws.proofs.EtaLaws.{all_same, eta_kept, eta_ren, lam_near, meets, never}
use Rattle.eta_laws.proofs.EtaTyped.{eta_typed}
use Rattle.eta_laws.specs.Eta.{at_monad, eta, expansion}
use Rattle.eta_laws.specs.Laws.{ExpansionLaws}
use Rattle.std.proofs.Common.{ap, arith, subst, sym, ◌∙◌}
use Rattle.std.specs.Prelude.{Bool, false, refl, true, ◌≡◌}
use Rattle.hered_subst.proofs.Renamed.{head_renamed, renamed_value, under_in}
use Rattle.hered_subst.proofs.SimpleTyping.{Typed, TypedNeutral, lift_first, of_typed, rank, renamed_typed_neutral, to_neutral, to_typed, typed_app, typed_atomic, typed_bare, typed_fst, typed_lam, typed_metavariable, typed_monadic, typed_pair, typed_snd, typed_unit}
use Rattle.hered_subst.proofs.Total.{meta_of, raised_types}
use Rattle.hered_subst.specs.Substitution.{Environment, HasValue, Substituted, kept_bare, single, through_kept, through_lam, through_pair, through_unit, through_value, under, value_app, value_fst, value_snd}
use Rattle.hered_subst.specs.TypedEnvironments.{is_metavariable}
use Rattle.subst_laws.proofs.Before.{before, fits_up}

kinds_renamed : (r : Renumbering) (h : Head) → is_metavariable (ren_head r h) ≡ is_metavariable h
kinds_renamed r (Const c) = refl
kinds_renamed r (Var i) = refl
kinds_renamed r (Meta m) = refl

pub meta_renamed : (r : Renumbering) (n : PlainNeutral) → is_metavariable (head_of (ren_neutral r n)) ≡ is_metavariable (head_of n)
meta_renamed r n = ap is_metavariable (head_renamed r n) ∙ kinds_renamed r (head_of n)

long_expansion : (t : SimpleType) (n : PlainNeutral) → is_metavariable (head_of n) ≡ false → expansion t n ≡ eta t n
long_expansion (base a) n h = refl
long_expansion (arrow m d c) n h = ap (lam m) (long_expansion c (app m (ren_neutral (up 1) n) (eta d (head_alone (Var 0)))) (meta_renamed (up 1) n ∙ h))
long_expansion (simple_with c d) n h = pairs (long_expansion c (fst n) h) (long_expansion d (snd n) h)
long_expansion simple_top n h = refl
long_expansion (lax ts) n h = ap (λ b. at_monad b ts n) h

monad_renamed : (b : Bool) (ts : SimpleTelescope) (r : Renumbering) (n : PlainNeutral) → ren r (at_monad b ts n) ≡ at_monad b ts (ren_neutral r n)
monad_renamed true ts r n = refl
monad_renamed false ts r n = eta_ren (lax ts) r n

expansion_renamed : (t : SimpleType) (r : Renumbering) (n : PlainNeutral) → ren r (expansion t n) ≡ expansion t (ren_neutral r n)
expansion_renamed (base a) r n = refl
expansion_renamed (arrow m d c) r n = ap (lam m) (expansion_renamed c (lifted 1 r) (app m (ren_neutral (up 1) n) (eta d (head_alone (Var 0))))
    ∙ ap (expansion c) (apps m (square_neutral (lifted 1 r) (up 1) (up 1) r (lift_up 1 r) n) (eta_ren d (lifted 1 r) (head_alone (Var 0)) ∙ ap (λ i. eta d (head_alone (Var i))) (lift_first r))))
expansion_renamed (simple_with c d) r n = pairs (expansion_renamed c r (fst n)) (expansion_renamed d r (snd n))
expansion_renamed simple_top r n = refl
expansion_renamed (lax ts) r n = monad_renamed (is_metavariable (head_of n)) ts r n ∙ ap (λ b. at_monad b ts (ren_neutral r n)) (sym (meta_renamed r n))

monad_typed : (g : Assignment) (ts : SimpleTelescope) {n : PlainNeutral} (b : Bool) → is_metavariable (head_of n) ≡ b → TypedNeutral true g n (lax ts) → Typed true g (at_monad b ts n) (lax ts)
monad_typed g ts {n} true e p = let (m, q) = meta_of (head_of n) (e) in typed_metavariable refl p q
monad_typed g ts false e p = eta_typed true g (lax ts) p

expansion_typed : (g : Assignment) (t : SimpleType) {n : PlainNeutral} → TypedNeutral true g n t → Typed true g (expansion t n) t
expansion_typed g (base a) p = typed_atomic p
expansion_typed g (arrow m d c) p = typed_lam (expansion_typed (extended d g) c (typed_app (renamed_typed_neutral (extended d g) (up 1) p (raised_types d g)) (eta_typed true (extended d g) d (typed_bare refl))))
expansion_typed g (simple_with c d) p = typed_pair (expansion_typed g c (typed_fst p)) (expansion_typed g d (typed_snd p))
expansion_typed g simple_top p = typed_unit
expansion_typed g (lax ts) {n} p = monad_typed g ts (is_metavariable (head_of n)) refl p

monad_meets : {s : Environment} {n : PlainNeutral} {g : Assignment} {o : PlainObject} {ts : SimpleTelescope} (b : Bool) → Typed false g o (lax ts) → HasValue s n o → Substituted s (at_monad b ts n) o
monad_meets true p v = through_value v
monad_meets {s = s} {n = n} {ts = ts} false p v = meets (rank (lax ts)) (λ j l. all_same j) s n p (omega arith) v

expansion_meets : (s : Environment) (n : PlainNeutral) {g : Assignment} {o : PlainObject} {t : SimpleType} → Typed false g o t → HasValue s n o → Substituted s (expansion t n) o
expansion_meets s n (typed_atomic p) v = through_value v
expansion_meets s n typed_unit v = through_unit
expansion_meets s n (typed_metavariable i p e) v = absurd (never i)
expansion_meets s n (typed_pair p q) v = through_pair (expansion_meets s (fst n) p (value_fst v)) (expansion_meets s (snd n) q (value_snd v))
expansion_meets s n (typed_lam {g = g} {m = m} {b = b} {d = d} {c = c} p) v = through_lam (expansion_meets (under 1 s) (app m (ren_neutral (up 1) n) (eta d (head_alone (Var 0)))) p
    (value_app (renamed_value (up 1) (up 1) (under 1 s) (fits_up 1 s) v) (eta_kept d (under 1 s) (kept_bare (under_in 1 s 0 (omega arith))))
    (before (lifted 1 (up 1)) (single (eta d (head_alone (Var 0))) 0) (subst (Substituted (λ h. single (eta d (head_alone (Var 0))) 0 (ren_head (lifted 1 (up 1)) h)) b) (identity b)
    ((all_same (rank d) (extended d g) (extended d g) (λ i. i) (λ h. single (eta d (head_alone (Var 0))) 0 (ren_head (lifted 1 (up 1)) h)) (lam_near d g)).0 b c p)))))
expansion_meets s n (typed_monadic p) v = monad_meets (is_metavariable (head_of n)) (typed_monadic p) v

at_base_expansion : {g : Assignment} {x : PlainNeutral} {t : SimpleType} → Typed false g (atomic x) t → (n : PlainNeutral) → expansion t n ≡ atomic n
at_base_expansion (typed_atomic p) n = refl
at_base_expansion (typed_metavariable i p e) n = absurd (never i)

expansion_expands : {g : Assignment} {s : Environment} {n : PlainNeutral} {o : PlainObject} {t : SimpleType} → Typed false g o t → Substituted s (atomic n) o → Substituted s (expansion t n) o
expansion_expands {s = s} {n = n} {o = o} p (through_kept k) = subst (λ i. Substituted s i o) (sym (at_base_expansion p n)) (through_kept k)
expansion_expands {s = s} {n = n} p (through_value v) = expansion_meets s n p v

pub expansion_laws : ExpansionLaws
expansion_laws = record {
  long = long_expansion;
  stays = λ ts n h. ap (λ b. at_monad b ts n) h;
  typed = λ g n t p. of_typed (expansion_typed g t (to_neutral true g n t p));
  renamed = expansion_renamed;
  expands = λ g s n o t p q. expansion_expands (to_typed false g o t p) q;
}
