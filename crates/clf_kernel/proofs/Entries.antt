-- One step along the entries of a telescope, the arguments of a kind and the indices of a family.
use Rattle.std.proofs.Common.{◌≡◌, ℕ, suc, ◌+◌, ◌<◌, List, [], ◌∷◌, length, map, drop, reverse, get_or, sym, ap, subst, ◌∙◌, add-one}
use Rattle.std.proofs.Math.Seq.{drop-cons}
use Rattle.clf_syntax.specs.declared.tree.Mode.TheVariants.{Persistent}
use Rattle.clf_syntax.specs.declared.tree.Obj.{Obj}
use Rattle.clf_syntax.specs.declared.tree.Ty.{Ty}
use Rattle.clf_syntax.specs.declared.tree.TeleEntry.{TeleEntry, out-TeleEntry}
use Rattle.clf_syntax.specs.TypeTree.{PlainType, binding, telescope_of, PlainKind}
use Rattle.clf_syntax.specs.Plain.{plain_obj}
use Rattle.clf_syntax.specs.PlainTypes.{plain_ty, plain_tele_entry, plain-tele-entry}
use Rattle.use_contexts.specs.Context.{Context, modes}
use Rattle.use_contexts.specs.Holding.{persistent_alone}
use Rattle.use_contexts.specs.Rows.{Leftover}
use Rattle.clf_sig.specs.Entry.{PlainSignature}
use Rattle.clf_rules.specs.Refusal.{Cause}
use Rattle.clf_decision.specs.Outcome.{Outcome, passed, refused, at_part, and_then}
use Rattle.clf_decision.specs.Checking.{Puts, checked}
use Rattle.clf_decision.specs.Formation.{type_formed, telescope_formed, kind_formed, indices_formed}
use Rattle.clf_kernel.specs.declared.refusal.Stop.{Stop}
use Rattle.clf_kernel.specs.declared.refusal.Stop.TheVariants.{Refused, NoMemory, TooFar}
use Rattle.clf_kernel.specs.Answers.{plain_cause}
use Rattle.clf_kernel.specs.Stops.{Stops}
use Rattle.clf_kernel.specs.Indices.{index_behind}
use Rattle.clf_kernel.proofs.Stops.{then_stops}

-- a refusal is one, whatever else would pass
refused_stops : (A B : Type 0) (path : List ℕ) (cause : Cause) (s : Stop) → Stops {A = A} (refused path cause) s → Stops {A = B} (refused path cause) s
refused_stops A B path cause (Refused outward c) q =
    let p : path ≡ reverse outward.items = cc in
    let k : cause ≡ plain_cause c = cc in
    ap (λ x. refused x cause) p ∙ ap (λ y. refused (reverse outward.items) y) k
refused_stops A B path cause NoMemory q = tt
refused_stops A B path cause (TooFar w) q = q

module _ (puts : Puts) (sig : PlainSignature) where
  -- ---- the entries of a telescope
  module _ (entries : List TeleEntry) (i : ℕ) (x : TeleEntry) (l : i < length entries) (e : x ≡ get_or entries i x) where
    entries_from : telescope_of (map plain_tele_entry (drop i entries)) ≡ binding (out-TeleEntry x).mode (plain_ty (out-TeleEntry x).ty) (telescope_of (map plain_tele_entry (drop (suc i) entries)))
    entries_from = ap (λ es. telescope_of (map plain_tele_entry es)) (drop-cons entries i x l ∙ ap (λ y. y ∷ drop (suc i) entries) (sym e))
        ∙ ap (λ p. binding p.0 p.1 (telescope_of (map plain_tele_entry (drop (suc i) entries)))) (plain-tele-entry x)

    pub entries_more : (g inner : Context) → at_part i (type_formed puts sig g (plain_ty (out-TeleEntry x).ty)) ≡ passed tt → inner ≡ ((out-TeleEntry x).mode, plain_ty (out-TeleEntry x).ty) ∷ g
        → telescope_formed puts sig g i (telescope_of (map plain_tele_entry (drop i entries))) ≡ telescope_formed puts sig inner (i + 1) (telescope_of (map plain_tele_entry (drop (i + 1) entries)))
    entries_more g inner p c = rw (entries_from, add-one, c)
        (ap (λ w. and_then w (λ y. telescope_formed puts sig (((out-TeleEntry x).mode, plain_ty (out-TeleEntry x).ty) ∷ g) (suc i) (telescope_of (map plain_tele_entry (drop (suc i) entries))))) p)

    pub entries_stop : (g : Context) (s : Stop) → Stops (at_part i (type_formed puts sig g (plain_ty (out-TeleEntry x).ty))) s → Stops (telescope_formed puts sig g i (telescope_of (map plain_tele_entry (drop i entries)))) s
    entries_stop g s p = subst (λ t. Stops (telescope_formed puts sig g i t) s) (sym entries_from)
        (then_stops (at_part i (type_formed puts sig g (plain_ty (out-TeleEntry x).ty))) (λ y. telescope_formed puts sig (((out-TeleEntry x).mode, plain_ty (out-TeleEntry x).ty) ∷ g) (suc i) (telescope_of (map plain_tele_entry (drop (suc i) entries)))) s p)

  -- ---- the arguments of a kind
  module _ (args : List Ty) (i : ℕ) (x : Ty) (l : i < length args) (e : x ≡ get_or args i x) where
    arguments_from : map plain_ty (drop i args) ≡ plain_ty x ∷ map plain_ty (drop (suc i) args)
    arguments_from = ap (map plain_ty) (drop-cons args i x l ∙ ap (λ y. y ∷ drop (suc i) args) (sym e))

    pub arguments_more : (g inner : Context) → at_part i (type_formed puts sig g (plain_ty x)) ≡ passed tt → inner ≡ (Persistent, plain_ty x) ∷ g
        → kind_formed puts sig g i (map plain_ty (drop i args)) ≡ kind_formed puts sig inner (i + 1) (map plain_ty (drop (i + 1) args))
    arguments_more g inner p c = rw (arguments_from, add-one, c)
        (ap (λ w. and_then w (λ y. kind_formed puts sig ((Persistent, plain_ty x) ∷ g) (suc i) (map plain_ty (drop (suc i) args)))) p)

    pub arguments_stop : (g : Context) (s : Stop) → Stops (at_part i (type_formed puts sig g (plain_ty x))) s → Stops (kind_formed puts sig g i (map plain_ty (drop i args))) s
    arguments_stop g s p = subst (λ k. Stops (kind_formed puts sig g i k) s) (sym arguments_from)
        (then_stops (at_part i (type_formed puts sig g (plain_ty x))) (λ y. kind_formed puts sig ((Persistent, plain_ty x) ∷ g) (suc i) (map plain_ty (drop (suc i) args))) s p)

  -- ---- the indices of a family
  same_passed : {A : Type 0} {a b : A} → passed a ≡ passed b → a ≡ b
  same_passed e = cc

  module _ (indices : List Obj) (i : ℕ) (x : Obj) (l : i < length indices) (e : x ≡ get_or indices i x) (g : Context) where
    indices_from : map plain_obj (drop i indices) ≡ plain_obj x ∷ map plain_obj (drop (suc i) indices)
    indices_from = ap (map plain_obj) (drop-cons indices i x l ∙ ap (λ y. y ∷ drop (suc i) indices) (sym e))

    pub index_more : (a : PlainType) (k r : PlainKind) → index_behind puts sig g i (plain_obj x) (a ∷ k) ≡ passed r
        → indices_formed puts sig g i (map plain_obj (drop i indices)) (a ∷ k) ≡ indices_formed puts sig g (i + 1) (map plain_obj (drop (i + 1) indices)) r
    index_more a k r p = rw (indices_from, add-one) (by (at_part i (checked puts sig g (persistent_alone (modes g)) (plain_obj x) a)) p)
      where
        rest : PlainKind → Outcome (Unit {0})
        rest m = indices_formed puts sig g (suc i) (map plain_obj (drop (suc i) indices)) m

        by : (w : Outcome Leftover) → and_then w (λ y. passed (puts.into_kind (plain_obj x) a k)) ≡ passed r → and_then w (λ y. rest (puts.into_kind (plain_obj x) a k)) ≡ rest r
        by (passed y) q = ap rest (same_passed q)
        by (refused path cause) q = absurd (cc)

    pub index_stops : (a : PlainType) (k : PlainKind) (s : Stop) → Stops (index_behind puts sig g i (plain_obj x) (a ∷ k)) s → Stops (indices_formed puts sig g i (map plain_obj (drop i indices)) (a ∷ k)) s
    index_stops a k s p = subst (λ ns. Stops (indices_formed puts sig g i ns (a ∷ k)) s) (sym indices_from) (by (at_part i (checked puts sig g (persistent_alone (modes g)) (plain_obj x) a)) s p)
      where
        by : (w : Outcome Leftover) (s : Stop) → Stops (and_then w (λ y. passed (puts.into_kind (plain_obj x) a k))) s
            → Stops (and_then w (λ y. indices_formed puts sig g (suc i) (map plain_obj (drop (suc i) indices)) (puts.into_kind (plain_obj x) a k))) s
        by (refused path cause) s q = refused_stops PlainKind (Unit {0}) path cause s q
        by (passed y) (Refused outward c) q = absurd (cc)
        by (passed y) NoMemory q = tt
        by (passed y) (TooFar w) q = q

    pub no_argument : indices_formed puts sig g i (map plain_obj (drop i indices)) [] ≡ passed tt
    no_argument = ap (λ ns. indices_formed puts sig g i ns []) indices_from
