-- Checks of closed trees over a well-formed signature: what they presuppose, and that the rules decide them.
use Rattle.std.proofs.Common.{◌≡◌, ◌≤◌, true, refl, sym, subst, [], Some, None}
use Rattle.clf_syntax.specs.Tree.{PlainObject}
use Rattle.clf_syntax.specs.TypeTree.{PlainType}
use Rattle.clf_syntax.specs.Simple.{SimplyFormed}
use Rattle.use_contexts.specs.Context.{Context}
use Rattle.use_contexts.specs.Holding.{Holding}
use Rattle.use_contexts.specs.Rows.{Agrees, Leftover}
use Rattle.clf_sig.specs.Entry.{PlainSignature, PlainEntry}
use Rattle.clf_rules.specs.Typing.{HasType}
use Rattle.clf_rules.specs.WellFormed.{WellFormedType, WellFormedEntry, WellFormedSignature, may_be_implicit}
use Rattle.clf_rules.specs.Explained.{ExplainedAt, ExplainedInType, ExplainedInClass}
use Rattle.typing_laws.specs.SimpleTyping.{families_of, simple_of}
use Rattle.typing_laws.proofs.FormedTypes.{well_formed_is_simply_formed}
use Rattle.clf_decision.specs.Starts.{Starts, FormationStarts}
use Rattle.clf_decision.specs.Laws.{IsDecided}
use Rattle.clf_decision.specs.Hereditary.{hereditary}
use Rattle.clf_decision.proofs.Decisions.{objects_are_decided, types_are_decided, entries_are_decided}
use Rattle.clf_decision.proofs.Hereditary.{are_puts}

module _ (sig : PlainSignature) where
  pub closed-starts : (g : Context) (h : Holding) → g ≡ [] → h ≡ [] → WellFormedSignature sig → Starts sig g h
  closed-starts g h e f w =
      let start : Starts sig [] [] = record { signature = w; context = tt; marked = tt } in
      subst (λ (k : Context). Starts sig k h) (sym e) (subst (λ (l : Holding). Starts sig [] l) (sym f) start)

  pub formation-starts : (g : Context) → g ≡ [] → WellFormedSignature sig → FormationStarts sig g
  formation-starts g e w =
      let start : FormationStarts sig [] = record { signature = w; context = tt } in
      subst (λ (k : Context). FormationStarts sig k) (sym e) start

  pub closed-formed : (g : Context) (a : PlainType) → g ≡ [] → WellFormedType sig [] a → SimplyFormed (families_of sig) (simple_of sig g) a
  closed-formed g a e w = subst (λ (k : Context). SimplyFormed (families_of sig) (simple_of sig k) a) (sym e) ((well_formed_is_simply_formed sig []).types true a w)

  -- What is left of nothing tells that a closed object has the type.
  pub left-typed : (n : PlainObject) (a : PlainType) (l : Leftover) → Agrees [] [] (Some l) (λ p. HasType sig [] p n a) → HasType sig [] [] n a
  left-typed n a l told = told.2 [] (refl, tt) (refl, tt)

  -- A closed object has a well-formed type, or one refusal explains why it does not.
  pub object-decided : (n : PlainObject) (a : PlainType) → WellFormedSignature sig → WellFormedType sig [] a
      → IsDecided ((l : Leftover) × Agrees [] [] (Some l) (λ p. HasType sig [] p n a)) (Agrees [] [] None (λ p. HasType sig [] p n a)) (ExplainedAt sig [] [] n a)
  object-decided n a w f = objects_are_decided hereditary are_puts sig [] [] n a (closed-starts [] [] refl refl w) (closed-formed [] a refl f)

  -- So it is with closed types and with entries.
  pub type-decided : (a : PlainType) → WellFormedSignature sig → IsDecided (WellFormedType sig [] a) (WellFormedType sig [] a → ⊥) (ExplainedInType sig [] a)
  type-decided a w = types_are_decided hereditary are_puts sig [] a (formation-starts [] refl w)

  pub entry-decided : (e : PlainEntry) → WellFormedSignature sig → e.implicit ≤ may_be_implicit e.class → IsDecided (WellFormedEntry sig e) (WellFormedEntry sig e → ⊥) (ExplainedInClass sig e.class)
  entry-decided e w i = entries_are_decided hereditary are_puts sig e (record { signature = w; implicit = i })
