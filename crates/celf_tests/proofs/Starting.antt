-- A check may start from a state with two entries of the place `{<T>}`, over a signature without entries.
use Rattle.std.proofs.Common.{◌≡◌, ◌∙◌, List, [], ◌∷◌, ◌++◌, true, ap, map, refl, reverse, subst, sym}
use Rattle.std.proofs.lemmas.List.{map-append, reverse-append}
use Rattle.clf_syntax.specs.declared.tree.Mode.{Mode}
use Rattle.clf_syntax.specs.declared.tree.Mode.TheVariants.{Linear, Persistent}
use Rattle.clf_syntax.specs.declared.tree.Tele.{roll-Tele}
use Rattle.clf_syntax.specs.declared.tree.TeleEntry.{TeleEntry}
use Rattle.clf_syntax.specs.PlainTypes.{plain_tele, plain_tele_entry, plain-Tele}
use Rattle.clf_syntax.specs.TypeTree.{PlainType, binding, end, monad, telescope_of, top}
use Rattle.use_contexts.specs.Context.{Context}
use Rattle.use_contexts.specs.Holding.{Holding}
use Rattle.clf_sig.specs.Entry.{PlainSignature}
use Rattle.clf_decision.specs.Starts.{Starts}

here : Starts [] ((Linear, monad (binding Linear top end)) ∷ (Persistent, monad (binding Linear top end)) ∷ []) (true ∷ true ∷ [])
here = record { signature = tt; context = ((tt, tt), ((tt, tt), tt)); marked = ((λ e. refl), ((λ e. refl), tt)) }

pub from_start : (sig : PlainSignature) (g : Context) (h : Holding) → sig ≡ [] → g ≡ (Linear, monad (binding Linear top end)) ∷ (Persistent, monad (binding Linear top end)) ∷ [] → h ≡ true ∷ true ∷ [] → Starts sig g h
from_start sig g h a b c = subst (λ (s : PlainSignature). Starts s g h) (sym a)
    (subst (λ (k : Context). Starts [] k h) (sym b) (subst (λ (l : Holding). Starts [] ((Linear, monad (binding Linear top end)) ∷ (Persistent, monad (binding Linear top end)) ∷ []) l) (sym c) here))

-- ---- what is pushed
pub one_token : (es : List TeleEntry) (e : TeleEntry) → es ≡ e ∷ [] → plain_tele_entry e ≡ (Linear, top) → plain_tele (roll-Tele (record { entries = es })) ≡ binding Linear top end
one_token es e p q = plain-Tele es ∙ ap (λ xs. telescope_of (map plain_tele_entry xs)) p ∙ ap (λ (x : Mode × PlainType). telescope_of (x ∷ [])) q

pub one_more : (es more : List TeleEntry) (e : TeleEntry) (x : Mode × PlainType) (g : Context) → more ≡ es ++ e ∷ [] → plain_tele_entry e ≡ x → reverse (map plain_tele_entry es) ≡ g
    → reverse (map plain_tele_entry more) ≡ x ∷ g
one_more es more e x g p q r =
    ap (λ xs. reverse (map plain_tele_entry xs)) p ∙ ap reverse (map-append plain_tele_entry es (e ∷ [])) ∙ reverse-append (map plain_tele_entry es) (plain_tele_entry e ∷ [])
    ∙ ap (λ (y : Mode × PlainType). y ∷ reverse (map plain_tele_entry es)) q ∙ ap (λ (h : Context). x ∷ h) r
