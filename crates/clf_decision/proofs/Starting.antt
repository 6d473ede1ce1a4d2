-- Where a check starts from, the checks of parts start: in longer contexts, from parts of holdings, at types and telescopes that stay
-- simply formed.
use Rattle.std.specs.Prelude.{suc, ◌+◌, ◌≡◌, true, List, ◌∷◌, length, Some, refl}
use Rattle.std.proofs.Common.{ap, sym, subst, ◌∙◌, arith}
use Rattle.clf_syntax.specs.declared.tree.Mode.{Mode}
use Rattle.clf_syntax.specs.declared.tree.Head.{Head}
use Rattle.clf_syntax.specs.declared.tree.Head.TheVariants.{Const, Var, Meta}
use Rattle.clf_syntax.specs.Tree.{PlainObject, PlainNeutral}
use Rattle.clf_syntax.specs.TypeTree.{PlainType, PlainTelescope, end, binding, SimpleType}
use Rattle.clf_syntax.specs.Simple.{erase, extended, SimplyTyped, SimplyFormed, SimplyFormedTelescope}
use Rattle.clf_syntax.specs.Renaming.{ren_head, ren_telescope, up}
use Rattle.use_contexts.specs.Context.{Context, modes, telescope_modes, with_entries}
use Rattle.use_contexts.specs.Holding.{Holding, WellMarked, allowed, all_held}
use Rattle.use_contexts.specs.Rows.{IsSubholding}
use Rattle.use_contexts.proofs.UseLaws.{WellMarked-part}
use Rattle.hered_subst.specs.Substitution.{single, SubstitutedTelescope}
use Rattle.hered_subst.specs.Laws.{inserted, keeping, ResultsAreTyped}
use Rattle.hered_subst.proofs.Types.{renames_telescope}
use Rattle.hered_subst.proofs.TypedEnvironments.{keeps_single}
use Rattle.hered_subst.proofs.TypedResults.{result_is_typed}
use Rattle.clf_sig.specs.Entry.{PlainSignature}
use Rattle.clf_rules.specs.Explained.{MayHaveType, MaySynthesize}
use Rattle.typing_laws.specs.SimpleTyping.{simple_of, families_of}
use Rattle.typing_laws.proofs.Erased.{object}
use Rattle.typing_laws.proofs.FormedTypes.{renames, as_inserted, synthesized_is_simply_formed}
use Rattle.clf_decision.specs.Checking.{Puts}
use Rattle.clf_decision.specs.Puts.{ArePuts}
use Rattle.clf_decision.specs.Starts.{Starts}
use Rattle.clf_decision.proofs.Marked.{allowed-marked}

-- ---- contexts and holdings
pub starts-under : (sig : PlainSignature) (g : Context) (h : Holding) (m : Mode) (a : PlainType) → Starts sig g h → SimplyFormed (families_of sig) (simple_of sig g) a → Starts sig ((m, a) ∷ g) (true ∷ h)
starts-under sig g h m a s f = record { signature = s.signature; context = (f, s.context); marked = ((λ e. refl), s.marked) }

pub starts-from : (sig : PlainSignature) (g : Context) (h l : Holding) → Starts sig g h → WellMarked (modes g) l → Starts sig g l
starts-from sig g h l s w = record { signature = s.signature; context = s.context; marked = w }

-- a part of the holding
pub starts-part : (sig : PlainSignature) (g : Context) (h l : Holding) → Starts sig g h → IsSubholding (modes g) h l → Starts sig g l
starts-part sig g h l s w = starts-from sig g h l s (WellMarked-part (modes g) h l w)

-- what a mode allows of it
pub starts-allowed : (sig : PlainSignature) (g : Context) (l : Holding) (m : Mode) → Starts sig g l → Starts sig g (allowed m (modes g) l)
starts-allowed sig g l m s = starts-from sig g l (allowed m (modes g) l) s (allowed-marked m (modes g) l s.marked)

-- under the entries of a telescope
pub starts-entered : (sig : PlainSignature) (u : PlainTelescope) (g : Context) (h : Holding) → Starts sig g h → SimplyFormedTelescope (families_of sig) (simple_of sig g) u
    → Starts sig (with_entries u g) (all_held (telescope_modes u) h)
starts-entered sig end g h s f = s
starts-entered sig (binding m a u) g h s f = starts-entered sig u ((m, a) ∷ g) (true ∷ h) (starts-under sig g h m a s f.0) f.1

-- ---- telescopes
-- A head has its simple type under more entries too.
entered-head : (sig : PlainSignature) (u : PlainTelescope) (g : Context) (h : Head) (t : SimpleType) → simple_of sig g h ≡ Some t
    → simple_of sig (with_entries u g) (ren_head (up (length (telescope_modes u))) h) ≡ Some t
entered-head sig end g (Const c) t e = e
entered-head sig end g (Var i) t e = let n : i + 0 ≡ i = omega arith in ap (λ j. simple_of sig g (Var j)) n ∙ e
entered-head sig end g (Meta k) t e = e
entered-head sig (binding m a u) g (Const c) t e = entered-head sig u ((m, a) ∷ g) (Const c) t e
entered-head sig (binding m a u) g (Var i) t e =
    let n : i + suc (length (telescope_modes u)) ≡ suc i + length (telescope_modes u) = omega arith in
    ap (λ j. simple_of sig (with_entries u ((m, a) ∷ g)) (Var j)) n ∙ entered-head sig u ((m, a) ∷ g) (Var (suc i)) t e
entered-head sig (binding m a u) g (Meta k) t e = entered-head sig u ((m, a) ∷ g) (Meta k) t e

pub formed-entered : (sig : PlainSignature) (u : PlainTelescope) (g : Context) (ms : List Mode) (s : PlainTelescope) → telescope_modes u ≡ ms → SimplyFormedTelescope (families_of sig) (simple_of sig g) s
    → SimplyFormedTelescope (families_of sig) (simple_of sig (with_entries u g)) (ren_telescope (up (length ms)) s)
formed-entered sig u g ms s e f =
    let r = up (length (telescope_modes u)) in
    let y = renames (simple_of sig g) (simple_of sig (with_entries u g)) r (entered-head sig u g) in
    let x : ResultsAreTyped true (families_of sig) (simple_of sig g) (simple_of sig (with_entries u g)) (keeping r) = result_is_typed true (families_of sig) (simple_of sig g) (simple_of sig (with_entries u g)) (keeping r) y in
    subst (λ ns. SimplyFormedTelescope (families_of sig) (simple_of sig (with_entries u g)) (ren_telescope (up (length ns)) s)) e (x.telescope s (ren_telescope r s) f (renames_telescope r s)).0

-- what is put for the variable of a telescope is the substitution's, and is simply formed
pub telescope-put : (puts : Puts) → ArePuts puts → (sig : PlainSignature) (g : Context) (h : Holding) (n : PlainObject) (a : PlainType) (u : PlainTelescope)
    → MayHaveType sig g h n a → SimplyFormedTelescope (families_of sig) (extended (erase a) (simple_of sig g)) u
    → SubstitutedTelescope (single n 0) u (puts.into_telescope n a u) × SimplyFormedTelescope (families_of sig) (simple_of sig g) (puts.into_telescope n a u)
telescope-put puts are sig g h n a u p f =
    let t : SimplyTyped (simple_of sig g) n (erase a) = object true sig g p.0 n a p.2 in
    let s = are.telescopes (families_of sig) (simple_of sig g) n a u t f in
    let x : ResultsAreTyped true (families_of sig) (inserted 0 (erase a) (simple_of sig g)) (simple_of sig g) (single n 0) =
    result_is_typed true (families_of sig) (inserted 0 (erase a) (simple_of sig g)) (simple_of sig g) (single n 0) (keeps_single true (simple_of sig g) 0 n (erase a) t) in
    (s, (x.telescope u (puts.into_telescope n a u) (subst (λ y. SimplyFormedTelescope (families_of sig) y u) (sym (as_inserted (erase a) (simple_of sig g))) f) s).0)

-- the type of a neutral
pub formed-synthesized : (sig : PlainSignature) (g : Context) (h : Holding) (r : PlainNeutral) (a : PlainType) → Starts sig g h → MaySynthesize sig g h r a → SimplyFormed (families_of sig) (simple_of sig g) a
formed-synthesized sig g h r a s p = synthesized_is_simply_formed sig g s.signature s.context p.0 r a p.2
