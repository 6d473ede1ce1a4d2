-- What becomes of the noted eliminations: one more, and all of them written.
use Rattle.std.specs.Prelude.{Result, Err}
use Rattle.std.proofs.Common.{◌≡◌, ℕ, suc, ◌+◌, ◌-◌, ◌<◌, Bool, true, false, ◌&&◌, List, [], ◌∷◌, ◌++◌, map, length, drop, get_or, refl, sym, ap, ◌∙◌, arith}
use Rattle.std.specs.Result.{IsErrAnd}
use Rattle.std.specs.List.{list_all}
use Rattle.std.proofs.lemmas.List.{length-drop, map-append}
use Rattle.clf_syntax.specs.declared.tree.Mode.{Mode}
use Rattle.clf_syntax.specs.declared.fault.Or.{Or}
use Rattle.clf_syntax.specs.declared.fault.Or.TheVariants.{Fault, NoMemory}
use Rattle.clf_syntax.specs.declared.fault.TooFar.{TooFar}
use Rattle.clf_syntax.specs.declared.tree.Elim.{Elim}
use Rattle.clf_syntax.specs.declared.tree.Neutral.{Neutral}
use Rattle.clf_syntax.specs.declared.tree.Obj.{Obj}
use Rattle.clf_syntax.specs.declared.tree.TupleEntry.{TupleEntry}
use Rattle.clf_syntax.specs.declared.tree.SimpleEntry.{SimpleEntry}
use Rattle.clf_syntax.specs.Tree.{PlainObject, lam, pair, monadic, step, done, PlainNeutral, head_alone, app, fst, snd, PlainElimination, eliminated, spine_on, entry, tuple_of, head_of}
use Rattle.clf_syntax.specs.TypeTree.{SimpleType, arrow, simple_with, lax, SimpleTelescope, simple_end, simple_binding}
use Rattle.clf_syntax.specs.Plain.{plain_obj, plain_elim, plain_neutral, plain_entry, plain-neutral}
use Rattle.clf_syntax.specs.PlainSimple.{plain_simple_entry, simple_telescope_of}
use Rattle.clf_syntax.specs.Simple.{simple_modes}
use Rattle.clf_syntax.specs.Renaming.{ren_neutral, up}
use Rattle.clf_syntax.specs.Renumbered.{fits_elimination, fits_entry}
use Rattle.clf_syntax.specs.Written.{Writes, fits, fits_neutral, fits_tuple}
use Rattle.clf_syntax.proofs.Renumbered.{fits-spine, fits-tuple}
use Rattle.clf_syntax.proofs.RenamingLaws.{ext, composed_neutral, identity_neutral, pairs}
use Rattle.eta_laws.specs.Eta.{eta, expansion, at_monad, variables}
use Rattle.eta_laws.proofs.EtaLaws.{eta_ren}
use Rattle.eta_laws.proofs.Expansions.{expansion_laws, meta_renamed}
use Rattle.hered_subst.specs.TypedEnvironments.{is_metavariable}
use Rattle.clf_simple.proofs.Passing.{passed}
use Rattle.clf_simple.proofs.Lists.{head_spine, from_place}
use Rattle.clf_simple.specs.Noted.{PlainNoted, argument, first_part, second_part, bound_by, lambdas, variable, variable_entry, variable_entries, elimination, eliminations, under}

-- ---- one more

lambdas_argument : (qs : List PlainNoted) (m : Mode) (t : SimpleType) → lambdas (qs ++ argument m t ∷ []) ≡ lambdas qs + 1
lambdas_argument [] m t = refl
lambdas_argument (a ∷ qs) m t = ap (λ k. bound_by a + k) (lambdas_argument qs m t) ∙ sum (bound_by a) (lambdas qs)
  where
    sum : (x y : ℕ) → x + (y + 1) ≡ (x + y) + 1
    sum x y = omega arith

lambdas_part : (qs : List PlainNoted) (a : PlainNoted) → bound_by a ≡ 0 → lambdas (qs ++ a ∷ []) ≡ lambdas qs
lambdas_part [] a e = ap (λ k. k + 0) e
lambdas_part (b ∷ qs) a e = ap (λ k. bound_by b + k) (lambdas_part qs a e)

-- an argument more: all rise past its lambda
argument_on : (qs : List PlainNoted) (m : Mode) (t : SimpleType) (x : PlainNeutral)
    → spine_on (eliminations (qs ++ argument m t ∷ [])) (ren_neutral (up 1) x) ≡ app m (ren_neutral (up 1) (spine_on (eliminations qs) x)) (eta t (variable 0))
argument_on [] m t x = refl
argument_on (argument k d ∷ qs) m t x = ap (λ o. spine_on (eliminations (qs ++ argument m t ∷ [])) (app k (ren_neutral (up 1) x) o))
    (ap (λ i. eta d (variable i)) (lambdas_argument qs m t) ∙ sym (eta_ren d (up 1) (variable (lambdas qs))))
    ∙ argument_on qs m t (app k x (eta d (variable (lambdas qs))))
argument_on (first_part ∷ qs) m t x = argument_on qs m t (fst x)
argument_on (second_part ∷ qs) m t x = argument_on qs m t (snd x)

part_on : (qs : List PlainNoted) (a : PlainNoted) (x : PlainNeutral) → bound_by a ≡ 0 → spine_on (eliminations (qs ++ a ∷ [])) x ≡ eliminated (elimination a 0) (spine_on (eliminations qs) x)
part_on [] a x e = refl
part_on (b ∷ qs) a x e = ap (λ k. spine_on (eliminations (qs ++ a ∷ [])) (eliminated (elimination b k) x)) (lambdas_part qs a e) ∙ part_on qs a (eliminated (elimination b (lambdas qs)) x) e

raised_more : (k : ℕ) (n : PlainNeutral) → ren_neutral (up (k + 1)) n ≡ ren_neutral (up 1) (ren_neutral (up k) n)
raised_more k n = ap (λ r. ren_neutral r n) (ext (λ i. omega arith)) ∙ sym (composed_neutral (up 1) (up k) n)

under_argument : (qs : List PlainNoted) (m : Mode) (t : SimpleType) (n : PlainNeutral) → under (qs ++ argument m t ∷ []) n ≡ app m (ren_neutral (up 1) (under qs n)) (eta t (variable 0))
under_argument qs m t n = ap (spine_on (eliminations (qs ++ argument m t ∷ []))) (ap (λ k. ren_neutral (up k) n) (lambdas_argument qs m t) ∙ raised_more (lambdas qs) n)
    ∙ argument_on qs m t (ren_neutral (up (lambdas qs)) n)

under_part : (qs : List PlainNoted) (a : PlainNoted) (n : PlainNeutral) → bound_by a ≡ 0 → under (qs ++ a ∷ []) n ≡ eliminated (elimination a 0) (under qs n)
under_part qs a n e = ap (λ k. spine_on (eliminations (qs ++ a ∷ [])) (ren_neutral (up k) n)) (lambdas_part qs a e) ∙ part_on qs a (ren_neutral (up (lambdas qs)) n) e

pub expansion_function : (qs : List PlainNoted) (m : Mode) (d c : SimpleType) (n : PlainNeutral) → expansion (arrow m d c) (under qs n) ≡ lam m (expansion c (under (qs ++ argument m d ∷ []) n))
expansion_function qs m d c n = ap (λ x. lam m (expansion c x)) (sym (under_argument qs m d n))

pub expansion_pair : (qs : List PlainNoted) (c d : SimpleType) (n : PlainNeutral) → expansion (simple_with c d) (under qs n) ≡ pair (expansion c (under (qs ++ first_part ∷ []) n)) (expansion d (under (qs ++ second_part ∷ []) n))
expansion_pair qs c d n = pairs (ap (expansion c) (sym (under_part qs first_part n refl))) (ap (expansion d) (sym (under_part qs second_part n refl)))

-- ---- the head

pub expansion_monad : (qs : List PlainNoted) (ts : SimpleTelescope) (n : PlainNeutral) → expansion (lax ts) (under qs n) ≡ at_monad (is_metavariable (head_of n)) ts (under qs n)
expansion_monad qs ts n = ap (λ b. at_monad b ts (under qs n)) (ap is_metavariable (head_spine (eliminations qs) (ren_neutral (up (lambdas qs)) n)) ∙ meta_renamed (up (lambdas qs)) n)

-- ---- nothing noted yet

nowhere : (n : PlainNeutral) → under [] n ≡ n
nowhere n = ap (λ r. ren_neutral r n) (ext (λ i. omega arith)) ∙ identity_neutral n

pub expansion_given : (t : SimpleType) (n : PlainNeutral) → expansion t (under [] n) ≡ expansion t n
expansion_given t n = ap (expansion t) (nowhere n)

pub expansion_variable : (t : SimpleType) (i : ℕ) → expansion t (under [] (variable i)) ≡ eta t (variable i)
expansion_variable t i = expansion_given t (variable i) ∙ expansion_laws.long t (variable i) refl

-- ---- written

pub spine-more : (es fs : List PlainElimination) (x : PlainNeutral) → spine_on (es ++ fs) x ≡ spine_on fs (spine_on es x)
spine-more [] fs x = refl
spine-more (e ∷ es) fs x = spine-more es fs (eliminated e x)

-- ---- the newest variables

entries_length : (es : List SimpleEntry) → length (simple_modes (simple_telescope_of (map plain_simple_entry es))) ≡ length es
entries_length [] = refl
entries_length (e ∷ es) = ap suc (entries_length es)

pub variable_next : (es : List SimpleEntry) (i : ℕ) (e : SimpleEntry) → i < length es → e ≡ get_or es i e
    → variable_entries (simple_telescope_of (map plain_simple_entry (drop i es))) ≡ variable_entry (plain_simple_entry e) (length es - 1 - i) ∷ variable_entries (simple_telescope_of (map plain_simple_entry (drop (i + 1) es)))
variable_next es i e h q = ap (λ xs. variable_entries (simple_telescope_of xs)) (from_place plain_simple_entry es i e h q)
    ∙ ap (λ k. variable_entry (plain_simple_entry e) k ∷ variable_entries (simple_telescope_of (map plain_simple_entry (drop (i + 1) es)))) (entries_length (drop (i + 1) es) ∙ number)
  where
    number : length (drop (i + 1) es) ≡ length es - 1 - i
    number = omega (arith, length-drop {A = SimpleEntry})

pub variables-list : (ts : SimpleTelescope) → tuple_of (variable_entries ts) ≡ variables ts
variables-list simple_end = refl
variables-list (simple_binding m t ts) = ap (entry m (eta t (variable (length (simple_modes ts))))) (variables-list ts)

pub variables-fit : (ts : SimpleTelescope) → fits_tuple (variables ts) ≡ list_all fits_entry (variable_entries ts)
variables-fit ts = ap fits_tuple (sym (variables-list ts)) ∙ fits-tuple (variable_entries ts)

-- ---- what can be written

no_more : (b c : Bool) → c ≡ false → b && c ≡ false
no_more true c e = e
no_more false c e = refl

-- an elimination can't be written
pub spine_refused : (es : List PlainElimination) (x : PlainNeutral) (e : Or TooFar) (r : Result Neutral (Or TooFar))
    → Writes (λ (fs : List Elim). map plain_elim fs) (list_all fits_elimination) es (Err e) → IsErrAnd r (λ y. y ≡ e) → Writes plain_neutral fits_neutral (spine_on es x) r
spine_refused es x e r w q = passed plain_neutral fits_neutral (spine_on es x) e r q (refused e w)
  where
    refused : (e : Or TooFar) → Writes (λ (fs : List Elim). map plain_elim fs) (list_all fits_elimination) es (Err e) → Writes plain_neutral fits_neutral (spine_on es x) (Err e)
    refused (Fault f) w = fits-spine es x ∙ no_more (fits_neutral x) (list_all fits_elimination es) w
    refused NoMemory w = tt

-- what stands under them can't
pub root_refused : (es : List PlainElimination) (x : PlainNeutral) (e : Or TooFar) (r : Result Neutral (Or TooFar))
    → Writes plain_neutral fits_neutral x (Err e) → IsErrAnd r (λ y. y ≡ e) → Writes plain_neutral fits_neutral (spine_on es x) r
root_refused es x e r w q = passed plain_neutral fits_neutral (spine_on es x) e r q (refused e w)
  where
    refused : (e : Or TooFar) → Writes plain_neutral fits_neutral x (Err e) → Writes plain_neutral fits_neutral (spine_on es x) (Err e)
    refused (Fault f) w = fits-spine es x ∙ ap (λ b. b && list_all fits_elimination es) w
    refused NoMemory w = tt

pub spine_written : (n m : Neutral) (more : List Elim) (es : List PlainElimination) (x : PlainNeutral) → m.head ≡ n.head → m.spine ≡ n.spine ++ more
    → (plain_neutral n ≡ x) × (fits_neutral x ≡ true) → (map plain_elim more ≡ es) × (list_all fits_elimination es ≡ true)
    → (plain_neutral m ≡ spine_on es x) × (fits_neutral (spine_on es x) ≡ true)
spine_written n m more es x h s p q = (
  plain-neutral m
      ∙ ap (λ v. spine_on (map plain_elim m.spine) (head_alone v)) h
      ∙ ap (λ fs. spine_on fs (head_alone n.head)) (ap (map plain_elim) s ∙ map-append plain_elim n.spine more)
      ∙ spine-more (map plain_elim n.spine) (map plain_elim more) (head_alone n.head)
      ∙ ap (spine_on (map plain_elim more)) (sym (plain-neutral n) ∙ p.0)
      ∙ ap (λ fs. spine_on fs x) q.0,
  fits-spine es x ∙ ap (λ b. b && list_all fits_elimination es) p.1 ∙ q.1,
)

-- one of the newest variables can't
pub entry_refused : (es : List (Mode × PlainObject)) (x : Mode × PlainObject) (rest : List (Mode × PlainObject)) (e : Or TooFar) (r : Result (List TupleEntry) (Or TooFar))
    → list_all fits_entry es ≡ list_all fits_entry (x ∷ rest) → Writes plain_entry fits_entry x (Err e) → IsErrAnd r (λ y. y ≡ e)
    → Writes (λ (ts : List TupleEntry). map plain_entry ts) (list_all fits_entry) es r
entry_refused es x rest e r h w q = passed (λ (ts : List TupleEntry). map plain_entry ts) (list_all fits_entry) es e r q (refused e w)
  where
    refused : (e : Or TooFar) → Writes plain_entry fits_entry x (Err e) → Writes (λ (ts : List TupleEntry). map plain_entry ts) (list_all fits_entry) es (Err e)
    refused (Fault f) w = h ∙ ap (λ b. b && list_all fits_entry rest) w
    refused NoMemory w = tt

-- a variable at a monad can't
pub monad_refused : (ts : SimpleTelescope) (n : PlainNeutral) (b : Bool) (e : Or TooFar) (r : Result Obj (Or TooFar)) → b ≡ false
    → Writes (λ (es : List TupleEntry). map plain_entry es) (list_all fits_entry) (variable_entries ts) (Err e) → IsErrAnd r (λ y. y ≡ e) → Writes plain_obj fits (at_monad b ts n) r
monad_refused ts n b e r h w q = passed plain_obj fits (at_monad b ts n) e r q (refused e w)
  where
    refused : (e : Or TooFar) → Writes (λ (es : List TupleEntry). map plain_entry es) (list_all fits_entry) (variable_entries ts) (Err e) → Writes plain_obj fits (at_monad b ts n) (Err e)
    refused (Fault f) w = ap (λ x. fits (at_monad x ts n)) h ∙ no_more (fits_neutral n) (fits_tuple (variables ts)) (variables-fit ts ∙ w)
    refused NoMemory w = tt

pub monad_written : (ts : SimpleTelescope) (n : PlainNeutral) (b : Bool) (o : Obj) → b ≡ false → plain_obj o ≡ monadic (step (simple_modes ts) n (done (tuple_of (variable_entries ts))))
    → fits_neutral n ≡ true → list_all fits_entry (variable_entries ts) ≡ true → (plain_obj o ≡ at_monad b ts n) × (fits (at_monad b ts n) ≡ true)
monad_written ts n b o h e f g = (
  e ∙ ap (λ t. monadic (step (simple_modes ts) n (done t))) (variables-list ts) ∙ ap (λ x. at_monad x ts n) (sym h),
  ap (λ x. fits (at_monad x ts n)) h ∙ ap (λ x. x && fits_tuple (variables ts)) f ∙ variables-fit ts ∙ g,
)
