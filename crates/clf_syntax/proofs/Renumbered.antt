-- Renaming under binders is the lifted renaming, and goes along spines, tuples and steps part by part.
use Rattle.std.specs.Prelude.{ℕ, ◌+◌, ◌≡◌, ◌&&◌, ◌∷◌, ◌++◌, [], List, Bool, true, false, refl, map, length}
use Rattle.std.specs.List.{list_all}
use Rattle.std.proofs.Common.{ap, sym, ◌∙◌, arith, ◌<◌, ◌≤◌, drop, get_or}
use Rattle.std.proofs.lemmas.List.{map-append}
use Rattle.std.proofs.lemmas.Grind.{common_steps}
use Rattle.clf_syntax.specs.declared.tree.Mode.{Mode}
use Rattle.clf_syntax.specs.declared.tree.Step.{Step}
use Rattle.clf_syntax.specs.declared.tree.TupleEntry.{TupleEntry}
use Rattle.clf_syntax.specs.declared.tree.TeleEntry.{TeleEntry}
use Rattle.clf_syntax.specs.declared.tree.Ty.{Ty}
use Rattle.clf_syntax.specs.Tree.{PlainObject, lam, pair, unit, monadic, atomic, hole, PlainNeutral, head_alone, app, fst, snd, PlainExpression, step, done, PlainTuple, empty, entry, PlainElimination, arg, first, second, eliminated, spine_on, steps_on, tuple_of}
use Rattle.clf_syntax.specs.TypeTree.{PlainType, family, function, both, top, monad, PlainTelescope, end, binding, PlainKind, telescope_of}
use Rattle.clf_syntax.specs.Plain.{plain_step, plain_entry}
use Rattle.clf_syntax.specs.PlainTypes.{plain_ty, plain_tele_entry, plain-Tele}
use Rattle.clf_syntax.specs.Renaming.{Renumbering, lifted, ren, ren_neutral, ren_expression, ren_tuple, ren_type, ren_telescope, ren_kind, raise, renumbering}
use Rattle.clf_syntax.specs.Written.{fits, fits_neutral, fits_tuple}
use Rattle.clf_syntax.specs.Shift.{shift, shift_neutral, shift_expression, shift_type, shift_telescope, shift_kind}
use Rattle.clf_syntax.specs.Renumbered.{entries_on, renumber, renumber_neutral, renumber_expression, renumber_tuple, renumber_type, renumber_telescope, renumber_kind, renumber_elimination, renumber_entry, renumber_step, renumber_tele_entry, fits_elimination, fits_entry}
use Rattle.clf_syntax.proofs.RenamingLaws.{ext, pairs, apps, binds, entries}
use Rattle.clf_syntax.proofs.TypeRenaming.{conses, functions, boths, bindings}
use Rattle.clf_syntax.proofs.ShiftLaws.{shift-ren, shift-ren_neutral, shift-ren_expression, shift-ren_type, shift-ren_telescope}
use Rattle.clf_syntax.proofs.Next.{dropped}

-- ---- under binders

deeper : (n d : ℕ) (r : Renumbering) → lifted n (lifted d r) ≡ lifted (d + n) r
deeper n d r = ext (λ i. grind arith)

mutual
  pub renumber-ren : (r : Renumbering) (d : ℕ) (o : PlainObject) → renumber r d o ≡ ren (lifted d r) o
  renumber-ren r d (lam m b) = ap (lam m) (renumber-ren r (d + 1) b ∙ ap (λ q. ren q b) (sym (deeper 1 d r)))
  renumber-ren r d (pair x y) = pairs (renumber-ren r d x) (renumber-ren r d y)
  renumber-ren r d unit = refl
  renumber-ren r d (monadic e) = ap monadic (renumber-ren_expression r d e)
  renumber-ren r d (atomic n) = ap atomic (renumber-ren_neutral r d n)
  renumber-ren r d hole = refl

  pub renumber-ren_neutral : (r : Renumbering) (d : ℕ) (o : PlainNeutral) → renumber_neutral r d o ≡ ren_neutral (lifted d r) o
  renumber-ren_neutral r d (head_alone h) = refl
  renumber-ren_neutral r d (app m x n) = apps m (renumber-ren_neutral r d x) (renumber-ren r d n)
  renumber-ren_neutral r d (fst x) = ap fst (renumber-ren_neutral r d x)
  renumber-ren_neutral r d (snd x) = ap snd (renumber-ren_neutral r d x)

  pub renumber-ren_expression : (r : Renumbering) (d : ℕ) (o : PlainExpression) → renumber_expression r d o ≡ ren_expression (lifted d r) o
  renumber-ren_expression r d (step ms x e) = binds ms (renumber-ren_neutral r d x) (renumber-ren_expression r (d + length ms) e ∙ ap (λ q. ren_expression q e) (sym (deeper (length ms) d r)))
  renumber-ren_expression r d (done t) = ap done (renumber-ren_tuple r d t)

  pub renumber-ren_tuple : (r : Renumbering) (d : ℕ) (o : PlainTuple) → renumber_tuple r d o ≡ ren_tuple (lifted d r) o
  renumber-ren_tuple r d empty = refl
  renumber-ren_tuple r d (entry m n t) = entries m (renumber-ren r d n) (renumber-ren_tuple r d t)

each : (r : Renumbering) (d : ℕ) (ns : List PlainObject) → map (renumber r d) ns ≡ map (ren (lifted d r)) ns
each r d ns = ap (λ (f : PlainObject → PlainObject). map f ns) (λ i o. renumber-ren r d o i)

mutual
  pub renumber-ren_type : (r : Renumbering) (d : ℕ) (o : PlainType) → renumber_type r d o ≡ ren_type (lifted d r) o
  renumber-ren_type r d (family f ns) = ap (family f) (each r d ns)
  renumber-ren_type r d (function m a b) = functions m (renumber-ren_type r d a) (renumber-ren_type r (d + 1) b ∙ ap (λ q. ren_type q b) (sym (deeper 1 d r)))
  renumber-ren_type r d (both a b) = boths (renumber-ren_type r d a) (renumber-ren_type r d b)
  renumber-ren_type r d top = refl
  renumber-ren_type r d (monad s) = ap monad (renumber-ren_telescope r d s)

  pub renumber-ren_telescope : (r : Renumbering) (d : ℕ) (o : PlainTelescope) → renumber_telescope r d o ≡ ren_telescope (lifted d r) o
  renumber-ren_telescope r d end = refl
  renumber-ren_telescope r d (binding m a s) = bindings m (renumber-ren_type r d a) (renumber-ren_telescope r (d + 1) s ∙ ap (λ q. ren_telescope q s) (sym (deeper 1 d r)))

pub renumber-ren_kind : (r : Renumbering) (d : ℕ) (o : PlainKind) → renumber_kind r d o ≡ ren_kind (lifted d r) o
renumber-ren_kind r d [] = refl
renumber-ren_kind r d (a ∷ k) = conses (renumber-ren_type r d a) (renumber-ren_kind r (d + 1) k ∙ ap (λ q. ren_kind q k) (sym (deeper 1 d r)))

-- under no binder
pub lifted-none : (r : Renumbering) → lifted 0 r ≡ r
lifted-none r = ext (λ i. grind arith)

-- the renaming without images, under binders, is the shift
pub lifted-raise : (by from : ℕ) → lifted from (renumbering [] by) ≡ raise by from
lifted-raise by from = ext (λ i. grind (arith, common_steps))

-- ---- spines, tuples, steps, telescopes

and_same : (a b c : Bool) → (a && b) && c ≡ a && (b && c)
and_same true b c = refl
and_same false b c = refl

and_nothing : (a : Bool) → a && true ≡ a
and_nothing true = refl
and_nothing false = refl

renumber-eliminated : (r : Renumbering) (d : ℕ) (e : PlainElimination) (x : PlainNeutral) → renumber_neutral r d (eliminated e x) ≡ eliminated (renumber_elimination r d e) (renumber_neutral r d x)
renumber-eliminated r d (arg m n) x = refl
renumber-eliminated r d first x = refl
renumber-eliminated r d second x = refl

pub renumber-spine : (r : Renumbering) (d : ℕ) (es : List PlainElimination) (x : PlainNeutral) → renumber_neutral r d (spine_on es x) ≡ spine_on (map (renumber_elimination r d) es) (renumber_neutral r d x)
renumber-spine r d [] x = refl
renumber-spine r d (e ∷ es) x = renumber-spine r d es (eliminated e x) ∙ ap (spine_on (map (renumber_elimination r d) es)) (renumber-eliminated r d e x)

fits-eliminated : (e : PlainElimination) (x : PlainNeutral) → fits_neutral (eliminated e x) ≡ fits_neutral x && fits_elimination e
fits-eliminated (arg m n) x = refl
fits-eliminated first x = sym (and_nothing (fits_neutral x))
fits-eliminated second x = sym (and_nothing (fits_neutral x))

pub fits-spine : (es : List PlainElimination) (x : PlainNeutral) → fits_neutral (spine_on es x) ≡ fits_neutral x && list_all fits_elimination es
fits-spine [] x = sym (and_nothing (fits_neutral x))
fits-spine (e ∷ es) x = fits-spine es (eliminated e x) ∙ ap (λ b. b && list_all fits_elimination es) (fits-eliminated e x) ∙ and_same (fits_neutral x) (fits_elimination e) (list_all fits_elimination es)

pub renumber-tuple : (r : Renumbering) (d : ℕ) (es : List (Mode × PlainObject)) → renumber_tuple r d (tuple_of es) ≡ tuple_of (map (renumber_entry r d) es)
renumber-tuple r d [] = refl
renumber-tuple r d (e ∷ es) = ap (entry e.0 (renumber r d e.1)) (renumber-tuple r d es)

pub fits-tuple : (es : List (Mode × PlainObject)) → fits_tuple (tuple_of es) ≡ list_all fits_entry es
fits-tuple [] = refl
fits-tuple (e ∷ es) = ap (λ b. fits e.1 && b) (fits-tuple es)

pub steps-more : (xs : List (List Mode × PlainNeutral)) (s : List Mode × PlainNeutral) (e : PlainExpression) → steps_on (xs ++ s ∷ []) e ≡ steps_on xs (step s.0 s.1 e)
steps-more [] s e = refl
steps-more (x ∷ xs) s e = ap (step x.0 x.1) (steps-more xs s e)

pub ruleset renumber_laws = (renumber-spine, fits-spine, renumber-tuple, fits-tuple)

-- ---- from one place on

pub steps-next : (r : Renumbering) (d i : ℕ) (s : Step) (xs : List Step) (e : PlainExpression) → i < length xs → s ≡ get_or xs i s
    → renumber_expression r d (steps_on (map plain_step (drop i xs)) e)
    ≡ step (plain_step s).0 (renumber_neutral r d (plain_step s).1) (renumber_expression r (d + length (plain_step s).0) (steps_on (map plain_step (drop (i + 1) xs)) e))
steps-next r d i s xs e h p = ap (λ ss. renumber_expression r d (steps_on (map plain_step ss) e)) (dropped xs i s h p)

pub step-pushed : (ss : List Step) (t s : Step) (r : Renumbering) (d : ℕ) (e : PlainExpression) → plain_step t ≡ renumber_step r d (plain_step s)
    → steps_on (map plain_step (ss ++ t ∷ [])) e ≡ steps_on (map plain_step ss) (step (plain_step s).0 (renumber_neutral r d (plain_step s).1) e)
step-pushed ss t s r d e h = rw (map-append plain_step ss (t ∷ []), steps-more (map plain_step ss) (plain_step t) e, h)

pub steps-ended : (r : Renumbering) (d i : ℕ) (xs : List Step) (ts : List TupleEntry) → length xs ≤ i
    → renumber_expression r d (steps_on (map plain_step (drop i xs)) (done (tuple_of (map plain_entry ts)))) ≡ done (tuple_of (map (renumber_entry r d) (map plain_entry ts)))
steps-ended r d i xs ts h =
    let none : drop i xs ≡ [] = grind (arith, common_steps) in
    rw (none, renumber-tuple r d (map plain_entry ts))

pub entries-next : (r : Renumbering) (d i : ℕ) (t : TeleEntry) (xs : List TeleEntry) → i < length xs → t ≡ get_or xs i t
    → renumber_telescope r d (telescope_of (map plain_tele_entry (drop i xs)))
    ≡ binding (plain_tele_entry t).0 (renumber_type r d (plain_tele_entry t).1) (renumber_telescope r (d + 1) (telescope_of (map plain_tele_entry (drop (i + 1) xs))))
entries-next r d i t xs h p = ap (λ ts. renumber_telescope r d (telescope_of (map plain_tele_entry ts))) (dropped xs i t h p)

pub entries_on-end : (es : List (Mode × PlainType)) → entries_on es end ≡ telescope_of es
entries_on-end [] = refl
entries_on-end (e ∷ es) = ap (binding e.0 e.1) (entries_on-end es)

entries-more : (es : List (Mode × PlainType)) (e : Mode × PlainType) (s : PlainTelescope) → entries_on (es ++ e ∷ []) s ≡ entries_on es (binding e.0 e.1 s)
entries-more [] e s = refl
entries-more (x ∷ es) e s = ap (binding x.0 x.1) (entries-more es e s)

pub entry-pushed : (es : List TeleEntry) (t e : TeleEntry) (r : Renumbering) (d : ℕ) (s : PlainTelescope) → plain_tele_entry t ≡ renumber_tele_entry r d (plain_tele_entry e)
    → entries_on (map plain_tele_entry (es ++ t ∷ [])) s ≡ entries_on (map plain_tele_entry es) (binding (plain_tele_entry e).0 (renumber_type r d (plain_tele_entry e).1) s)
entry-pushed es t e r d s h = rw (map-append plain_tele_entry es (t ∷ []), entries-more (map plain_tele_entry es) (plain_tele_entry t) s, h)

pub entries-ended : (r : Renumbering) (d i : ℕ) (xs : List TeleEntry) → length xs ≤ i → renumber_telescope r d (telescope_of (map plain_tele_entry (drop i xs))) ≡ end
entries-ended r d i xs h =
    let none : drop i xs ≡ [] = grind (arith, common_steps) in
    rw none

pub kind-next : (r : Renumbering) (d i : ℕ) (t : Ty) (xs : List Ty) → i < length xs → t ≡ get_or xs i t
    → renumber_kind r d (map plain_ty (drop i xs)) ≡ renumber_type r d (plain_ty t) ∷ renumber_kind r (d + 1) (map plain_ty (drop (i + 1) xs))
kind-next r d i t xs h p = ap (λ ts. renumber_kind r d (map plain_ty ts)) (dropped xs i t h p)

-- ---- the public calls

pub shifted : (by from : ℕ) (o : PlainObject) → renumber (renumbering [] by) from o ≡ shift by from o
shifted by from o = renumber-ren (renumbering [] by) from o ∙ ap (λ q. ren q o) (lifted-raise by from) ∙ sym (shift-ren by from o)

pub shifted-neutral : (by from : ℕ) (o : PlainNeutral) → renumber_neutral (renumbering [] by) from o ≡ shift_neutral by from o
shifted-neutral by from o = renumber-ren_neutral (renumbering [] by) from o ∙ ap (λ q. ren_neutral q o) (lifted-raise by from) ∙ sym (shift-ren_neutral by from o)

pub shifted-expression : (by from : ℕ) (o : PlainExpression) → renumber_expression (renumbering [] by) from o ≡ shift_expression by from o
shifted-expression by from o = renumber-ren_expression (renumbering [] by) from o ∙ ap (λ q. ren_expression q o) (lifted-raise by from) ∙ sym (shift-ren_expression by from o)

pub shifted-type : (by from : ℕ) (o : PlainType) → renumber_type (renumbering [] by) from o ≡ shift_type by from o
shifted-type by from o = renumber-ren_type (renumbering [] by) from o ∙ ap (λ q. ren_type q o) (lifted-raise by from) ∙ sym (shift-ren_type by from o)

pub shifted-telescope : (by from : ℕ) (o : PlainTelescope) → renumber_telescope (renumbering [] by) from o ≡ shift_telescope by from o
shifted-telescope by from o = renumber-ren_telescope (renumbering [] by) from o ∙ ap (λ q. ren_telescope q o) (lifted-raise by from) ∙ sym (shift-ren_telescope by from o)

pub shifted-kind : (by from : ℕ) (o : PlainKind) → renumber_kind (renumbering [] by) from o ≡ shift_kind by from o
shifted-kind by from [] = refl
shifted-kind by from (a ∷ k) = conses (shifted-type by from a) (shifted-kind by (from + 1) k)

pub ruleset shift_laws = (shifted, shifted-neutral, shifted-expression, shifted-type, shifted-telescope, shifted-kind)

pub renamed : (r : Renumbering) (o : PlainObject) → renumber r 0 o ≡ ren r o
renamed r o = renumber-ren r 0 o ∙ ap (λ q. ren q o) (lifted-none r)

pub renamed-neutral : (r : Renumbering) (o : PlainNeutral) → renumber_neutral r 0 o ≡ ren_neutral r o
renamed-neutral r o = renumber-ren_neutral r 0 o ∙ ap (λ q. ren_neutral q o) (lifted-none r)

pub renamed-expression : (r : Renumbering) (o : PlainExpression) → renumber_expression r 0 o ≡ ren_expression r o
renamed-expression r o = renumber-ren_expression r 0 o ∙ ap (λ q. ren_expression q o) (lifted-none r)

pub renamed-type : (r : Renumbering) (o : PlainType) → renumber_type r 0 o ≡ ren_type r o
renamed-type r o = renumber-ren_type r 0 o ∙ ap (λ q. ren_type q o) (lifted-none r)

pub renamed-telescope : (r : Renumbering) (o : PlainTelescope) → renumber_telescope r 0 o ≡ ren_telescope r o
renamed-telescope r o = renumber-ren_telescope r 0 o ∙ ap (λ q. ren_telescope q o) (lifted-none r)

pub renamed-kind : (r : Renumbering) (o : PlainKind) → renumber_kind r 0 o ≡ ren_kind r o
renamed-kind r o = renumber-ren_kind r 0 o ∙ ap (λ q. ren_kind q o) (lifted-none r)

pub ruleset rename_laws = (renamed, renamed-neutral, renamed-expression, renamed-type, renamed-telescope, renamed-kind)

pub ruleset renumber_type_laws = (entries_on-end, plain-Tele)
