-- The pieces of the function on types, one form after the other.
use Rattle.std.specs.Prelude.{ℕ, ◌+◌, ◌≡◌, List, [], ◌∷◌, ◌++◌, map, length, refl}
use Rattle.std.proofs.Common.{ap, sym, ◌∙◌, arith, ◌<◌, ◌≤◌, drop, get_or}
use Rattle.std.proofs.lemmas.List.{map-append}
use Rattle.std.proofs.lemmas.Grind.{common_steps}
use Rattle.clf_syntax.specs.declared.tree.Mode.{Mode}
use Rattle.clf_syntax.specs.declared.tree.Obj.{Obj}
use Rattle.clf_syntax.specs.declared.tree.Ty.{Ty, Fun}
use Rattle.clf_syntax.specs.declared.tree.TeleEntry.{TeleEntry}
use Rattle.clf_syntax.specs.Tree.{PlainObject}
use Rattle.clf_syntax.specs.TypeTree.{PlainType, family, function, both, top, monad, PlainTelescope, end, binding, telescope_of}
use Rattle.clf_syntax.specs.Plain.{plain_obj}
use Rattle.clf_syntax.specs.PlainTypes.{plain_ty, plain_tele_entry, plain-Fun}
use Rattle.clf_syntax.proofs.Next.{dropped}
use Rattle.hered_subst.specs.Substitution.{Environment, under}
use Rattle.hered_put.specs.Function.{Answer, made, untyped, too_far, after, nested, run_type, run_telescope}
use Rattle.hered_put.specs.Pieces.{object_of}
use Rattle.hered_put.specs.TypePieces.{indices_of, family_of, type_of, tele_of, tele_entry_of, kind_of}
use Rattle.hered_put.proofs.TuplePieces.{one_more, in_front-more, in_front-untyped, in_front-too_far, in_front-all, in_front-none}

-- ---- indices

pub indices-next : (k : ℕ) (s : Environment) (i : ℕ) (x : Obj) (xs : List Obj) → i < length xs → x ≡ get_or xs i x
    → indices_of k s (map plain_obj (drop i xs)) ≡ one_more (object_of k s (plain_obj x)) (indices_of k s (map plain_obj (drop (i + 1) xs)))
unfolding indices_of one_more object_of
indices-next k s i x xs h e = ap (λ ns. indices_of k s (map plain_obj ns)) (dropped xs i x h e)

pub indices-ended : (k : ℕ) (s : Environment) (i : ℕ) (xs : List Obj) → length xs ≤ i → indices_of k s (map plain_obj (drop i xs)) ≡ made []
unfolding indices_of
indices-ended k s i xs h =
    let none : drop i xs ≡ [] = grind (arith, common_steps) in
    rw none

pub ruleset index_laws = (map-append, indices-next, indices-ended, in_front-more, in_front-untyped, in_front-too_far, in_front-all, in_front-none)

pub family-made : (f : ℕ) (ns : List PlainObject) → family_of f (made ns) ≡ made (family f ns)
unfolding family_of
family-made f ns = refl

pub family-untyped : (f : ℕ) → family_of f untyped ≡ untyped
unfolding family_of
family-untyped f = refl

pub family-too_far : (f : ℕ) → family_of f too_far ≡ too_far
unfolding family_of
family-too_far f = refl

pub ruleset family_laws = (family-made, family-untyped, family-too_far)

-- ---- types

unfoldable pub functions : Mode → Answer PlainType → Answer PlainType → Answer PlainType
functions m a b = after a (λ x. after b (λ y. made (function m x y)))

pub functions-made : (m : Mode) (x y : PlainType) → functions m (made x) (made y) ≡ made (function m x y)
unfolding functions
functions-made m x y = refl

pub functions-untyped : (m : Mode) (b : Answer PlainType) → functions m untyped b ≡ untyped
unfolding functions
functions-untyped m b = refl

pub functions-too_far : (m : Mode) (b : Answer PlainType) → functions m too_far b ≡ too_far
unfolding functions
functions-too_far m b = refl

pub functions-right_untyped : (m : Mode) (x : PlainType) → functions m (made x) untyped ≡ untyped
unfolding functions
functions-right_untyped m x = refl

pub functions-right_too_far : (m : Mode) (x : PlainType) → functions m (made x) too_far ≡ too_far
unfolding functions
functions-right_too_far m x = refl

unfoldable pub boths : Answer PlainType → Answer PlainType → Answer PlainType
boths a b = after a (λ x. after b (λ y. made (both x y)))

pub boths-made : (x y : PlainType) → boths (made x) (made y) ≡ made (both x y)
unfolding boths
boths-made x y = refl

pub boths-untyped : (b : Answer PlainType) → boths untyped b ≡ untyped
unfolding boths
boths-untyped b = refl

pub boths-too_far : (b : Answer PlainType) → boths too_far b ≡ too_far
unfolding boths
boths-too_far b = refl

pub boths-right_untyped : (x : PlainType) → boths (made x) untyped ≡ untyped
unfolding boths
boths-right_untyped x = refl

pub boths-right_too_far : (x : PlainType) → boths (made x) too_far ≡ too_far
unfolding boths
boths-right_too_far x = refl

unfoldable pub monads : Answer PlainTelescope → Answer PlainType
monads a = after a (λ t. made (monad t))

pub monads-made : (t : PlainTelescope) → monads (made t) ≡ made (monad t)
unfolding monads
monads-made t = refl

pub monads-untyped : monads untyped ≡ untyped
unfolding monads
monads-untyped = refl

pub monads-too_far : monads too_far ≡ too_far
unfolding monads
monads-too_far = refl

pub type-family : (k : ℕ) (s : Environment) (f : ℕ) (ns : List PlainObject) → type_of k s (family f ns) ≡ family_of f (indices_of k s ns)
unfolding type_of family_of indices_of
type-family k s f ns = refl

pub type-function : (k : ℕ) (s : Environment) (m : Mode) (a b : PlainType) → type_of k s (function m a b) ≡ functions m (type_of k s a) (type_of k (under 1 s) b)
unfolding type_of functions
type-function k s m a b = refl

pub type-both : (k : ℕ) (s : Environment) (a b : PlainType) → type_of k s (both a b) ≡ boths (type_of k s a) (type_of k s b)
unfolding type_of boths
type-both k s a b = refl

pub type-top : (k : ℕ) (s : Environment) → type_of k s top ≡ made top
unfolding type_of
type-top k s = refl

pub type-monad : (k : ℕ) (s : Environment) (t : PlainTelescope) → type_of k s (monad t) ≡ monads (tele_of k s t)
unfolding type_of tele_of monads
type-monad k s t = refl

-- a function in memory
pub function-under : (k : ℕ) (s z : Environment) (o : Ty) (m : Mode) (a b x y : Ty) → o ≡ Fun m a b → z ≡ under 1 s → x ≡ a → y ≡ b → type_of k s (plain_ty o) ≡ functions m (type_of k s (plain_ty x)) (type_of k z (plain_ty y))
function-under k s z o m a b x y e g f h =
    ap (λ t. type_of k s (plain_ty t)) e ∙ ap (type_of k s) (plain-Fun m a b) ∙ type-function k s m (plain_ty a) (plain_ty b)
    ∙ ap (λ t. functions m (type_of k s (plain_ty a)) (type_of k t (plain_ty b))) (sym g) ∙ ap (λ t. functions m (type_of k s (plain_ty t)) (type_of k z (plain_ty b))) (sym f) ∙ ap (λ t. functions m (type_of k s (plain_ty x)) (type_of k z (plain_ty t))) (sym h)

unfoldable pub tele_entries : Mode → Answer PlainType → Answer (Mode × PlainType)
tele_entries m a = after a (λ x. made (m, x))

pub tele_entry-by : (k : ℕ) (s : Environment) (e : Mode × PlainType) → tele_entry_of k s e ≡ tele_entries e.0 (type_of k s e.1)
unfolding tele_entry_of tele_entries type_of
tele_entry-by k s e = refl

pub tele_entries-made : (m : Mode) (x : PlainType) → tele_entries m (made x) ≡ made (m, x)
unfolding tele_entries
tele_entries-made m x = refl

pub tele_entries-untyped : (m : Mode) → tele_entries m untyped ≡ untyped
unfolding tele_entries
tele_entries-untyped m = refl

pub tele_entries-too_far : (m : Mode) → tele_entries m too_far ≡ too_far
unfolding tele_entries
tele_entries-too_far m = refl

pub ruleset type_laws = (type-family, type-function, type-both, type-top, type-monad, functions-made, functions-untyped, functions-too_far, functions-right_untyped, functions-right_too_far, boths-made, boths-untyped, boths-too_far, boths-right_untyped, boths-right_too_far, monads-made, monads-untyped, monads-too_far, tele_entry-by, tele_entries-made, tele_entries-untyped, tele_entries-too_far)

-- ---- telescopes

-- an entry and then the rest
unfoldable pub bind_next : Answer (Mode × PlainType) → Answer PlainTelescope → Answer PlainTelescope
bind_next a b = after a (λ e. after b (λ u. made (binding e.0 e.1 u)))

-- entries in front of the rest
abbrev pub entries_before : List (Mode × PlainType) → Answer PlainTelescope → Answer PlainTelescope
entries_before [] a = a
entries_before (e ∷ es) a = after (entries_before es a) (λ u. made (binding e.0 e.1 u))

pub tele-next : (k : ℕ) (s : Environment) (i : ℕ) (x : TeleEntry) (xs : List TeleEntry) → i < length xs → x ≡ get_or xs i x
    → tele_of k s (telescope_of (map plain_tele_entry (drop i xs))) ≡ bind_next (tele_entry_of k s (plain_tele_entry x)) (tele_of k (under 1 s) (telescope_of (map plain_tele_entry (drop (i + 1) xs))))
unfolding tele_of bind_next tele_entry_of
tele-next k s i x xs h e = ap (λ es. tele_of k s (telescope_of (map plain_tele_entry es))) (dropped xs i x h e) ∙ by_type (run_type (nested k) s (plain_tele_entry x).1) (run_telescope (nested k) (under 1 s) (telescope_of (map plain_tele_entry (drop (i + 1) xs))))
  where
    by_type : (a : Answer PlainType) (b : Answer PlainTelescope) → after a (λ y. after b (λ u. made (binding (plain_tele_entry x).0 y u))) ≡ after {X = Mode × PlainType} (after a (λ y. made ((plain_tele_entry x).0, y))) (λ p. after b (λ u. made (binding p.0 p.1 u)))
    by_type (made y) b = refl
    by_type untyped b = refl
    by_type too_far b = refl

pub tele-ended : (k : ℕ) (s : Environment) (i : ℕ) (xs : List TeleEntry) → length xs ≤ i → tele_of k s (telescope_of (map plain_tele_entry (drop i xs))) ≡ made end
unfolding tele_of
tele-ended k s i xs h =
    let none : drop i xs ≡ [] = grind (arith, common_steps) in
    rw none

pub entries_before-more : (es : List (Mode × PlainType)) (e : Mode × PlainType) (b : Answer PlainTelescope) → entries_before es (bind_next (made e) b) ≡ entries_before (es ++ e ∷ []) b
unfolding bind_next
entries_before-more [] e b = refl
entries_before-more (x ∷ es) e b = ap (λ a. after a (λ u. made (binding x.0 x.1 u))) (entries_before-more es e b)

pub entries_before-untyped : (es : List (Mode × PlainType)) (b : Answer PlainTelescope) → entries_before es (bind_next untyped b) ≡ untyped
unfolding bind_next
entries_before-untyped [] b = refl
entries_before-untyped (x ∷ es) b = ap (λ a. after a (λ u. made (binding x.0 x.1 u))) (entries_before-untyped es b)

pub entries_before-too_far : (es : List (Mode × PlainType)) (b : Answer PlainTelescope) → entries_before es (bind_next too_far b) ≡ too_far
unfolding bind_next
entries_before-too_far [] b = refl
entries_before-too_far (x ∷ es) b = ap (λ a. after a (λ u. made (binding x.0 x.1 u))) (entries_before-too_far es b)

pub entries_before-end : (es : List (Mode × PlainType)) → entries_before es (made end) ≡ made (telescope_of es)
entries_before-end [] = refl
entries_before-end (e ∷ es) = ap (λ a. after a (λ u. made (binding e.0 e.1 u))) (entries_before-end es)

pub ruleset entries_laws = (map-append, tele-next, tele-ended, entries_before-more, entries_before-untyped, entries_before-too_far, entries_before-end)

-- ---- kinds

pub kind-next : (k : ℕ) (s : Environment) (i : ℕ) (x : Ty) (xs : List Ty) → i < length xs → x ≡ get_or xs i x
    → kind_of k s (map plain_ty (drop i xs)) ≡ one_more (type_of k s (plain_ty x)) (kind_of k (under 1 s) (map plain_ty (drop (i + 1) xs)))
unfolding kind_of type_of one_more
kind-next k s i x xs h e = ap (λ ts. kind_of k s (map plain_ty ts)) (dropped xs i x h e)

pub kind-ended : (k : ℕ) (s : Environment) (i : ℕ) (xs : List Ty) → length xs ≤ i → kind_of k s (map plain_ty (drop i xs)) ≡ made []
unfolding kind_of
kind-ended k s i xs h =
    let none : drop i xs ≡ [] = grind (arith, common_steps) in
    rw none

pub ruleset kind_laws = (map-append, kind-next, kind-ended, in_front-more, in_front-untyped, in_front-too_far, in_front-all, in_front-none)
