-- Binders of the same names: the same names are those of implicit variables, and the same occurrences are at distinct locals.
use Rattle.std.specs.Prelude.{ℕ, ◌+◌, ◌≡◌, Bool, true, false, if◌then◌else◌, List, [], ◌∷◌, map, Option, Some, None, is_some, is_none, option_map, option_and_then, refl}
use Rattle.std.specs.List.{list_any}
use Rattle.std.proofs.Common.{sym, ◌∙◌}
use Rattle.clf_syntax.specs.declared.tree.Head.{Head}
use Rattle.clf_syntax.specs.declared.tree.Head.TheVariants.{Var}
use Rattle.clf_syntax.specs.declared.tree.Mode.{Mode}
use Rattle.clf_syntax.specs.TypeTree.{SimpleType}
use Rattle.clf_sig.specs.Entry.{PlainSignature}
use Rattle.celf_surface.specs.declared.surface.SMode.{SMode}
use Rattle.celf_sugar.specs.declared.plain.PName.{PName}
use Rattle.celf_sugar.specs.declared.plain.PBinder.{PBinder}
use Rattle.celf_sugar.specs.PlainTree as plain
use Rattle.celf_sugar.specs.PlainTree.{DesugaredSpine, DesugaredAct, DesugaredType}
use Rattle.celf_places.specs.Combined.{combined}
use Rattle.celf_places.specs.Places.{marked, next_part}
use Rattle.celf_places.specs.Heads.{Local, Typed, is_named, local_from}
use Rattle.celf_implicit.specs.Scopes.{Binders, bind, bind_pattern}
use Rattle.celf_implicit.specs.Variables.{is_variable}
use Rattle.celf_implicit.specs.Occurrences.{AppliedLocal, applied_local, local_argument, locals_applied_to, has_number, are_distinct, where_distinct, distinct_locals}

abbrev pub name_of : Local → Option (List ℕ)
name_of l = l.0

abbrev pub SameNames : Binders → Binders → Type 0
SameNames bs cs = map name_of bs.locals ≡ map name_of cs.locals

abbrev head_of : Typed → Head
head_of h = h.0

one_found : (b : Bool) (k : ℕ) (l m : Local) (o p : Option Typed) → option_map head_of o ≡ option_map head_of p
    → option_map head_of (if b then Some (Var k, l.1) else o) ≡ option_map head_of (if b then Some (Var k, m.1) else p)
one_found true k l m o p e = refl
one_found false k l m o p e = e

-- the same number is found
same-local : (k : ℕ) (n : List ℕ) (ls ms : List Local) → map name_of ls ≡ map name_of ms → option_map head_of (local_from k n ls) ≡ option_map head_of (local_from k n ms)
same-local k n [] [] e = refl
same-local k n [] (m ∷ ms) e = absurd (cc)
same-local k n (l ∷ ls) [] e = absurd (cc)
same-local k n (l ∷ ls) (m ∷ ms) e =
    let here : l.0 ≡ m.0 = cc in
    let there : map name_of ls ≡ map name_of ms = cc in
    rw here (one_found (is_named n m.0) k l m (local_from (k + 1) n ls) (local_from (k + 1) n ms) (same-local (k + 1) n ls ms there))

none_alike : (o p : Option Typed) → option_map head_of o ≡ option_map head_of p → is_none o ≡ is_none p
none_alike None None e = refl
none_alike None (Some y) e = absurd (cc)
none_alike (Some x) None e = absurd (cc)
none_alike (Some x) (Some y) e = refl

pub same_variable : (sig : PlainSignature) (n : PName) (bs cs : Binders) → SameNames bs cs → is_variable sig bs.locals n ≡ is_variable sig cs.locals n
same_variable sig n bs cs e = rw (none_alike (local_from 0 n.name bs.locals) (local_from 0 n.name cs.locals) (same-local 0 n.name bs.locals cs.locals e)) refl

-- ---- distinct locals

abbrev number : AppliedLocal → ℕ
number a = a.number

number_alike : (m : SMode) (xs ys : List Mode) (o p : Option Typed) → option_map head_of o ≡ option_map head_of p
    → option_map number (option_map (applied_local xs m) o) ≡ option_map number (option_map (applied_local ys m) p)
number_alike m xs ys None None e = refl
number_alike m xs ys None (Some y) e = absurd (cc)
number_alike m xs ys (Some x) None e = absurd (cc)
number_alike m xs ys (Some x) (Some y) e = let here : x.0 ≡ y.0 = cc in rw here refl

unless_dollar : (b : Bool) (o p : Option AppliedLocal) → option_map number o ≡ option_map number p → option_map number (if b then None else o) ≡ option_map number (if b then None else p)
unless_dollar true o p e = refl
unless_dollar false o p e = e

same_argument : (bs cs : Binders) → SameNames bs cs → (a : DesugaredAct) → option_map number (local_argument bs a) ≡ option_map number (local_argument cs a)
same_argument bs cs e (plain.argument m (plain.atomic p n plain.end_of_spine)) =
    unless_dollar n.dollar _ _ (number_alike m bs.modes cs.modes (local_from 0 n.name bs.locals) (local_from 0 n.name cs.locals) (same-local 0 n.name bs.locals cs.locals e))
same_argument bs cs e (plain.argument m (plain.atomic p n (plain.and_then a es))) = refl
same_argument bs cs e (plain.argument m (plain.lam p k n b)) = refl
same_argument bs cs e (plain.argument m (plain.pair p l r)) = refl
same_argument bs cs e (plain.argument m (plain.unit p)) = refl
same_argument bs cs e (plain.argument m (plain.monadic p ss u)) = refl
same_argument bs cs e (plain.argument m (plain.hole p)) = refl
same_argument bs cs e plain.first = refl
same_argument bs cs e plain.second = refl

both_alike : (o p : Option AppliedLocal) (q r : Option (List AppliedLocal)) → option_map number o ≡ option_map number p → option_map (map number) q ≡ option_map (map number) r
    → option_map (map number) (combined (◌∷◌) o q) ≡ option_map (map number) (combined (◌∷◌) p r)
both_alike None None q r e f = refl
both_alike None (Some y) q r e f = absurd (cc)
both_alike (Some x) None q r e f = absurd (cc)
both_alike (Some x) (Some y) None None e f = refl
both_alike (Some x) (Some y) None (Some s) e f = absurd (cc)
both_alike (Some x) (Some y) (Some q) None e f = absurd (cc)
both_alike (Some x) (Some y) (Some q) (Some r) e f =
    let here : x.number ≡ y.number = cc in
    let there : map number q ≡ map number r = cc in
    rw (here, there) refl

same_locals : (bs cs : Binders) → SameNames bs cs → (es : DesugaredSpine) → option_map (map number) (locals_applied_to bs es) ≡ option_map (map number) (locals_applied_to cs es)
same_locals bs cs e plain.end_of_spine = refl
same_locals bs cs e (plain.and_then a es) = both_alike (local_argument bs a) (local_argument cs a) _ _ (same_argument bs cs e a) (same_locals bs cs e es)

any_alike : (k : ℕ) (as_ bs : List AppliedLocal) → map number as_ ≡ map number bs → list_any (has_number k) as_ ≡ list_any (has_number k) bs
any_alike k [] [] e = refl
any_alike k [] (b ∷ bs) e = absurd (cc)
any_alike k (a ∷ as_) [] e = absurd (cc)
any_alike k (a ∷ as_) (b ∷ bs) e =
    let here : a.number ≡ b.number = cc in
    let there : map number as_ ≡ map number bs = cc in
    rw (here, any_alike k as_ bs there) refl

distinct_alike : (as_ bs : List AppliedLocal) → map number as_ ≡ map number bs → are_distinct as_ ≡ are_distinct bs
distinct_alike [] [] e = refl
distinct_alike [] (b ∷ bs) e = absurd (cc)
distinct_alike (a ∷ as_) [] e = absurd (cc)
distinct_alike (a ∷ as_) (b ∷ bs) e =
    let here : a.number ≡ b.number = cc in
    let there : map number as_ ≡ map number bs = cc in
    rw (here, any_alike b.number as_ bs there, distinct_alike as_ bs there) refl

some_where : (b : Bool) (as_ : List AppliedLocal) → is_some (if b then Some as_ else None) ≡ b
some_where true as_ = refl
some_where false as_ = refl

some_alike : (q r : Option (List AppliedLocal)) → option_map (map number) q ≡ option_map (map number) r → is_some (option_and_then where_distinct q) ≡ is_some (option_and_then where_distinct r)
some_alike None None e = refl
some_alike None (Some s) e = absurd (cc)
some_alike (Some q) None e = absurd (cc)
some_alike (Some q) (Some r) e =
    let there : map number q ≡ map number r = cc in
    some_where (are_distinct q) q ∙ distinct_alike q r there ∙ sym (some_where (are_distinct r) r)

pub same_distinct : (bs cs : Binders) → SameNames bs cs → (es : DesugaredSpine) → is_some (distinct_locals bs es) ≡ is_some (distinct_locals cs es)
same_distinct bs cs e es = some_alike (locals_applied_to bs es) (locals_applied_to cs es) (same_locals bs cs e es)

-- ---- one binder more, and those of a pattern

pub same_bound : (m k : Mode) (l h : Local) (bs cs : Binders) → name_of l ≡ name_of h → SameNames bs cs → SameNames (bind m l bs) (bind k h cs)
same_bound m k l h bs cs n e = rw (n, e) refl

pub same_bound_pattern : (ps qs : List (Mode × SimpleType)) (p : List PBinder) (bs cs : Binders) → SameNames bs cs → SameNames (bind_pattern ps p bs) (bind_pattern qs p cs)
same_bound_pattern ps qs [] bs cs e = e
same_bound_pattern ps qs (b ∷ p) bs cs e =
    same_bound_pattern (next_part ps).later (next_part qs).later p (bind (marked b.mode (next_part ps).mode) (b.name, (next_part ps).place) bs) (bind (marked b.mode (next_part qs).mode) (b.name, (next_part qs).place) cs)
    (same_bound (marked b.mode (next_part ps).mode) (marked b.mode (next_part qs).mode) (b.name, (next_part ps).place) (b.name, (next_part qs).place) bs cs refl e)
