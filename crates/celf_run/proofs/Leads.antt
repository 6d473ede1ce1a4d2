-- What is found of a declaration is of its name, and has as many persistent arguments in front as are implicit.
use Rattle.std.proofs.Common.{ℕ, zero, suc, ◌+◌, ◌≡◌, ◌≤◌, ◌<◌, Bool, refl, sym, ap, ◌∙◌, subst, arith, inl, inr, Option, Some, None, List, [], ◌∷◌, ◌++◌, length, map, length-append}
use Rattle.std.specs.Prelude.{Contains, reverse}
use Rattle.std.specs.List.{range_with_len, slice_index_or}
use Rattle.std.proofs.lemmas.Bool.{cases_lt}
use Rattle.std.proofs.lemmas.List.{length-map, length-reverse}
use Rattle.std.proofs.lemmas.List.FromFn.{length-range_with_len}
use Rattle.std.proofs.lemmas.List.Elements.{Contains-append_left, Contains-append_right, Contains-append_cases}
use Rattle.clf_syntax.specs.declared.tree.Mode.TheVariants.{Persistent, Affine, Linear}
use Rattle.clf_syntax.specs.declared.tree.Head.{Head}
use Rattle.clf_syntax.specs.TypeTree.{PlainType, family, function, both, top, monad, PlainTelescope, PlainKind, SimpleType}
use Rattle.use_contexts.specs.Context.{Context}
use Rattle.hered_subst.specs.Substitution.{Environment, SubstitutedType, in_family, in_function, in_both, in_top, in_monad, SubstitutedKind, in_no_argument, in_argument, under}
use Rattle.subst_laws.specs.Environments.{Instantiation, instant}
use Rattle.pattern_laws.specs.Instantiations.{Types}
use Rattle.clf_sig.specs.Entry.{PlainClass, family_of, constant_of, PlainEntry, PlainSignature}
use Rattle.clf_sig.specs.Core.{PlainCore, declares, queries, traces, equates, checks}
use Rattle.clf_rules.specs.WellFormed.{leading_persistent, may_be_implicit}
use Rattle.celf_sugar.specs.PlainTree as plain
use Rattle.celf_sugar.specs.PlainTree.{DesugaredType, DesugaredTelescope, DesugaredClass, DesugaredBody, declare, of_family, of_constant}
use Rattle.celf_sugar.specs.Faults.{leading}
use Rattle.celf_sugar.specs.ClassLeading.{telescope_length, class_leading}
use Rattle.celf_explicit.specs.Types.{kind_of}
use Rattle.celf_explicit.specs.Explicit.{entry_of}
use Rattle.celf_elaboration.specs.Fillings.{Scoped, Fillings}
use Rattle.celf_elaboration.specs.Names.{ImplicitVariable, TypedVariable, types_read, with_simple_type}
use Rattle.celf_elaboration.specs.Readings.{ReadsType, reads_family, reads_function, reads_both, reads_top, reads_monad, ReadsTelescope, reads_end, reads_binding, type_local}
use Rattle.celf_elaboration.specs.Items.{ReadsBody, reads_family_declaration, reads_constant_declaration, reads_query, reads_trace, reads_equation, reads_check, SubstitutedClass, in_family_class, in_constant_class, SubstitutedCore, in_declaration, in_query, in_trace, in_equation, in_check}
use Rattle.celf_elaboration.specs.Declarations.{declared_heads, with_binders}
use Rattle.celf_elaboration.specs.Binders.{PlacesRest, IsOrder}
use Rattle.celf_front.specs.Needs.{mentions}
use Rattle.celf_front.specs.InFront.{in_front}
use Rattle.celf_front.specs.UnderFront.{IsFront, no_binder, one_binder, with_arguments, class_with_binders, IsUnderFront}
use Rattle.celf_front.specs.Fronted.{at_places, IsInOrder}
use Rattle.front_laws.proofs.Orders.{placed_all, split_at}
use Rattle.celf_solve.specs.Settled.{EachBecomes}
use Rattle.celf_filled.specs.TypedFrom.{new_in, indices_of}
use Rattle.filled_laws.specs.FreshTypes.{types_from}
use Rattle.celf_reconstruct.specs.Left.{naming, metavariables_with}
use Rattle.celf_reconstruct.specs.Posed.{IsPosed, as_read, as_named}
use Rattle.celf_reconstruct.specs.Reconstructed.{IsFound, AreBinders, IsDeclared}
use Rattle.celf_run.specs.Allowed.{declared_name}

-- ---- what stands in front is kept

leading-kept : (s : Environment) (a b : PlainType) → SubstitutedType s a b → leading_persistent b ≡ leading_persistent a
leading-kept s (family f ns) z (in_family p) = refl
leading-kept s (function Persistent a b) z (in_function {y = y} p q) = ap (λ (k : ℕ). k + 1) (leading-kept (under 1 s) b y q)
leading-kept s (function Affine a b) z (in_function p q) = refl
leading-kept s (function Linear a b) z (in_function p q) = refl
leading-kept s (both a b) z (in_both p q) = refl
leading-kept s top z in_top = refl
leading-kept s (monad t) z (in_monad p) = refl

length-kept : (s : Environment) (k l : PlainKind) → SubstitutedKind s k l → length l ≡ length k
length-kept s [] l in_no_argument = refl
length-kept s (a ∷ k) z (in_argument {l = l} p q) = let rest = length-kept (under 1 s) k l q in omega (arith, rest)

class-kept : (s : Environment) (c d : PlainClass) → SubstitutedClass s c d → may_be_implicit d ≡ may_be_implicit c
class-kept s (family_of k) d (in_family_class {l = l} p) = length-kept s k l p
class-kept s (constant_of a) d (in_constant_class {b = b} p) = leading-kept s a b p

leading-read : (sig : PlainSignature) (heads : ℕ → Head) (vs : List ImplicitVariable) (ls : List Scoped) (t : DesugaredType) (fs : Fillings) (a : PlainType)
    → ReadsType sig heads vs ls t fs a → leading_persistent a ≡ leading t
leading-read sig heads vs ls (plain.family s h is) fs z (reads_family n k i w e) = refl
leading-read sig heads vs ls (plain.function s Persistent n a b) fs z (reads_function {gs = gs} {c = c} {d = d} r q e) =
    ap (λ (k : ℕ). k + 1) (leading-read sig heads vs (type_local Persistent n c ∷ ls) b gs d q)
leading-read sig heads vs ls (plain.function s Affine n a b) fs z (reads_function r q e) = refl
leading-read sig heads vs ls (plain.function s Linear n a b) fs z (reads_function r q e) = refl
leading-read sig heads vs ls (plain.both s a b) fs z (reads_both r q e) = refl
leading-read sig heads vs ls (plain.top s) fs z reads_top = refl
leading-read sig heads vs ls (plain.monad s t) fs z (reads_monad r) = refl

length-read : (sig : PlainSignature) (heads : ℕ → Head) (vs : List ImplicitVariable) (ls : List Scoped) (t : DesugaredTelescope) (fs : Fillings) (s : PlainTelescope)
    → ReadsTelescope sig heads vs ls t fs s → length (kind_of s) ≡ telescope_length t
length-read sig heads vs ls plain.end fs z reads_end = refl
length-read sig heads vs ls (plain.binding m n a t) fs z (reads_binding {gs = gs} {c = c} {u = u} r q e) =
    let rest = length-read sig heads vs (type_local m n c ∷ ls) t gs u q in omega (arith, rest)

-- ---- a declaration of the item's name, with no more implicit arguments than it can have

abbrev pub IsFor : DesugaredBody → PlainCore → Type 0
IsFor body (declares name e) = (declared_name body ≡ Some name) × (e.implicit ≤ may_be_implicit e.class)
IsFor body (queries a) = Unit {0}
IsFor body (traces t) = Unit {0}
IsFor body (equates n o a) = Unit {0}
IsFor body (checks n a) = Unit {0}

abbrev pub Stands : DesugaredBody → Type 0
Stands body = (name : List ℕ) (count : ℕ) (class : DesugaredClass) → body ≡ declare name count class → count ≤ class_leading class

read-for : (sig : PlainSignature) (heads : ℕ → Head) (vs : List ImplicitVariable) (body : DesugaredBody) (fs : Fillings) (tree : PlainCore)
    → ReadsBody sig heads vs body fs tree → Stands body → IsFor body tree
read-for sig heads vs body fs tree (reads_family_declaration {name = name} {n = n} {t = t} {s = s} r) stand =
    let least = stand name n (of_family t) refl in let read = length-read sig heads vs [] t fs s r in (refl, omega (arith, least, read))
read-for sig heads vs body fs tree (reads_constant_declaration {name = name} {n = n} {t = t} {a = a} r) stand =
    let least = stand name n (of_constant t) refl in let read = leading-read sig heads vs [] t fs a r in (refl, omega (arith, least, read))
read-for sig heads vs body fs tree (reads_query r) stand = tt
read-for sig heads vs body fs tree (reads_trace r) stand = tt
read-for sig heads vs body fs tree (reads_equation r q p) stand = tt
read-for sig heads vs body fs tree (reads_check r q) stand = tt

becomes-for : (body : DesugaredBody) (s : Environment) (x y : PlainCore) → SubstitutedCore s x y → IsFor body x → IsFor body y
becomes-for body s x y (in_declaration {n = n} {c = c} {d = d} p) h = let kept = class-kept s c d p in (h.0, omega (arith, kept, h.1))
becomes-for body s x y (in_query p) h = tt
becomes-for body s x y (in_trace p) h = tt
becomes-for body s x y (in_equation p q r) h = tt
becomes-for body s x y (in_check p q) h = tt

-- ---- how many binders there are

each-length : (s : Instantiation) (as_ bs : List PlainType) → EachBecomes s as_ bs → length bs ≡ length as_
each-length s [] [] e = refl
each-length s (a ∷ as_) (b ∷ bs) e = let rest = each-length s as_ bs e.1 in omega (arith, rest)
each-length s [] (b ∷ bs) e = absurd e
each-length s (a ∷ as_) [] e = absurd e

from-length : (indices : ℕ → List SimpleType) (k : ℕ) (ts : List SimpleType) → length (types_from indices k ts) ≡ length ts
from-length indices k [] = refl
from-length indices k (t ∷ ts) = let rest = from-length indices (k + length (new_in indices [] t)) ts in omega (arith, rest)

posed-for : (sig : PlainSignature) (body : DesugaredBody) (vs : List TypedVariable) (unnamed : ℕ) (types : List PlainType) (metas : Types) (tree : PlainCore)
    → IsPosed sig body vs unnamed types metas tree → Stands body → IsFor body tree × (length types ≡ length vs + unnamed)
posed-for sig body vs unnamed types metas tree (as_read i) stand =
    let named = length-map vs (λ (v : TypedVariable). v.type) in
    (read-for sig (declared_heads sig) (map with_simple_type vs) body i.fillings tree i.reading stand, omega (arith, named))
posed-for sig body vs unnamed types metas tree (as_named {simples = simples} i) stand =
    let first = read-for sig (declared_heads sig) (map with_simple_type vs) body i.is_tree.fillings i.first_tree i.is_tree.reading stand in
    let core = becomes-for body (instant i.comes.settles.solutions) i.first_tree i.core i.comes.settles.core_becomes first in
    let constants = naming (length sig + length i.after) i.now.metas (metavariables_with i.core i.after) in
    let named = length-map vs (λ (v : TypedVariable). v.type) in
    let after = each-length i.comes.settles.solutions (types_read vs) i.after i.comes.settles.types_become in
    let again = each-length constants i.after i.named.named i.named.named_types in
    let made = types_from (indices_of sig) (length i.named.old) simples in
    let many = from-length (indices_of sig) (length i.named.old) simples in
    let all = ap (λ (ts : List PlainType). length ts) i.named.all_types in
    (becomes-for body (instant constants) i.core tree i.named.named_core core, omega (arith, all, length-append i.named.named made, again, after, named, many))

pub found-for : (sig : PlainSignature) (body : DesugaredBody) (vs : List TypedVariable) (unnamed : ℕ) (core : PlainCore) (types : List PlainType)
    → IsFound sig body vs unnamed core types → Stands body → IsFor body core × (length types ≡ length vs + unnamed)
found-for sig body vs unnamed core types f stand =
    let posed = posed-for sig body vs unnamed f.before f.metas f.tree f.posed stand in
    let after = each-length f.comes.settles.solutions f.before types f.comes.settles.types_become in
    (becomes-for body (instant f.comes.settles.solutions) f.tree core f.comes.settles.core_becomes posed.0, omega (arith, after, posed.1))

-- A list that has each number below n has at least n.
other-there : (n : ℕ) (xs : List ℕ) (q : ℕ) → q < n → Contains (n ∷ xs) q → Contains xs q
other-there n xs q lt (zero, within, e) = absurd (omega (arith, lt, e))
other-there n xs q lt (suc k, within, e) = (k, omega arith, e)

without : (n : ℕ) (before after : List ℕ) (q : ℕ) → q < n → Contains (before ++ n ∷ after) q → Contains (before ++ after) q
without n before after q lt has = elim (Contains-append_cases before (n ∷ after) q has) [
  | inl there ↦ Contains-append_left before after q there
  | inr later ↦ Contains-append_right before after q (other-there n after q lt later)
]

at-least : (n : ℕ) (xs : List ℕ) → ((q : ℕ) → q < n → (Contains xs q → ⊥) → ⊥) → n ≤ length xs
at-least zero xs all = omega arith
at-least (suc n) xs all = elim (cases_lt (length xs) (suc n)) [
  | inl short ↦ absurd (all n (omega arith) (λ has.
      let (before, after, is) = split_at xs n has in
      let rest = at-least n (before ++ after) (λ q lt out. all q (omega (arith, lt)) (λ there. out (without n before after q lt (subst (λ (ys : List ℕ). Contains ys q) is there)))) in
      let long = ap (λ (ys : List ℕ). length ys) is in
      omega (arith, rest, long, short, length-append before after, length-append before (n ∷ after))))
  | inr long ↦ long
]

binders-listed : (sig : PlainSignature) (body : DesugaredBody) (named unnamed : ℕ) (binders : List ℕ) → AreBinders sig body named unnamed binders → named + unnamed ≤ length binders
binders-listed sig body named unnamed binders b =
    let all = at-least named b.order (λ q lt out. out (b.appear.all q lt)) in
    let is = ap (λ (ys : List ℕ). length ys) b.listed in
    omega (arith, all, is, length-append (range_with_len named unnamed) b.order, length-range_with_len named unnamed)

-- ---- the binders in front

front-length : (n : ℕ) (types : List PlainType) (binders : List ℕ) (front : Context) → IsFront n types binders front → length front ≡ length binders
front-length n types [] front no_binder = refl
front-length n types (x ∷ binders) z (one_binder {front = front} f a p) = let rest = front-length n types binders front f in omega (arith, rest)

arguments-before : (front : Context) (k : PlainKind) → length (with_arguments front k) ≡ length front + length k
arguments-before [] k = omega arith
arguments-before (e ∷ front) k = let rest = arguments-before front (e.1 ∷ k) in omega (arith, rest)

functions-before : (n : ℕ) (types : List PlainType) (binders : List ℕ) (front : Context) (a : PlainType) → IsFront n types binders front
    → leading_persistent (with_binders front a) ≡ length front + leading_persistent a
functions-before n types [] front a no_binder = omega arith
functions-before n types (x ∷ binders) z a (one_binder {front = front} {b = b} f t p) =
    let rest = functions-before n types binders front (function Persistent b a) f in omega (arith, rest)

class-before : (n : ℕ) (types : List PlainType) (binders : List ℕ) (front : Context) (c : PlainClass) → IsFront n types binders front
    → may_be_implicit (class_with_binders front c) ≡ length front + may_be_implicit c
class-before n types binders front (family_of k) f = arguments-before front k
class-before n types binders front (constant_of a) f = functions-before n types binders front a f

order-length : (types : List PlainType) (n : ℕ) (binders : List ℕ) (class answer : PlainClass) (i : IsInOrder n types binders class answer) → length binders ≤ length i.order
order-length types n binders class answer i = at-least (length binders) i.order (λ q lt out. placed_all (length binders) (mentions i.needs) [] i.order i.is_order q lt out)

-- As many arguments may be implicit as there are binders, and before.
ordered-leads : (n : ℕ) (types : List PlainType) (binders : List ℕ) (class answer : PlainClass) → IsInOrder n types binders class answer
    → length binders + may_be_implicit class ≤ may_be_implicit answer
ordered-leads n types binders class answer i =
    let u = i.under in
    let places = at_places binders i.order in
    let long = order-length types n binders class answer i in
    let kept = class-kept (in_front n (reverse places)) class u.inner u.putting in
    let in_front_of = class-before n types (reverse places) u.front u.inner u.binders in
    let whole = ap may_be_implicit u.answered in
    let front = front-length n types (reverse places) u.front u.binders in
    omega (arith, long, kept, in_front_of, whole, front, length-reverse places, length-map i.order (λ (p : ℕ). slice_index_or binders p 0))

-- A declaration with its binders in front is one of the item's name that has no more implicit arguments than it can have.
pub declared-for : (sig : PlainSignature) (body : DesugaredBody) (vs : List TypedVariable) (unnamed : ℕ) (name : List ℕ) (written : ℕ) (class : PlainClass) (types : List PlainType) (binders : List ℕ) (e : PlainEntry)
    → IsFound sig body vs unnamed (declares name (entry_of written class)) types → AreBinders sig body (length vs) unnamed binders → IsDeclared sig types binders written class e → Stands body
    → IsFor body (declares name e)
declared-for sig body vs unnamed name written class types binders e f b d stand =
    let found = found-for sig body vs unnamed (declares name (entry_of written class)) types f stand in
    let listed = binders-listed sig body (length vs) unnamed binders b in
    let leads = ordered-leads (length sig) types binders class e.class d.in_order in
    (found.0.0, omega (arith, found.0.1, found.1, listed, leads, d.implicit))
