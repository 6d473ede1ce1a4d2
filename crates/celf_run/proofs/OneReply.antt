-- Over a well-formed signature a task has one allowed reply.
use Rattle.std.proofs.Common.{ℕ, ◌≡◌, ◌≤◌, refl, sym, ap, ◌∙◌, subst, Option, Some, None, List, ◌∷◌}
use Rattle.clf_syntax.specs.Tree.{PlainObject}
use Rattle.clf_syntax.specs.TypeTree.{PlainType}
use Rattle.clf_sig.specs.Entry.{PlainSignature, place_of}
use Rattle.clf_sig.specs.Core.{PlainCore, declares, queries, traces, equates, checks}
use Rattle.clf_rules.specs.WellFormed.{WellFormedSignature, may_be_implicit}
use Rattle.clf_rules.specs.Refusal.{Cause}
use Rattle.celf_sugar.specs.PlainTree.{DesugaredItem}
use Rattle.celf_sugar.specs.Sugar.{desugared}
use Rattle.celf_explicit.specs.Explicit.{explicit}
use Rattle.celf_replies.specs.Reply.{PlainWhy, duplicate, unknown_name, kernel, not_yet, PlainRefusal, PlainReply, refused}
use Rattle.celf_run.specs.declared.options.Options.{Options}
use Rattle.celf_run.specs.Allowed.{Held, NameBarred, is_duplicate, is_full, Barred, by_name, by_unknown, Passes, is_explicit, IsUntyped, IsIllFormed, IsExplained, in_class, in_type, in_object, in_common_type, in_first, in_second, IsBeyondReach, HasCore, is_found, NothingHidden, Declined, by_rules, by_rules_found, not_found, not_answered, Fits, accepted, typed, same, differing, PlainAllowed, barred, declined, answered, at_fault, sugar_fault, plainly, sugar_refusal}
use Rattle.celf_run.specs.Answering.{StandInFront}
use Rattle.celf_run.specs.Laws.{ReplyIsOne}
use Rattle.celf_run.proofs.Closed.{object-decided, type-decided, entry-decided}
use Rattle.celf_run.proofs.Cores.{written-fits, declared-fits}

-- what stands in the same option
some-one : {A : Type 0} (o : Option A) (x y : A) → o ≡ Some x → o ≡ Some y → x ≡ y
some-one {A = A} o x y e f = let g : ◌≡◌ {A = Option A} (Some x) (Some y) = sym e ∙ f in cc

not-both : {A : Type 0} (o : Option A) (x : A) → o ≡ None → o ≡ Some x → ⊥
not-both {A = A} o x e f = let g : ◌≡◌ {A = Option A} None (Some x) = sym e ∙ f in cc

place-differs : (sig : PlainSignature) (n m : List ℕ) (k : ℕ) → n ≡ m → place_of n sig ≡ Some k → place_of m sig ≡ None → ⊥
place-differs sig n m k e p q = not-both (place_of m sig) k q (subst (λ (x : List ℕ). place_of x sig ≡ Some k) e p)

name-one : (sig : PlainSignature) (item : DesugaredItem) (why because : PlainWhy) → NameBarred sig item why → NameBarred sig item because → why ≡ because
name-one sig item why because (is_duplicate {name = name} d p) (is_duplicate {name = other} e q) = ap duplicate (some-one _ name other d e)
name-one sig item why because (is_duplicate {name = name} {k = k} d p) (is_full {name = other} e q l) = absurd (place-differs sig name other k (some-one _ name other d e) p q)
name-one sig item why because (is_full {name = name} d p l) (is_duplicate {name = other} {k = k} e q) = absurd (place-differs sig other name k (some-one _ other name e d) q p)
name-one sig item why because (is_full d p l) (is_full e q m) = refl

barred-one : (sig : PlainSignature) (item : DesugaredItem) (r s : PlainRefusal) → Barred sig item r → Barred sig item s → r ≡ s
barred-one sig item r s (by_name {why = why} x) (by_name {why = because} y) = ap (λ w. record { at = item.span.start; why = w }) (name-one sig item why because x y)
barred-one sig item r s (by_name x) (by_unknown p e) = absurd (p _ x)
barred-one sig item r s (by_unknown p e) (by_name y) = absurd (p _ y)
barred-one sig item r s (by_unknown {name = name} p e) (by_unknown {name = other} q f) = ap (λ n. record { at = n.span.start; why = unknown_name n.name }) (some-one _ name other e f)

passes-free : (sig : PlainSignature) (item : DesugaredItem) (r : PlainRefusal) → Passes sig item → Barred sig item r → ⊥
passes-free sig item r p (by_name x) = p.name _ x
passes-free sig item r p (by_unknown {name = name} q e) = not-both _ name p.known e

-- ---- one refusal by the rules

same-kernel : (path other : List ℕ) (cause because : Cause) → path ≡ other → cause ≡ because → kernel path cause ≡ kernel other because
same-kernel path other cause because e f = rw (e, f) refl

type-one : (sig : PlainSignature) (a : PlainType) (part : ℕ) (p q : List ℕ) (cause because : Cause) → WellFormedSignature sig → IsIllFormed sig a p cause → IsIllFormed sig a q because
    → kernel (part ∷ p) cause ≡ kernel (part ∷ q) because
type-one sig a part p q cause because w x y =
    let one = (type-decided sig a w).one p q cause because x.explained y.explained in same-kernel (part ∷ p) (part ∷ q) cause because (ap (λ (l : List ℕ). part ∷ l) one.0) one.1

object-one : (sig : PlainSignature) (n : PlainObject) (a : PlainType) (part : ℕ) (p q : List ℕ) (cause because : Cause) → WellFormedSignature sig → IsUntyped sig n a p cause → IsUntyped sig n a q because
    → kernel (part ∷ p) cause ≡ kernel (part ∷ q) because
object-one sig n a part p q cause because w x y =
    let one = (object-decided sig n a w x.formed).one p q cause because x.explained y.explained in same-kernel (part ∷ p) (part ∷ q) cause because (ap (λ (l : List ℕ). part ∷ l) one.0) one.1

-- what is presupposed of a core: of a declaration, that its implicit arguments stand in front
abbrev IsFit : PlainCore → Type 0
IsFit (declares n e) = e.implicit ≤ may_be_implicit e.class
IsFit (queries a) = Unit {0}
IsFit (traces t) = Unit {0}
IsFit (equates n o a) = Unit {0}
IsFit (checks n a) = Unit {0}

is-fit : (sig : PlainSignature) (item : DesugaredItem) (core : PlainCore) → StandInFront item → explicit sig item ≡ Some core → IsFit core
is-fit sig item (declares n e) stand h = (declared-fits sig item n e stand h).1
is-fit sig item (queries a) stand h = tt
is-fit sig item (traces t) stand h = tt
is-fit sig item (equates n o a) stand h = tt
is-fit sig item (checks n a) stand h = tt

explained-one : (sig : PlainSignature) (core : PlainCore) (path other : List ℕ) (cause because : Cause) → WellFormedSignature sig → IsFit core
    → IsExplained sig core path cause → IsExplained sig core other because → kernel path cause ≡ kernel other because
explained-one sig (declares n e) path other cause because w fit (in_class {path = p} never x) (in_class {path = q} nor y) =
    let one = (entry-decided sig e w fit).one p q cause because x y in same-kernel (0 ∷ p) (0 ∷ q) cause because (ap (λ (l : List ℕ). 0 ∷ l) one.0) one.1
explained-one sig (checks n a) path other cause because w fit (in_type {path = p} x) (in_type {path = q} y) = type-one sig a 0 p q cause because w x y
explained-one sig (checks n a) path other cause because w fit (in_type x) (in_object y) = absurd (x.formed_not y.formed)
explained-one sig (checks n a) path other cause because w fit (in_object x) (in_type y) = absurd (y.formed_not x.formed)
explained-one sig (checks n a) path other cause because w fit (in_object {path = p} x) (in_object {path = q} y) = object-one sig n a 1 p q cause because w x y
explained-one sig (equates n o a) path other cause because w fit (in_common_type {path = p} x) (in_common_type {path = q} y) = type-one sig a 0 p q cause because w x y
explained-one sig (equates n o a) path other cause because w fit (in_common_type x) (in_first y) = absurd (x.formed_not y.formed)
explained-one sig (equates n o a) path other cause because w fit (in_common_type x) (in_second t y) = absurd (x.formed_not t.formed)
explained-one sig (equates n o a) path other cause because w fit (in_first x) (in_common_type y) = absurd (y.formed_not x.formed)
explained-one sig (equates n o a) path other cause because w fit (in_first {path = p} x) (in_first {path = q} y) = object-one sig n a 1 p q cause because w x y
explained-one sig (equates n o a) path other cause because w fit (in_first x) (in_second t y) = absurd (x.has_not t.has)
explained-one sig (equates n o a) path other cause because w fit (in_second t x) (in_common_type y) = absurd (y.formed_not t.formed)
explained-one sig (equates n o a) path other cause because w fit (in_second t x) (in_first y) = absurd (y.has_not t.has)
explained-one sig (equates n o a) path other cause because w fit (in_second {path = p} t x) (in_second {path = q} u y) = object-one sig o a 2 p q cause because w x y
explained-one sig (queries a) path other cause because w fit x y = elim x [ ]
explained-one sig (traces t) path other cause because w fit x y = elim x [ ]

-- what is out of reach is not explained
beyond-unexplained : (sig : PlainSignature) (core : PlainCore) (path : List ℕ) (cause : Cause) → IsBeyondReach core → IsExplained sig core path cause → ⊥
beyond-unexplained sig (declares n e) path cause b x = b
beyond-unexplained sig (queries a) path cause b x = elim x [ ]
beyond-unexplained sig (traces t) path cause b x = elim x [ ]
beyond-unexplained sig (equates n o a) path cause b x = b
beyond-unexplained sig (checks n a) path cause b x = b

-- Why an explicit item is declined.
data RefusesCore (sig : PlainSignature) (core : PlainCore) : PlainWhy → Type 0 where
  refuses : {path : List ℕ} {cause : Cause} → IsExplained sig core path cause → RefusesCore sig core (kernel path cause)
  out_of_reach : IsBeyondReach core → RefusesCore sig core not_yet

abbrev IsRefused : PlainSignature → DesugaredItem → PlainWhy → Type 0
IsRefused sig item why = (core : PlainCore) × (explicit sig item ≡ Some core) × RefusesCore sig core why

explicitly-declined : (sig : PlainSignature) (item : DesugaredItem) (why : PlainWhy) → NothingHidden sig item → Passes sig item → Declined sig item why → IsRefused sig item why
explicitly-declined sig item why all p (by_rules {core = core} h x) = (core, h, refuses x)
explicitly-declined sig item why all p (by_rules_found hidden r x) = absurd (all p hidden)
explicitly-declined sig item why all p (not_found hidden x) = absurd (all p hidden)
explicitly-declined sig item why all p (not_answered {core = core} h b) = (core, h, out_of_reach b)

explicitly-read : (sig : PlainSignature) (item : DesugaredItem) (core : PlainCore) → NothingHidden sig item → Passes sig item → HasCore sig item core → explicit sig item ≡ Some core
explicitly-read sig item core all p (is_explicit h) = h
explicitly-read sig item core all p (is_found hidden r) = absurd (all p hidden)

refused-one : (sig : PlainSignature) (core : PlainCore) (why because : PlainWhy) → WellFormedSignature sig → IsFit core → RefusesCore sig core why → RefusesCore sig core because → why ≡ because
refused-one sig core why because w fit (refuses {path = path} {cause = cause} x) (refuses {path = path'} {cause = cause'} y) = explained-one sig core path path' cause cause' w fit x y
refused-one sig core why because w fit (refuses {path = path} {cause = cause} x) (out_of_reach b) = absurd (beyond-unexplained sig core path cause b x)
refused-one sig core why because w fit (out_of_reach b) (refuses {path = path} {cause = cause} x) = absurd (beyond-unexplained sig core path cause b x)
refused-one sig core why because w fit (out_of_reach b) (out_of_reach c) = refl

declined-one : (sig : PlainSignature) (item : DesugaredItem) (why because : PlainWhy) → WellFormedSignature sig → StandInFront item → IsRefused sig item why → IsRefused sig item because → why ≡ because
declined-one sig item why because w stand (core, h, x) (other, k, y) =
    refused-one sig core why because w (is-fit sig item core stand h) x (subst (λ (c : PlainCore). RefusesCore sig c because) (some-one _ other core k h) y)

refused-unfit : (options : Options) (held new : Held) (core : PlainCore) (path : List ℕ) (cause : Cause) (reply : PlainReply) → IsExplained held.signature core path cause
    → Fits options held core reply new → ⊥
refused-unfit options held new (declares n e) path cause reply (in_class never x) (accepted may) = never may.2
refused-unfit options held new (checks n a) path cause reply (in_type x) (typed t) = x.formed_not t.formed
refused-unfit options held new (checks n a) path cause reply (in_object x) (typed t) = x.has_not t.has
refused-unfit options held new (equates n o a) path cause reply (in_common_type x) (same t u j) = x.formed_not t.formed
refused-unfit options held new (equates n o a) path cause reply (in_common_type x) (differing t u j) = x.formed_not t.formed
refused-unfit options held new (equates n o a) path cause reply (in_first x) (same t u j) = x.has_not t.has
refused-unfit options held new (equates n o a) path cause reply (in_first x) (differing t u j) = x.has_not t.has
refused-unfit options held new (equates n o a) path cause reply (in_second s x) (same t u j) = x.has_not u.has
refused-unfit options held new (equates n o a) path cause reply (in_second s x) (differing t u j) = x.has_not u.has
refused-unfit options held new (queries a) path cause reply x y = elim x [ ]
refused-unfit options held new (traces t) path cause reply x y = elim x [ ]

beyond-unfit : (options : Options) (held new : Held) (core : PlainCore) (reply : PlainReply) → IsBeyondReach core → Fits options held core reply new → ⊥
beyond-unfit options held new (declares n e) reply b x = b
beyond-unfit options held new (queries a) reply b x = elim x [ ]
beyond-unfit options held new (traces t) reply b x = elim x [ ]
beyond-unfit options held new (equates n o a) reply b x = b
beyond-unfit options held new (checks n a) reply b x = b

core-unfit : (options : Options) (held new : Held) (core : PlainCore) (why : PlainWhy) (reply : PlainReply) → RefusesCore held.signature core why → Fits options held core reply new → ⊥
core-unfit options held new core why reply (refuses {path = path} {cause = cause} x) f = refused-unfit options held new core path cause reply x f
core-unfit options held new core why reply (out_of_reach b) f = beyond-unfit options held new core reply b f

declined-unfit : (options : Options) (held new : Held) (item : DesugaredItem) (core : PlainCore) (why : PlainWhy) (reply : PlainReply)
    → IsRefused held.signature item why → explicit held.signature item ≡ Some core → Fits options held core reply new → ⊥
declined-unfit options held new item core why reply (other, h, x) k f =
    core-unfit options held new core why reply (subst (λ (c : PlainCore). RefusesCore held.signature c why) (some-one _ other core h k) x) f

fits-one : (options : Options) (held new other : Held) (core : PlainCore) (reply further : PlainReply) → Fits options held core reply new → Fits options held core further other
    → (reply ≡ further) × (new ≡ other)
fits-one options held new other (declares n e) reply further (accepted f) (accepted g) = (refl, refl)
fits-one options held new other (checks n a) reply further (typed t) (typed u) = (refl, refl)
fits-one options held new other (equates n o a) reply further (same t u j) (same t' u' k) = (refl, refl)
fits-one options held new other (equates n o a) reply further (same t u j) (differing t' u' k) = absurd (k j)
fits-one options held new other (equates n o a) reply further (differing t u j) (same t' u' k) = absurd (j k)
fits-one options held new other (equates n o a) reply further (differing t u j) (differing t' u' k) = (refl, refl)
fits-one options held new other (queries a) reply further x y = elim x [ ]
fits-one options held new other (traces t) reply further x y = elim x [ ]

same-refusal : (options : Options) (held : Held) (r s : PlainRefusal) → r ≡ s → (refused r ≡ refused s) × (held ≡ held)
same-refusal options held r s e = (ap refused e, refl)

plain-one : (options : Options) (held new other : Held) (item : DesugaredItem) (reply further : PlainReply) → WellFormedSignature held.signature → StandInFront item → NothingHidden held.signature item
    → PlainAllowed options held item reply new → PlainAllowed options held item further other → (reply ≡ further) × (new ≡ other)
plain-one options held new other item reply further w stand all (barred {refusal = refusal} x) (barred {refusal = s} y) = same-refusal options held refusal s (barred-one held.signature item refusal s x y)
plain-one options held new other item reply further w stand all (barred {refusal = refusal} x) (declined p d) = absurd (passes-free held.signature item refusal p x)
plain-one options held new other item reply further w stand all (barred {refusal = refusal} x) (answered p c f) = absurd (passes-free held.signature item refusal p x)
plain-one options held new other item reply further w stand all (declined p d) (barred {refusal = refusal} x) = absurd (passes-free held.signature item refusal p x)
plain-one options held new other item reply further w stand all (declined {why = why} p d) (declined {why = because} q e) =
    let sig = held.signature in
    same-refusal options held _ _ (ap (λ w. record { at = item.span.start; why = w })
    (declined-one sig item why because w stand (explicitly-declined sig item why all p d) (explicitly-declined sig item because all q e)))
plain-one options held new other item reply further w stand all (declined {why = why} p d) (answered {core = core} q c f) =
    let sig = held.signature in
    absurd (declined-unfit options held other item core why further (explicitly-declined sig item why all p d) (explicitly-read sig item core all q c) f)
plain-one options held new other item reply further w stand all (answered p c f) (barred {refusal = refusal} x) = absurd (passes-free held.signature item refusal p x)
plain-one options held new other item reply further w stand all (answered {core = core} p c f) (declined {why = why} q d) =
    let sig = held.signature in
    absurd (declined-unfit options held new item core why reply (explicitly-declined sig item why all q d) (explicitly-read sig item core all p c) f)
plain-one options held new other item reply further w stand all (answered {core = core} p c f) (answered {core = core'} q d g) =
    let sig = held.signature in
    let same_core = some-one _ core' core (explicitly-read sig item core' all q d) (explicitly-read sig item core all p c) in
    fits-one options held new other core reply further f (subst (λ (c : PlainCore). Fits options held c further other) same_core g)

pub reply_is_one : ReplyIsOne
reply_is_one options held new other task reply further w all at_fault at_fault = (refl, refl)
reply_is_one options held new other task reply further w all (sugar_fault {fault = fault} e) (sugar_fault {fault = f} g) = same-refusal options held _ _ (ap sugar_refusal (some-one _ fault f e g))
reply_is_one options held new other task reply further w all (sugar_fault {fault = fault} e) (plainly clean p) = absurd (not-both _ fault clean e)
reply_is_one options held new other task reply further w all (plainly clean p) (sugar_fault {fault = fault} e) = absurd (not-both _ fault clean e)
reply_is_one options held new other task reply further w all (plainly {item = item} clean p) (plainly neat q) = plain-one options held new other (desugared item) reply further w (written-fits item clean) all p q
