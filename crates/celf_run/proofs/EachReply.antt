-- Each task has an allowed reply.
use Rattle.std.proofs.Common.{ℕ, ◌≡◌, Bool, true, false, refl, Option, Some, None, List, [], ◌∷◌, ◌++◌, length, ◌⊎◌, inl, inr}
use Rattle.clf_syntax.specs.Tree.{PlainObject}
use Rattle.clf_syntax.specs.TypeTree.{PlainType}
use Rattle.clf_sig.specs.Entry.{entry_limit, PlainEntry, PlainSignature, place_of}
use Rattle.clf_sig.specs.Core.{PlainCore, declares, queries, traces, equates, checks}
use Rattle.clf_rules.specs.Typing.{HasType}
use Rattle.clf_rules.specs.WellFormed.{WellFormedType, WellFormedEntry, WellFormedSignature}
use Rattle.clf_rules.specs.Explained.{ExplainedAt, ExplainedInType, ExplainedInClass}
use Rattle.clf_rules.specs.Refusal.{Cause}
use Rattle.trace_equal.specs.Exchange.{Joined}
use Rattle.trace_equal.specs.Comparing.{compared, no_ids}
use Rattle.trace_equal.proofs.Comparing.{objects_joined}
use Rattle.clf_decision.specs.Laws.{IsDecided}
use Rattle.use_contexts.specs.Rows.{Agrees, Leftover}
use Rattle.celf_surface.specs.Surface.{WrittenItem}
use Rattle.celf_sugar.specs.declared.plain.PName.{PName}
use Rattle.celf_sugar.specs.declared.fault.SugarFault.{SugarFault}
use Rattle.celf_sugar.specs.PlainTree.{DesugaredItem}
use Rattle.celf_sugar.specs.Sugar.{desugared}
use Rattle.celf_sugar.specs.Faults.{first_fault}
use Rattle.celf_unknown.specs.Unknown.{first_unknown}
use Rattle.celf_explicit.specs.Explicit.{explicit}
use Rattle.celf_parser.specs.Place.{HasDeclarableName}
use Rattle.celf_replies.specs.Reply.{PlainWhy, duplicate, full, unknown_name, PlainReply, entry, checked, equal as equal_reply, different as different_reply, refused}
use Rattle.celf_run.specs.declared.options.Options.{Options}
use Rattle.celf_run.specs.Source.{written, faulty}
use Rattle.celf_run.specs.Allowed.{Held, holding, declared_name, NameBarred, is_duplicate, is_full, NamePasses, by_name, by_unknown, IsTyped, IsUntyped, IsIllFormed, IsExplained, in_class, in_type, in_object, in_common_type, in_first, in_second, NothingHidden, typed, same as same_objects, differing, PlainAllowed, barred, Allowed, at_fault, sugar_fault, plainly, sugar_refusal}
use Rattle.celf_run.specs.Answering.{MayBeDeclared, MayBeAdded, AnswersCore, fits, explained, beyond, refused_by_rules, refused_as_beyond}
use Rattle.celf_run.specs.Laws.{EachTaskHasReply}
use Rattle.celf_run.proofs.Decisions.{decide-number, Decided}
use Rattle.celf_run.proofs.Closed.{left-typed, object-decided, type-decided, entry-decided}
use Rattle.celf_run.proofs.Answering.{may-be-declared, nameless-passes, new-passes, may-be-added, accepts, core-allowed}

-- Something stands against the name, or nothing does.
abbrev NameTold : PlainSignature → DesugaredItem → Type 0
NameTold sig item = ((why : PlainWhy) × NameBarred sig item why) ⊎ NamePasses sig item

room-told : (sig : PlainSignature) (item : DesugaredItem) (name : List ℕ) → declared_name item.body ≡ Some name → place_of name sig ≡ None → Decided (length sig ≡ entry_limit) → NameTold sig item
room-told sig item name d new (inl l) = inl (full, is_full d new l)
room-told sig item name d new (inr n) = inr (new-passes sig item name d new n)

place-told : (sig : PlainSignature) (item : DesugaredItem) (name : List ℕ) → declared_name item.body ≡ Some name → (r : Option ℕ) → place_of name sig ≡ r → NameTold sig item
place-told sig item name d None e = room-told sig item name d e (decide-number (length sig) entry_limit)
place-told sig item name d (Some k) e = inl (duplicate name, is_duplicate d e)

name-told : (sig : PlainSignature) (item : DesugaredItem) (d : Option (List ℕ)) → declared_name item.body ≡ d → NameTold sig item
name-told sig item None e = inr (nameless-passes sig item e)
name-told sig item (Some name) e = place-told sig item name e (place_of name sig) refl

-- an allowed reply
abbrev HasReply : Options → PlainSignature → DesugaredItem → Type 0
HasReply options sig item = (reply : PlainReply) × (new : Held) × PlainAllowed options (holding sig) item reply new

-- what a core comes to
abbrev CoreHasReply : Options → PlainSignature → ℕ → PlainCore → Type 0
CoreHasReply options sig at core = (reply : PlainReply) × (new : PlainSignature) × AnswersCore options (holding sig) at core reply (holding new)

refused-reply : (options : Options) (sig : PlainSignature) (at : ℕ) (core : PlainCore) (path : List ℕ) (cause : Cause) → IsExplained sig core path cause → CoreHasReply options sig at core
refused-reply options sig at core path cause why = (refused_by_rules at path cause, sig, explained why)

declared-reply : (options : Options) (sig : PlainSignature) (at : ℕ) (n : List ℕ) (e : PlainEntry) → MayBeAdded sig (declares n e)
    → IsDecided (WellFormedEntry sig e) (WellFormedEntry sig e → ⊥) (ExplainedInClass sig e.class) → CoreHasReply options sig at (declares n e)
declared-reply options sig at n e may d = go d.decided
  where
    go : WellFormedEntry sig e ⊎ ((path : List ℕ) × (why : Cause) × ExplainedInClass sig e.class path why) → CoreHasReply options sig at (declares n e)
    go (inl w) = (entry (length sig), sig ++ (n, e) ∷ [], accepts options sig (sig ++ (n, e) ∷ []) at n e (entry (length sig)) may w refl refl)
    go (inr (path, why, x)) = refused-reply options sig at (declares n e) (0 ∷ path) why (in_class (d.explained.1 (path, why, x)) x)

-- What is known of a type: that it is well formed, or why it is not.
abbrev TypeTold : PlainSignature → PlainType → Type 0
TypeTold sig a = WellFormedType sig [] a ⊎ ((path : List ℕ) × (why : Cause) × IsIllFormed sig a path why)

type-told : (sig : PlainSignature) (a : PlainType) → WellFormedSignature sig → TypeTold sig a
type-told sig a w = go (type-decided sig a w).decided
  where
    go : WellFormedType sig [] a ⊎ ((path : List ℕ) × (why : Cause) × ExplainedInType sig [] a path why) → TypeTold sig a
    go (inl f) = inl f
    go (inr (path, why, x)) = inr (path, why, record { formed_not = (type-decided sig a w).explained.1 (path, why, x); explained = x })

-- and of an object at a type that is
abbrev ObjectTold : PlainSignature → PlainObject → PlainType → Type 0
ObjectTold sig n a = IsTyped sig n a ⊎ ((path : List ℕ) × (why : Cause) × IsUntyped sig n a path why)

object-told : (sig : PlainSignature) (n : PlainObject) (a : PlainType) → WellFormedSignature sig → WellFormedType sig [] a → ObjectTold sig n a
object-told sig n a w f = go (object-decided sig n a w f).decided
  where
    go : ((l : Leftover) × Agrees [] [] (Some l) (λ p. HasType sig [] p n a)) ⊎ ((path : List ℕ) × (why : Cause) × ExplainedAt sig [] [] n a path why) → ObjectTold sig n a
    go (inl (l, told)) = inl (record { formed = f; has = left-typed sig n a l told })
    go (inr (path, why, x)) = inr (path, why, record { formed = f; has_not = (object-decided sig n a w f).explained.1 (path, why, x) [] (refl, tt); explained = x })

checked-reply : (options : Options) (sig : PlainSignature) (at : ℕ) (n : PlainObject) (a : PlainType) → ObjectTold sig n a → CoreHasReply options sig at (checks n a)
checked-reply options sig at n a (inl t) = (checked n a, sig, fits (typed t))
checked-reply options sig at n a (inr (path, why, x)) = refused-reply options sig at (checks n a) (1 ∷ path) why (in_object x)

check-reply : (options : Options) (sig : PlainSignature) (at : ℕ) (n : PlainObject) (a : PlainType) → WellFormedSignature sig → TypeTold sig a → CoreHasReply options sig at (checks n a)
check-reply options sig at n a w (inl f) = checked-reply options sig at n a (object-told sig n a w f)
check-reply options sig at n a w (inr (path, why, x)) = refused-reply options sig at (checks n a) (0 ∷ path) why (in_type x)

joined-decided : (n o : PlainObject) → Decided (Joined n o)
joined-decided n o = go (compared no_ids n o) refl
  where
    go : (b : Bool) → b ≡ compared no_ids n o → Decided (Joined n o)
    go true e = inl ((objects_joined n o true e).0 refl)
    go false e = inr (λ j. let g = (objects_joined n o false e).1 j in absurd (cc))

compared-reply : (options : Options) (sig : PlainSignature) (at : ℕ) (n o : PlainObject) (a : PlainType) → IsTyped sig n a → IsTyped sig o a → Decided (Joined n o) → CoreHasReply options sig at (equates n o a)
compared-reply options sig at n o a t u (inl j) = (equal_reply, sig, fits (same_objects t u j))
compared-reply options sig at n o a t u (inr j) = (different_reply, sig, fits (differing t u j))

second-reply : (options : Options) (sig : PlainSignature) (at : ℕ) (n o : PlainObject) (a : PlainType) → IsTyped sig n a → ObjectTold sig o a → CoreHasReply options sig at (equates n o a)
second-reply options sig at n o a t (inl u) = compared-reply options sig at n o a t u (joined-decided n o)
second-reply options sig at n o a t (inr (path, why, x)) = refused-reply options sig at (equates n o a) (2 ∷ path) why (in_second t x)

first-reply : (options : Options) (sig : PlainSignature) (at : ℕ) (n o : PlainObject) (a : PlainType) → WellFormedSignature sig → ObjectTold sig n a → CoreHasReply options sig at (equates n o a)
first-reply options sig at n o a w (inl t) = second-reply options sig at n o a t (object-told sig o a w t.formed)
first-reply options sig at n o a w (inr (path, why, x)) = refused-reply options sig at (equates n o a) (1 ∷ path) why (in_first x)

equation-reply : (options : Options) (sig : PlainSignature) (at : ℕ) (n o : PlainObject) (a : PlainType) → WellFormedSignature sig → TypeTold sig a → CoreHasReply options sig at (equates n o a)
equation-reply options sig at n o a w (inl f) = first-reply options sig at n o a w (object-told sig n a w f)
equation-reply options sig at n o a w (inr (path, why, x)) = refused-reply options sig at (equates n o a) (0 ∷ path) why (in_common_type x)

core-reply : (options : Options) (sig : PlainSignature) (at : ℕ) (core : PlainCore) → WellFormedSignature sig → MayBeAdded sig core → CoreHasReply options sig at core
core-reply options sig at (declares n e) w may = declared-reply options sig at n e may (entry-decided sig e w may.3)
core-reply options sig at (queries a) w may = (refused_as_beyond at, sig, beyond tt)
core-reply options sig at (traces t) w may = (refused_as_beyond at, sig, beyond tt)
core-reply options sig at (equates n o a) w may = equation-reply options sig at n o a w (type-told sig a w)
core-reply options sig at (checks n a) w may = check-reply options sig at n a w (type-told sig a w)

known-reply : (options : Options) (sig : PlainSignature) (item : DesugaredItem) → WellFormedSignature sig → MayBeDeclared item → NamePasses sig item → first_unknown sig item ≡ None
    → NothingHidden sig item → (c : Option PlainCore) → explicit sig item ≡ c → HasReply options sig item
known-reply options sig item w may passes known all (Some core) h =
    let r = core-reply options sig item.span.start core w (may-be-added sig item core may passes h) in
    (r.0, holding r.1, core-allowed options sig r.1 item core r.0 passes known h r.2)
known-reply options sig item w may passes known all None h = absurd (all (record { name = passes; known = known }) h)

named-reply : (options : Options) (sig : PlainSignature) (item : DesugaredItem) → WellFormedSignature sig → MayBeDeclared item → NamePasses sig item → NothingHidden sig item
    → (u : Option PName) → first_unknown sig item ≡ u → HasReply options sig item
named-reply options sig item w may passes all None e = known-reply options sig item w may passes e all (explicit sig item) refl
named-reply options sig item w may passes all (Some name) e =
    (refused (record { at = name.span.start; why = unknown_name name.name }), holding sig, barred (by_unknown passes e))

plain-reply : (options : Options) (sig : PlainSignature) (item : DesugaredItem) → WellFormedSignature sig → MayBeDeclared item → NothingHidden sig item → NameTold sig item → HasReply options sig item
plain-reply options sig item w may all (inl (why, b)) = (refused (record { at = item.span.start; why = why }), holding sig, barred (by_name b))
plain-reply options sig item w may all (inr passes) = named-reply options sig item w may passes all (first_unknown sig item) refl

item-reply : (options : Options) (held : Held) (item : WrittenItem) → WellFormedSignature held.signature → HasDeclarableName item.body → NothingHidden held.signature (desugared item) → (f : Option SugarFault) → first_fault item ≡ f
    → (reply : PlainReply) × (new : Held) × Allowed options held (written item) reply new
item-reply options held item w h all (Some f) e = (refused (sugar_refusal f), held, sugar_fault e)
item-reply options held item w h all None e =
    let sig = held.signature in
    let plain = desugared item in
    let r = plain-reply options sig plain w (may-be-declared item plain refl e h) all (name-told sig plain (declared_name plain.body) refl) in
    (r.0, r.1, plainly e r.2)

pub each_task_has_reply : EachTaskHasReply
each_task_has_reply options held (written item) w h all = item-reply options held item w h all (first_fault item) refl
each_task_has_reply options held (faulty refusal) w h all = (refused refusal, held, at_fault)
