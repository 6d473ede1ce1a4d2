-- Inner: what the functions below `answer_item` come to.
use Rattle.std.specs.Prelude.{ℕ, ◌≡◌, ◌≢◌, ◌≤◌, ◌⊎◌, true, List, [], ◌∷◌, length, Option, Some, None, Result, Ok, Err}
use Rattle.clf_syntax.specs.Word.{is_declarable}
use Rattle.clf_sig.specs.Entry.{PlainSignature, entry_limit, place_of}
use Rattle.clf_syntax.specs.Tree.{PlainObject}
use Rattle.clf_syntax.specs.TypeTree.{PlainType}
use Rattle.clf_syntax.specs.declared.fault.OrWide.{OrWide}
use Rattle.clf_syntax.specs.declared.fault.OrWide.TheVariants.{Fault, NoMemory, TooFar}
use Rattle.clf_syntax.specs.declared.fault.Want.{Want}
use Rattle.clf_syntax.specs.declared.fault.Want.TheVariants.{NoMemory as no_memory, TooFar as too_far}
use Rattle.clf_kernel.specs.declared.refusal.Refusal.{Refusal}
use Rattle.clf_syntax.specs.Wide.{IsWide, IsWant}
use Rattle.clf_kernel.specs.Answers.{plain_cause}
use Rattle.clf_rules.specs.Typing.{HasType}
use Rattle.clf_rules.specs.WellFormed.{WellFormedType, may_be_implicit}
use Rattle.clf_rules.specs.Refusal.{Cause}
use Rattle.trace_equal.specs.Exchange.{Joined}
use Rattle.celf_sugar.specs.PlainTree.{DesugaredClass, declare, DesugaredItem}
use Rattle.celf_sugar.specs.ClassLeading.{class_leading}
use Rattle.celf_replies.specs.declared.reply.Reply.{Reply}
use Rattle.celf_replies.specs.Reply.{PlainWhy, bad_byte, long_name, unexpected, directive, too_deep, kind_place, not_async, redex, out_of_range, bad_implicit, duplicate, full, unknown_name, kernel, undetermined, ill_typed, unresolved, loose, circular, rejected, not_yet, PlainRefusal, PlainReply, entry, checked, equal, different, plain_reply, refused}
use Rattle.celf_run.specs.declared.options.Options.{Options}
use Rattle.clf_sig.specs.Core.{PlainCore, declares, queries, traces, equates, checks}
use Rattle.celf_run.specs.Allowed.{Held, declared_name, NameBarred, NamePasses, IsUntyped, IsIllFormed, IsExplained, IsBeyondReach, Fits}

-- What stands against a name, or that nothing does.
abbrev pub NameVerdict : PlainSignature → DesugaredItem → Option PlainWhy → Type 0
NameVerdict sig item None = NamePasses sig item
NameVerdict sig item (Some why) = NameBarred sig item why

-- No more implicit arguments are declared than stand in front.
abbrev pub StandInFront : DesugaredItem → Type 0
StandInFront item = (name : List ℕ) (count : ℕ) (class : DesugaredClass) → item.body ≡ declare name count class → count ≤ class_leading class

-- The name that an item declares, if any, may be declared, with its number of implicit arguments.
pub record MayBeDeclared (item : DesugaredItem) : Type 0 where
  pub name : (name : List ℕ) → declared_name item.body ≡ Some name → is_declarable name ≡ true
  pub implicit : StandInFront item

-- A declared name is new, there is room for it, and its entry has no more implicit arguments than it can have.
abbrev pub MayBeAdded : PlainSignature → PlainCore → Type 0
MayBeAdded sig (declares n e) = (place_of n sig ≡ None) × (length sig ≢ entry_limit) × (is_declarable n ≡ true) × (e.implicit ≤ may_be_implicit e.class)
MayBeAdded sig (queries a) = Unit {0}
MayBeAdded sig (traces t) = Unit {0}
MayBeAdded sig (equates n o a) = Unit {0}
MayBeAdded sig (checks n a) = Unit {0}

-- the refusal of an item that begins at a byte
abbrev pub refused_for : ℕ → PlainWhy → PlainReply
refused_for at why = refused (record { at = at; why = why })

-- by the rules
abbrev pub refused_by_rules : ℕ → List ℕ → Cause → PlainReply
refused_by_rules at path cause = refused (record { at = at; why = kernel path cause })

-- that of one that is out of reach
abbrev pub refused_as_beyond : ℕ → PlainReply
refused_as_beyond at = refused (record { at = at; why = not_yet })

-- the refusal of a name that begins at a byte and has no meaning
abbrev pub unknown_refusal : ℕ → List ℕ → PlainRefusal
unknown_refusal at name = record { at = at; why = unknown_name name }

-- What the kernel tells of a type without variables.
abbrev pub FormsClosed : PlainSignature → PlainType → Result (Unit {0}) (OrWide Refusal) → Type 0
FormsClosed sig a (Ok u) = WellFormedType sig [] a
FormsClosed sig a (Err (Fault r)) = IsIllFormed sig a r.path.items (plain_cause r.cause)
FormsClosed sig a (Err NoMemory) = Unit {0}
FormsClosed sig a (Err (TooFar w)) = IsWide w

-- What it tells of an object without variables, at such a type.
abbrev pub JudgesClosed : PlainSignature → PlainObject → PlainType → Result (Unit {0}) (OrWide Refusal) → Type 0
JudgesClosed sig n a (Ok u) = HasType sig [] [] n a
JudgesClosed sig n a (Err (Fault r)) = IsUntyped sig n a r.path.items (plain_cause r.cause)
JudgesClosed sig n a (Err NoMemory) = Unit {0}
JudgesClosed sig n a (Err (TooFar w)) = IsWide w

-- The reply to what the kernel tells against the part with this number.
abbrev pub IsReplyToFault : ℕ → ℕ → OrWide Refusal → Result Reply Want → Type 0
IsReplyToFault at part (Fault r) (Ok reply) = plain_reply reply ≡ refused_by_rules at (part ∷ r.path.items) (plain_cause r.cause)
IsReplyToFault at part (Fault r) (Err want) = IsWant want
IsReplyToFault at part NoMemory result = result ≡ Err no_memory
IsReplyToFault at part (TooFar w) result = result ≡ Err (too_far w)

-- what the kernel tells against the part with this number explains why the rules refuse the core
abbrev pub ExplainsCore : PlainSignature → PlainCore → ℕ → OrWide Refusal → Type 0
ExplainsCore sig core part (Fault r) = IsExplained sig core (part ∷ r.path.items) (plain_cause r.cause)
ExplainsCore sig core part NoMemory = Unit {0}
ExplainsCore sig core part (TooFar w) = IsWide w

-- The reply tells whether two objects are joined.
abbrev pub Compares : PlainObject → PlainObject → PlainReply → Type 0
Compares n o reply = ((reply ≡ equal) × Joined n o) ⊎ ((reply ≡ different) × (Joined n o → ⊥))

-- what is said of a refusal by the rules where something was found
abbrev pub why_of_found : PlainWhy → PlainWhy
why_of_found (kernel path cause) = rejected path cause
why_of_found bad_byte = bad_byte
why_of_found long_name = long_name
why_of_found (unexpected end) = unexpected end
why_of_found directive = directive
why_of_found too_deep = too_deep
why_of_found kind_place = kind_place
why_of_found not_async = not_async
why_of_found redex = redex
why_of_found out_of_range = out_of_range
why_of_found bad_implicit = bad_implicit
why_of_found (duplicate name) = duplicate name
why_of_found full = full
why_of_found (unknown_name name) = unknown_name name
why_of_found (undetermined name) = undetermined name
why_of_found (ill_typed m) = ill_typed m
why_of_found (unresolved ss) = unresolved ss
why_of_found (loose count) = loose count
why_of_found (circular names) = circular names
why_of_found (rejected path cause) = rejected path cause
why_of_found not_yet = not_yet

abbrev pub reply_of_found : PlainReply → PlainReply
reply_of_found (entry k) = entry k
reply_of_found (checked n a) = checked n a
reply_of_found equal = equal
reply_of_found different = different
reply_of_found (refused r) = refused (record { at = r.at; why = why_of_found r.why })

-- What a core of an item that begins at a byte comes to: a reply that fits, the refusal by the rules, or that it is out of reach.
pub data AnswersCore (options : Options) (held : Held) (at : ℕ) (core : PlainCore) : PlainReply → Held → Type 0 where
  fits : {reply : PlainReply} {new : Held} → Fits options held core reply new → AnswersCore options held at core reply new
  explained : {path : List ℕ} {cause : Cause} → IsExplained held.signature core path cause → AnswersCore options held at core (refused_by_rules at path cause) held
  beyond : IsBeyondReach core → AnswersCore options held at core (refused_as_beyond at) held
