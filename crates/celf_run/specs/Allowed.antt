-- Which replies a task may have over what is held, and what is held after it.
use Rattle.std.specs.Prelude.{ℕ, ◌≡◌, List, [], ◌∷◌, ◌++◌, length, Option, Some, None}
use Rattle.clf_syntax.specs.Tree.{PlainObject}
use Rattle.clf_syntax.specs.TypeTree.{PlainType}
use Rattle.clf_sig.specs.Entry.{PlainEntry, PlainSignature, entry_limit, place_of}
use Rattle.clf_rules.specs.Typing.{HasType}
use Rattle.clf_rules.specs.WellFormed.{WellFormedType, WellFormedEntry, MayFollow}
use Rattle.clf_rules.specs.Refusal.{Cause}
use Rattle.clf_rules.specs.Explained.{ExplainedAt, ExplainedInType, ExplainedInClass}
use Rattle.trace_equal.specs.Exchange.{Joined}
use Rattle.celf_surface.specs.Surface.{WrittenItem}
use Rattle.celf_sugar.specs.declared.plain.PName.{PName}
use Rattle.celf_sugar.specs.declared.fault.SugarFault.{SugarFault}
use Rattle.celf_sugar.specs.declared.fault.SugarFault.TheVariants.{KindPlace, NotAsync, Redex, OutOfRange, BadImplicit, NoMemory}
use Rattle.celf_sugar.specs.Faults.{first_fault, fault_start}
use Rattle.celf_sugar.specs.Sugar.{desugared}
use Rattle.celf_sugar.specs.PlainTree.{DesugaredBody, declare, query, trace, equal, check, DesugaredItem}
use Rattle.celf_unknown.specs.Unknown.{first_unknown}
use Rattle.celf_replies.specs.Reply.{PlainWhy, kind_place, not_async, redex, out_of_range, bad_implicit, duplicate, full, unknown_name, kernel, rejected, not_yet, PlainRefusal, PlainReply, entry, checked, equal as equal_reply, different as different_reply, refused}
use Rattle.celf_run.specs.declared.options.Options.{Options}
use Rattle.clf_sig.specs.Core.{PlainCore, declares, queries, traces, equates, checks}
use Rattle.celf_explicit.specs.Explicit.{explicit}
use Rattle.celf_reconstruct.specs.Reconstructed.{Reconstructs, Declines}
use Rattle.celf_run.specs.Source.{Task, written, faulty}

-- what a run holds between two tasks
pub record Held : Type 0 where
  pub signature : PlainSignature

-- nothing but these entries
abbrev pub holding : PlainSignature → Held
holding sig = record { signature = sig }

-- the name that an item declares
abbrev pub declared_name : DesugaredBody → Option (List ℕ)
declared_name (declare n i c) = Some n
declared_name (query d e l a t) = None
declared_name (trace n t) = None
declared_name (equal l r t) = None
declared_name (check o t) = None

-- ---- one order of refusals for every item: its name, an unknown name, what its core comes to

-- The declared name is there already, or there is no room for its entry.
pub data NameBarred (sig : PlainSignature) (item : DesugaredItem) : PlainWhy → Type 0 where
  is_duplicate : {name : List ℕ} {k : ℕ} → declared_name item.body ≡ Some name → place_of name sig ≡ Some k → NameBarred sig item (duplicate name)
  is_full : {name : List ℕ} → declared_name item.body ≡ Some name → place_of name sig ≡ None → length sig ≡ entry_limit → NameBarred sig item full

-- Nothing stands against the name.
abbrev pub NamePasses : PlainSignature → DesugaredItem → Type 0
NamePasses sig item = (why : PlainWhy) → NameBarred sig item why → ⊥

-- What stands against an item before it is read.
pub data Barred (sig : PlainSignature) (item : DesugaredItem) : PlainRefusal → Type 0 where
  by_name : {why : PlainWhy} → NameBarred sig item why → Barred sig item (record { at = item.span.start; why = why })
  by_unknown : {name : PName} → NamePasses sig item → first_unknown sig item ≡ Some name → Barred sig item (record { at = name.span.start; why = unknown_name name.name })

-- Nothing does.
pub record Passes (sig : PlainSignature) (item : DesugaredItem) : Type 0 where
  pub name : NamePasses sig item
  pub known : first_unknown sig item ≡ None

-- Something is to be found for the item: it is not explicit.
abbrev pub HasHidden : PlainSignature → DesugaredItem → Type 0
HasHidden sig item = explicit sig item ≡ None

-- The item has this core: it is explicit, or something is found for all that is not written.
pub data HasCore (sig : PlainSignature) (item : DesugaredItem) : PlainCore → Type 0 where
  is_explicit : {core : PlainCore} → explicit sig item ≡ Some core → HasCore sig item core
  is_found : {core : PlainCore} → HasHidden sig item → Reconstructs sig item.body core → HasCore sig item core

-- The rules form the type and give it to the object.
pub record IsTyped (sig : PlainSignature) (n : PlainObject) (a : PlainType) : Type 0 where
  pub formed : WellFormedType sig [] a
  pub has : HasType sig [] [] n a

-- The rules form the type and do not give it to the object, for this cause, at the part of the object to which the path leads.
pub record IsUntyped (sig : PlainSignature) (n : PlainObject) (a : PlainType) (path : List ℕ) (cause : Cause) : Type 0 where
  pub formed : WellFormedType sig [] a
  pub has_not : HasType sig [] [] n a → ⊥
  pub explained : ExplainedAt sig [] [] n a path cause

-- The rules do not form the type, for this cause, at the part of it to which the path leads.
pub record IsIllFormed (sig : PlainSignature) (a : PlainType) (path : List ℕ) (cause : Cause) : Type 0 where
  pub formed_not : WellFormedType sig [] a → ⊥
  pub explained : ExplainedInType sig [] a path cause

-- The rules refuse the core for this cause, at the part to which the path leads. The kind or type of a declaration has number 0. The type of
-- a check or an equation has number 0 and the object number 1, of an equation the second object number 2; they are judged in this order, and
-- the objects only at a type that is well formed.
pub data IsExplained (sig : PlainSignature) : PlainCore → List ℕ → Cause → Type 0 where
  in_class : {name : List ℕ} {e : PlainEntry} {path : List ℕ} {cause : Cause} → (WellFormedEntry sig e → ⊥) → ExplainedInClass sig e.class path cause
      → IsExplained sig (declares name e) (0 ∷ path) cause
  in_type : {n : PlainObject} {a : PlainType} {path : List ℕ} {cause : Cause} → IsIllFormed sig a path cause → IsExplained sig (checks n a) (0 ∷ path) cause
  in_object : {n : PlainObject} {a : PlainType} {path : List ℕ} {cause : Cause} → IsUntyped sig n a path cause → IsExplained sig (checks n a) (1 ∷ path) cause
  in_common_type : {n o : PlainObject} {a : PlainType} {path : List ℕ} {cause : Cause} → IsIllFormed sig a path cause → IsExplained sig (equates n o a) (0 ∷ path) cause
  in_first : {n o : PlainObject} {a : PlainType} {path : List ℕ} {cause : Cause} → IsUntyped sig n a path cause → IsExplained sig (equates n o a) (1 ∷ path) cause
  in_second : {n o : PlainObject} {a : PlainType} {path : List ℕ} {cause : Cause} → IsTyped sig n a → IsUntyped sig o a path cause → IsExplained sig (equates n o a) (2 ∷ path) cause

-- Queries and traces are out of reach so far.
abbrev pub IsBeyondReach : PlainCore → Type 0
IsBeyondReach (declares n e) = ⊥
IsBeyondReach (queries a) = Unit {0}
IsBeyondReach (traces t) = Unit {0}
IsBeyondReach (equates n o a) = ⊥
IsBeyondReach (checks n a) = ⊥

-- Why an item that passes is declined: by the rules, or since nothing can be found for what is not written, or since it is out of reach so far.
pub data Declined (sig : PlainSignature) (item : DesugaredItem) : PlainWhy → Type 0 where
  by_rules : {core : PlainCore} {path : List ℕ} {cause : Cause} → explicit sig item ≡ Some core → IsExplained sig core path cause → Declined sig item (kernel path cause)
  by_rules_found : {core : PlainCore} {path : List ℕ} {cause : Cause} → HasHidden sig item → Reconstructs sig item.body core → IsExplained sig core path cause
      → Declined sig item (rejected path cause)
  not_found : {why : PlainWhy} → HasHidden sig item → Declines sig item.body why → Declined sig item why
  not_answered : {core : PlainCore} → explicit sig item ≡ Some core → IsBeyondReach core → Declined sig item not_yet

-- The reply fits the core, and this is held after it.
pub data Fits (options : Options) (held : Held) : PlainCore → PlainReply → Held → Type 0 where
  -- A declaration that may follow the signature is its next entry.
  accepted : {name : List ℕ} {e : PlainEntry} → MayFollow held.signature (name, e)
      → Fits options held (declares name e) (entry (length held.signature)) (holding (held.signature ++ (name, e) ∷ []))
  -- The object is typed.
  typed : {n : PlainObject} {a : PlainType} → IsTyped held.signature n a → Fits options held (checks n a) (checked n a) held
  -- Both objects are typed, and joined.
  same : {n o : PlainObject} {a : PlainType} → IsTyped held.signature n a → IsTyped held.signature o a → Joined n o → Fits options held (equates n o a) equal_reply held
  -- Both are typed, and not joined.
  differing : {n o : PlainObject} {a : PlainType} → IsTyped held.signature n a → IsTyped held.signature o a → (Joined n o → ⊥) → Fits options held (equates n o a) different_reply held

-- The replies of an item without sugar.
pub data PlainAllowed (options : Options) (held : Held) (item : DesugaredItem) : PlainReply → Held → Type 0 where
  barred : {refusal : PlainRefusal} → Barred held.signature item refusal → PlainAllowed options held item (refused refusal) held
  declined : {why : PlainWhy} → Passes held.signature item → Declined held.signature item why
      → PlainAllowed options held item (refused (record { at = item.span.start; why = why })) held
  answered : {core : PlainCore} {reply : PlainReply} {new : Held} → Passes held.signature item → HasCore held.signature item core → Fits options held core reply new
      → PlainAllowed options held item reply new

-- Nothing is to be found for an item that passes: it is explicit.
abbrev pub NothingHidden : PlainSignature → DesugaredItem → Type 0
NothingHidden sig item = Passes sig item → HasHidden sig item → ⊥

-- What is said of a fault beyond the grammar. No item has lack of memory as its fault.
abbrev pub sugar_why : SugarFault → PlainWhy
sugar_why (KindPlace s) = kind_place
sugar_why (NotAsync s) = not_async
sugar_why (Redex s) = redex
sugar_why (OutOfRange s) = out_of_range
sugar_why (BadImplicit s) = bad_implicit
sugar_why NoMemory = not_yet

abbrev pub sugar_refusal : SugarFault → PlainRefusal
sugar_refusal fault = record { at = fault_start fault; why = sugar_why fault }

-- The replies of a task.
pub data Allowed (options : Options) (held : Held) : Task → PlainReply → Held → Type 0 where
  at_fault : {refusal : PlainRefusal} → Allowed options held (faulty refusal) (refused refusal) held
  sugar_fault : {item : WrittenItem} {fault : SugarFault} → first_fault item ≡ Some fault → Allowed options held (written item) (refused (sugar_refusal fault)) held
  plainly : {item : WrittenItem} {reply : PlainReply} {new : Held} → first_fault item ≡ None → PlainAllowed options held (desugared item) reply new
      → Allowed options held (written item) reply new

-- Nothing is to be found for what is written of the task, where it is an item that is read to its end.
abbrev pub AsksForNothing : Held → Task → Type 0
AsksForNothing held (written item) = NothingHidden held.signature (desugared item)
AsksForNothing held (faulty refusal) = Unit {0}
