-- From what the functions below `answer_item` find of an item to its reply.
use Rattle.std.proofs.Common.{ℕ, ◌≡◌, ◌≢◌, true, false, refl, sym, ap, ◌∙◌, subst, Option, Some, None, is_some, option_map, List, [], ◌∷◌, ◌++◌, length, map, Result, Ok, Err, inl, inr}
use Rattle.std.specs.Prelude.{IfOk, OnOk, IfErr}
use Rattle.std.proofs.lemmas.List.{length-map}
use Rattle.clf_syntax.specs.Word.{is_declarable}
use Rattle.clf_syntax.specs.declared.fault.Want.{Want}
use Rattle.clf_syntax.specs.declared.fault.Want.TheVariants.{NoMemory as no_memory, TooFar as too_far}
use Rattle.clf_syntax.specs.declared.fault.OrWide.{OrWide}
use Rattle.clf_syntax.specs.declared.fault.OrWide.TheVariants.{Fault, NoMemory, TooFar}
use Rattle.clf_syntax.specs.Wide.{IsWant}
use Rattle.clf_sig.specs.declared.entry.Entry.{Entry}
use Rattle.clf_sig.specs.Entry.{entry_limit, PlainEntry, PlainSignature, place_of}
use Rattle.clf_sig.specs.Signature.{Declared as Declarations, plain_signature, plain_entry}
use Rattle.clf_sig.proofs.Names.{plain_signature-append}
use Rattle.clf_rules.specs.WellFormed.{WellFormedEntry}
use Rattle.clf_kernel.specs.Exact.{ChecksEntry}
use Rattle.clf_kernel.specs.declared.refusal.Refusal.{Refusal}
use Rattle.clf_kernel.specs.Answers.{plain_cause}
use Rattle.clf_syntax.specs.Tree.{PlainObject}
use Rattle.clf_syntax.specs.TypeTree.{PlainType}
use Rattle.celf_surface.specs.declared.surface.Span.{Span}
use Rattle.celf_surface.specs.Surface.{WrittenBody, WrittenItem, declare, query, trace, equal, check}
use Rattle.celf_parser.specs.Place.{HasDeclarableName}
use Rattle.celf_sugar.specs.declared.fault.SugarFault.{SugarFault}
use Rattle.celf_sugar.specs.declared.fault.SugarFault.TheVariants.{NoMemory as NoRoom}
use Rattle.celf_sugar.specs.PlainTree.{DesugaredBody, DesugaredItem}
use Rattle.celf_sugar.specs.Sugar.{body, desugared}
use Rattle.celf_sugar.specs.Faults.{first_fault}
use Rattle.celf_sugar.specs.Answers.{IsFirst}
use Rattle.celf_unknown.specs.Unknown.{first_unknown}
use Rattle.celf_places.proofs.Options.{option_map-some}
use Rattle.celf_replies.specs.declared.reply.Reply.{Reply}
use Rattle.celf_replies.specs.Reply.{duplicate, full, unknown_name, PlainReply, plain_reply, entry, equal as equal_reply, different as different_reply, refused}
use Rattle.celf_run.specs.declared.options.Options.{Options}
use Rattle.clf_sig.specs.Core.{PlainCore, declares, queries, traces, equates, checks}
use Rattle.celf_unknown.specs.Fault.{standing}
use Rattle.celf_explicit.specs.Explicit.{explicit}
use Rattle.celf_reconstruct.specs.Reconstructed.{Reconstructs, found_check, found_declaration}
use Rattle.celf_run.specs.Source.{written}
use Rattle.celf_run.specs.Allowed.{Held, holding, declared_name, NameBarred, is_duplicate, is_full, NamePasses, Barred, by_unknown, HasHidden, is_explicit, is_found, Passes, IsTyped, IsBeyondReach, Fits, typed, in_class, in_type, in_object, in_common_type, in_first, in_second, by_rules, by_rules_found, not_answered, accepted, same, differing, PlainAllowed, declined, answered, Allowed, sugar_fault, plainly, sugar_refusal}
use Rattle.celf_run.specs.Answering.{MayBeDeclared, MayBeAdded, AnswersCore, fits, explained, beyond, refused_by_rules, FormsClosed, JudgesClosed, IsReplyToFault, ExplainsCore, Compares, reply_of_found}
use Rattle.celf_run.proofs.Cores.{unnamed, written-fits, declared-fits}
use Rattle.celf_run.proofs.Leads.{declared-for}

none_of : {A : Type 0} (r : Option A) → is_some r ≡ false → r ≡ None
none_of None h = refl
none_of (Some k) h = cc

pub not-placed : (sig : PlainSignature) (name : List ℕ) (r : Option ℕ) → r ≡ place_of name sig → is_some r ≡ false → place_of name sig ≡ None
not-placed sig name r e h = sym e ∙ none_of r h

pub plain-length : (sig : Declarations) → length (plain_signature sig) ≡ length sig
plain-length sig = length-map sig (λ d. (d.0, plain_entry d.1))

-- The signature with one more declaration, in plain form.
pub plain-added : (old new : Declarations) (name : List ℕ) (e : Entry) → new ≡ old ++ (name, e) ∷ [] → plain_signature new ≡ plain_signature old ++ (name, plain_entry e) ∷ []
plain-added old new name e h = ap plain_signature h ∙ plain_signature-append old ((name, e) ∷ [])

-- ---- names

-- The name that an item declares may be declared, with so many implicit arguments.
pub may-be-declared : (item : WrittenItem) (plain : DesugaredItem) → plain ≡ desugared item → first_fault item ≡ None → HasDeclarableName item.body → MayBeDeclared plain
may-be-declared item plain is clean h = record {
  name = λ name e. go name item.body h (ap (λ (p : DesugaredItem). declared_name p.body) (sym is) ∙ e);
  implicit = λ name count class e. written-fits item clean name count class (ap (λ (p : DesugaredItem). p.body) (sym is) ∙ e);
}
  where
    go : (name : List ℕ) (b : WrittenBody) → HasDeclarableName b → declared_name (body b) ≡ Some name → is_declarable name ≡ true
    go name (declare n i t) h e = let n_is : n ≡ name = cc in subst (λ (x : List ℕ). is_declarable x ≡ true) n_is h
    go name (query d e' l a t) h e = absurd (cc)
    go name (trace n t) h e = absurd (cc)
    go name (equal l r t) h e = absurd (cc)
    go name (check o t) h e = absurd (cc)

-- An item that declares no name passes.
pub nameless-passes : (sig : PlainSignature) (item : DesugaredItem) → declared_name item.body ≡ None → NamePasses sig item
nameless-passes sig item none why (is_duplicate {name = name} h p) = let g : None ≡ Some name = sym none ∙ h in absurd (cc)
nameless-passes sig item none why (is_full {name = name} h p l) = let g : None ≡ Some name = sym none ∙ h in absurd (cc)

pub name-placed : (sig : PlainSignature) (item : DesugaredItem) (name : List ℕ) (r : Option ℕ) → declared_name item.body ≡ Some name → r ≡ place_of name sig
    → is_some r ≡ true → NameBarred sig item (duplicate name)
name-placed sig item name None d e h = absurd (cc)
name-placed sig item name (Some k) d e h = is_duplicate d (sym e)

pub new-passes : (sig : PlainSignature) (item : DesugaredItem) (name : List ℕ) → declared_name item.body ≡ Some name → place_of name sig ≡ None → (length sig ≡ entry_limit → ⊥) → NamePasses sig item
new-passes sig item name d new space why (is_duplicate {name = other} {k = k} h p) =
    let same : ◌≡◌ {A = Option (List ℕ)} (Some name) (Some other) = sym d ∙ h in
    let name_is : name ≡ other = cc in
    let placed : place_of name sig ≡ Some k = subst (λ (n : List ℕ). place_of n sig ≡ Some k) (sym name_is) p in
    let g : ◌≡◌ {A = Option ℕ} None (Some k) = sym new ∙ placed in absurd (cc)
new-passes sig item name d new space why (is_full h p l) = space l

-- A name against which nothing stands is new, and there is room for it.
passes-new : (sig : PlainSignature) (item : DesugaredItem) (name : List ℕ) → NamePasses sig item → declared_name item.body ≡ Some name → place_of name sig ≡ None
passes-new sig item name passes d = go (place_of name sig) refl
  where
    go : (r : Option ℕ) → place_of name sig ≡ r → place_of name sig ≡ None
    go None e = e
    go (Some k) e = absurd (passes (duplicate name) (is_duplicate d e))

-- ---- cores

pub may-be-added : (sig : PlainSignature) (item : DesugaredItem) (core : PlainCore) → MayBeDeclared item → NamePasses sig item → explicit sig item ≡ Some core → MayBeAdded sig core
may-be-added sig item (declares n e) may passes h =
    let read = declared-fits sig item n e may.implicit h in
    let new = passes-new sig item n passes read.0 in
    (new, (λ l. passes full (is_full read.0 new l)), may.name n read.0, read.1)
may-be-added sig item (queries a) may passes h = tt
may-be-added sig item (traces t) may passes h = tt
may-be-added sig item (equates n o a) may passes h = tt
may-be-added sig item (checks n a) may passes h = tt

-- A well-formed entry that may be added is accepted.
pub accepts : (options : Options) (sig new : PlainSignature) (at : ℕ) (name : List ℕ) (e : PlainEntry) (reply : PlainReply) → MayBeAdded sig (declares name e) → WellFormedEntry sig e
    → reply ≡ entry (length sig) → new ≡ sig ++ (name, e) ∷ [] → AnswersCore options (holding sig) at (declares name e) reply (holding new)
accepts options sig new at name e reply may formed is added =
    let fit : AnswersCore options (holding sig) at (declares name e) (entry (length sig)) (holding (sig ++ (name, e) ∷ [])) =
    fits (accepted (may.2, unnamed sig name may.0, formed)) in
    subst (λ (r : PlainReply). AnswersCore options (holding sig) at (declares name e) r (holding new)) (sym is)
    (subst (λ (s : PlainSignature). AnswersCore options (holding sig) at (declares name e) (entry (length sig)) (holding s)) (sym added) fit)

-- What the kernel tells against a part of a core is said, or what is wanted.
pub fault-told : (options : Options) (sig : PlainSignature) (at part : ℕ) (core : PlainCore) (fault : OrWide Refusal) (r : Result Reply Want) → ExplainsCore sig core part fault → IsReplyToFault at part fault r
    → IfOk r (λ reply. AnswersCore options (holding sig) at core (plain_reply reply) (holding sig)) × IfErr r IsWant
fault-told options sig at part core (Fault f) (Ok reply) why is =
    let told : AnswersCore options (holding sig) at core (refused_by_rules at (part ∷ f.path.items) (plain_cause f.cause)) (holding sig) = explained why in
    (subst (λ (x : PlainReply). AnswersCore options (holding sig) at core x (holding sig)) (sym is) told, tt)
fault-told options sig at part core (Fault f) (Err want) why is = (tt, is)
fault-told options sig at part core NoMemory (Ok reply) why is = absurd (cc)
fault-told options sig at part core NoMemory (Err want) why is = let want_is : no_memory ≡ want = cc in (tt, subst IsWant want_is tt)
fault-told options sig at part core (TooFar w) (Ok reply) why is = absurd (cc)
fault-told options sig at part core (TooFar w) (Err want) why is = let want_is : too_far w ≡ want = cc in (tt, subst IsWant want_is why)

-- against an entry
pub entry-fault : (sig : PlainSignature) (name : List ℕ) (e : PlainEntry) (fault : OrWide Refusal) → ChecksEntry sig e (Err fault) → ExplainsCore sig (declares name e) 0 fault
entry-fault sig name e (Fault f) told = in_class told.0 told.1
entry-fault sig name e NoMemory told = tt
entry-fault sig name e (TooFar w) told = told

-- against a type or an object of a check
pub type-fault : (sig : PlainSignature) (n : PlainObject) (a : PlainType) (fault : OrWide Refusal) → FormsClosed sig a (Err fault) → ExplainsCore sig (checks n a) 0 fault
type-fault sig n a (Fault f) told = in_type told
type-fault sig n a NoMemory told = tt
type-fault sig n a (TooFar w) told = told

pub object-fault : (sig : PlainSignature) (n : PlainObject) (a : PlainType) (fault : OrWide Refusal) → JudgesClosed sig n a (Err fault) → ExplainsCore sig (checks n a) 1 fault
object-fault sig n a (Fault f) told = in_object told
object-fault sig n a NoMemory told = tt
object-fault sig n a (TooFar w) told = told

-- and of an equation
pub common-fault : (sig : PlainSignature) (n o : PlainObject) (a : PlainType) (fault : OrWide Refusal) → FormsClosed sig a (Err fault) → ExplainsCore sig (equates n o a) 0 fault
common-fault sig n o a (Fault f) told = in_common_type told
common-fault sig n o a NoMemory told = tt
common-fault sig n o a (TooFar w) told = told

pub first-fault : (sig : PlainSignature) (n o : PlainObject) (a : PlainType) (fault : OrWide Refusal) → JudgesClosed sig n a (Err fault) → ExplainsCore sig (equates n o a) 1 fault
first-fault sig n o a (Fault f) told = in_first told
first-fault sig n o a NoMemory told = tt
first-fault sig n o a (TooFar w) told = told

pub second-fault : (sig : PlainSignature) (n o : PlainObject) (a : PlainType) (fault : OrWide Refusal) → IsTyped sig n a → JudgesClosed sig o a (Err fault) → ExplainsCore sig (equates n o a) 2 fault
second-fault sig n o a (Fault f) t told = in_second t told
second-fault sig n o a NoMemory t told = tt
second-fault sig n o a (TooFar w) t told = told

-- Two typed objects are compared.
pub comparison-told : (options : Options) (sig : PlainSignature) (at : ℕ) (n o : PlainObject) (a : PlainType) (reply : PlainReply) → IsTyped sig n a → IsTyped sig o a → Compares n o reply
    → AnswersCore options (holding sig) at (equates n o a) reply (holding sig)
comparison-told options sig at n o a reply t u (inl (is, joined)) =
    let told : AnswersCore options (holding sig) at (equates n o a) equal_reply (holding sig) = fits (same t u joined) in
    subst (λ (x : PlainReply). AnswersCore options (holding sig) at (equates n o a) x (holding sig)) (sym is) told
comparison-told options sig at n o a reply t u (inr (is, apart)) =
    let told : AnswersCore options (holding sig) at (equates n o a) different_reply (holding sig) = fits (differing t u apart) in
    subst (λ (x : PlainReply). AnswersCore options (holding sig) at (equates n o a) x (holding sig)) (sym is) told

pub compared-told : (options : Options) (sig : PlainSignature) (at : ℕ) (n o : PlainObject) (a : PlainType) (r : Result Reply Want) → IsTyped sig n a → IsTyped sig o a
    → IfOk r (λ reply. Compares n o (plain_reply reply)) → IfOk r (λ reply. AnswersCore options (holding sig) at (equates n o a) (plain_reply reply) (holding sig))
compared-told options sig at n o a (Ok reply) t u told = comparison-told options sig at n o a (plain_reply reply) t u told
compared-told options sig at n o a (Err want) t u told = tt

-- What a core comes to answers its item.
pub core-allowed : (options : Options) (old new : PlainSignature) (item : DesugaredItem) (core : PlainCore) (reply : PlainReply) → NamePasses old item → first_unknown old item ≡ None
    → explicit old item ≡ Some core → AnswersCore options (holding old) item.span.start core reply (holding new) → PlainAllowed options (holding old) item reply (holding new)
core-allowed options old new item core reply passes known h (fits f) = answered (record { name = passes; known = known }) (is_explicit h) f
core-allowed options old new item core reply passes known h (explained x) = declined (record { name = passes; known = known }) (by_rules h x)
core-allowed options old new item core reply passes known h (beyond x) = declined (record { name = passes; known = known }) (not_answered h x)

pub core-answers : (options : Options) (old new : PlainSignature) (item : DesugaredItem) (core : PlainCore) (r : Result Reply Want) → NamePasses old item → first_unknown old item ≡ None
    → explicit old item ≡ Some core → IfOk r (λ reply. AnswersCore options (holding old) item.span.start core (plain_reply reply) (holding new))
    → IfOk r (λ reply. PlainAllowed options (holding old) item (plain_reply reply) (holding new))
core-answers options old new item core (Ok reply) passes known h a = core-allowed options old new item core (plain_reply reply) passes known h a
core-answers options old new item core (Err e) passes known h a = tt

-- ---- cores that are found

pub found-may-be-added : (sig : PlainSignature) (item : DesugaredItem) (core : PlainCore) → MayBeDeclared item → NamePasses sig item → Reconstructs sig item.body core → MayBeAdded sig core
found-may-be-added sig item (declares name e) may passes (found_check c f n) = absurd c
found-may-be-added sig item (declares name e) may passes (found_declaration {vs = vs} {unnamed = unnamed} {written = count} {class = class} {types = types} {binders = binders} f n b d) =
    let is = declared-for sig item.body vs unnamed name count class types binders e f b d may.implicit in
    let new = passes-new sig item name passes is.0 in
    (new, (λ l. passes full (is_full is.0 new l)), may.name name is.0, is.1)
found-may-be-added sig item (queries a) may passes r = tt
found-may-be-added sig item (traces t) may passes r = tt
found-may-be-added sig item (equates n o a) may passes r = tt
found-may-be-added sig item (checks n a) may passes r = tt

-- No query and no trace is found.
found-in-reach : (sig : PlainSignature) (body : DesugaredBody) (core : PlainCore) → Reconstructs sig body core → IsBeyondReach core → ⊥
found-in-reach sig body (declares name e) r b = b
found-in-reach sig body (queries a) (found_check c f n) b = c
found-in-reach sig body (traces t) (found_check c f n) b = c
found-in-reach sig body (equates n o a) r b = b
found-in-reach sig body (checks n a) r b = b

-- What fits is no refusal, and so is said as it is.
fits-said : (options : Options) (held new : Held) (core : PlainCore) (reply : PlainReply) → Fits options held core reply new → Fits options held core (reply_of_found reply) new
fits-said options held new core reply (accepted may) = accepted may
fits-said options held new core reply (typed t) = typed t
fits-said options held new core reply (same t u j) = same t u j
fits-said options held new core reply (differing t u j) = differing t u j

found-allowed : (options : Options) (old new : PlainSignature) (item : DesugaredItem) (core : PlainCore) (reply : PlainReply) → Passes old item → HasHidden old item
    → Reconstructs old item.body core → AnswersCore options (holding old) item.span.start core reply (holding new) → PlainAllowed options (holding old) item (reply_of_found reply) (holding new)
found-allowed options old new item core reply p hidden r (fits f) = answered p (is_found hidden r) (fits-said options (holding old) (holding new) core reply f)
found-allowed options old new item core reply p hidden r (explained x) = declined p (by_rules_found hidden r x)
found-allowed options old new item core reply p hidden r (beyond x) = absurd (found-in-reach old item.body core r x)

-- What the core that is found comes to answers its item, said as of what is found.
pub found-answers : (options : Options) (old new : PlainSignature) (item : DesugaredItem) (core : PlainCore) (reply said : PlainReply) → Passes old item → HasHidden old item
    → Reconstructs old item.body core → AnswersCore options (holding old) item.span.start core reply (holding new) → said ≡ reply_of_found reply
    → PlainAllowed options (holding old) item said (holding new)
found-answers options old new item core reply said p hidden r a is =
    subst (λ (x : PlainReply). PlainAllowed options (holding old) item x (holding new)) (sym is) (found-allowed options old new item core reply p hidden r a)

-- ---- items

-- What answers an item without sugar answers the item that it is the plain form of.
pub plainly-answers : (options : Options) (old new : PlainSignature) (item : WrittenItem) (plain : DesugaredItem) (r : Result Reply Want) → first_fault item ≡ None → plain ≡ desugared item
    → IfOk r (λ reply. PlainAllowed options (holding old) plain (plain_reply reply) (holding new))
    → IfOk r (λ reply. Allowed options (holding old) (written item) (plain_reply reply) (holding new))
plainly-answers options old new item plain (Ok reply) clean is a =
    plainly clean (subst (λ (p : DesugaredItem). PlainAllowed options (holding old) p (plain_reply reply) (holding new)) is a)
plainly-answers options old new item plain (Err e) clean is a = tt

-- A fault beyond the grammar is refused.
pub sugar-answers : (options : Options) (sig : PlainSignature) (item : WrittenItem) (f : SugarFault) (r : Result Reply Want) → IsFirst f (first_fault item) → OnOk r (f ≢ NoRoom)
    → IfOk r (λ reply. plain_reply reply ≡ refused (sugar_refusal f)) → IfOk r (λ reply. Allowed options (holding sig) (written item) (plain_reply reply) (holding sig))
sugar-answers options sig item f (Ok reply) (inl e) n is = absurd (n e)
sugar-answers options sig item f (Ok reply) (inr e) n is =
    let told : Allowed options (holding sig) (written item) (refused (sugar_refusal f)) (holding sig) = sugar_fault e in
    subst (λ (r : PlainReply). Allowed options (holding sig) (written item) r (holding sig)) (sym is) told
sugar-answers options sig item f (Err x) e n is = tt

-- The first name without a meaning stands against an item.
pub unknown-barred : (sig : PlainSignature) (item : DesugaredItem) (name : List ℕ) (span : Span) → NamePasses sig item
    → option_map standing (first_unknown sig item) ≡ Some (name, span) → Barred sig item (record { at = span.start; why = unknown_name name })
unknown-barred sig item name span passes h =
    let found = option_map-some standing (first_unknown sig item) (name, span) h in
    let name_is : found.0.name ≡ name = ap (λ (p : List ℕ × Span). p.0) found.2 in
    let span_is : found.0.span ≡ span = ap (λ (p : List ℕ × Span). p.1) found.2 in
    let by : Barred sig item (record { at = found.0.span.start; why = unknown_name found.0.name }) = by_unknown passes found.1 in
    subst (λ (s : Span). Barred sig item (record { at = s.start; why = unknown_name name })) span_is
    (subst (λ (n : List ℕ). Barred sig item (record { at = found.0.span.start; why = unknown_name n })) name_is by)

-- What is added comes to an accepted declaration.
pub core-accepted : (options : Options) (sig new : PlainSignature) (at : ℕ) (name : List ℕ) (e : PlainEntry) (r : Result Reply Want) → MayBeAdded sig (declares name e) → WellFormedEntry sig e
    → IfOk r (λ reply. plain_reply reply ≡ entry (length sig)) → OnOk r (new ≡ sig ++ (name, e) ∷ [])
    → IfOk r (λ reply. AnswersCore options (holding sig) at (declares name e) (plain_reply reply) (holding new))
core-accepted options sig new at name e (Ok reply) may formed is added = accepts options sig new at name e (plain_reply reply) may formed is added
core-accepted options sig new at name e (Err x) may formed is added = tt
