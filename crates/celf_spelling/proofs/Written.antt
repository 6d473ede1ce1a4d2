-- Written trees of printed objects: what they are without sugar and places, and that they have no fault.
use Rattle.std.proofs.Common.{ℕ, ◌≡◌, Bool, refl, ap, sym, ◌∙◌, List, [], ◌∷◌, ◌++◌, append_assoc, append-nil, map, Option}
use Rattle.std.proofs.lemmas.List.{map-append}
use Rattle.clf_syntax.specs.declared.tree.Mode.{Mode}
use Rattle.clf_syntax.specs.declared.tree.Mode.TheVariants.{Persistent, Affine, Linear}
use Rattle.celf_surface.specs.declared.surface.SMode.{SMode}
use Rattle.celf_surface.specs.declared.surface.Span.{Span}
use Rattle.celf_surface.specs.Surface.{WrittenPattern, WrittenObject, lam, app, named, hole, unit, pair, braces, first, second, arguments_of, steps_of, WrittenTuple, tuple_one, tuple_list, tuple_marked, tuple_bare, tuples_of}
use Rattle.celf_grammar.specs.Grammar.{applied}
use Rattle.celf_sugar.specs.declared.plain.PName.{PName}
use Rattle.celf_sugar.specs.declared.plain.PBinder.{PBinder}
use Rattle.celf_sugar.specs.PlainTree as plain
use Rattle.celf_sugar.specs.Sugar.{binders, object, acts, arguments, head, steps, entries_of_tuple, entries_of_tuples}
use Rattle.celf_sugar.specs.Faults.{headless, redexes, argument_redexes, step_redexes, tuple_redexes, tuples_redexes}
use Rattle.celf_spelling.specs.Printed.{nowhere, mark_for, spelled}
use Rattle.celf_spelling.specs.Placeless.{placeless_name, placeless_object, placeless_spine, placeless_act, placeless_steps, placeless_tuple}

pub arguments-more : (xs : List (SMode × WrittenObject)) (m : SMode) (o : WrittenObject) → arguments (arguments_of (xs ++ (m, o) ∷ [])) ≡ arguments (arguments_of xs) ++ plain.argument m (object o) ∷ []
arguments-more [] m o = refl
arguments-more (x ∷ xs) m o = rw (arguments-more xs m o)

none-then : (xs ys zs : List Span) → xs ++ ys ≡ [] → (ys ≡ [] → zs ≡ []) → xs ++ zs ≡ []
none-then [] ys zs h next = next h
none-then (x ∷ xs) ys zs h next = absurd (cc)

pub argument_redexes-more : (xs : List (SMode × WrittenObject)) (m : SMode) (o : WrittenObject) → argument_redexes (arguments_of xs) ≡ [] → redexes o ≡ [] → argument_redexes (arguments_of (xs ++ (m, o) ∷ [])) ≡ []
argument_redexes-more [] m o h none = rw none
argument_redexes-more (x ∷ xs) m o h none = none-then (redexes x.1) (argument_redexes (arguments_of xs)) _ h (λ k. argument_redexes-more xs m o k none)

-- An object whose head is a name is that head with what is done to it.
pub object-headed : (o : WrittenObject) → headless o ≡ [] → (s : Span) × (object o ≡ plain.atomic s (head o) (plain.spine_of (acts o)))
object-headed (lam s m n b) h = absurd (cc)
object-headed (app s x as_) h = (s, refl)
object-headed (named s n d) h = (s, refl)
object-headed (hole s) h = absurd (cc)
object-headed (unit s) h = absurd (cc)
object-headed (pair s l r) h = absurd (cc)
object-headed (braces s ss t) h = absurd (cc)
object-headed (first s b) h = (s, refl)
object-headed (second s b) h = (s, refl)

placeless-spine : (as_ : List plain.DesugaredAct) → placeless_spine (plain.spine_of as_) ≡ plain.spine_of (map (λ a. placeless_act a) as_)
placeless-spine [] = refl
placeless-spine (a ∷ as_) = ap (plain.and_then (placeless_act a)) (placeless-spine as_)

-- The tree without its sugar and its places is this object, and it has no fault.
pub record IsWritten (o : plain.DesugaredObject) (tree : WrittenObject) : Type 0 where
  pub is : placeless_object (object tree) ≡ o
  pub no_redex : redexes tree ≡ []

-- The same of a tree applied to arguments: its head is a name, and this is done to it.
pub record IsWrittenNeutral (h : PName) (as_ : List plain.DesugaredAct) (tree : WrittenObject) (xs : List (SMode × WrittenObject)) : Type 0 where
  pub head_is : placeless_name (head tree) ≡ h
  pub acts_are : map (λ a. placeless_act a) (acts tree ++ arguments (arguments_of xs)) ≡ as_
  pub headed : headless tree ≡ []
  pub no_redex : redexes tree ≡ []
  pub no_others : argument_redexes (arguments_of xs) ≡ []

-- ---- neutrals

pub written-name : (s : Span) (n : List ℕ) (d : Bool) → IsWrittenNeutral (spelled n d) [] (named s n d) []
written-name s n d = record { head_is = refl; acts_are = refl; headed = refl; no_redex = refl; no_others = refl }

pub written-first : (h : PName) (as_ : List plain.DesugaredAct) (s : Span) (o : WrittenObject) → IsWrittenNeutral h as_ o [] → IsWrittenNeutral h (as_ ++ plain.first ∷ []) (first s o) []
written-first h as_ s o q =
    let before : map (λ a. placeless_act a) (acts o) ≡ as_ = rw (append-nil (acts o)) at q.acts_are in
    record {
      head_is = q.head_is;
      acts_are = rw (append-nil (acts o ++ plain.first ∷ []), map-append (λ a. placeless_act a) (acts o) (plain.first ∷ []), before) refl;
      headed = refl;
      no_redex = rw (q.headed, q.no_redex);
      no_others = refl;
    }

pub written-second : (h : PName) (as_ : List plain.DesugaredAct) (s : Span) (o : WrittenObject) → IsWrittenNeutral h as_ o [] → IsWrittenNeutral h (as_ ++ plain.second ∷ []) (second s o) []
written-second h as_ s o q =
    let before : map (λ a. placeless_act a) (acts o) ≡ as_ = rw (append-nil (acts o)) at q.acts_are in
    record {
      head_is = q.head_is;
      acts_are = rw (append-nil (acts o ++ plain.second ∷ []), map-append (λ a. placeless_act a) (acts o) (plain.second ∷ []), before) refl;
      headed = refl;
      no_redex = rw (q.headed, q.no_redex);
      no_others = refl;
    }

-- one more argument
pub written-applied : (h : PName) (as_ : List plain.DesugaredAct) (m : Mode) (o : plain.DesugaredObject) (tree x : WrittenObject) (xs : List (SMode × WrittenObject))
    → IsWrittenNeutral h as_ tree xs → IsWritten o x → IsWrittenNeutral h (as_ ++ plain.argument (mark_for m) o ∷ []) tree (xs ++ (mark_for m, x) ∷ [])
written-applied h as_ m o tree x xs q p =
    let before : List plain.DesugaredAct = acts tree ++ arguments (arguments_of xs) in
    let a : plain.DesugaredAct = plain.argument (mark_for m) (object x) in
    let acts_are : acts tree ++ arguments (arguments_of (xs ++ (mark_for m, x) ∷ [])) ≡ before ++ a ∷ [] =
    ap (λ y. acts tree ++ y) (arguments-more xs (mark_for m) x) ∙ sym (append_assoc (acts tree) (arguments (arguments_of xs)) (a ∷ [])) in
    record {
      head_is = q.head_is;
      acts_are = rw (acts_are, map-append (λ b. placeless_act b) before (a ∷ []), q.acts_are, p.is) refl;
      headed = q.headed;
      no_redex = q.no_redex;
      no_others = argument_redexes-more xs (mark_for m) x q.no_others p.no_redex;
    }

-- The application as one tree.
pub written-whole : (h : PName) (as_ : List plain.DesugaredAct) (s : Span) (tree : WrittenObject) (xs : List (SMode × WrittenObject)) → IsWrittenNeutral h as_ tree xs → IsWrittenNeutral h as_ (applied s tree xs) []
written-whole h as_ s tree [] q = q
written-whole h as_ s tree (x ∷ xs) q = record {
  head_is = q.head_is;
  acts_are = rw (append-nil (acts tree ++ arguments (arguments_of (x ∷ xs)))) q.acts_are;
  headed = refl;
  no_redex = rw (q.headed, q.no_redex, q.no_others);
  no_others = refl;
}

pub written-atomic : (h : PName) (as_ : List plain.DesugaredAct) (tree : WrittenObject) → IsWrittenNeutral h as_ tree [] → IsWritten (plain.atomic nowhere h (plain.spine_of as_)) tree
written-atomic h as_ tree q =
    let o = object-headed tree q.headed in
    let acts_are : map (λ a. placeless_act a) (acts tree) ≡ as_ = rw (append-nil (acts tree)) at q.acts_are in
    record { is = rw (o.1, placeless-spine (acts tree), acts_are, q.head_is) refl; no_redex = q.no_redex }

-- ---- objects

pub written-unit : (s : Span) → IsWritten (plain.unit nowhere) (unit s)
written-unit s = record { is = refl; no_redex = refl }

pub written-hole : (s : Span) → IsWritten (plain.hole nowhere) (hole s)
written-hole s = record { is = refl; no_redex = refl }

pub written-pair : (l r : plain.DesugaredObject) (s : Span) (x y : WrittenObject) → IsWritten l x → IsWritten r y → IsWritten (plain.pair nowhere l r) (pair s x y)
written-pair l r s x y p q = record { is = rw (p.is, q.is) refl; no_redex = rw (p.no_redex, q.no_redex) }

pub written-lambda : (m : SMode) (n : Option (List ℕ)) (o : plain.DesugaredObject) (s : Span) (x : WrittenObject) → IsWritten o x → IsWritten (plain.lam nowhere m n o) (lam s m n x)
written-lambda m n o s x p = record { is = rw p.is refl; no_redex = p.no_redex }

-- ---- tuples

pub record IsWrittenTuple (d : plain.DesugaredTuple) (tree : WrittenTuple) : Type 0 where
  pub is : placeless_tuple (plain.tuple_of (entries_of_tuple tree)) ≡ d
  pub no_redex : tuple_redexes tree ≡ []

-- a tuple of one entry
pub record IsWrittenEntry (m : SMode) (o : plain.DesugaredObject) (tree : WrittenTuple) : Type 0 where
  pub entry : plain.DesugaredObject
  pub entries : entries_of_tuple tree ≡ (m, entry) ∷ []
  pub is : placeless_object entry ≡ o
  pub no_redex : tuple_redexes tree ≡ []

-- the entries of several
pub record AreWrittenEntries (d : plain.DesugaredTuple) (trees : List WrittenTuple) : Type 0 where
  pub are : placeless_tuple (plain.tuple_of (entries_of_tuples (tuples_of trees))) ≡ d
  pub no_redex : tuples_redexes (tuples_of trees) ≡ []

-- an object in front of which the mark of the mode stands
abbrev pub marked_tuple : Mode → WrittenObject → WrittenTuple
marked_tuple Persistent x = tuple_marked Persistent x
marked_tuple Affine x = tuple_marked Affine x
marked_tuple Linear x = tuple_bare x

pub written-entry : (m : Mode) (o : plain.DesugaredObject) (x : WrittenObject) → IsWritten o x → IsWrittenEntry (mark_for m) o (marked_tuple m x)
written-entry Persistent o x p = record { entry = object x; entries = refl; is = p.is; no_redex = p.no_redex }
written-entry Affine o x p = record { entry = object x; entries = refl; is = p.is; no_redex = p.no_redex }
written-entry Linear o x p = record { entry = object x; entries = refl; is = p.is; no_redex = p.no_redex }

pub written-no_entries : IsWrittenTuple plain.end_of_tuple tuple_one
written-no_entries = record { is = refl; no_redex = refl }

pub written-one_entry : (m : SMode) (o : plain.DesugaredObject) (t : WrittenTuple) → IsWrittenEntry m o t → IsWrittenTuple (plain.entry m o plain.end_of_tuple) t
written-one_entry m o t p = record { is = rw (p.entries, p.is) refl; no_redex = p.no_redex }

pub written-last_entry : (m : SMode) (o : plain.DesugaredObject) (t : WrittenTuple) → IsWrittenEntry m o t → AreWrittenEntries (plain.entry m o plain.end_of_tuple) (t ∷ [])
written-last_entry m o t p = record { are = rw (p.entries, p.is) refl; no_redex = rw p.no_redex }

pub written-more_entries : (m : SMode) (o : plain.DesugaredObject) (d : plain.DesugaredTuple) (t : WrittenTuple) (trees : List WrittenTuple) → IsWrittenEntry m o t → AreWrittenEntries d trees
    → AreWrittenEntries (plain.entry m o d) (t ∷ trees)
written-more_entries m o d t trees p q = record { are = rw (p.entries, p.is, q.are) refl; no_redex = rw (p.no_redex, q.no_redex) }

pub written-entries : (d : plain.DesugaredTuple) (trees : List WrittenTuple) → AreWrittenEntries d trees → IsWrittenTuple d (tuple_list (tuples_of trees))
written-entries d trees p = record { is = p.are; no_redex = p.no_redex }

-- ---- expressions

pub record AreWrittenSteps (d : plain.DesugaredSteps) (xs : List (WrittenPattern × WrittenObject)) : Type 0 where
  pub are : placeless_steps (steps (steps_of xs)) ≡ d
  pub no_redex : step_redexes (steps_of xs) ≡ []

pub written-no_steps : AreWrittenSteps plain.no_steps []
written-no_steps = record { are = refl; no_redex = refl }

pub written-step : (bs : List PBinder) (h : PName) (as_ : List plain.DesugaredAct) (d : plain.DesugaredSteps) (p : WrittenPattern) (x : WrittenObject) (xs : List (WrittenPattern × WrittenObject))
    → binders p ≡ bs → IsWrittenNeutral h as_ x [] → AreWrittenSteps d xs → AreWrittenSteps (plain.step bs h (plain.spine_of as_) d) ((p, x) ∷ xs)
written-step bs h as_ d p x xs bound q r =
    let acts_are : map (λ a. placeless_act a) (acts x) ≡ as_ = rw (append-nil (acts x)) at q.acts_are in
    record { are = rw (bound, placeless-spine (acts x), acts_are, q.head_is, r.are) refl; no_redex = rw (q.headed, q.no_redex, r.no_redex) }

pub written-braces : (ds : plain.DesugaredSteps) (dt : plain.DesugaredTuple) (s : Span) (xs : List (WrittenPattern × WrittenObject)) (t : WrittenTuple) → AreWrittenSteps ds xs → IsWrittenTuple dt t
    → IsWritten (plain.monadic nowhere ds dt) (braces s (steps_of xs) t)
written-braces ds dt s xs t p q = record { is = rw (p.are, q.is) refl; no_redex = rw (p.no_redex, q.no_redex) }
