-- The text of a tuple spells its entries.
use Rattle.std.proofs.Common.{ℕ, ◌≡◌, ◌+◌, ◌≤◌, Bool, false, not, refl, List, ◌∷◌, ◌++◌, codes, arith}
use Rattle.clf_syntax.specs.declared.tree.Mode.{Mode}
use Rattle.clf_syntax.specs.declared.tree.Mode.TheVariants.{Persistent, Affine, Linear}
use Rattle.celf_lexer.specs.declared.token.TokenKind.TheVariants as kind
use Rattle.celf_lexer.specs.Tokens.{Lexeme}
use Rattle.celf_lexer.proofs.Spelling.{BeginsWith}
use Rattle.celf_surface.specs.Surface.{WrittenTuple, tuple_one, tuple_list, tuple_marked, tuple_bare, tuples_of}
use Rattle.celf_grammar.specs.State.{State, next_kind, Takes, TakesOne}
use Rattle.celf_grammar.specs.Grammar.{is_let, IsTuple, tup_one, tup_list, tup_persistent, tup_affine, tup_bare, IsTuples, tups_first, tups_more}
use Rattle.celf_sugar.specs.PlainTree as plain
use Rattle.clf_printer.specs.Text.{tuple_entry_text, grouped}
use Rattle.celf_spelling.specs.Printed.{mark_for}
use Rattle.celf_spelling.proofs.Signs.{tokens-one, tokens-bang, tokens-at, tokens-left_bracket}
use Rattle.celf_spelling.proofs.Standing.{state, behind, end_of, taken-first, takes-first, opening-first, IsRead, Stands}
use Rattle.celf_spelling.proofs.ObjectStanding.{AtomStands, ObjectStands, object-no_let}
use Rattle.celf_spelling.proofs.ObjectSpelled.{SpellsAs, as-object, as-atom}
use Rattle.celf_spelling.proofs.Sequences.{SpellsPart, IsSequence, part-map, spells-one, spells-more, spells-brackets}
use Rattle.celf_spelling.proofs.Written.{IsWritten, IsWrittenTuple, IsWrittenEntry, AreWrittenEntries, written-entry, written-no_entries, written-one_entry, written-last_entry, written-more_entries, written-entries}

-- The tokens stand for a tuple, and do not begin with `let`.
pub record TupleStands (P : WrittenTuple → Type 0) (ts us : List Lexeme) : Type 0 where
  pub begins : is_let (next_kind ts) ≡ false
  pub stands : Stands IsTuple P ts us

tuples-cons : {s u v w : State} {t : WrittenTuple} {xs : List WrittenTuple} → IsTuple s t u → Takes kind.Comma u v → IsTuples v xs w → IsTuples s (t ∷ xs) w
tuples-cons a c (tups_first b) = tups_more (tups_first a) c b
tuples-cons a c (tups_more bs d b) = tups_more (tuples-cons a c bs) d b

-- several tuples in brackets
abbrev list_of : List WrittenTuple → WrittenTuple
list_of ts = tuple_list (tuples_of ts)

tuple_sequence : IsSequence IsTuple IsTuples list_of
tuple_sequence = record { one = λ a. tups_first a; more = λ a c b. tuples-cons a c b; brackets = λ l a ends r. tup_list l a ends r }

-- ---- entries

bang-stands : (o : plain.DesugaredObject) (rest : List ℕ) (ts us : List Lexeme) (b : BeginsWith kind.Bang (codes "!") rest ts) → AtomStands (IsWritten o) b.others us
    → TupleStands (IsWrittenEntry (mark_for Persistent) o) ts us
bang-stands o rest ts us b a = record { begins = rw (b.is, b.kind_is) refl; stands = record { depth = a.depth; opened = 0; fits = omega (arith, a.fits, opening-first b); read = read } }
  where
    read : (m e : ℕ) → a.depth ≤ m → IsRead IsTuple (IsWrittenEntry (mark_for Persistent) o) (state ts (0 + m) e) us m
    read m e h =
        let none : 0 + m ≡ m = omega arith in
        let part = a.read m (end_of b.first) h in
        rw none (record { tree = tuple_marked Persistent part.tree; has = written-entry Persistent o part.tree part.has; end = part.end; parse = tup_persistent (takes-first b m e) part.parse })

at-stands : (o : plain.DesugaredObject) (rest : List ℕ) (ts us : List Lexeme) (b : BeginsWith kind.AtSign (codes "@") rest ts) → AtomStands (IsWritten o) b.others us
    → TupleStands (IsWrittenEntry (mark_for Affine) o) ts us
at-stands o rest ts us b a = record { begins = rw (b.is, b.kind_is) refl; stands = record { depth = a.depth; opened = 0; fits = omega (arith, a.fits, opening-first b); read = read } }
  where
    read : (m e : ℕ) → a.depth ≤ m → IsRead IsTuple (IsWrittenEntry (mark_for Affine) o) (state ts (0 + m) e) us m
    read m e h =
        let none : 0 + m ≡ m = omega arith in
        let part = a.read m (end_of b.first) h in
        rw none (record { tree = tuple_marked Affine part.tree; has = written-entry Affine o part.tree part.has; end = part.end; parse = tup_affine (takes-first b m e) part.parse })

bare-stands : (o : plain.DesugaredObject) (ts us : List Lexeme) → ObjectStands (IsWritten o) ts us → TupleStands (IsWrittenEntry (mark_for Linear) o) ts us
bare-stands o ts us a = record { begins = object-no_let (next_kind ts) a.begins; stands = record { depth = a.depth; opened = a.opened; fits = a.fits; read = read } }
  where
    read : (m e : ℕ) → a.depth ≤ m → IsRead IsTuple (IsWrittenEntry (mark_for Linear) o) (state ts (a.opened + m) e) us m
    read m e h =
        let part = a.read m e h in
        record { tree = tuple_bare part.tree; has = written-entry Linear o part.tree part.has; end = part.end; parse = tup_bare part.parse }

-- The text of an entry spells it.
pub entry-spelled : (m : Mode) (atom : Bool) (o : plain.DesugaredObject) (x : List ℕ) → SpellsAs atom (IsWritten o) x → SpellsPart (TupleStands (IsWrittenEntry (mark_for m) o)) (tuple_entry_text m atom x)
entry-spelled Persistent atom o x s rest ts ends follows tokens =
    let b = tokens-bang (grouped (not atom) x ++ rest) ts tokens in
    let part = as-atom atom (IsWritten o) x s rest b.others ends b.rest_tokens in
    record { others = part.others; rest_tokens = part.rest_tokens; stands = bang-stands o _ ts part.others b part.stands }
entry-spelled Affine atom o x s rest ts ends follows tokens =
    let b = tokens-at (grouped (not atom) x ++ rest) ts tokens in
    let part = as-atom atom (IsWritten o) x s rest b.others ends b.rest_tokens in
    record { others = part.others; rest_tokens = part.rest_tokens; stands = at-stands o _ ts part.others b part.stands }
entry-spelled Linear atom o x s rest ts ends follows tokens =
    let part = as-object atom (IsWritten o) x s rest ts ends follows tokens in
    record { others = part.others; rest_tokens = part.rest_tokens; stands = bare-stands o ts part.others part.stands }

entry-alone : (m : Mode) (o : plain.DesugaredObject) (x : List ℕ) → SpellsPart (TupleStands (IsWrittenEntry (mark_for m) o)) x → SpellsPart (Stands IsTuple (IsWrittenEntry (mark_for m) o)) x
entry-alone m o x s = part-map (TupleStands (IsWrittenEntry (mark_for m) o)) (Stands IsTuple (IsWrittenEntry (mark_for m) o)) x (λ ts us a. a.stands) s

pub last-spelled : (m : Mode) (o : plain.DesugaredObject) (x : List ℕ) → SpellsPart (TupleStands (IsWrittenEntry (mark_for m) o)) x
    → SpellsPart (Stands IsTuples (AreWrittenEntries (plain.entry (mark_for m) o plain.end_of_tuple))) x
last-spelled m o x s =
    spells-one IsTuple IsTuples list_of tuple_sequence (IsWrittenEntry (mark_for m) o) (AreWrittenEntries (plain.entry (mark_for m) o plain.end_of_tuple)) x
    (λ t p. written-last_entry (mark_for m) o t p) (entry-alone m o x s)

pub more-spelled : (m : Mode) (o : plain.DesugaredObject) (d : plain.DesugaredTuple) (x y : List ℕ) → SpellsPart (TupleStands (IsWrittenEntry (mark_for m) o)) x
    → SpellsPart (Stands IsTuples (AreWrittenEntries d)) y → SpellsPart (Stands IsTuples (AreWrittenEntries (plain.entry (mark_for m) o d))) (x ++ codes ", " ++ y)
more-spelled m o d x y s t =
    spells-more IsTuple IsTuples list_of tuple_sequence (IsWrittenEntry (mark_for m) o) (AreWrittenEntries d) (AreWrittenEntries (plain.entry (mark_for m) o d)) x y (entry-alone m o x s) t
    (λ t ts p q. written-more_entries (mark_for m) o d t ts p q)

-- ---- whole tuples

one-stands : (rest : List ℕ) (ts : List Lexeme) (b : BeginsWith kind.Number (codes "1") rest ts) → TupleStands (IsWrittenTuple plain.end_of_tuple) ts b.others
one-stands rest ts b = record { begins = rw (b.is, b.kind_is) refl; stands = record { depth = 0; opened = 0; fits = omega (arith, opening-first b); read = read } }
  where
    read : (m e : ℕ) → 0 ≤ m → IsRead IsTuple (IsWrittenTuple plain.end_of_tuple) (state ts (0 + m) e) b.others m
    read m e h =
        let none : 0 + m ≡ m = omega arith in
        let one : TakesOne (state ts m e) (behind b.first b.others m) = record { token = b.first; taken = taken-first b m m e; kind = b.kind_is; spelled = b.spelled } in
        rw none (record { tree = tuple_one; has = written-no_entries; end = end_of b.first; parse = tup_one one })

pub no_entries-spelled : SpellsPart (TupleStands (IsWrittenTuple plain.end_of_tuple)) (codes "1")
no_entries-spelled rest ts ends follows tokens =
    let b = tokens-one rest ts ends tokens in
    record { others = b.others; rest_tokens = b.rest_tokens; stands = one-stands rest ts b }

one_entry-stands : (m : Mode) (o : plain.DesugaredObject) (ts us : List Lexeme) → TupleStands (IsWrittenEntry (mark_for m) o) ts us
    → TupleStands (IsWrittenTuple (plain.entry (mark_for m) o plain.end_of_tuple)) ts us
one_entry-stands m o ts us a = record {
  begins = a.begins;
  stands = record {
    depth = a.stands.depth;
    opened = a.stands.opened;
    fits = a.stands.fits;
    read = λ n e h. let part = a.stands.read n e h in record { tree = part.tree; has = written-one_entry (mark_for m) o part.tree part.has; end = part.end; parse = part.parse };
  };
}

pub one_entry-spelled : (m : Mode) (o : plain.DesugaredObject) (x : List ℕ) → SpellsPart (TupleStands (IsWrittenEntry (mark_for m) o)) x
    → SpellsPart (TupleStands (IsWrittenTuple (plain.entry (mark_for m) o plain.end_of_tuple))) x
one_entry-spelled m o x s = part-map (TupleStands (IsWrittenEntry (mark_for m) o)) (TupleStands (IsWrittenTuple (plain.entry (mark_for m) o plain.end_of_tuple))) x (one_entry-stands m o) s

pub entries-spelled : (d : plain.DesugaredTuple) (x : List ℕ) → SpellsPart (Stands IsTuples (AreWrittenEntries d)) x → SpellsPart (TupleStands (IsWrittenTuple d)) (codes "[" ++ x ++ codes "]")
entries-spelled d x s rest ts ends follows tokens =
    let part = spells-brackets IsTuple IsTuples list_of tuple_sequence (AreWrittenEntries d) (IsWrittenTuple d) x (λ ts p. written-entries d ts p) s rest ts ends follows tokens in
    let b = tokens-left_bracket ((x ++ codes "]") ++ rest) ts tokens in
    record { others = part.others; rest_tokens = part.rest_tokens; stands = record { begins = rw (b.is, b.kind_is) refl; stands = part.stands } }
