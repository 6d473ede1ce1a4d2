-- Texts that spell a type at a place: the grammar's productions, put together with enough room.
use Rattle.std.proofs.Common.{ℕ, ◌≡◌, ◌+◌, ◌-◌, ◌<◌, ◌≤◌, ◌^◌, suc, if◌then◌else◌, Bool, true, false, refl, sym, ◌∙◌, List, [], ◌∷◌, ◌++◌, append_assoc, append-nil, subst, Some, codes, arith, IsTrue}
use Rattle.clf_syntax.specs.declared.tree.Mode.{Mode}
use Rattle.clf_syntax.specs.declared.tree.Mode.TheVariants.{Persistent, Affine, Linear}
use Rattle.clf_syntax.specs.Word.{is_declarable}
use Rattle.celf_lexer.specs.declared.token.TokenKind.{TokenKind}
use Rattle.celf_lexer.specs.declared.token.TokenKind.TheVariants as kind
use Rattle.celf_lexer.specs.Tokens.{Lexeme}
use Rattle.celf_lexer.proofs.Spelling.{AreTokens, BeginsWith, ends_word, tokens-blank, tokens-arrow, tokens-lolli, tokens-affine, tokens-amp, tokens-top, tokens-left_paren, tokens-right_paren, tokens-colon, tokens-stop, tokens-name, tokens-constant_name}
use Rattle.celf_surface.specs.declared.surface.Span.{Span}
use Rattle.celf_surface.specs.Surface.{WrittenObject, WrittenType, pi, arrow, both, family, top}
use Rattle.celf_grammar.specs.Faults.{opens_part}
use Rattle.celf_grammar.specs.State.{State, next_kind, Takes, Opens, TakesName, TakesConstant}
use Rattle.celf_grammar.specs.Grammar.{forward_of, is_forward, is_backward, is_amp, is_star, is_left_bracket, begins_index, OpensArrow, IsType, type_all, back_first, IsForward, forward_pi, forward_alone, forward_arrow, sync_alone, factor_bare, IsWith, with_alone, with_pair, IsIndex, index_banged, IsIndices, indices_none, indices_more, IsFamilyName, family_name, family_constant, IsTypeAtom, atomty_family, atomty_top, atomty_group}
use Rattle.celf_sugar.specs.PlainTree as plain
use Rattle.clf_printer.specs.declared.place.Place.{Place}
use Rattle.clf_printer.specs.declared.place.Place.TheVariants.{Whole as whole, Operand as operand, Factor as factor}
use Rattle.clf_printer.specs.Text.{when, arrow_text, grouped, groups_function, groups_pair, new_variable_text, named_text}
use Rattle.celf_spelling.specs.Printed.{nowhere, spelled}
use Rattle.celf_spelling.specs.Spelling.{opening}
use Rattle.celf_spelling.proofs.Signs.{tokens-bang, tokens-pi}
use Rattle.celf_spelling.proofs.Variables.{variable-declarable}
use Rattle.celf_spelling.proofs.Standing.{state, behind, end_of, taken-first, takes-first, opens-first, closes-first, opening-first, IsRead, Stands, StandsFirst}
use Rattle.celf_spelling.proofs.ObjectStanding.{AtomStands}
use Rattle.celf_spelling.proofs.ObjectSpelled.{Spells}
use Rattle.celf_spelling.proofs.Written.{IsWritten}
use Rattle.celf_spelling.proofs.WrittenTypes.{arrow_for, IsWrittenType, AreWrittenIndices, written-no_indices, written-more_indices, written-family, written-top, written-both}

-- what a place is in the grammar
abbrev pub Parse : Place → State → WrittenType → State → Type 0
Parse whole s t u = IsForward s t u
Parse operand s t u = IsWith s t u
Parse factor s t u = IsTypeAtom s t u

-- what may follow a type at a place
abbrev pub MayFollow : Place → TokenKind → Type 0
MayFollow factor k = begins_index k ≡ false
MayFollow operand k = (begins_index k ≡ false) × (is_amp k ≡ false)
MayFollow whole k = (begins_index k ≡ false) × (is_amp k ≡ false) × (is_star k ≡ false) × (is_forward k ≡ false) × (is_backward k ≡ false)

-- The tokens of these bytes may follow a type at a place.
abbrev pub CanFollow : Place → List ℕ → Type 0
CanFollow p rest = (us : List Lexeme) → AreTokens us rest → MayFollow p (next_kind us)

-- What may follow a type at a place may follow an atom.
follows-factor : (p : Place) (k : TokenKind) → MayFollow p k → MayFollow factor k
follows-factor factor k h = h
follows-factor operand k h = h.0
follows-factor whole k h = h.0

-- The tokens stand for a type at a place.
pub record TypeStands (p : Place) (P : WrittenType → Type 0) (ts us : List Lexeme) : Type 0 where
  pub begins : is_left_bracket (next_kind ts) ≡ false
  pub stands : Stands (Parse p) P ts us

-- The text spells a type at a place.
abbrev pub SpellsType : Place → (WrittenType → Type 0) → List ℕ → Type 0
SpellsType p P text = (rest : List ℕ) (ts : List Lexeme) → ends_word rest ≡ true → CanFollow p rest → AreTokens ts (text ++ rest) → StandsFirst (TypeStands p P) ts rest

-- ---- from one place to another

operand-stands : (P : WrittenType → Type 0) (ts us : List Lexeme) → TypeStands factor P ts us → is_amp (next_kind us) ≡ false → TypeStands operand P ts us
operand-stands P ts us a ends = record { begins = a.begins; stands = record { depth = a.stands.depth; opened = a.stands.opened; fits = a.stands.fits; read = read } }
  where
    read : (m e : ℕ) → a.stands.depth ≤ m → IsRead IsWith P (state ts (a.stands.opened + m) e) us m
    read m e h =
        let part = a.stands.read m e h in
        record { tree = part.tree; has = part.has; end = part.end; parse = with_alone part.parse ends }

whole-stands : (P : WrittenType → Type 0) (ts us : List Lexeme) → TypeStands operand P ts us → is_star (next_kind us) ≡ false → is_forward (next_kind us) ≡ false → TypeStands whole P ts us
whole-stands P ts us a no_star ends = record { begins = a.begins; stands = record { depth = a.stands.depth; opened = a.stands.opened; fits = a.stands.fits; read = read } }
  where
    read : (m e : ℕ) → a.stands.depth ≤ m → IsRead IsForward P (state ts (a.stands.opened + m) e) us m
    read m e h =
        let part = a.stands.read m e h in
        record { tree = part.tree; has = part.has; end = part.end; parse = forward_alone (sync_alone (factor_bare part.parse) no_star) ends }

stands-at : (p : Place) (P : WrittenType → Type 0) (ts us : List Lexeme) → TypeStands factor P ts us → MayFollow p (next_kind us) → TypeStands p P ts us
stands-at factor P ts us a follows = a
stands-at operand P ts us a follows = operand-stands P ts us a follows.1
stands-at whole P ts us a follows = whole-stands P ts us (operand-stands P ts us a follows.1) follows.2 follows.3

pub type-at : (p : Place) (P : WrittenType → Type 0) (x : List ℕ) → SpellsType factor P x → SpellsType p P x
type-at p P x s rest ts ends follows tokens =
    let part = s rest ts ends (λ us t. follows-factor p (next_kind us) (follows us t)) tokens in
    record { others = part.others; rest_tokens = part.rest_tokens; stands = stands-at p P ts part.others part.stands (follows part.others part.rest_tokens) }

type-whole : (P : WrittenType → Type 0) (x : List ℕ) → SpellsType operand P x → SpellsType whole P x
type-whole P x s rest ts ends follows tokens =
    let part = s rest ts ends (λ us t. let next = follows us t in (next.0, next.1)) tokens in
    let next = follows part.others part.rest_tokens in
    record { others = part.others; rest_tokens = part.rest_tokens; stands = whole-stands P ts part.others part.stands next.2 next.3 }

-- ---- in parentheses

pub paren-follows : (rest : List ℕ) → CanFollow whole (41 ∷ rest)
paren-follows rest us tokens =
    let b = tokens-right_paren rest us tokens in
    rw (b.is, b.kind_is) (refl, refl, refl, refl, refl)

group-stands : (P : WrittenType → Type 0) (x y : List ℕ) (ts us : List Lexeme) (l : BeginsWith kind.LeftParen (codes "(") x ts) → TypeStands whole P l.others us
    → (r : BeginsWith kind.RightParen (codes ")") y us) → TypeStands factor P ts r.others
group-stands P x y ts us l a r = record { begins = rw (l.is, l.kind_is) refl; stands = record { depth = suc (a.stands.opened + a.stands.depth); opened = 0; fits = omega (arith, a.stands.fits, opening-first l, opening-first r); read = read } }
  where
    read : (m e : ℕ) → suc (a.stands.opened + a.stands.depth) ≤ m → IsRead IsTypeAtom P (state ts (0 + m) e) r.others m
    read m e h =
        let inner : ℕ = m - suc a.stands.opened in
        let room : suc (a.stands.opened + inner) ≡ m = omega arith in
        let none : 0 + m ≡ m = omega arith in
        let part = a.stands.read inner (end_of l.first) (omega arith) in
        let opened : Opens kind.LeftParen (state ts m e) (behind l.first l.others (a.stands.opened + inner)) = rw room at (opens-first l (a.stands.opened + inner) e) in
        let ends : is_backward (next_kind us) ≡ false = rw (r.is, r.kind_is) refl in
        rw none (record { tree = part.tree; has = part.has; end = end_of r.first; parse = atomty_group opened (type_all (back_first part.parse) ends) (closes-first r inner m part.end) })

pub type-grouped : (P : WrittenType → Type 0) (x : List ℕ) → SpellsType whole P x → SpellsType factor P (40 ∷ x ++ 41 ∷ [])
type-grouped P x s rest ts ends follows tokens =
    let l = tokens-left_paren (x ++ 41 ∷ rest) ts (rw (append_assoc x (41 ∷ []) rest) at tokens) in
    let part = s (41 ∷ rest) l.others refl (paren-follows rest) l.rest_tokens in
    let r = tokens-right_paren rest part.others part.rest_tokens in
    record { others = r.others; rest_tokens = r.rest_tokens; stands = group-stands P (x ++ 41 ∷ rest) rest ts part.others l part.stands r }

-- Nothing more after a text spells the same.
pub type-padded : (p : Place) (P : WrittenType → Type 0) (x : List ℕ) → SpellsType p P x → SpellsType p P (x ++ [])
type-padded p P x s = rw (append-nil x) s

-- A text that is grouped where its place asks for it.
pub function-at : (p : Place) (P : WrittenType → Type 0) (x : List ℕ) → SpellsType whole P x → SpellsType p P (grouped (groups_function p) x)
function-at whole P x s = type-padded whole P x s
function-at operand P x s = type-at operand P (40 ∷ x ++ 41 ∷ []) (type-grouped P x s)
function-at factor P x s = type-grouped P x s

pub pair-at : (p : Place) (P : WrittenType → Type 0) (x : List ℕ) → SpellsType operand P x → SpellsType p P (grouped (groups_pair p) x)
pair-at whole P x s = type-padded whole P x (type-whole P x s)
pair-at operand P x s = type-padded operand P x s
pair-at factor P x s = type-grouped P x (type-whole P x s)

-- ---- <T>

top-stands : (rest : List ℕ) (ts : List Lexeme) (b : BeginsWith kind.TopSign (codes "<T>") rest ts) → TypeStands factor (IsWrittenType (plain.top nowhere)) ts b.others
top-stands rest ts b = record { begins = rw (b.is, b.kind_is) refl; stands = record { depth = 0; opened = 0; fits = omega (arith, opening-first b); read = read } }
  where
    read : (m e : ℕ) → 0 ≤ m → IsRead IsTypeAtom (IsWrittenType (plain.top nowhere)) (state ts (0 + m) e) b.others m
    read m e h =
        let none : 0 + m ≡ m = omega arith in
        rw none (record { tree = top _; has = written-top _; end = end_of b.first; parse = atomty_top (takes-first b m e) })

pub top-spelled : SpellsType factor (IsWrittenType (plain.top nowhere)) (codes "<T>")
top-spelled rest ts ends follows tokens =
    let b = tokens-top rest ts tokens in
    record { others = b.others; rest_tokens = b.rest_tokens; stands = top-stands rest ts b }

-- ---- families

-- The tokens begin with the name of a family.
pub record NameStands (name : List ℕ) (dollar : Bool) (ts us : List Lexeme) : Type 0 where
  pub begins : is_left_bracket (next_kind ts) ≡ false
  pub fits : opening us ≤ opening ts
  pub end : ℕ
  pub read : (m e : ℕ) → IsFamilyName (state ts m e) name dollar (state us m end)

pub name-spelled : (name : List ℕ) (dollar : Bool) → IsTrue (is_declarable name) → Spells (NameStands name dollar) (when dollar (codes "$") ++ name)
name-spelled name true fit rest ts ends tokens =
    let b = tokens-constant_name name rest ts fit ends tokens in
    let read : (m e : ℕ) → IsFamilyName (state ts m e) name true (behind b.first b.others m) = λ m e.
    let taken : TakesConstant (state ts m e) name (behind b.first b.others m) = record { token = b.first; taken = taken-first b m m e; kind = b.kind_is; spelled = rw b.spelled refl } in
    family_constant taken in
    record { others = b.others; rest_tokens = b.rest_tokens; stands = record { begins = rw (b.is, b.kind_is) refl; fits = omega (arith, opening-first b); end = end_of b.first; read = read } }
name-spelled name false fit rest ts ends tokens =
    let found = tokens-name name rest ts fit ends tokens in
    let b = found.1 in
    let read : (m e : ℕ) → IsFamilyName (state ts m e) name false (behind b.first b.others m) = λ m e.
    let taken : TakesName (state ts m e) name (behind b.first b.others m) = record { token = b.first; capital = found.0; taken = taken-first b m m e; kind = b.kind_is; spelled = sym b.spelled } in
    family_name taken in
    record { others = b.others; rest_tokens = b.rest_tokens; stands = record { begins = rw (b.is, b.kind_is) refl; fits = omega (arith, opening-first b); end = end_of b.first; read = read } }

indices-cons : {s u v : State} {o : WrittenObject} {os : List WrittenObject} → IsIndex s o u → IsIndices u os v → IsIndices s (o ∷ os) v
indices-cons a indices_none = indices_more indices_none a
indices-cons a (indices_more bs b) = indices_more (indices-cons a bs) b

pub no_indices-stand : (ts : List Lexeme) → Stands IsIndices (AreWrittenIndices []) ts ts
no_indices-stand ts = record { depth = 0; opened = 0; fits = omega arith; read = read }
  where
    read : (m e : ℕ) → 0 ≤ m → IsRead IsIndices (AreWrittenIndices []) (state ts (0 + m) e) ts m
    read m e h =
        let none : 0 + m ≡ m = omega arith in
        rw none (record { tree = []; has = written-no_indices; end = e; parse = indices_none })

more_indices-stand : (o : plain.DesugaredObject) (os : List plain.DesugaredObject) (rest : List ℕ) (ts us vs : List Lexeme) (b : BeginsWith kind.Bang (codes "!") rest ts) → AtomStands (IsWritten o) b.others us
    → Stands IsIndices (AreWrittenIndices os) us vs → Stands IsIndices (AreWrittenIndices (o ∷ os)) ts vs
more_indices-stand o os rest ts us vs b a as_ = record { depth = a.depth + as_.depth; opened = as_.opened; fits = omega (arith, a.fits, as_.fits, opening-first b); read = read }
  where
    read : (m e : ℕ) → a.depth + as_.depth ≤ m → IsRead IsIndices (AreWrittenIndices (o ∷ os)) (state ts (as_.opened + m) e) vs m
    read m e h =
        let n : ℕ = as_.opened + m in
        let index = a.read n (end_of b.first) (omega arith) in
        let others = as_.read m index.end (omega arith) in
        record {
          tree = index.tree ∷ others.tree;
          has = written-more_indices o os index.tree others.tree index.has others.has;
          end = others.end;
          parse = indices-cons (index_banged (takes-first b n e) index.parse) others.parse;
        }

-- an index in front of others
pub indices-more : (o : plain.DesugaredObject) (os : List plain.DesugaredObject) (x y : List ℕ) → ((rest : List ℕ) → ends_word rest ≡ true → ends_word (y ++ rest) ≡ true)
    → Spells (AtomStands (IsWritten o)) x → Spells (Stands IsIndices (AreWrittenIndices os)) y → Spells (Stands IsIndices (AreWrittenIndices (o ∷ os))) ((codes " !" ++ x) ++ y)
indices-more o os x y ends_too s t rest ts ends tokens =
    let b = tokens-bang (x ++ (y ++ rest)) ts (tokens-blank 32 (33 ∷ (x ++ (y ++ rest))) ts refl (rw (append_assoc (codes " !" ++ x) y rest, append_assoc (codes " !") x (y ++ rest)) at tokens)) in
    let index = s (y ++ rest) b.others (ends_too rest ends) b.rest_tokens in
    let others = t rest index.others ends index.rest_tokens in
    record { others = others.others; rest_tokens = others.rest_tokens; stands = more_indices-stand o os (x ++ (y ++ rest)) ts index.others others.others b index.stands others.stands }

family-stands : (name : List ℕ) (dollar : Bool) (os : List plain.DesugaredObject) (ts us vs : List Lexeme) → NameStands name dollar ts us → Stands IsIndices (AreWrittenIndices os) us vs
    → begins_index (next_kind vs) ≡ false → TypeStands factor (IsWrittenType (plain.family nowhere (spelled name dollar) os)) ts vs
family-stands name dollar os ts us vs a as_ ends = record { begins = a.begins; stands = record { depth = as_.depth; opened = as_.opened; fits = omega (arith, a.fits, as_.fits); read = read } }
  where
    read : (m e : ℕ) → as_.depth ≤ m → IsRead IsTypeAtom (IsWrittenType (plain.family nowhere (spelled name dollar) os)) (state ts (as_.opened + m) e) vs m
    read m e h =
        let others = as_.read m a.end h in
        record {
          tree = family _ name dollar _ others.tree;
          has = written-family name dollar os _ _ others.tree others.has;
          end = others.end;
          parse = atomty_family (a.read (as_.opened + m) e) others.parse ends;
        }

pub family-spelled : (name : List ℕ) (dollar : Bool) (os : List plain.DesugaredObject) (x y : List ℕ) → ((rest : List ℕ) → ends_word rest ≡ true → ends_word (y ++ rest) ≡ true)
    → Spells (NameStands name dollar) x → Spells (Stands IsIndices (AreWrittenIndices os)) y → SpellsType factor (IsWrittenType (plain.family nowhere (spelled name dollar) os)) (x ++ y)
family-spelled name dollar os x y ends_too s t rest ts ends follows tokens =
    let n = s (y ++ rest) ts (ends_too rest ends) (rw (append_assoc x y rest) at tokens) in
    let others = t rest n.others ends n.rest_tokens in
    record {
      others = others.others;
      rest_tokens = others.rest_tokens;
      stands = family-stands name dollar os ts n.others others.others n.stands others.stands (follows others.others others.rest_tokens);
    }

-- ---- pairs

pair-stands : (a b : plain.DesugaredType) (rest : List ℕ) (ts us vs : List Lexeme) → TypeStands factor (IsWrittenType a) ts us → (s : BeginsWith kind.Amp (codes "&") rest us)
    → TypeStands operand (IsWrittenType b) s.others vs → TypeStands operand (IsWrittenType (plain.both nowhere a b)) ts vs
pair-stands a b rest ts us vs l s r = record { begins = l.begins; stands = record { depth = l.stands.depth + r.stands.depth; opened = l.stands.opened + suc r.stands.opened; fits = omega (arith, l.stands.fits, r.stands.fits, opening-first s); read = read } }
  where
    read : (m e : ℕ) → l.stands.depth + r.stands.depth ≤ m → IsRead IsWith (IsWrittenType (plain.both nowhere a b)) (state ts (l.stands.opened + suc r.stands.opened + m) e) vs m
    read m e h =
        let room : l.stands.opened + suc r.stands.opened + m ≡ l.stands.opened + suc (r.stands.opened + m) = omega arith in
        let left = l.stands.read (suc (r.stands.opened + m)) e (omega arith) in
        let right = r.stands.read m (end_of s.first) (omega arith) in
        rw room (record {
          tree = both _ left.tree right.tree;
          has = written-both a b _ left.tree right.tree left.has right.has;
          end = right.end;
          parse = with_pair left.parse (opens-first s (r.stands.opened + m) left.end) right.parse;
        })

amp-first : (rest : List ℕ) (ts : List Lexeme) → AreTokens ts (codes " & " ++ rest) → BeginsWith kind.Amp (codes "&") (32 ∷ rest) ts
amp-first rest ts tokens = tokens-amp (32 ∷ rest) ts (tokens-blank 32 _ ts refl tokens)

pub pair-spelled : (a b : plain.DesugaredType) (x y : List ℕ) → SpellsType factor (IsWrittenType a) x → SpellsType operand (IsWrittenType b) y
    → SpellsType operand (IsWrittenType (plain.both nowhere a b)) (x ++ codes " & " ++ y)
pair-spelled a b x y l r rest ts ends follows tokens =
    let texts : (x ++ codes " & " ++ y) ++ rest ≡ x ++ (codes " & " ++ (y ++ rest)) =
    append_assoc (x ++ codes " & ") y rest ∙ append_assoc x (codes " & ") (y ++ rest) in
    let left = l (codes " & " ++ (y ++ rest)) ts refl (λ us t. let b = amp-first (y ++ rest) us t in rw (b.is, b.kind_is) refl) (rw texts at tokens) in
    let sign = amp-first (y ++ rest) left.others left.rest_tokens in
    let right = r rest sign.others ends follows (tokens-blank 32 (y ++ rest) sign.others refl sign.rest_tokens) in
    record { others = right.others; rest_tokens = right.rest_tokens; stands = pair-stands a b (32 ∷ (y ++ rest)) ts left.others right.others left.stands sign right.stands }

-- ---- functions

-- an arrow with its spaces
pub record ArrowFirst (m : Mode) (rest : List ℕ) (ts : List Lexeme) : Type 0 where
  pub kind_of : TokenKind
  pub text : List ℕ
  pub sign : BeginsWith kind_of text (32 ∷ rest) ts
  pub arrow_is : forward_of kind_of ≡ Some (arrow_for m)
  pub follows : MayFollow operand kind_of
  pub no_star : is_star kind_of ≡ false
  pub opens : opens_part kind_of ≡ true

pub arrow-first : (m : Mode) (rest : List ℕ) (ts : List Lexeme) → AreTokens ts (arrow_text m ++ rest) → ArrowFirst m rest ts
arrow-first Persistent rest ts tokens =
    record { kind_of = kind.Arrow; text = codes "->"; sign = tokens-arrow (32 ∷ rest) ts (tokens-blank 32 _ ts refl tokens); arrow_is = refl; follows = (refl, refl); no_star = refl; opens = refl }
arrow-first Affine rest ts tokens =
    record { kind_of = kind.Affine; text = codes "-@"; sign = tokens-affine (32 ∷ rest) ts (tokens-blank 32 _ ts refl tokens); arrow_is = refl; follows = (refl, refl); no_star = refl; opens = refl }
arrow-first Linear rest ts tokens =
    record { kind_of = kind.Lolli; text = codes "-o"; sign = tokens-lolli rest ts (tokens-blank 32 _ ts refl tokens); arrow_is = refl; follows = (refl, refl); no_star = refl; opens = refl }

pub arrow-ends : (m : Mode) (rest : List ℕ) → ends_word (arrow_text m ++ rest) ≡ true
arrow-ends Persistent rest = refl
arrow-ends Affine rest = refl
arrow-ends Linear rest = refl

pub arrow-follows : (m : Mode) (rest : List ℕ) → CanFollow operand (arrow_text m ++ rest)
arrow-follows m rest us tokens = let f = arrow-first m rest us tokens in rw (f.sign.is, f.sign.kind_is) f.follows

-- An arrow opens a part.
arrow-opening : (m : Mode) (rest : List ℕ) (us : List Lexeme) (f : ArrowFirst m rest us) → opening us ≡ suc (opening f.sign.others)
arrow-opening m rest us f =
    let taken : opening us ≡ 1 + opening f.sign.others = rw f.opens at (opening-first f.sign) in
    omega (arith, taken)

arrow-stands : (m : Mode) (a : plain.DesugaredType) (P Q : WrittenType → Type 0) (rest : List ℕ) (ts us vs : List Lexeme) → TypeStands operand (IsWrittenType a) ts us → (f : ArrowFirst m rest us)
    → TypeStands whole P f.sign.others vs → ((s : Span) (l r : WrittenType) → IsWrittenType a l → P r → Q (arrow s (arrow_for m) l r)) → TypeStands whole Q ts vs
arrow-stands m a P Q rest ts us vs l f r has = record { begins = l.begins; stands = record { depth = l.stands.depth + r.stands.depth; opened = l.stands.opened + suc r.stands.opened; fits = omega (arith, l.stands.fits, r.stands.fits, arrow-opening m rest us f); read = read } }
  where
    read : (n e : ℕ) → l.stands.depth + r.stands.depth ≤ n → IsRead IsForward Q (state ts (l.stands.opened + suc r.stands.opened + n) e) vs n
    read n e h =
        let room : l.stands.opened + suc r.stands.opened + n ≡ l.stands.opened + suc (r.stands.opened + n) = omega arith in
        let left = l.stands.read (suc (r.stands.opened + n)) e (omega arith) in
        let right = r.stands.read n (end_of f.sign.first) (omega arith) in
        let no_star : is_star (next_kind us) ≡ false = rw (f.sign.is, f.sign.kind_is) f.no_star in
        let sign : OpensArrow forward_of (arrow_for m) (state us (suc (r.stands.opened + n)) left.end) (behind f.sign.first f.sign.others (r.stands.opened + n)) =
        record { kind = f.kind_of; sign = opens-first f.sign (r.stands.opened + n) left.end; is = f.arrow_is } in
        rw room (record {
          tree = arrow _ (arrow_for m) left.tree right.tree;
          has = has _ left.tree right.tree left.has right.has;
          end = right.end;
          parse = forward_arrow (sync_alone (factor_bare left.parse) no_star) sign right.parse;
        })

-- a type in front of an arrow, and what stands after it
pub arrow-spelled : (m : Mode) (a : plain.DesugaredType) (P Q : WrittenType → Type 0) (x y : List ℕ) → ((s : Span) (l r : WrittenType) → IsWrittenType a l → P r → Q (arrow s (arrow_for m) l r))
    → SpellsType operand (IsWrittenType a) x → SpellsType whole P y → SpellsType whole Q ((x ++ arrow_text m) ++ y)
arrow-spelled m a P Q x y has l r rest ts ends follows tokens =
    let texts : ((x ++ arrow_text m) ++ y) ++ rest ≡ x ++ (arrow_text m ++ (y ++ rest)) =
    append_assoc (x ++ arrow_text m) y rest ∙ append_assoc x (arrow_text m) (y ++ rest) in
    let left = l (arrow_text m ++ (y ++ rest)) ts (arrow-ends m (y ++ rest)) (arrow-follows m (y ++ rest)) (rw texts at tokens) in
    let f = arrow-first m (y ++ rest) left.others left.rest_tokens in
    let right = r rest f.sign.others ends follows (tokens-blank 32 (y ++ rest) f.sign.others refl f.sign.rest_tokens) in
    record { others = right.others; rest_tokens = right.rest_tokens; stands = arrow-stands m a P Q (y ++ rest) ts left.others right.others left.stands f right.stands has }

-- ---- a variable with its type

-- the tokens of a word, a name, a colon, a type and a full stop
pub record NamedFirst (k : TokenKind) (name : List ℕ) (a : plain.DesugaredType) (ts : List Lexeme) (rest : List ℕ) : Type 0 where
  pub word_text : List ℕ
  pub after_word : List ℕ
  pub word : BeginsWith k word_text after_word ts
  pub capital : Bool
  pub after_name : List ℕ
  pub variable : BeginsWith (kind.Name capital) name after_name word.others
  pub after_colon : List ℕ
  pub colon : BeginsWith kind.Colon (codes ":") after_colon variable.others
  pub before_stop : List Lexeme
  pub domain : TypeStands whole (IsWrittenType a) colon.others before_stop
  pub stop : BeginsWith kind.Stop (codes ".") (32 ∷ rest) before_stop

pub stop-follows : (rest : List ℕ) → CanFollow whole (46 ∷ rest)
stop-follows rest us tokens =
    let b = tokens-stop rest us tokens in
    rw (b.is, b.kind_is) (refl, refl, refl, refl, refl)

pub named-first : (k : TokenKind) (w : List ℕ) (level : ℕ) (a : plain.DesugaredType) (x rest : List ℕ) (ts : List Lexeme) → level + 1 < 2 ^ 64
    → ((after : List ℕ) (us : List Lexeme) → AreTokens us (w ++ 32 ∷ after) → BeginsWith k w (32 ∷ after) us) → SpellsType whole (IsWrittenType a) x
    → AreTokens ts (w ++ 32 ∷ (named_text level x ++ rest)) → NamedFirst k (new_variable_text level) a ts rest
named-first k w level a x rest ts small word_first s tokens =
    let name : List ℕ = new_variable_text level in
    let behind_type : List ℕ = codes ". " ++ rest in
    let texts : named_text level x ++ rest ≡ name ++ (codes ": " ++ (x ++ behind_type)) =
    append_assoc (name ++ codes ": " ++ x) (codes ". ") rest ∙ append_assoc (name ++ codes ": ") x behind_type ∙ append_assoc name (codes ": ") (x ++ behind_type) in
    let w_first = word_first (named_text level x ++ rest) ts tokens in
    let first = tokens-blank 32 (named_text level x ++ rest) w_first.others refl w_first.rest_tokens in
    let n = tokens-name name (codes ": " ++ (x ++ behind_type)) w_first.others (variable-declarable (level + 1) small) refl (subst (AreTokens w_first.others) texts first) in
    let c = tokens-colon (32 ∷ (x ++ behind_type)) n.1.others n.1.rest_tokens in
    let domain = s behind_type c.others refl (stop-follows (32 ∷ rest)) (tokens-blank 32 (x ++ behind_type) c.others refl c.rest_tokens) in
    let stop = tokens-stop (32 ∷ rest) domain.others domain.rest_tokens in
    record {
      word_text = w;
      after_word = _;
      word = w_first;
      capital = n.0;
      after_name = _;
      variable = n.1;
      after_colon = _;
      colon = c;
      before_stop = domain.others;
      domain = domain.stands;
      stop = stop;
    }

-- what they are read as: the word opens a part
pub record IsReadNamed (k : TokenKind) (name : List ℕ) (a : plain.DesugaredType) (s u : State) : Type 0 where
  pub behind_word : State
  pub behind_name : State
  pub behind_colon : State
  pub behind_type : State
  pub tree : WrittenType
  pub has : IsWrittenType a tree
  pub opened : Opens k s behind_word
  pub named : TakesName behind_word name behind_name
  pub colon : Takes kind.Colon behind_name behind_colon
  pub domain : IsType behind_colon tree behind_type
  pub stop : Takes kind.Stop behind_type u

pub named-read : (k : TokenKind) (name : List ℕ) (a : plain.DesugaredType) (ts : List Lexeme) (rest : List ℕ) (f : NamedFirst k name a ts rest) (n e : ℕ) → f.domain.stands.depth ≤ n
    → IsReadNamed k name a (state ts (suc (f.domain.stands.opened + n)) e) (behind f.stop.first f.stop.others n)
named-read k name a ts rest f n e fits =
    let inner : ℕ = f.domain.stands.opened + n in
    let domain = f.domain.stands.read n (end_of f.colon.first) fits in
    let ends : is_backward (next_kind f.before_stop) ≡ false = rw (f.stop.is, f.stop.kind_is) refl in
    record {
      behind_word = behind f.word.first f.word.others inner;
      behind_name = behind f.variable.first f.variable.others inner;
      behind_colon = behind f.colon.first f.colon.others inner;
      behind_type = state f.before_stop n domain.end;
      tree = domain.tree;
      has = domain.has;
      opened = opens-first f.word inner e;
      named = record { token = f.variable.first; capital = f.capital; taken = taken-first f.variable inner inner (end_of f.word.first); kind = f.variable.kind_is; spelled = sym f.variable.spelled };
      colon = takes-first f.colon inner (end_of f.variable.first);
      domain = type_all (back_first domain.parse) ends;
      stop = takes-first f.stop n domain.end;
    }

-- the parts that they open
pub named-opening : (k : TokenKind) (name : List ℕ) (a : plain.DesugaredType) (ts : List Lexeme) (rest : List ℕ) (f : NamedFirst k name a ts rest)
    → (if opens_part k then 1 else 0) + f.domain.stands.depth + f.domain.stands.opened + opening f.stop.others ≤ opening ts
named-opening k name a ts rest f = omega (arith, f.domain.stands.fits, opening-first f.word, opening-first f.variable, opening-first f.colon, opening-first f.stop)

pi-stands : (name : List ℕ) (a : plain.DesugaredType) (P Q : WrittenType → Type 0) (rest : List ℕ) (ts us : List Lexeme) (f : NamedFirst kind.KwPi name a ts rest)
    → TypeStands whole P f.stop.others us → is_backward (next_kind us) ≡ false → ((s : Span) (l r : WrittenType) → IsWrittenType a l → P r → Q (pi s name l r)) → TypeStands whole Q ts us
pi-stands name a P Q rest ts us f r ends has =
    record { begins = rw (f.word.is, f.word.kind_is) refl; stands = record { depth = f.domain.stands.depth + r.stands.depth; opened = suc (f.domain.stands.opened + r.stands.opened); fits = omega (arith, named-opening kind.KwPi name a ts rest f, r.stands.fits); read = read } }
  where
    read : (m e : ℕ) → f.domain.stands.depth + r.stands.depth ≤ m → IsRead IsForward Q (state ts (suc (f.domain.stands.opened + r.stands.opened) + m) e) us m
    read m e h =
        let room : suc (f.domain.stands.opened + r.stands.opened) + m ≡ suc (f.domain.stands.opened + (r.stands.opened + m)) = omega arith in
        let left = named-read kind.KwPi name a ts rest f (r.stands.opened + m) e (omega arith) in
        let right = r.stands.read m (end_of f.stop.first) (omega arith) in
        rw room (record {
          tree = pi _ name left.tree right.tree;
          has = has _ left.tree right.tree left.has right.has;
          end = right.end;
          parse = forward_pi left.opened left.named left.colon left.domain left.stop (type_all (back_first right.parse) ends);
        })

-- a function or argument that is named, and what stands after it
pub pi-spelled : (level : ℕ) (a : plain.DesugaredType) (P Q : WrittenType → Type 0) (x y : List ℕ) → level + 1 < 2 ^ 64 → ((s : Span) (l r : WrittenType) → IsWrittenType a l → P r → Q (pi s (new_variable_text level) l r))
    → SpellsType whole (IsWrittenType a) x → SpellsType whole P y → SpellsType whole Q ((codes "Pi " ++ named_text level x) ++ y)
pi-spelled level a P Q x y small has l r rest ts ends follows tokens =
    let texts : ((codes "Pi " ++ named_text level x) ++ y) ++ rest ≡ codes "Pi " ++ (named_text level x ++ (y ++ rest)) =
    append_assoc (codes "Pi " ++ named_text level x) y rest ∙ append_assoc (codes "Pi ") (named_text level x) (y ++ rest) in
    let f = named-first kind.KwPi (codes "Pi") level a x (y ++ rest) ts small (λ after us t. tokens-pi after us t) l (rw texts at tokens) in
    let right = r rest f.stop.others ends follows (tokens-blank 32 (y ++ rest) f.stop.others refl f.stop.rest_tokens) in
    record {
      others = right.others;
      rest_tokens = right.rest_tokens;
      stands = pi-stands (new_variable_text level) a P Q (y ++ rest) ts right.others f right.stands (follows right.others right.rest_tokens).4 has;
    }
