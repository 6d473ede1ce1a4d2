-- Texts that spell an object, an atom or an application: their tokens stand for it, whatever may follow.
use Rattle.std.proofs.Common.{ℕ, ◌≡◌, ◌+◌, ◌<◌, ◌^◌, Bool, true, false, not, refl, ap, ◌∙◌, List, [], ◌∷◌, ◌++◌, append_assoc, append-nil, Some, codes, IsTrue, arith}
use Rattle.celf_lexer.specs.declared.token.TokenKind.TheVariants as kind
use Rattle.celf_lexer.specs.Tokens.{Lexeme}
use Rattle.celf_lexer.proofs.Spelling.{AreTokens, ends_word, tokens-blank, tokens-word, tokens-stop, tokens-left_paren, tokens-right_paren, tokens-name, tokens-constant_name}
use Rattle.celf_surface.specs.declared.surface.SMode.{SMode}
use Rattle.celf_surface.specs.declared.surface.Span.{Span}
use Rattle.celf_surface.specs.Surface.{WrittenObject, lam, named, hole, unit, pair, first, second}
use Rattle.celf_grammar.specs.State.{next_kind}
use Rattle.celf_grammar.specs.Grammar.{begins_argument, applied}
use Rattle.clf_syntax.specs.declared.tree.Mode.{Mode}
use Rattle.clf_syntax.specs.declared.tree.Mode.TheVariants.{Persistent, Affine, Linear}
use Rattle.clf_syntax.specs.Word.{is_declarable}
use Rattle.clf_printer.specs.Text.{variable_text, mark_text, binder_text, grouped}
use Rattle.celf_spelling.proofs.Signs.{stays_less, tokens-backslash, tokens-bang, tokens-at, tokens-comma, tokens-greater, tokens-less, tokens-unit_sign, tokens-first, tokens-second}
use Rattle.celf_spelling.proofs.Variables.{variable-declarable}
use Rattle.celf_spelling.specs.Printed.{mark_for}
use Rattle.celf_spelling.proofs.Standing.{StandsFirst}
use Rattle.celf_spelling.proofs.ObjectStanding.{AtomStands, ObjectStands, ChainStands, MarkStands, no_mark, name-mark, bang-mark, at-mark, name-stands, constant-stands, unit-stands, hole-stands, atom-no_mark, group-stands, pair-stands, first-stands, second-stands, chain-alone, chain-more, chain-object, atom-object, atom-has, lambda-stands}

-- The text spells an atom, or an application that may go on.
abbrev pub Spells : (List Lexeme → List Lexeme → Type 0) → List ℕ → Type 0
Spells F text = (rest : List ℕ) (ts : List Lexeme) → ends_word rest ≡ true → AreTokens ts (text ++ rest) → StandsFirst F ts rest

-- No argument begins with these bytes.
abbrev pub EndsObject : List ℕ → Type 0
EndsObject rest = (us : List Lexeme) → AreTokens us rest → begins_argument (next_kind us) ≡ false

-- The text spells an object, where no argument follows.
abbrev pub SpellsObject : (WrittenObject → Type 0) → List ℕ → Type 0
SpellsObject P text = (rest : List ℕ) (ts : List Lexeme) → ends_word rest ≡ true → EndsObject rest → AreTokens ts (text ++ rest) → StandsFirst (ObjectStands P) ts rest

pub paren-ends : (rest : List ℕ) → EndsObject (41 ∷ rest)
paren-ends rest us tokens = let b = tokens-right_paren rest us tokens in rw (b.is, b.kind_is) refl

pub comma-ends : (rest : List ℕ) → EndsObject (44 ∷ rest)
comma-ends rest us tokens = let b = tokens-comma rest us tokens in rw (b.is, b.kind_is) refl

greater-ends : (rest : List ℕ) → EndsObject (62 ∷ rest)
greater-ends rest us tokens = let b = tokens-greater rest us tokens in rw (b.is, b.kind_is) refl

-- ---- atoms

pub spells-name : (P : WrittenObject → Type 0) (x : List ℕ) → IsTrue (is_declarable x) → ((s : Span) → P (named s x false)) → Spells (AtomStands P) x
spells-name P x fit has rest ts ends tokens =
    let found = tokens-name x rest ts fit ends tokens in
    let b = found.1 in
    let stands = name-stands P b.first b.others found.0 b.kind_is (rw b.spelled has) in
    record { others = b.others; rest_tokens = b.rest_tokens; stands = rw (← b.is) at stands }

pub spells-constant : (P : WrittenObject → Type 0) (x : List ℕ) → IsTrue (is_declarable x) → ((s : Span) → P (named s x true)) → Spells (AtomStands P) (36 ∷ x)
spells-constant P x fit has rest ts ends tokens =
    let b = tokens-constant_name x rest ts fit ends tokens in
    let stands = constant-stands P b.first b.others b.kind_is (rw b.spelled has) in
    record { others = b.others; rest_tokens = b.rest_tokens; stands = rw (← b.is) at stands }

pub spells-unit : (P : WrittenObject → Type 0) → ((s : Span) → P (unit s)) → Spells (AtomStands P) (codes "<>")
spells-unit P has rest ts ends tokens =
    let b = tokens-unit_sign rest ts tokens in
    record { others = b.others; rest_tokens = b.rest_tokens; stands = rw (← b.is) at (unit-stands P b.first b.others b.kind_is has) }

pub spells-hole : (P : WrittenObject → Type 0) → ((s : Span) → P (hole s)) → Spells (AtomStands P) (codes "_")
spells-hole P has rest ts ends tokens =
    let b = tokens-word (codes "_") rest ts refl (omega arith) ends tokens in
    record { others = b.others; rest_tokens = b.rest_tokens; stands = rw (← b.is) at (hole-stands P b.first b.others b.kind_is has) }

spells-group : (P : WrittenObject → Type 0) (x : List ℕ) → SpellsObject P x → Spells (AtomStands P) (40 ∷ x ++ 41 ∷ [])
spells-group P x s rest ts ends tokens =
    let l = tokens-left_paren (x ++ 41 ∷ rest) ts (rw (append_assoc x (41 ∷ []) rest) at tokens) in
    let inner = s (41 ∷ rest) l.others refl (paren-ends rest) l.rest_tokens in
    let r = tokens-right_paren rest inner.others inner.rest_tokens in
    record {
      others = r.others;
      rest_tokens = r.rest_tokens;
      stands = rw (← l.is) at (group-stands P l.first r.first l.others r.others l.kind_is (rw r.is at inner.stands) r.kind_is);
    }

pub spells-pair : (P Q R : WrittenObject → Type 0) (x y : List ℕ) → ((rest : List ℕ) → stays_less (x ++ 44 ∷ rest) ≡ true) → SpellsObject P x → SpellsObject Q y
    → ((s : Span) (a b : WrittenObject) → P a → Q b → R (pair s a b)) → Spells (AtomStands R) (codes "<" ++ x ++ codes ", " ++ y ++ codes ">")
spells-pair P Q R x y less p q has rest ts ends tokens =
    let texts : (x ++ codes ", " ++ y ++ codes ">") ++ rest ≡ x ++ (codes ", " ++ (y ++ (62 ∷ rest))) =
    append_assoc (x ++ codes ", " ++ y) (codes ">") rest ∙ (append_assoc (x ++ codes ", ") y (62 ∷ rest) ∙ append_assoc x (codes ", ") (y ++ 62 ∷ rest)) in
    let l = tokens-less (x ++ (codes ", " ++ (y ++ 62 ∷ rest))) ts (less (32 ∷ (y ++ 62 ∷ rest))) (rw texts at tokens) in
    let left = p (codes ", " ++ (y ++ 62 ∷ rest)) l.others refl (comma-ends (32 ∷ (y ++ 62 ∷ rest))) l.rest_tokens in
    let c = tokens-comma (32 ∷ (y ++ 62 ∷ rest)) left.others left.rest_tokens in
    let right = q (62 ∷ rest) c.others refl (greater-ends rest) (tokens-blank 32 (y ++ 62 ∷ rest) c.others refl c.rest_tokens) in
    let r = tokens-greater rest right.others right.rest_tokens in
    let stands = pair-stands P Q R l.first c.first r.first l.others c.others r.others l.kind_is (rw c.is at left.stands) c.kind_is (rw r.is at right.stands) r.kind_is has in
    record { others = r.others; rest_tokens = r.rest_tokens; stands = rw (← l.is) at stands }

pub spells-first : (P Q : WrittenObject → Type 0) (x : List ℕ) → Spells (AtomStands P) x → ((s : Span) (a : WrittenObject) → P a → Q (first s a)) → Spells (AtomStands Q) (codes "#1 " ++ x)
spells-first P Q x s has rest ts ends tokens =
    let b = tokens-first (x ++ rest) ts tokens in
    let inner = s rest b.others ends (tokens-blank 32 (x ++ rest) b.others refl b.rest_tokens) in
    record {
      others = inner.others;
      rest_tokens = inner.rest_tokens;
      stands = rw (← b.is) at (first-stands P Q b.first b.others inner.others b.kind_is inner.stands has);
    }

pub spells-second : (P Q : WrittenObject → Type 0) (x : List ℕ) → Spells (AtomStands P) x → ((s : Span) (a : WrittenObject) → P a → Q (second s a)) → Spells (AtomStands Q) (codes "#2 " ++ x)
spells-second P Q x s has rest ts ends tokens =
    let b = tokens-second (x ++ rest) ts tokens in
    let inner = s rest b.others ends (tokens-blank 32 (x ++ rest) b.others refl b.rest_tokens) in
    record {
      others = inner.others;
      rest_tokens = inner.rest_tokens;
      stands = rw (← b.is) at (second-stands P Q b.first b.others inner.others b.kind_is inner.stands has);
    }

pub spells-has : (P R : WrittenObject → Type 0) (x : List ℕ) → Spells (AtomStands P) x → ((a : WrittenObject) → P a → R a) → Spells (AtomStands R) x
spells-has P R x s has rest ts ends tokens =
    let f = s rest ts ends tokens in
    record { others = f.others; rest_tokens = f.rest_tokens; stands = atom-has P R ts f.others f.stands has }

-- ---- applications

spells-alone : (P : WrittenObject → Type 0) (Q : WrittenObject → List (SMode × WrittenObject) → Type 0) (x : List ℕ) → Spells (AtomStands P) x → ((a : WrittenObject) → P a → Q a []) → Spells (ChainStands Q) x
spells-alone P Q x s has rest ts ends tokens =
    let f = s rest ts ends tokens in
    record { others = f.others; rest_tokens = f.rest_tokens; stands = chain-alone P Q ts f.others f.stands has }

-- a mark and an atom
record MarkedFirst (P : WrittenObject → Type 0) (mark : SMode) (ts : List Lexeme) (rest : List ℕ) : Type 0 where
  middle : List Lexeme
  marked : MarkStands mark ts middle
  atom : StandsFirst (AtomStands P) middle rest

marked-first : (P : WrittenObject → Type 0) (m : Mode) (x rest : List ℕ) (ts : List Lexeme) → Spells (AtomStands P) x → ends_word rest ≡ true → AreTokens ts (mark_text m ++ (x ++ rest))
    → MarkedFirst P (mark_for m) ts rest
marked-first P Persistent x rest ts s ends tokens =
    let b = tokens-bang (x ++ rest) ts tokens in
    record { middle = b.others; marked = rw (← b.is) at (bang-mark b.first b.others b.kind_is); atom = s rest b.others ends b.rest_tokens }
marked-first P Affine x rest ts s ends tokens =
    let b = tokens-at (x ++ rest) ts tokens in
    record { middle = b.others; marked = rw (← b.is) at (at-mark b.first b.others b.kind_is); atom = s rest b.others ends b.rest_tokens }
marked-first P Linear x rest ts s ends tokens =
    let f = s rest ts ends tokens in
    record { middle = ts; marked = no_mark ts (atom-no_mark (next_kind ts) f.stands.begins); atom = f }

pub spells-applied : (Q R : WrittenObject → List (SMode × WrittenObject) → Type 0) (P : WrittenObject → Type 0) (m : Mode) (x y : List ℕ) → Spells (ChainStands Q) x → Spells (AtomStands P) y
    → ((a b : WrittenObject) (xs : List (SMode × WrittenObject)) → Q a xs → P b → R a (xs ++ (mark_for m, b) ∷ [])) → Spells (ChainStands R) (x ++ (codes " " ++ mark_text m ++ y))
spells-applied Q R P m x y p q has rest ts ends tokens =
    let texts : (x ++ (codes " " ++ mark_text m ++ y)) ++ rest ≡ x ++ (32 ∷ (mark_text m ++ (y ++ rest))) =
    append_assoc x (codes " " ++ mark_text m ++ y) rest ∙ ap (λ z. x ++ z) (append_assoc (codes " " ++ mark_text m) y rest) in
    let chain = p (32 ∷ (mark_text m ++ (y ++ rest))) ts refl (rw texts at tokens) in
    let k = marked-first P m y rest chain.others q ends (tokens-blank 32 (mark_text m ++ (y ++ rest)) chain.others refl chain.rest_tokens) in
    record {
      others = k.atom.others;
      rest_tokens = k.atom.rest_tokens;
      stands = chain-more Q R P (mark_for m) ts chain.others k.middle k.atom.others chain.stands k.marked k.atom.stands has;
    }

-- ---- objects

spells-chain : (Q : WrittenObject → List (SMode × WrittenObject) → Type 0) (P : WrittenObject → Type 0) (x : List ℕ) → Spells (ChainStands Q) x
    → ((s : Span) (a : WrittenObject) (xs : List (SMode × WrittenObject)) → Q a xs → P (applied s a xs)) → SpellsObject P x
spells-chain Q P x s has rest ts ends follows tokens =
    let f = s rest ts ends tokens in
    record { others = f.others; rest_tokens = f.rest_tokens; stands = chain-object Q P ts f.others f.stands (follows f.others f.rest_tokens) has }

spells-atom : (P : WrittenObject → Type 0) (x : List ℕ) → Spells (AtomStands P) x → SpellsObject P x
spells-atom P x s rest ts ends follows tokens =
    let f = s rest ts ends tokens in
    record { others = f.others; rest_tokens = f.rest_tokens; stands = atom-object P ts f.others f.stands (follows f.others f.rest_tokens) }

-- a mark and the name of a variable
pub record BinderFirst (mark : SMode) (name : List ℕ) (ts : List Lexeme) (rest : List ℕ) : Type 0 where
  pub token : Lexeme
  pub others : List Lexeme
  pub capital : Bool
  pub marked : MarkStands mark ts (token ∷ others)
  pub kind_is : token.kind ≡ kind.Name capital
  pub spelled : token.spelling ≡ name
  pub rest_tokens : AreTokens others rest

pub binder-first : (m : Mode) (name rest : List ℕ) (ts : List Lexeme) → IsTrue (is_declarable name) → ends_word rest ≡ true → AreTokens ts (mark_text m ++ (name ++ rest))
    → BinderFirst (mark_for m) name ts rest
binder-first Persistent name rest ts fit ends tokens =
    let b = tokens-bang (name ++ rest) ts tokens in
    let x = tokens-name name rest b.others fit ends b.rest_tokens in
    let marked : MarkStands (mark_for Persistent) ts b.others = rw (← b.is) at (bang-mark b.first b.others b.kind_is) in
    record { token = x.1.first; others = x.1.others; capital = x.0; marked = rw x.1.is at marked; kind_is = x.1.kind_is; spelled = x.1.spelled; rest_tokens = x.1.rest_tokens }
binder-first Affine name rest ts fit ends tokens =
    let b = tokens-at (name ++ rest) ts tokens in
    let x = tokens-name name rest b.others fit ends b.rest_tokens in
    let marked : MarkStands (mark_for Affine) ts b.others = rw (← b.is) at (at-mark b.first b.others b.kind_is) in
    record { token = x.1.first; others = x.1.others; capital = x.0; marked = rw x.1.is at marked; kind_is = x.1.kind_is; spelled = x.1.spelled; rest_tokens = x.1.rest_tokens }
binder-first Linear name rest ts fit ends tokens =
    let x = tokens-name name rest ts fit ends tokens in
    let marked : MarkStands (mark_for Linear) ts (x.1.first ∷ x.1.others) = name-mark ts x.1.others x.1.first x.0 x.1.is x.1.kind_is in
    record { token = x.1.first; others = x.1.others; capital = x.0; marked = marked; kind_is = x.1.kind_is; spelled = x.1.spelled; rest_tokens = x.1.rest_tokens }

pub spells-lambda : (P R : WrittenObject → Type 0) (m : Mode) (level : ℕ) (x : List ℕ) → level + 1 < 2 ^ 64 → SpellsObject P x
    → ((s : Span) (a : WrittenObject) → P a → R (lam s (mark_for m) (Some (variable_text (level + 1))) a)) → SpellsObject R (codes "\\" ++ binder_text level m ++ codes ". " ++ x)
spells-lambda P R m level x small p has rest ts ends follows tokens =
    let name : List ℕ = variable_text (level + 1) in
    let texts : (binder_text level m ++ codes ". " ++ x) ++ rest ≡ mark_text m ++ (name ++ (46 ∷ 32 ∷ (x ++ rest))) =
    append_assoc (binder_text level m ++ codes ". ") x rest ∙ (append_assoc (binder_text level m) (codes ". ") (x ++ rest) ∙ append_assoc (mark_text m) name (46 ∷ 32 ∷ (x ++ rest))) in
    let l = tokens-backslash (mark_text m ++ (name ++ (46 ∷ 32 ∷ (x ++ rest)))) ts (rw texts at tokens) in
    let b = binder-first m name (46 ∷ 32 ∷ (x ++ rest)) l.others (variable-declarable (level + 1) small) refl l.rest_tokens in
    let d = tokens-stop (32 ∷ (x ++ rest)) b.others b.rest_tokens in
    let body = p rest d.others ends follows (tokens-blank 32 (x ++ rest) d.others refl d.rest_tokens) in
    let stands = lambda-stands P R (mark_for m) l.first b.token d.first l.others b.others d.others body.others b.capital name l.kind_is b.marked b.kind_is b.spelled d.is d.kind_is body.stands has in
    record { others = body.others; rest_tokens = body.rest_tokens; stands = rw (← l.is) at stands }

-- ---- with and without parentheses

-- A neutral is spelled as an application, or as an atom.
abbrev pub SpellsNeutral : Bool → (WrittenObject → List (SMode × WrittenObject) → Type 0) → List ℕ → Type 0
SpellsNeutral true Q x = Spells (ChainStands Q) x
SpellsNeutral false Q x = Spells (AtomStands (λ a. Q a [])) x

pub neutral-chain : (b : Bool) (Q : WrittenObject → List (SMode × WrittenObject) → Type 0) (x : List ℕ) → SpellsNeutral b Q x → Spells (ChainStands Q) x
neutral-chain true Q x s = s
neutral-chain false Q x s = spells-alone (λ a. Q a []) Q x s (λ a h. h)

pub neutral-atom : (b : Bool) (Q : WrittenObject → List (SMode × WrittenObject) → Type 0) (x : List ℕ) → ((s : Span) (a : WrittenObject) (xs : List (SMode × WrittenObject)) → Q a xs → Q (applied s a xs) [])
    → SpellsNeutral b Q x → Spells (AtomStands (λ a. Q a [])) (grouped b x)
neutral-atom true Q x whole s = spells-group (λ a. Q a []) x (spells-chain Q (λ a. Q a []) x s whole)
neutral-atom false Q x whole s = rw (append-nil x) s

-- An object is spelled as an atom, or as one that needs parentheses.
abbrev pub SpellsAs : Bool → (WrittenObject → Type 0) → List ℕ → Type 0
SpellsAs true P x = Spells (AtomStands P) x
SpellsAs false P x = SpellsObject P x

pub as-object : (b : Bool) (P : WrittenObject → Type 0) (x : List ℕ) → SpellsAs b P x → SpellsObject P x
as-object true P x s = spells-atom P x s
as-object false P x s = s

pub as-atom : (b : Bool) (P : WrittenObject → Type 0) (x : List ℕ) → SpellsAs b P x → Spells (AtomStands P) (grouped (not b) x)
as-atom true P x s = rw (append-nil x) s
as-atom false P x s = spells-group P x s

-- A neutral as an object.
pub neutral-as : (b : Bool) (Q : WrittenObject → List (SMode × WrittenObject) → Type 0) (P : WrittenObject → Type 0) (x : List ℕ) → ((s : Span) (a : WrittenObject) (xs : List (SMode × WrittenObject)) → Q a xs → Q (applied s a xs) [])
    → ((a : WrittenObject) → Q a [] → P a) → SpellsNeutral b Q x → SpellsAs (not b) P x
neutral-as true Q P x whole has s = spells-chain Q P x s (λ at a xs h. has (applied at a xs) (whole at a xs h))
neutral-as false Q P x whole has s = spells-has (λ a. Q a []) P x s has
