-- Parts with commas between them, in brackets where there are several: patterns and tuples.
use Rattle.std.proofs.Common.{ℕ, ◌≡◌, ◌+◌, ◌-◌, ◌≤◌, suc, refl, ◌∙◌, List, [], ◌∷◌, ◌++◌, append_assoc, codes, arith, true, false}
use Rattle.celf_lexer.specs.declared.token.TokenKind.TheVariants as kind
use Rattle.celf_lexer.specs.Tokens.{Lexeme}
use Rattle.celf_lexer.proofs.Spelling.{AreTokens, BeginsWith, ends_word, tokens-blank}
use Rattle.celf_grammar.specs.State.{State, next_kind, Ends, Takes, Opens, Closes}
use Rattle.celf_grammar.specs.Grammar.{is_comma}
use Rattle.celf_spelling.proofs.Standing.{state, behind, end_of, takes-first, opens-first, closes-first, opening-first, IsRead, Stands, StandsFirst}
use Rattle.celf_spelling.proofs.Signs.{tokens-comma, tokens-left_bracket, tokens-right_bracket}
use Rattle.celf_spelling.proofs.ObjectSpelled.{EndsObject, comma-ends}

-- The text spells a part, where no argument follows.
abbrev pub SpellsPart : (List Lexeme → List Lexeme → Type 0) → List ℕ → Type 0
SpellsPart F text = (rest : List ℕ) (ts : List Lexeme) → ends_word rest ≡ true → EndsObject rest → AreTokens ts (text ++ rest) → StandsFirst F ts rest

pub part-map : (F G : List Lexeme → List Lexeme → Type 0) (x : List ℕ) → ((ts us : List Lexeme) → F ts us → G ts us) → SpellsPart F x → SpellsPart G x
part-map F G x f s rest ts ends follows tokens =
    let part = s rest ts ends follows tokens in
    record { others = part.others; rest_tokens = part.rest_tokens; stands = f ts part.others part.stands }

bracket-ends : (rest : List ℕ) → EndsObject (93 ∷ rest)
bracket-ends rest us tokens = let b = tokens-right_bracket rest us tokens in rw (b.is, b.kind_is) refl

-- what a sequence is by the grammar, from its first part on
pub record IsSequence {T : Type 0} (R : State → T → State → Type 0) (Rs : State → List T → State → Type 0) (whole : List T → T) : Type 0 where
  pub one : {s u : State} {t : T} → R s t u → Rs s (t ∷ []) u
  pub more : {s u v w : State} {t : T} {xs : List T} → R s t u → Takes kind.Comma u v → Rs v xs w → Rs s (t ∷ xs) w
  pub brackets : {s u v w : State} {xs : List T} → Opens kind.LeftBracket s u → Rs u xs v → Ends is_comma v → Closes kind.RightBracket s.room v w → R s (whole xs) w

module _ {T : Type 0} (R : State → T → State → Type 0) (Rs : State → List T → State → Type 0) (whole : List T → T) (sequence : IsSequence R Rs whole) where
  one-stands : (P : T → Type 0) (Q : List T → Type 0) (ts us : List Lexeme) → ((t : T) → P t → Q (t ∷ [])) → Stands R P ts us → Stands Rs Q ts us
  one-stands P Q ts us has a = record { depth = a.depth; opened = a.opened; fits = a.fits; read = read }
    where
      read : (m e : ℕ) → a.depth ≤ m → IsRead Rs Q (state ts (a.opened + m) e) us m
      read m e h =
          let part = a.read m e h in
          record { tree = part.tree ∷ []; has = has part.tree part.has; end = part.end; parse = sequence.one part.parse }

  pub spells-one : (P : T → Type 0) (Q : List T → Type 0) (x : List ℕ) → ((t : T) → P t → Q (t ∷ [])) → SpellsPart (Stands R P) x → SpellsPart (Stands Rs Q) x
  spells-one P Q x has s = part-map (Stands R P) (Stands Rs Q) x (λ ts us a. one-stands P Q ts us has a) s

  more-stands : (P : T → Type 0) (Q S : List T → Type 0) (rest : List ℕ) (ts us vs : List Lexeme) → Stands R P ts us → (c : BeginsWith kind.Comma (codes ",") rest us) → Stands Rs Q c.others vs
      → ((t : T) (xs : List T) → P t → Q xs → S (t ∷ xs)) → Stands Rs S ts vs
  more-stands P Q S rest ts us vs a c b has = record { depth = a.depth + b.depth; opened = a.opened + b.opened; fits = omega (arith, a.fits, b.fits, opening-first c); read = read }
    where
      read : (m e : ℕ) → a.depth + b.depth ≤ m → IsRead Rs S (state ts (a.opened + b.opened + m) e) vs m
      read m e h =
          let room : a.opened + b.opened + m ≡ a.opened + (b.opened + m) = omega arith in
          let left = a.read (b.opened + m) e (omega arith) in
          let right = b.read m (end_of c.first) (omega arith) in
          rw room (record {
            tree = left.tree ∷ right.tree;
            has = has left.tree right.tree left.has right.has;
            end = right.end;
            parse = sequence.more left.parse (takes-first c (b.opened + m) left.end) right.parse;
          })

  pub spells-more : (P : T → Type 0) (Q S : List T → Type 0) (x y : List ℕ) → SpellsPart (Stands R P) x → SpellsPart (Stands Rs Q) y → ((t : T) (xs : List T) → P t → Q xs → S (t ∷ xs))
      → SpellsPart (Stands Rs S) (x ++ codes ", " ++ y)
  spells-more P Q S x y p q has rest ts ends follows tokens =
      let texts : (x ++ codes ", " ++ y) ++ rest ≡ x ++ (codes ", " ++ (y ++ rest)) =
      append_assoc (x ++ codes ", ") y rest ∙ append_assoc x (codes ", ") (y ++ rest) in
      let left = p (codes ", " ++ (y ++ rest)) ts refl (comma-ends (32 ∷ (y ++ rest))) (rw texts at tokens) in
      let c = tokens-comma (32 ∷ (y ++ rest)) left.others left.rest_tokens in
      let right = q rest c.others ends follows (tokens-blank 32 (y ++ rest) c.others refl c.rest_tokens) in
      record { others = right.others; rest_tokens = right.rest_tokens; stands = more-stands P Q S (32 ∷ (y ++ rest)) ts left.others right.others left.stands c right.stands has }

  brackets-stand : (P : List T → Type 0) (Q : T → Type 0) (x y : List ℕ) (ts us : List Lexeme) (l : BeginsWith kind.LeftBracket (codes "[") x ts) → Stands Rs P l.others us
      → (r : BeginsWith kind.RightBracket (codes "]") y us) → ((xs : List T) → P xs → Q (whole xs)) → Stands R Q ts r.others
  brackets-stand P Q x y ts us l a r has = record { depth = suc (a.opened + a.depth); opened = 0; fits = omega (arith, a.fits, opening-first l, opening-first r); read = read }
    where
      read : (m e : ℕ) → suc (a.opened + a.depth) ≤ m → IsRead R Q (state ts (0 + m) e) r.others m
      read m e h =
          let inner : ℕ = m - suc a.opened in
          let room : suc (a.opened + inner) ≡ m = omega arith in
          let none : 0 + m ≡ m = omega arith in
          let part = a.read inner (end_of l.first) (omega arith) in
          let opened : Opens kind.LeftBracket (state ts m e) (behind l.first l.others (a.opened + inner)) = rw room at (opens-first l (a.opened + inner) e) in
          let ends : is_comma (next_kind us) ≡ false = rw (r.is, r.kind_is) refl in
          rw none (record {
            tree = whole part.tree;
            has = has part.tree part.has;
            end = end_of r.first;
            parse = sequence.brackets opened part.parse ends (closes-first r inner m part.end);
          })

  pub spells-brackets : (P : List T → Type 0) (Q : T → Type 0) (x : List ℕ) → ((xs : List T) → P xs → Q (whole xs)) → SpellsPart (Stands Rs P) x → SpellsPart (Stands R Q) (codes "[" ++ x ++ codes "]")
  spells-brackets P Q x has s rest ts ends follows tokens =
      let l = tokens-left_bracket (x ++ (93 ∷ rest)) ts (rw (append_assoc x (93 ∷ []) rest) at tokens) in
      let part = s (93 ∷ rest) l.others refl (bracket-ends rest) l.rest_tokens in
      let r = tokens-right_bracket rest part.others part.rest_tokens in
      record { others = r.others; rest_tokens = r.rest_tokens; stands = brackets-stand P Q (x ++ (93 ∷ rest)) rest ts part.others l part.stands r has }
