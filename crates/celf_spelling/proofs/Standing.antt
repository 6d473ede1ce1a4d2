-- Tokens that stand for a part by the grammar: where a reading stands, and what it takes.
use Rattle.std.proofs.Common.{ℕ, ◌≡◌, ◌+◌, ◌-◌, ◌≤◌, suc, if◌then◌else◌, refl, ap, ◌∙◌, List, ◌∷◌, arith, length}
use Rattle.std.proofs.lemmas.List.Sums.{sum_by-cons}
use Rattle.celf_lexer.specs.declared.token.TokenKind.{TokenKind}
use Rattle.celf_lexer.specs.Tokens.{Lexeme}
use Rattle.celf_lexer.proofs.Spelling.{AreTokens, BeginsWith}
use Rattle.celf_spelling.specs.Spelling.{opening}
use Rattle.celf_grammar.specs.Faults.{opens_part}
use Rattle.celf_grammar.specs.State.{State, TakesToken, Takes, Opens, Closes, EndsPart}

-- the state before these tokens
abbrev pub state : List Lexeme → ℕ → ℕ → State
state ts n e = record { rest = ts; room = n; end = e }

-- the byte after a token
abbrev pub end_of : Lexeme → ℕ
end_of t = t.start + length t.spelling

-- the state after a token
abbrev pub behind : Lexeme → List Lexeme → ℕ → State
behind t us n = state us n (end_of t)

pub taken : (t : Lexeme) (us : List Lexeme) (n m e : ℕ) → TakesToken m t (state (t ∷ us) n e) (behind t us m)
taken t us n m e = record { first = refl; room = refl; behind = refl }

pub takes : (k : TokenKind) (t : Lexeme) (us : List Lexeme) (n e : ℕ) → t.kind ≡ k → Takes k (state (t ∷ us) n e) (behind t us n)
takes k t us n e is = record { token = t; taken = taken t us n n e; kind = is }

pub opens : (k : TokenKind) (t : Lexeme) (us : List Lexeme) (n e : ℕ) → t.kind ≡ k → Opens k (state (t ∷ us) (suc n) e) (behind t us n)
opens k t us n e is =
    let left : suc n - 1 ≡ n = omega arith in
    record { token = t; taken = rw left (taken t us (suc n) n e); opened = omega arith; kind = is }

pub ends-part : (us : List Lexeme) (n m e : ℕ) → EndsPart m (state us n e) (state us m e)
ends-part us n m e = record { rest = refl; room = refl; end = refl }

-- ---- how many parts are opened

pub opening-token : (t : Lexeme) (us : List Lexeme) (k : TokenKind) → t.kind ≡ k → opening (t ∷ us) ≡ (if opens_part k then 1 else 0) + opening us
opening-token t us k is = rw (← is) (sum_by-cons (λ (l : Lexeme). if opens_part l.kind then 1 else 0) t us)

-- a token opens one part or none
pub opening-behind : (t : Lexeme) (us : List Lexeme) → opening us ≤ opening (t ∷ us)
opening-behind t us = omega (arith, opening-token t us t.kind refl)

pub opening-first : {k : TokenKind} {text rest : List ℕ} {ts : List Lexeme} (b : BeginsWith k text rest ts) → opening ts ≡ (if opens_part k then 1 else 0) + opening b.others
opening-first {k = k} b = ap (λ ls. opening ls) b.is ∙ opening-token b.first b.others k b.kind_is

-- ---- the same of a token that a text begins with

pub taken-first : {k : TokenKind} {text rest : List ℕ} {ts : List Lexeme} (b : BeginsWith k text rest ts) (n m e : ℕ) → TakesToken m b.first (state ts n e) (behind b.first b.others m)
taken-first b n m e = record { first = b.is; room = refl; behind = refl }

pub takes-first : {k : TokenKind} {text rest : List ℕ} {ts : List Lexeme} (b : BeginsWith k text rest ts) (n e : ℕ) → Takes k (state ts n e) (behind b.first b.others n)
takes-first b n e = record { token = b.first; taken = taken-first b n n e; kind = b.kind_is }

pub opens-first : {k : TokenKind} {text rest : List ℕ} {ts : List Lexeme} (b : BeginsWith k text rest ts) (n e : ℕ) → Opens k (state ts (suc n) e) (behind b.first b.others n)
opens-first b n e =
    let left : suc n - 1 ≡ n = omega arith in
    record { token = b.first; taken = rw left (taken-first b (suc n) n e); opened = omega arith; kind = b.kind_is }

pub closes-first : {k : TokenKind} {text rest : List ℕ} {ts : List Lexeme} (b : BeginsWith k text rest ts) (n m e : ℕ) → Closes k m (state ts n e) (behind b.first b.others m)
closes-first b n m e = record { token = b.first; taken = taken-first b n m e; kind = b.kind_is }

-- ---- a part by a relation of the grammar

-- From a state on a tree is read that has the property, up to the tokens us with so much room.
pub record IsRead {T : Type 0} (R : State → T → State → Type 0) (P : T → Type 0) (s : State) (us : List Lexeme) (m : ℕ) : Type 0 where
  pub tree : T
  pub has : P tree
  pub end : ℕ
  pub parse : R s tree (state us m end)

-- The tokens ts begin with such a tree, and the tokens us follow it. However much room is left after it, as long as it is so
-- deep, so many parts more are open before it: both together are no more than these tokens open.
pub record Stands {T : Type 0} (R : State → T → State → Type 0) (P : T → Type 0) (ts us : List Lexeme) : Type 0 where
  pub depth : ℕ
  pub opened : ℕ
  pub fits : depth + opened + opening us ≤ opening ts
  pub read : (m e : ℕ) → depth ≤ m → IsRead R P (state ts (opened + m) e) us m

-- the tokens ts up to some others, which are those of the rest
pub record StandsFirst (F : List Lexeme → List Lexeme → Type 0) (ts : List Lexeme) (rest : List ℕ) : Type 0 where
  pub others : List Lexeme
  pub rest_tokens : AreTokens others rest
  pub stands : F ts others
