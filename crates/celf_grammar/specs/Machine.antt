-- Inner: a machine that reads tokens one after another and keeps, as a list of symbols, what must still be read. It answers at the first
-- token with which the reading cannot go on.
use Rattle.std.specs.Prelude.{ℕ, zero, suc, ◌+◌, Bool, true, false, ◌&&◌, if◌then◌else◌, List, [], ◌∷◌, length, codes}
use Rattle.std.specs.Str.{bytes_eq}
use Rattle.celf_lexer.specs.declared.token.TokenKind.{TokenKind}
use Rattle.celf_lexer.specs.declared.token.TokenKind.TheVariants.{Number, ConstName}
use Rattle.celf_lexer.specs.declared.token.TokenKind.TheVariants as token
use Rattle.celf_lexer.specs.Tokens.{Lexeme}
use Rattle.celf_grammar.specs.State.{State}
use Rattle.celf_grammar.specs.KindNumbers.{same_kind}
use Rattle.celf_grammar.specs.Grammar.{is_forward, is_backward, is_amp, is_star, is_comma, is_let, is_left_bracket, is_mark, begins_argument, begins_index}

-- What may still have to be read: a token, or what a production of the grammar reads, or the rest of it.
pub data Symbol : Type 0 where
  -- a token of this kind
  Expect : TokenKind → Symbol
  -- a token of this kind, after which there is so much room
  Close : TokenKind → ℕ → Symbol
  -- nothing; after it there is so much room
  Restore : ℕ → Symbol
  -- NAME
  NameWord : Symbol
  -- NUM
  NumberWord : Symbol
  -- [ '!' | '@' ]
  Mark : Symbol
  -- (NAME | '_')
  Binder : Symbol
  -- pat
  Pattern : Symbol
  -- { ',' pat }
  PatternTail : Symbol
  -- obj
  Object : Symbol
  -- app
  Application : Symbol
  -- { [ '!' | '@' ] atom }
  Arguments : Symbol
  -- atom
  Atom : Symbol
  -- expr
  Expression : Symbol
  -- '{' pat '}'
  LetPattern : Symbol
  -- tuple
  Tuple : Symbol
  -- { ',' tuple }
  TupleTail : Symbol
  -- [ '!' ] atom
  Index : Symbol
  -- { index }
  Indices : Symbol
  -- FAMILY
  FamilyName : Symbol
  -- type
  Whole : Symbol
  -- { ('<-' | 'o-') fwd }
  BackTail : Symbol
  -- fwd
  Forward : Symbol
  -- [ ('->' | '-o' | '-@') fwd ]
  ForwardTail : Symbol
  -- sync
  Sync : Symbol
  -- [ '*' sync ]
  StarTail : Symbol
  -- factor
  Factor : Symbol
  -- with
  With : Symbol
  -- [ '&' with ]
  AmpTail : Symbol
  -- atomty
  TypeAtom : Symbol
  -- bound
  Bound : Symbol
  -- [ '[' NUM ']' ]
  Implicit : Symbol
  -- an item without its full stop
  Body : Symbol
  -- item
  Item : Symbol

abbrev pub is_bang : TokenKind → Bool
is_bang token.Bang = true
is_bang _ = false

-- the number word spelled 1
abbrev pub is_one : Lexeme → Bool
is_one t = same_kind t.kind Number && bytes_eq t.spelling (codes "1")

-- What a token does to what must still be read.
pub data Fed : Type 0 where
  -- it is taken: this must be read after it, and there is so much room
  next : List Symbol → ℕ → Fed
  -- nothing had to be read any more, and the token stays
  done : ℕ → Fed
  -- nothing goes on with it
  stops : Fed
  -- it opens a part for which there is no room
  deep : Fed

-- A token that opens a part is taken, where there is room.
abbrev pub opens : ℕ → List Symbol → Fed
opens zero k = deep
opens (suc n) k = next k n

-- In each of these k is what must be read after the part that the token begins.
abbrev pub on_token : Bool → ℕ → List Symbol → Fed
on_token b room k = if b then next k room else stops

abbrev pub on_name : TokenKind → ℕ → List Symbol → Fed
on_name (token.Name c) room k = next k room
on_name _ room k = stops

abbrev pub on_binder : TokenKind → ℕ → List Symbol → Fed
on_binder (token.Name c) room k = next k room
on_binder token.Hole room k = next k room
on_binder _ room k = stops

abbrev pub on_pattern : Lexeme → ℕ → List Symbol → Fed
on_pattern t room k =
    if is_one t then next k room
    else if is_left_bracket t.kind then opens room (Pattern ∷ PatternTail ∷ Close token.RightBracket room ∷ k)
    else if is_mark t.kind then next (Binder ∷ k) room
    else on_binder t.kind room k

abbrev pub on_atom : TokenKind → ℕ → List Symbol → Fed
on_atom (token.Name c) room k = next k room
on_atom token.ConstName room k = next k room
on_atom token.Hole room k = next k room
on_atom token.UnitSign room k = next k room
on_atom token.Less room k = opens room (Object ∷ Expect token.Comma ∷ Object ∷ Close token.Greater room ∷ k)
on_atom token.LeftBrace room k = opens room (Expression ∷ Close token.RightBrace room ∷ k)
on_atom token.LeftParen room k = opens room (Object ∷ Close token.RightParen room ∷ k)
on_atom token.Proj1 room k = opens room (Atom ∷ Restore room ∷ k)
on_atom token.Proj2 room k = opens room (Atom ∷ Restore room ∷ k)
on_atom _ room k = stops

abbrev pub on_object : TokenKind → ℕ → List Symbol → Fed
on_object token.Backslash room k = opens room (Mark ∷ Binder ∷ Expect token.Stop ∷ Object ∷ k)
on_object c room k = on_atom c room (Arguments ∷ k)

abbrev pub on_argument : TokenKind → ℕ → List Symbol → Fed
on_argument c room k = if is_mark c then next (Atom ∷ k) room else on_atom c room k

abbrev pub on_tuple : Lexeme → ℕ → List Symbol → Fed
on_tuple t room k =
    if is_one t then next k room
    else if is_left_bracket t.kind then opens room (Tuple ∷ TupleTail ∷ Close token.RightBracket room ∷ k)
    else if is_mark t.kind then next (Atom ∷ k) room
    else on_object t.kind room k

abbrev pub on_expression : Lexeme → ℕ → List Symbol → Fed
on_expression t room k =
    if is_let t.kind then next (LetPattern ∷ Expect token.Equals ∷ Application ∷ Expect token.KwIn ∷ Expression ∷ k) room
    else on_tuple t room k

abbrev pub on_let_pattern : TokenKind → ℕ → List Symbol → Fed
on_let_pattern token.LeftBrace room k = opens room (Pattern ∷ Close token.RightBrace room ∷ k)
on_let_pattern _ room k = stops

abbrev pub on_index : TokenKind → ℕ → List Symbol → Fed
on_index c room k = if is_bang c then next (Atom ∷ k) room else on_atom c room k

abbrev pub on_family_name : TokenKind → ℕ → List Symbol → Fed
on_family_name (token.Name c) room k = next k room
on_family_name token.ConstName room k = next k room
on_family_name _ room k = stops

abbrev pub on_type_atom_kind : TokenKind → ℕ → List Symbol → Fed
on_type_atom_kind token.KwType room k = next k room
on_type_atom_kind token.TopSign room k = next k room
on_type_atom_kind token.LeftBrace room k = opens room (Whole ∷ Close token.RightBrace room ∷ k)
on_type_atom_kind token.LeftParen room k = opens room (Whole ∷ Close token.RightParen room ∷ k)
on_type_atom_kind c room k = on_family_name c room (Indices ∷ k)

abbrev pub on_type_atom : Lexeme → ℕ → List Symbol → Fed
on_type_atom t room k = if is_one t then next k room else on_type_atom_kind t.kind room k

abbrev pub on_with : Lexeme → ℕ → List Symbol → Fed
on_with t room k = on_type_atom t room (AmpTail ∷ k)

abbrev pub on_factor : Lexeme → ℕ → List Symbol → Fed
on_factor t room k = if is_mark t.kind then next (With ∷ k) room else on_with t room k

abbrev pub is_exists : TokenKind → Bool
is_exists token.KwExists = true
is_exists _ = false

abbrev pub is_pi : TokenKind → Bool
is_pi token.KwPi = true
is_pi _ = false

abbrev pub on_sync : Lexeme → ℕ → List Symbol → Fed
on_sync t room k =
    if is_exists t.kind then opens room (NameWord ∷ Expect token.Colon ∷ Whole ∷ Expect token.Stop ∷ Sync ∷ k)
    else on_factor t room (StarTail ∷ k)

abbrev pub on_forward : Lexeme → ℕ → List Symbol → Fed
on_forward t room k =
    if is_pi t.kind then opens room (NameWord ∷ Expect token.Colon ∷ Whole ∷ Expect token.Stop ∷ Whole ∷ k)
    else on_sync t room (ForwardTail ∷ k)

abbrev pub on_type : Lexeme → ℕ → List Symbol → Fed
on_type t room k = on_forward t room (BackTail ∷ k)

abbrev pub on_bound : TokenKind → ℕ → List Symbol → Fed
on_bound token.Number room k = next k room
on_bound token.Star room k = next k room
on_bound _ room k = stops

abbrev pub on_directive : List ℕ → ℕ → List Symbol → Fed
on_directive word room k =
    if bytes_eq word (codes "#query") then next (Bound ∷ Bound ∷ Bound ∷ Bound ∷ Whole ∷ k) room
    else if bytes_eq word (codes "#trace") then next (Bound ∷ Whole ∷ k) room
    else if bytes_eq word (codes "#equal") then next (Object ∷ Expect token.Equals ∷ Object ∷ Expect token.Colon ∷ Whole ∷ k) room
    else if bytes_eq word (codes "#check") then next (Object ∷ Expect token.Colon ∷ Whole ∷ k) room
    else stops

abbrev pub on_body : TokenKind → List ℕ → ℕ → List Symbol → Fed
on_body (token.Name c) word room k = next (Expect token.Colon ∷ Implicit ∷ Whole ∷ k) room
on_body token.Directive word room k = on_directive word room k
on_body _ word room k = stops

-- What a token does, by what must be read first. A repetition or an option that the token does not continue ends there.
abbrev pub feed : List Symbol → ℕ → Lexeme → Fed
feed [] room t = done room
feed (Expect c ∷ k) room t = on_token (same_kind t.kind c) room k
feed (Close c before ∷ k) room t = on_token (same_kind t.kind c) before k
feed (Restore before ∷ k) room t = feed k before t
feed (NameWord ∷ k) room t = on_name t.kind room k
feed (NumberWord ∷ k) room t = on_token (same_kind t.kind Number) room k
feed (Mark ∷ k) room t = if is_mark t.kind then next k room else feed k room t
feed (Binder ∷ k) room t = on_binder t.kind room k
feed (Pattern ∷ k) room t = on_pattern t room k
feed (PatternTail ∷ k) room t = if is_comma t.kind then next (Pattern ∷ PatternTail ∷ k) room else feed k room t
feed (Object ∷ k) room t = on_object t.kind room k
feed (Application ∷ k) room t = on_atom t.kind room (Arguments ∷ k)
feed (Arguments ∷ k) room t = if begins_argument t.kind then on_argument t.kind room (Arguments ∷ k) else feed k room t
feed (Atom ∷ k) room t = on_atom t.kind room k
feed (Expression ∷ k) room t = on_expression t room k
feed (LetPattern ∷ k) room t = on_let_pattern t.kind room k
feed (Tuple ∷ k) room t = on_tuple t room k
feed (TupleTail ∷ k) room t = if is_comma t.kind then next (Tuple ∷ TupleTail ∷ k) room else feed k room t
feed (Index ∷ k) room t = on_index t.kind room k
feed (Indices ∷ k) room t = if begins_index t.kind then on_index t.kind room (Indices ∷ k) else feed k room t
feed (FamilyName ∷ k) room t = on_family_name t.kind room k
feed (Whole ∷ k) room t = on_type t room k
feed (BackTail ∷ k) room t = if is_backward t.kind then opens room (Forward ∷ BackTail ∷ k) else feed k room t
feed (Forward ∷ k) room t = on_forward t room k
feed (ForwardTail ∷ k) room t = if is_forward t.kind then opens room (Forward ∷ k) else feed k room t
feed (Sync ∷ k) room t = on_sync t room k
feed (StarTail ∷ k) room t = if is_star t.kind then next (Sync ∷ k) room else feed k room t
feed (Factor ∷ k) room t = on_factor t room k
feed (With ∷ k) room t = on_with t room k
feed (AmpTail ∷ k) room t = if is_amp t.kind then opens room (With ∷ k) else feed k room t
feed (TypeAtom ∷ k) room t = on_type_atom t room k
feed (Bound ∷ k) room t = on_bound t.kind room k
feed (Implicit ∷ k) room t = if is_left_bracket t.kind then next (NumberWord ∷ Expect token.RightBracket ∷ k) room else feed k room t
feed (Body ∷ k) room t = on_body t.kind t.spelling room k
feed (Item ∷ k) room t = on_body t.kind t.spelling room (Expect token.Stop ∷ k)

-- What a run comes to.
pub data Verdict : Type 0 where
  -- all was read, and this is left
  accepted : State → Verdict
  -- nothing goes on with this token
  unexpected : Lexeme → Verdict
  -- this token opens a part for which there is no room
  too_deep : Lexeme → Verdict
  -- there is no token any more, and something must be read
  lacking : Verdict

-- where there is no token any more
abbrev pub at_end : List Symbol → ℕ → ℕ → Verdict
at_end [] room end = accepted (record { rest = []; room = room; end = end })
at_end (Restore before ∷ k) room end = at_end k before end
at_end (Mark ∷ k) room end = at_end k room end
at_end (PatternTail ∷ k) room end = at_end k room end
at_end (Arguments ∷ k) room end = at_end k room end
at_end (TupleTail ∷ k) room end = at_end k room end
at_end (Indices ∷ k) room end = at_end k room end
at_end (BackTail ∷ k) room end = at_end k room end
at_end (ForwardTail ∷ k) room end = at_end k room end
at_end (StarTail ∷ k) room end = at_end k room end
at_end (AmpTail ∷ k) room end = at_end k room end
at_end (Implicit ∷ k) room end = at_end k room end
at_end (s ∷ k) room end = lacking

-- what comes of a token with others after it, where go is the run of these
abbrev pub after_token : Lexeme → List Lexeme → (List Symbol → ℕ → ℕ → Verdict) → ℕ → Fed → Verdict
after_token t ts go end (next k room) = go k room (t.start + length t.spelling)
after_token t ts go end (done room) = accepted (record { rest = t ∷ ts; room = room; end = end })
after_token t ts go end stops = unexpected t
after_token t ts go end deep = too_deep t

abbrev pub runs_on : List Lexeme → List Symbol → ℕ → ℕ → Verdict
runs_on [] k room end = at_end k room end
runs_on (t ∷ ts) k room end = after_token t ts (runs_on ts) end (feed k room t)

-- the run that reads these symbols from a state on
unfoldable pub runs : List Symbol → State → Verdict
runs k s = runs_on s.rest k s.room s.end

-- where nothing goes on with the next token
abbrev pub stops_on : List Lexeme → Verdict
stops_on [] = lacking
stops_on (t ∷ ts) = unexpected t

unfoldable pub stops_at : State → Verdict
stops_at s = stops_on s.rest

-- where the next token opens a part for which there is no room
abbrev pub deep_on : List Lexeme → Verdict
deep_on [] = lacking
deep_on (t ∷ ts) = too_deep t

unfoldable pub deep_at : State → Verdict
deep_at s = deep_on s.rest
