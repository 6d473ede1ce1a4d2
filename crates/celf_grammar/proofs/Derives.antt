-- What the machine reads, the grammar derives.
use Rattle.std.proofs.Common.{◌≡◌, ◌-◌, ◌+◌, ℕ, zero, suc, List, [], ◌∷◌, Bool, true, false, length, codes, drop, refl, sym, ap, ◌∙◌, subst, arith, Option, Some, None, is_some}
use Rattle.std.specs.Prelude.{if◌then◌else◌}
use Rattle.std.specs.Str.{bytes_eq}
use Rattle.std.proofs.lemmas.Bool.{true≢false, and_parts}
use Rattle.std.proofs.lemmas.Slice.Eq.{bytes_eq-Decides}
use Rattle.celf_lexer.specs.declared.token.TokenKind.{TokenKind}
use Rattle.celf_lexer.specs.declared.token.TokenKind.TheVariants as token
use Rattle.celf_lexer.specs.Tokens.{Lexeme}
use Rattle.celf_surface.specs.declared.surface.Arrow.{Arrow}
use Rattle.celf_surface.specs.declared.surface.Bound.{Bound as BoundTree}
use Rattle.celf_surface.specs.declared.surface.SMode.{SMode}
use Rattle.celf_surface.specs.declared.surface.SMode.TheVariants.{Bare}
use Rattle.celf_surface.specs.Surface.{WrittenPattern as PatternTree, WrittenObject as ObjectTree, WrittenSteps, steps_of, WrittenTuple as TupleTree, WrittenType, WrittenItem, WrittenBody as BodyTree}
use Rattle.celf_grammar.specs.State.{State, Ends, Takes, Opens, Closes, EndsPart, TakesToken, TakesName, TakesConstant, TakesWord, TakesOne, TakesNumber}
use Rattle.celf_grammar.specs.Grammar.{is_comma, is_mark, is_let, is_left_bracket, is_amp, is_star, is_forward, is_backward, forward_of, backward_of, begins_argument, begins_index, OpensArrow, IsMark, mark_persistent, mark_affine, mark_none, IsBinder, binder_named, binder_hole, IsPattern, pat_one, pat_entry, pat_list, IsPatterns, pats_first, pats_more, IsObject, obj_lambda, obj_app, IsApplication, app_all, IsArguments, args_none, args_more, IsAtom, atom_name, atom_constant, atom_hole, atom_unit, atom_pair, atom_braces, atom_group, atom_first, atom_second, IsExpression, expr_all, IsSteps, steps_none, steps_more, step_let, IsTuple, tup_one, tup_list, tup_persistent, tup_affine, tup_bare, IsTuples, tups_first, tups_more, IsIndex, index_bare, index_banged, IsIndices, indices_none, indices_more, IsFamilyName, family_name, family_constant, IsType, type_all, IsBackward, back_first, back_more, IsForward, forward_pi, forward_alone, forward_arrow, IsSync, sync_exists, sync_alone, sync_product, IsFactor, factor_persistent, factor_affine, factor_bare, IsWith, with_alone, with_pair, IsTypeAtom, atomty_word, atomty_family, atomty_top, atomty_one, atomty_braces, atomty_group, IsBound, bound_number, bound_star, IsImplicit, implicit_count, implicit_none, IsBody, body_declare, body_query, body_trace, body_equal, body_check, IsItem, item_all}
use Rattle.celf_grammar.specs.KindNumbers.{same_kind}
use Rattle.celf_grammar.specs.Machine.{Symbol, Expect, Close, Restore, NameWord, NumberWord, Mark, Binder, Pattern, PatternTail, Object, Application, Arguments, Atom, Expression, LetPattern, Tuple, TupleTail, Index, Indices, FamilyName, Whole, BackTail, Forward, ForwardTail, Sync, StarTail, Factor, With, AmpTail, TypeAtom, Bound, Implicit, Body, Item, is_one, is_bang, is_pi, is_exists, Fed, next, done, stops, deep, opens, on_name, on_binder, on_pattern, on_atom, on_object, on_argument, on_tuple, on_expression, on_let_pattern, on_index, on_family_name, on_type_atom, on_type_atom_kind, on_with, on_factor, on_sync, on_forward, on_type, on_bound, on_directive, on_body, feed, Verdict, accepted, unexpected, too_deep, lacking, at_end, after_token, runs_on, runs}
use Rattle.celf_grammar.proofs.KindNumbers.{same_kind-is}

-- What a symbol stands for: from one state to another. A tail goes on with what was read before it.
abbrev Reads : Symbol → State → State → Type 0
Reads (Expect c) s u = Takes c s u
Reads (Close c before) s u = Closes c before s u
Reads (Restore before) s u = EndsPart before s u
Reads NameWord s u = (n : List ℕ) × TakesName s n u
Reads NumberWord s u = (b : BoundTree) × TakesNumber s b u
Reads Mark s u = (m : SMode) × IsMark s m u
Reads Binder s u = (n : Option (List ℕ)) × IsBinder s n u
Reads Pattern s u = (p : PatternTree) × IsPattern s p u
Reads PatternTail s u = ((r : State) (ps : List PatternTree) → IsPatterns r ps s → (qs : List PatternTree) × IsPatterns r qs u) × Ends is_comma u
Reads Object s u = (o : ObjectTree) × IsObject s o u
Reads Application s u = (o : ObjectTree) × IsApplication s o u
Reads Arguments s u = ((r : State) (xs : List (SMode × ObjectTree)) → IsArguments r xs s → (ys : List (SMode × ObjectTree)) × IsArguments r ys u) × Ends begins_argument u
Reads Atom s u = (o : ObjectTree) × IsAtom s o u
Reads Expression s u = (r : State) (xs : List (PatternTree × ObjectTree)) → IsSteps r xs s → (ss : WrittenSteps) × (t : TupleTree) × IsExpression r ss t u
Reads LetPattern s u = (p : PatternTree) × (a : State) × (b : State) × Opens token.LeftBrace s a × IsPattern a p b × Closes token.RightBrace s.room b u
Reads Tuple s u = (t : TupleTree) × IsTuple s t u
Reads TupleTail s u = ((r : State) (ts : List TupleTree) → IsTuples r ts s → (us : List TupleTree) × IsTuples r us u) × Ends is_comma u
Reads Index s u = (o : ObjectTree) × IsIndex s o u
Reads Indices s u = ((r : State) (xs : List ObjectTree) → IsIndices r xs s → (ys : List ObjectTree) × IsIndices r ys u) × Ends begins_index u
Reads FamilyName s u = (n : List ℕ) × (d : Bool) × IsFamilyName s n d u
Reads Whole s u = (a : WrittenType) × IsType s a u
Reads BackTail s u = ((r : State) (a : WrittenType) → IsBackward r a s → (b : WrittenType) × IsBackward r b u) × Ends is_backward u
Reads Forward s u = (a : WrittenType) × IsForward s a u
Reads ForwardTail s u = (r : State) (a : WrittenType) → IsSync r a s → (b : WrittenType) × IsForward r b u
Reads Sync s u = (a : WrittenType) × IsSync s a u
Reads StarTail s u = (r : State) (a : WrittenType) → IsFactor r a s → (b : WrittenType) × IsSync r b u
Reads Factor s u = (a : WrittenType) × IsFactor s a u
Reads With s u = (a : WrittenType) × IsWith s a u
Reads AmpTail s u = (r : State) (a : WrittenType) → IsTypeAtom r a s → (b : WrittenType) × IsWith r b u
Reads TypeAtom s u = (a : WrittenType) × IsTypeAtom s a u
Reads Bound s u = (b : BoundTree) × IsBound s b u
Reads Implicit s u = (i : Option BoundTree) × IsImplicit s i u
Reads Body s u = (b : BodyTree) × IsBody s b u
Reads Item s u = (i : WrittenItem) × IsItem s i u

-- Symbols stand one after another.
abbrev Derives : List Symbol → State → State → Type 0
Derives [] s u = s ≡ u
Derives (x ∷ k) s u = (v : State) × Reads x s v × Derives k v u

-- where a repetition or an option ends

patterns-none : {s : State} → Ends is_comma s → Reads PatternTail s s
patterns-none e = ((λ r ps h. (ps, h)), e)

arguments-none : {s : State} → Ends begins_argument s → Reads Arguments s s
arguments-none e = ((λ r xs h. (xs, h)), e)

tuples-none : {s : State} → Ends is_comma s → Reads TupleTail s s
tuples-none e = ((λ r ts h. (ts, h)), e)

indices-none : {s : State} → Ends begins_index s → Reads Indices s s
indices-none e = ((λ r xs h. (xs, h)), e)

back-none : {s : State} → Ends is_backward s → Reads BackTail s s
back-none e = ((λ r a h. (a, h)), e)

forward-none : {s : State} → Ends is_forward s → Reads ForwardTail s s
forward-none e r a h = (a, forward_alone h e)

star-none : {s : State} → Ends is_star s → Reads StarTail s s
star-none e r a h = (a, sync_alone h e)

amp-none : {s : State} → Ends is_amp s → Reads AmpTail s s
amp-none e r a h = (a, with_alone h e)

-- where a symbol stands for others

application-joins : (k : List Symbol) (s u : State) → Derives (Atom ∷ Arguments ∷ k) s u → Derives (Application ∷ k) s u
application-joins k s u d =
    let tail = d.2 in let all = tail.1.0 d.0 [] args_none in (tail.0, (_, app_all d.1.1 all.1 tail.1.1), tail.2)

object-joins : (k : List Symbol) (s u : State) → Derives (Atom ∷ Arguments ∷ k) s u → Derives (Object ∷ k) s u
object-joins k s u d = let a = application-joins k s u d in (a.0, (_, obj_app a.1.1), a.2)

with-joins : (k : List Symbol) (s u : State) → Derives (TypeAtom ∷ AmpTail ∷ k) s u → Derives (With ∷ k) s u
with-joins k s u d = let tail = d.2 in (tail.0, tail.1 s d.1.0 d.1.1, tail.2)

factor-joins : (k : List Symbol) (s u : State) → Derives (With ∷ k) s u → Derives (Factor ∷ k) s u
factor-joins k s u d = (d.0, (d.1.0, factor_bare d.1.1), d.2)

sync-joins : (k : List Symbol) (s u : State) → Derives (Factor ∷ StarTail ∷ k) s u → Derives (Sync ∷ k) s u
sync-joins k s u d = let tail = d.2 in (tail.0, tail.1 s d.1.0 d.1.1, tail.2)

forward-joins : (k : List Symbol) (s u : State) → Derives (Sync ∷ ForwardTail ∷ k) s u → Derives (Forward ∷ k) s u
forward-joins k s u d = let tail = d.2 in (tail.0, tail.1 s d.1.0 d.1.1, tail.2)

type-joins : (k : List Symbol) (s u : State) → Derives (Forward ∷ BackTail ∷ k) s u → Derives (Whole ∷ k) s u
type-joins k s u d = let tail = d.2 in let all = tail.1.0 s d.1.0 (back_first d.1.1) in (tail.0, (all.0, type_all all.1 tail.1.1), tail.2)

item-joins : (k : List Symbol) (s u : State) → Derives (Body ∷ Expect token.Stop ∷ k) s u → Derives (Item ∷ k) s u
item-joins k s u d = let tail = d.2 in (tail.0, (_, item_all d.1.1 tail.1), tail.2)

tuple-joins : (k : List Symbol) (s u : State) → Derives (Object ∷ k) s u → Derives (Tuple ∷ k) s u
tuple-joins k s u d = (d.0, (_, tup_bare d.1.1), d.2)

index-joins : (k : List Symbol) (s u : State) → Derives (Atom ∷ k) s u → Derives (Index ∷ k) s u
index-joins k s u d = (d.0, (_, index_bare d.1.1), d.2)

expression-joins : (k : List Symbol) (s u : State) → Ends is_let s → Derives (Tuple ∷ k) s u → Derives (Expression ∷ k) s u
expression-joins k s u e d = (d.0, (λ r xs h. (steps_of xs, d.1.0, expr_all h e d.1.1)), d.2)

family-joins : (k : List Symbol) (s u : State) → Derives (FamilyName ∷ Indices ∷ k) s u → Derives (TypeAtom ∷ k) s u
family-joins k s u d =
    let tail = d.2 in let all = tail.1.0 d.0 [] indices_none in (tail.0, (_, atomty_family d.1.2 all.1 tail.1.1), tail.2)

-- one more of a repetition

argument-joins : (k : List Symbol) (s a u : State) (m : SMode) → IsMark s m a → Derives (Atom ∷ Arguments ∷ k) a u → Derives (Arguments ∷ k) s u
argument-joins k s a u m h d = let tail = d.2 in (tail.0, ((λ r xs l. tail.1.0 r _ (args_more l h d.1.1)), tail.1.1), tail.2)

indices-join : (k : List Symbol) (s u : State) → Derives (Index ∷ Indices ∷ k) s u → Derives (Indices ∷ k) s u
indices-join k s u d = let tail = d.2 in (tail.0, ((λ r xs l. tail.1.0 r _ (indices_more l d.1.1)), tail.1.1), tail.2)

patterns-join : (k : List Symbol) (s a u : State) → Takes token.Comma s a → Derives (Pattern ∷ PatternTail ∷ k) a u → Derives (PatternTail ∷ k) s u
patterns-join k s a u h d = let tail = d.2 in (tail.0, ((λ r xs l. tail.1.0 r _ (pats_more l h d.1.1)), tail.1.1), tail.2)

tuples-join : (k : List Symbol) (s a u : State) → Takes token.Comma s a → Derives (Tuple ∷ TupleTail ∷ k) a u → Derives (TupleTail ∷ k) s u
tuples-join k s a u h d = let tail = d.2 in (tail.0, ((λ r xs l. tail.1.0 r _ (tups_more l h d.1.1)), tail.1.1), tail.2)

back-joins : (k : List Symbol) (s a u : State) (w : Arrow) → OpensArrow backward_of w s a → Derives (Forward ∷ BackTail ∷ k) a u → Derives (BackTail ∷ k) s u
back-joins k s a u w h d = let tail = d.2 in (tail.0, ((λ r x l. tail.1.0 r _ (back_more l h d.1.1)), tail.1.1), tail.2)

arrow-joins : (k : List Symbol) (s a u : State) (w : Arrow) → OpensArrow forward_of w s a → Derives (Forward ∷ k) a u → Derives (ForwardTail ∷ k) s u
arrow-joins k s a u w h d = (d.0, (λ r x l. (_, forward_arrow l h d.1.1)), d.2)

star-joins : (k : List Symbol) (s a u : State) → Takes token.Star s a → Derives (Sync ∷ k) a u → Derives (StarTail ∷ k) s u
star-joins k s a u h d = (d.0, (λ r x l. (_, sync_product l h d.1.1)), d.2)

amp-joins : (k : List Symbol) (s a u : State) → Opens token.Amp s a → Derives (With ∷ k) a u → Derives (AmpTail ∷ k) s u
amp-joins k s a u h d = (d.0, (λ r x l. (_, with_pair l h d.1.1)), d.2)

step-joins : (k : List Symbol) (s a u : State) → Takes token.KwLet s a
    → Derives (LetPattern ∷ Expect token.Equals ∷ Application ∷ Expect token.KwIn ∷ Expression ∷ k) a u → Derives (Expression ∷ k) s u
step-joins k s a u h d =
    let p = d.1 in let e = d.2 in let o = e.2 in let i = o.2 in let x = i.2 in
    (x.0, (λ r xs l. x.1 r _ (steps_more l (step_let h p.3 p.4 p.5 e.1 o.1.1 i.1))), x.2)

-- what holds after a token, by what the token did
abbrev Leads : Fed → Lexeme → List Lexeme → ℕ → State → Type 0
Leads (next k room) t ts end u = Derives k (record { rest = ts; room = room; end = t.start + length t.spelling }) u
Leads (done room) t ts end u = record { rest = t ∷ ts; room = room; end = end } ≡ u
Leads stops t ts end u = ⊥
Leads deep t ts end u = ⊥

-- One token, those after it, the end of the one before it, and where the reading comes to.
module _ (t : Lexeme) (ts : List Lexeme) (end : ℕ) (u : State) where
  abbrev Then : Fed → Type 0
  Then f = Leads f t ts end u

  abbrev before : ℕ → State
  before room = record { rest = t ∷ ts; room = room; end = end }

  abbrev behind : ℕ → State
  behind room = record { rest = ts; room = room; end = t.start + length t.spelling }

  taken : (left room : ℕ) → TakesToken left t (before room) (behind left)
  taken left room = record { first = refl; room = refl; behind = refl }

  takes : (c : TokenKind) → t.kind ≡ c → (room : ℕ) → Takes c (before room) (behind room)
  takes c e room = record { token = t; taken = taken room room; kind = e }

  named : (c : Bool) → t.kind ≡ token.Name c → (room : ℕ) → TakesName (before room) t.spelling (behind room)
  named c e room = record { token = t; capital = c; taken = taken room room; kind = e; spelled = refl }

  constant : t.kind ≡ token.ConstName → (room : ℕ) → TakesConstant (before room) (drop 1 t.spelling) (behind room)
  constant e room = record { token = t; taken = taken room room; kind = e; spelled = refl }

  number : t.kind ≡ token.Number → (room : ℕ) → (b : BoundTree) × TakesNumber (before room) b (behind room)
  number e room = (_, record { token = t; taken = taken room room; kind = e; value = refl })

  word : (c : TokenKind) (w : List ℕ) → t.kind ≡ c → bytes_eq t.spelling w ≡ true → (room : ℕ) → TakesWord c w (before room) (behind room)
  word c w e h room = record { token = t; taken = taken room room; kind = e; spelled = (bytes_eq-Decides t.spelling w).0 h }

  takes_one : is_one t ≡ true → (room : ℕ) → TakesOne (before room) (behind room)
  takes_one h room =
      let p = and_parts (same_kind t.kind token.Number) (bytes_eq t.spelling (codes "1")) h in
      word token.Number (codes "1") (same_kind-is t.kind token.Number p.0) p.1 room

  -- a token that opens a part, with room for it
  opened : (c : TokenKind) → t.kind ≡ c → (room : ℕ) (k : List Symbol) → Then (opens room k) → Opens c (before room) (behind (room - 1)) × Derives k (behind (room - 1)) u
  opened c e zero k d = absurd d
  opened c e (suc n) k d =
      let f : suc n - 1 ≡ n = omega arith in
      (record { token = t; taken = taken (suc n - 1) (suc n); opened = omega arith; kind = e }, subst (λ m. Derives k (behind m) u) (sym f) d)

  choose : {A : Type 0} (f g : Fed) (b : Bool) → (b ≡ true → Then f → A) → (b ≡ false → Then g → A) → Then (if b then f else g) → A
  choose f g true h l d = h refl d
  choose f g false h l d = l refl d

  -- patterns

  name-leads : (c : TokenKind) → t.kind ≡ c → (room : ℕ) (k : List Symbol) → Then (on_name c room k) → Derives (NameWord ∷ k) (before room) u
  name-leads (token.Name b) e room k d = (behind room, (_, named b e room), d)
  name-leads _ e room k d = absurd d

  binder-leads : (c : TokenKind) → t.kind ≡ c → (room : ℕ) (k : List Symbol) → Then (on_binder c room k) → Derives (Binder ∷ k) (before room) u
  binder-leads (token.Name b) e room k d = (behind room, (_, binder_named (named b e room)), d)
  binder-leads token.Hole e room k d = (behind room, (_, binder_hole (takes token.Hole e room)), d)
  binder-leads _ e room k d = absurd d

  mark-is : (c : TokenKind) → t.kind ≡ c → is_mark c ≡ true → (room : ℕ) → (m : SMode) × IsMark (before room) m (behind room)
  mark-is token.Bang e h room = (_, mark_persistent (takes token.Bang e room))
  mark-is token.AtSign e h room = (_, mark_affine (takes token.AtSign e room))
  mark-is _ e h room = absurd (true≢false (sym h))

  bracket-is : (c : TokenKind) → is_left_bracket c ≡ true → c ≡ token.LeftBracket
  bracket-is token.LeftBracket h = refl
  bracket-is _ h = absurd (true≢false (sym h))

  comma-is : (c : TokenKind) → is_comma c ≡ true → c ≡ token.Comma
  comma-is token.Comma h = refl
  comma-is _ h = absurd (true≢false (sym h))

  pattern-leads : (room : ℕ) (k : List Symbol) → Then (on_pattern t room k) → Derives (Pattern ∷ k) (before room) u
  pattern-leads room k = choose _ _ (is_one t)
      (λ h d. (behind room, (_, pat_one (takes_one h room)), d))
      (λ n. choose _ _ (is_left_bracket t.kind)
      (λ h d. let o = opened token.LeftBracket (bracket-is t.kind h) room _ d in let p = o.1 in let tail = p.2 in let c = tail.2 in
      let all = tail.1.0 (behind (room - 1)) _ (pats_first p.1.1) in (c.0, (_, pat_list o.0 all.1 tail.1.1 c.1), c.2))
      (λ l. choose _ _ (is_mark t.kind)
      (λ h d. (d.0, (_, pat_entry (mark-is t.kind refl h room).1 d.1.1), d.2))
      (λ h d. let b = binder-leads t.kind refl room k d in (b.0, (_, pat_entry (mark_none h) b.1.1), b.2))))

  -- objects

  atom-leads : (c : TokenKind) → t.kind ≡ c → (room : ℕ) (k : List Symbol) → Then (on_atom c room k) → Derives (Atom ∷ k) (before room) u
  atom-leads (token.Name b) e room k d = (behind room, (_, atom_name (named b e room)), d)
  atom-leads token.ConstName e room k d = (behind room, (_, atom_constant (constant e room)), d)
  atom-leads token.Hole e room k d = (behind room, (_, atom_hole (takes token.Hole e room)), d)
  atom-leads token.UnitSign e room k d = (behind room, (_, atom_unit (takes token.UnitSign e room)), d)
  atom-leads token.Less e room k d =
      let o = opened token.Less e room _ d in let l = o.1 in let c = l.2 in let r = c.2 in let g = r.2 in
      (g.0, (_, atom_pair o.0 l.1.1 c.1 r.1.1 g.1), g.2)
  atom-leads token.LeftBrace e room k d =
      let o = opened token.LeftBrace e room _ d in let x = o.1 in let c = x.2 in let all = x.1 (behind (room - 1)) [] steps_none in
      (c.0, (_, atom_braces o.0 all.2 c.1), c.2)
  atom-leads token.LeftParen e room k d = let o = opened token.LeftParen e room _ d in let x = o.1 in let c = x.2 in (c.0, (_, atom_group o.0 x.1.1 c.1), c.2)
  atom-leads token.Proj1 e room k d = let o = opened token.Proj1 e room _ d in let x = o.1 in let c = x.2 in (c.0, (_, atom_first o.0 x.1.1 c.1), c.2)
  atom-leads token.Proj2 e room k d = let o = opened token.Proj2 e room _ d in let x = o.1 in let c = x.2 in (c.0, (_, atom_second o.0 x.1.1 c.1), c.2)
  atom-leads _ e room k d = absurd d

  object-leads : (c : TokenKind) → t.kind ≡ c → (room : ℕ) (k : List Symbol) → Then (on_object c room k) → Derives (Object ∷ k) (before room) u
  object-leads token.Backslash e room k d =
      let o = opened token.Backslash e room _ d in let m = o.1 in let b = m.2 in let s = b.2 in let x = s.2 in
      (x.0, (_, obj_lambda o.0 m.1.1 b.1.1 s.1 x.1.1), x.2)
  object-leads c e room k d = object-joins k (before room) u (atom-leads c e room (Arguments ∷ k) d)

  argument-leads : (room : ℕ) (k : List Symbol) → Then (on_argument t.kind room (Arguments ∷ k)) → Derives (Arguments ∷ k) (before room) u
  argument-leads room k = choose _ _ (is_mark t.kind)
      (λ h d. argument-joins k (before room) (behind room) u _ (mark-is t.kind refl h room).1 d)
      (λ h d. argument-joins k (before room) (before room) u Bare (mark_none h) (atom-leads t.kind refl room (Arguments ∷ k) d))

  marked-leads : (c : TokenKind) → t.kind ≡ c → is_mark c ≡ true → (room : ℕ) (k : List Symbol) → Derives (Atom ∷ k) (behind room) u → Derives (Tuple ∷ k) (before room) u
  marked-leads token.Bang e h room k d = (d.0, (_, tup_persistent (takes token.Bang e room) d.1.1), d.2)
  marked-leads token.AtSign e h room k d = (d.0, (_, tup_affine (takes token.AtSign e room) d.1.1), d.2)
  marked-leads _ e h room k d = absurd (true≢false (sym h))

  tuple-leads : (room : ℕ) (k : List Symbol) → Then (on_tuple t room k) → Derives (Tuple ∷ k) (before room) u
  tuple-leads room k = choose _ _ (is_one t)
      (λ h d. (behind room, (_, tup_one (takes_one h room)), d))
      (λ n. choose _ _ (is_left_bracket t.kind)
      (λ h d. let o = opened token.LeftBracket (bracket-is t.kind h) room _ d in let p = o.1 in let tail = p.2 in let c = tail.2 in
      let all = tail.1.0 (behind (room - 1)) _ (tups_first p.1.1) in (c.0, (_, tup_list o.0 all.1 tail.1.1 c.1), c.2))
      (λ l. choose _ _ (is_mark t.kind)
      (λ h d. marked-leads t.kind refl h room k d)
      (λ h d. tuple-joins k (before room) u (object-leads t.kind refl room k d))))

  let-is : (c : TokenKind) → is_let c ≡ true → c ≡ token.KwLet
  let-is token.KwLet h = refl
  let-is _ h = absurd (true≢false (sym h))

  expression-leads : (room : ℕ) (k : List Symbol) → Then (on_expression t room k) → Derives (Expression ∷ k) (before room) u
  expression-leads room k = choose _ _ (is_let t.kind)
      (λ h d. step-joins k (before room) (behind room) u (takes token.KwLet (let-is t.kind h) room) d)
      (λ h d. expression-joins k (before room) u h (tuple-leads room k d))

  let_pattern-leads : (c : TokenKind) → t.kind ≡ c → (room : ℕ) (k : List Symbol) → Then (on_let_pattern c room k) → Derives (LetPattern ∷ k) (before room) u
  let_pattern-leads token.LeftBrace e room k d =
      let o = opened token.LeftBrace e room _ d in let p = o.1 in let c = p.2 in (c.0, (_, behind (room - 1), p.0, o.0, p.1.1, c.1), c.2)
  let_pattern-leads _ e room k d = absurd d

  bang-is : (c : TokenKind) → is_bang c ≡ true → c ≡ token.Bang
  bang-is token.Bang h = refl
  bang-is _ h = absurd (true≢false (sym h))

  index-leads : (room : ℕ) (k : List Symbol) → Then (on_index t.kind room k) → Derives (Index ∷ k) (before room) u
  index-leads room k = choose _ _ (is_bang t.kind)
      (λ h d. (d.0, (_, index_banged (takes token.Bang (bang-is t.kind h) room) d.1.1), d.2))
      (λ h d. index-joins k (before room) u (atom-leads t.kind refl room k d))

  -- types

  family-leads : (c : TokenKind) → t.kind ≡ c → (room : ℕ) (k : List Symbol) → Then (on_family_name c room k) → Derives (FamilyName ∷ k) (before room) u
  family-leads (token.Name b) e room k d = (behind room, (_, _, family_name (named b e room)), d)
  family-leads token.ConstName e room k d = (behind room, (_, _, family_constant (constant e room)), d)
  family-leads _ e room k d = absurd d

  type_atom_kind-leads : (c : TokenKind) → t.kind ≡ c → (room : ℕ) (k : List Symbol) → Then (on_type_atom_kind c room k) → Derives (TypeAtom ∷ k) (before room) u
  type_atom_kind-leads token.KwType e room k d = (behind room, (_, atomty_word (takes token.KwType e room)), d)
  type_atom_kind-leads token.TopSign e room k d = (behind room, (_, atomty_top (takes token.TopSign e room)), d)
  type_atom_kind-leads token.LeftBrace e room k d = let o = opened token.LeftBrace e room _ d in let x = o.1 in let c = x.2 in (c.0, (_, atomty_braces o.0 x.1.1 c.1), c.2)
  type_atom_kind-leads token.LeftParen e room k d = let o = opened token.LeftParen e room _ d in let x = o.1 in let c = x.2 in (c.0, (_, atomty_group o.0 x.1.1 c.1), c.2)
  type_atom_kind-leads c e room k d = family-joins k (before room) u (family-leads c e room (Indices ∷ k) d)

  type_atom-leads : (room : ℕ) (k : List Symbol) → Then (on_type_atom t room k) → Derives (TypeAtom ∷ k) (before room) u
  type_atom-leads room k = choose _ _ (is_one t) (λ h d. (behind room, (_, atomty_one (takes_one h room)), d)) (λ n d. type_atom_kind-leads t.kind refl room k d)

  with-leads : (room : ℕ) (k : List Symbol) → Then (on_with t room k) → Derives (With ∷ k) (before room) u
  with-leads room k d = with-joins k (before room) u (type_atom-leads room (AmpTail ∷ k) d)

  factor_marked-leads : (c : TokenKind) → t.kind ≡ c → is_mark c ≡ true → (room : ℕ) (k : List Symbol) → Derives (With ∷ k) (behind room) u → Derives (Factor ∷ k) (before room) u
  factor_marked-leads token.Bang e h room k d = (d.0, (_, factor_persistent (takes token.Bang e room) d.1.1), d.2)
  factor_marked-leads token.AtSign e h room k d = (d.0, (_, factor_affine (takes token.AtSign e room) d.1.1), d.2)
  factor_marked-leads _ e h room k d = absurd (true≢false (sym h))

  factor-leads : (room : ℕ) (k : List Symbol) → Then (on_factor t room k) → Derives (Factor ∷ k) (before room) u
  factor-leads room k = choose _ _ (is_mark t.kind)
      (λ h d. factor_marked-leads t.kind refl h room k d)
      (λ h d. factor-joins k (before room) u (with-leads room k d))

  exists-is : (c : TokenKind) → is_exists c ≡ true → c ≡ token.KwExists
  exists-is token.KwExists h = refl
  exists-is _ h = absurd (true≢false (sym h))

  sync-leads : (room : ℕ) (k : List Symbol) → Then (on_sync t room k) → Derives (Sync ∷ k) (before room) u
  sync-leads room k = choose _ _ (is_exists t.kind)
      (λ h d. let o = opened token.KwExists (exists-is t.kind h) room _ d in let n = o.1 in let c = n.2 in let x = c.2 in let p = x.2 in let y = p.2 in
      (y.0, (_, sync_exists o.0 n.1.1 c.1 x.1.1 p.1 y.1.1), y.2))
      (λ h d. sync-joins k (before room) u (factor-leads room (StarTail ∷ k) d))

  pi-is : (c : TokenKind) → is_pi c ≡ true → c ≡ token.KwPi
  pi-is token.KwPi h = refl
  pi-is _ h = absurd (true≢false (sym h))

  forward-leads : (room : ℕ) (k : List Symbol) → Then (on_forward t room k) → Derives (Forward ∷ k) (before room) u
  forward-leads room k = choose _ _ (is_pi t.kind)
      (λ h d. let o = opened token.KwPi (pi-is t.kind h) room _ d in let n = o.1 in let c = n.2 in let x = c.2 in let p = x.2 in let y = p.2 in
      (y.0, (_, forward_pi o.0 n.1.1 c.1 x.1.1 p.1 y.1.1), y.2))
      (λ h d. forward-joins k (before room) u (sync-leads room (ForwardTail ∷ k) d))

  type-leads : (room : ℕ) (k : List Symbol) → Then (on_type t room k) → Derives (Whole ∷ k) (before room) u
  type-leads room k d = type-joins k (before room) u (forward-leads room (BackTail ∷ k) d)

  arrow-is : (o : Option Arrow) → is_some o ≡ true → (w : Arrow) × (o ≡ Some w)
  arrow-is (Some w) h = (w, refl)
  arrow-is None h = absurd (true≢false (sym h))

  -- items

  bound-leads : (c : TokenKind) → t.kind ≡ c → (room : ℕ) (k : List Symbol) → Then (on_bound c room k) → Derives (Bound ∷ k) (before room) u
  bound-leads token.Number e room k d = (behind room, (_, bound_number (number e room).1), d)
  bound-leads token.Star e room k d = (behind room, (_, bound_star (takes token.Star e room)), d)
  bound-leads _ e room k d = absurd d

  directive-leads : t.kind ≡ token.Directive → (room : ℕ) (k : List Symbol) → Then (on_directive t.spelling room k) → Derives (Body ∷ k) (before room) u
  directive-leads e room k = choose _ _ (bytes_eq t.spelling (codes "#query"))
      (λ h d. let b = d.2 in let c = b.2 in let g = c.2 in let x = g.2 in
      (x.0, (_, body_query (word token.Directive (codes "#query") e h room) d.1.1 b.1.1 c.1.1 g.1.1 x.1.1), x.2))
      (λ n. choose _ _ (bytes_eq t.spelling (codes "#trace"))
      (λ h d. let x = d.2 in (x.0, (_, body_trace (word token.Directive (codes "#trace") e h room) d.1.1 x.1.1), x.2))
      (λ n. choose _ _ (bytes_eq t.spelling (codes "#equal"))
      (λ h d. let b = d.2 in let r = b.2 in let c = r.2 in let x = c.2 in
      (x.0, (_, body_equal (word token.Directive (codes "#equal") e h room) d.1.1 b.1 r.1.1 c.1 x.1.1), x.2))
      (λ n. choose _ _ (bytes_eq t.spelling (codes "#check"))
      (λ h d. let c = d.2 in let x = c.2 in (x.0, (_, body_check (word token.Directive (codes "#check") e h room) d.1.1 c.1 x.1.1), x.2))
      (λ n d. absurd d))))

  body-leads : (c : TokenKind) → t.kind ≡ c → (room : ℕ) (k : List Symbol) → Then (on_body c t.spelling room k) → Derives (Body ∷ k) (before room) u
  body-leads (token.Name b) e room k d = let i = d.2 in let x = i.2 in (x.0, (_, body_declare (named b e room) d.1 i.1.1 x.1.1), x.2)
  body-leads token.Directive e room k d = directive-leads e room k d
  body-leads _ e room k d = absurd d

  amp-is : (c : TokenKind) → is_amp c ≡ true → c ≡ token.Amp
  amp-is token.Amp h = refl
  amp-is _ h = absurd (true≢false (sym h))

  star-is : (c : TokenKind) → is_star c ≡ true → c ≡ token.Star
  star-is token.Star h = refl
  star-is _ h = absurd (true≢false (sym h))

  skip : (x : Symbol) (k : List Symbol) (room : ℕ) → Reads x (before room) (before room) → Derives k (before room) u → Derives (x ∷ k) (before room) u
  skip x k room h d = (before room, h, d)

  -- What the token leads to follows from what stood before it.
  feed-leads : (k : List Symbol) (room : ℕ) → Then (feed k room t) → Derives k (before room) u
  feed-leads [] room = λ d. d
  feed-leads (Expect c ∷ k) room = choose _ _ (same_kind t.kind c) (λ h d. (behind room, takes c (same_kind-is t.kind c h) room, d)) (λ h d. absurd d)
  feed-leads (Close c left ∷ k) room = choose _ _ (same_kind t.kind c)
      (λ h d. (behind left, record { token = t; taken = taken left room; kind = same_kind-is t.kind c h }, d)) (λ h d. absurd d)
  feed-leads (Restore left ∷ k) room = λ d. (before left, record { rest = refl; room = refl; end = refl }, feed-leads k left d)
  feed-leads (NameWord ∷ k) room = λ d. name-leads t.kind refl room k d
  feed-leads (NumberWord ∷ k) room = choose _ _ (same_kind t.kind token.Number) (λ h d. (behind room, number (same_kind-is t.kind token.Number h) room, d)) (λ h d. absurd d)
  feed-leads (Mark ∷ k) room = choose _ _ (is_mark t.kind)
      (λ h d. (behind room, mark-is t.kind refl h room, d)) (λ h d. skip Mark k room (_, mark_none h) (feed-leads k room d))
  feed-leads (Binder ∷ k) room = λ d. binder-leads t.kind refl room k d
  feed-leads (Pattern ∷ k) room = λ d. pattern-leads room k d
  feed-leads (PatternTail ∷ k) room = choose _ _ (is_comma t.kind)
      (λ h d. patterns-join k (before room) (behind room) u (takes token.Comma (comma-is t.kind h) room) d)
      (λ h d. skip PatternTail k room (patterns-none h) (feed-leads k room d))
  feed-leads (Object ∷ k) room = λ d. object-leads t.kind refl room k d
  feed-leads (Application ∷ k) room = λ d. application-joins k (before room) u (atom-leads t.kind refl room (Arguments ∷ k) d)
  feed-leads (Arguments ∷ k) room = choose _ _ (begins_argument t.kind)
      (λ h d. argument-leads room k d) (λ h d. skip Arguments k room (arguments-none h) (feed-leads k room d))
  feed-leads (Atom ∷ k) room = λ d. atom-leads t.kind refl room k d
  feed-leads (Expression ∷ k) room = λ d. expression-leads room k d
  feed-leads (LetPattern ∷ k) room = λ d. let_pattern-leads t.kind refl room k d
  feed-leads (Tuple ∷ k) room = λ d. tuple-leads room k d
  feed-leads (TupleTail ∷ k) room = choose _ _ (is_comma t.kind)
      (λ h d. tuples-join k (before room) (behind room) u (takes token.Comma (comma-is t.kind h) room) d)
      (λ h d. skip TupleTail k room (tuples-none h) (feed-leads k room d))
  feed-leads (Index ∷ k) room = λ d. index-leads room k d
  feed-leads (Indices ∷ k) room = choose _ _ (begins_index t.kind)
      (λ h d. indices-join k (before room) u (index-leads room (Indices ∷ k) d)) (λ h d. skip Indices k room (indices-none h) (feed-leads k room d))
  feed-leads (FamilyName ∷ k) room = λ d. family-leads t.kind refl room k d
  feed-leads (Whole ∷ k) room = λ d. type-leads room k d
  feed-leads (BackTail ∷ k) room = choose _ _ (is_backward t.kind)
      (λ h d. let w = arrow-is (backward_of t.kind) h in let o = opened t.kind refl room _ d in
      back-joins k (before room) (behind (room - 1)) u w.0 (record { kind = t.kind; sign = o.0; is = w.1 }) o.1)
      (λ h d. skip BackTail k room (back-none h) (feed-leads k room d))
  feed-leads (Forward ∷ k) room = λ d. forward-leads room k d
  feed-leads (ForwardTail ∷ k) room = choose _ _ (is_forward t.kind)
      (λ h d. let w = arrow-is (forward_of t.kind) h in let o = opened t.kind refl room _ d in
      arrow-joins k (before room) (behind (room - 1)) u w.0 (record { kind = t.kind; sign = o.0; is = w.1 }) o.1)
      (λ h d. skip ForwardTail k room (forward-none h) (feed-leads k room d))
  feed-leads (Sync ∷ k) room = λ d. sync-leads room k d
  feed-leads (StarTail ∷ k) room = choose _ _ (is_star t.kind)
      (λ h d. star-joins k (before room) (behind room) u (takes token.Star (star-is t.kind h) room) d)
      (λ h d. skip StarTail k room (star-none h) (feed-leads k room d))
  feed-leads (Factor ∷ k) room = λ d. factor-leads room k d
  feed-leads (With ∷ k) room = λ d. with-leads room k d
  feed-leads (AmpTail ∷ k) room = choose _ _ (is_amp t.kind)
      (λ h d. let o = opened token.Amp (amp-is t.kind h) room _ d in amp-joins k (before room) (behind (room - 1)) u o.0 o.1)
      (λ h d. skip AmpTail k room (amp-none h) (feed-leads k room d))
  feed-leads (TypeAtom ∷ k) room = λ d. type_atom-leads room k d
  feed-leads (Bound ∷ k) room = λ d. bound-leads t.kind refl room k d
  feed-leads (Implicit ∷ k) room = choose _ _ (is_left_bracket t.kind)
      (λ h d. let c = d.2 in (c.0, (_, implicit_count (takes token.LeftBracket (bracket-is t.kind h) room) d.1.1 c.1), c.2))
      (λ h d. skip Implicit k room (_, implicit_none h) (feed-leads k room d))
  feed-leads (Body ∷ k) room = λ d. body-leads t.kind refl room k d
  feed-leads (Item ∷ k) room = λ d. item-joins k (before room) u (body-leads t.kind refl room (Expect token.Stop ∷ k) d)

-- where there is no token any more

state_of : State → Verdict → State
state_of z (accepted u) = u
state_of z _ = z

same_state : (s u : State) → accepted s ≡ accepted u → s ≡ u
unfolding state_of
same_state s u e = ap (state_of s) e

abbrev pub is_accepted : Verdict → Bool
is_accepted (accepted u) = true
is_accepted _ = false

not-accepted : (v : Verdict) (u : State) → is_accepted v ≡ false → v ≡ accepted u → ⊥
not-accepted v u h e = true≢false (sym (ap is_accepted e) ∙ h)

end-derives : (k : List Symbol) (room end : ℕ) (u : State) → at_end k room end ≡ accepted u → Derives k (record { rest = []; room = room; end = end }) u
end-derives [] room end u e = same_state _ u e
end-derives (Restore left ∷ k) room end u e = (record { rest = []; room = left; end = end }, record { rest = refl; room = refl; end = refl }, end-derives k left end u e)
end-derives (Mark ∷ k) room end u e = (_, (_, mark_none refl), end-derives k room end u e)
end-derives (PatternTail ∷ k) room end u e = (_, patterns-none refl, end-derives k room end u e)
end-derives (Arguments ∷ k) room end u e = (_, arguments-none refl, end-derives k room end u e)
end-derives (TupleTail ∷ k) room end u e = (_, tuples-none refl, end-derives k room end u e)
end-derives (Indices ∷ k) room end u e = (_, indices-none refl, end-derives k room end u e)
end-derives (BackTail ∷ k) room end u e = (_, back-none refl, end-derives k room end u e)
end-derives (ForwardTail ∷ k) room end u e = (_, forward-none refl, end-derives k room end u e)
end-derives (StarTail ∷ k) room end u e = (_, star-none refl, end-derives k room end u e)
end-derives (AmpTail ∷ k) room end u e = (_, amp-none refl, end-derives k room end u e)
end-derives (Implicit ∷ k) room end u e = (_, (_, implicit_none refl), end-derives k room end u e)
end-derives (x ∷ k) room end u e = absurd (not-accepted lacking u refl e)

run-leads : (t : Lexeme) (ts : List Lexeme) (end : ℕ) (u : State) → ((k : List Symbol) (room e : ℕ) → runs_on ts k room e ≡ accepted u → Derives k (record { rest = ts; room = room; end = e }) u)
    → (f : Fed) → after_token t ts (runs_on ts) end f ≡ accepted u → Leads f t ts end u
run-leads t ts end u go (next k room) e = go k room _ e
run-leads t ts end u go (done room) e = same_state _ u e
run-leads t ts end u go stops e = not-accepted (unexpected t) u refl e
run-leads t ts end u go deep e = not-accepted (too_deep t) u refl e

run-derives : (ts : List Lexeme) (u : State) (k : List Symbol) (room end : ℕ) → runs_on ts k room end ≡ accepted u → Derives k (record { rest = ts; room = room; end = end }) u
run-derives [] u k room end e = end-derives k room end u e
run-derives (t ∷ ts) u k room end e = feed-leads t ts end u k room (run-leads t ts end u (λ j r d h. run-derives ts u j r d h) (feed k room t) e)

-- What the machine reads as an item is one.
pub item-derives : (s u : State) → runs (Item ∷ []) s ≡ accepted u → (i : WrittenItem) × IsItem s i u
unfolding runs
item-derives s u e = let d = run-derives s.rest u (Item ∷ []) s.room s.end e in (d.1.0, subst (λ v. IsItem s d.1.0 v) d.2 d.1.1)
