-- What is read of some tokens is read in more room too, as the same tree.
use Rattle.std.proofs.Common.{◌≡◌, ◌+◌, ◌-◌, ◌<◌, ℕ, List, ◌∷◌, refl, sym, ap, subst, ◌∙◌, add_comm, arith, Option}
use Rattle.celf_lexer.specs.declared.token.TokenKind.{TokenKind}
use Rattle.celf_lexer.specs.Tokens.{Lexeme}
use Rattle.celf_surface.specs.declared.surface.Arrow.{Arrow}
use Rattle.celf_surface.specs.declared.surface.Bound.{Bound}
use Rattle.celf_surface.specs.declared.surface.SMode.{SMode}
use Rattle.celf_surface.specs.Surface.{WrittenPattern, WrittenObject, WrittenSteps, WrittenTuple, WrittenType, WrittenItem, WrittenBody}
use Rattle.celf_grammar.specs.State.{State, TakesToken, Takes, Opens, Closes, EndsPart, TakesName, TakesConstant, TakesWord, TakesNumber}
use Rattle.celf_grammar.specs.Grammar.{IsMark, mark_persistent, mark_affine, mark_none, IsBinder, binder_named, binder_hole, IsPattern, pat_one, pat_entry, pat_list, IsPatterns, pats_first, pats_more, IsObject, obj_lambda, obj_app, IsApplication, app_all, IsArguments, args_none, args_more, IsAtom, atom_name, atom_constant, atom_hole, atom_unit, atom_pair, atom_braces, atom_group, atom_first, atom_second, IsExpression, expr_all, IsSteps, steps_none, steps_more, IsStep, step_let, IsTuple, tup_one, tup_list, tup_persistent, tup_affine, tup_bare, IsTuples, tups_first, tups_more, IsIndex, index_bare, index_banged, IsIndices, indices_none, indices_more, IsFamilyName, family_name, family_constant, OpensArrow, IsType, type_all, IsBackward, back_first, back_more, IsForward, forward_pi, forward_alone, forward_arrow, IsSync, sync_exists, sync_alone, sync_product, IsFactor, factor_persistent, factor_affine, factor_bare, IsWith, with_alone, with_pair, IsTypeAtom, atomty_word, atomty_family, atomty_top, atomty_one, atomty_braces, atomty_group, IsBound, bound_number, bound_star, IsImplicit, implicit_count, implicit_none, IsBody, body_declare, body_query, body_trace, body_equal, body_check, IsItem, item_all}
use Rattle.celf_grammar.specs.Faults.{TreeInAnyRoom}
use Rattle.celf_grammar.proofs.OneItem.{tree-one, behind-one}

-- the state with room for k parts more
abbrev wider : ℕ → State → State
wider k s = record { rest = s.rest; room = s.room + k; end = s.end }

token-wider : {left : ℕ} {t : Lexeme} {s u : State} (k : ℕ) → TakesToken left t s u → TakesToken (left + k) t (wider k s) (wider k u)
token-wider k h = record { first = h.first; room = ap (λ n. n + k) h.room; behind = h.behind }

takes-wider : {c : TokenKind} {s u : State} (k : ℕ) → Takes c s u → Takes c (wider k s) (wider k u)
takes-wider k h = record { token = h.token; taken = token-wider k h.taken; kind = h.kind }

less-wider : (n k : ℕ) → 0 < n → n - 1 + k ≡ n + k - 1
less-wider n k h = omega arith

opens-wider : {c : TokenKind} {s u : State} (k : ℕ) → Opens c s u → Opens c (wider k s) (wider k u)
opens-wider {s = s} {u} k h = record {
  token = h.token;
  taken = subst (λ n. TakesToken n h.token (wider k s) (wider k u)) (less-wider s.room k h.opened) (token-wider k h.taken);
  opened = let o = h.opened in omega arith;
  kind = h.kind;
}

closes-wider : {c : TokenKind} {before : ℕ} {s u : State} (k : ℕ) → Closes c before s u → Closes c (before + k) (wider k s) (wider k u)
closes-wider k h = record { token = h.token; taken = token-wider k h.taken; kind = h.kind }

part-wider : {left : ℕ} {s u : State} (k : ℕ) → EndsPart left s u → EndsPart (left + k) (wider k s) (wider k u)
part-wider k h = record { rest = h.rest; room = ap (λ n. n + k) h.room; end = h.end }

name-wider : {s u : State} {n : List ℕ} (k : ℕ) → TakesName s n u → TakesName (wider k s) n (wider k u)
name-wider k h = record { token = h.token; capital = h.capital; taken = token-wider k h.taken; kind = h.kind; spelled = h.spelled }

constant-wider : {s u : State} {n : List ℕ} (k : ℕ) → TakesConstant s n u → TakesConstant (wider k s) n (wider k u)
constant-wider k h = record { token = h.token; taken = token-wider k h.taken; kind = h.kind; spelled = h.spelled }

word-wider : {c : TokenKind} {w : List ℕ} {s u : State} (k : ℕ) → TakesWord c w s u → TakesWord c w (wider k s) (wider k u)
word-wider k h = record { token = h.token; taken = token-wider k h.taken; kind = h.kind; spelled = h.spelled }

number-wider : {s u : State} {b : Bound} (k : ℕ) → TakesNumber s b u → TakesNumber (wider k s) b (wider k u)
number-wider k h = record { token = h.token; taken = token-wider k h.taken; kind = h.kind; value = h.value }

mark-wider : {m : SMode} {s u : State} (k : ℕ) → IsMark s m u → IsMark (wider k s) m (wider k u)
mark-wider k (mark_persistent h) = mark_persistent (takes-wider k h)
mark-wider k (mark_affine h) = mark_affine (takes-wider k h)
mark-wider k (mark_none e) = mark_none e

binder-wider : {n : Option (List ℕ)} {s u : State} (k : ℕ) → IsBinder s n u → IsBinder (wider k s) n (wider k u)
binder-wider k (binder_named h) = binder_named (name-wider k h)
binder-wider k (binder_hole h) = binder_hole (takes-wider k h)

mutual
  pattern-wider : {p : WrittenPattern} {s u : State} (k : ℕ) → IsPattern s p u → IsPattern (wider k s) p (wider k u)
  pattern-wider k (pat_one h) = pat_one (word-wider k h)
  pattern-wider k (pat_entry m b) = pat_entry (mark-wider k m) (binder-wider k b)
  pattern-wider k (pat_list o ps e c) = pat_list (opens-wider k o) (patterns-wider k ps) e (closes-wider k c)

  patterns-wider : {ps : List WrittenPattern} {s u : State} (k : ℕ) → IsPatterns s ps u → IsPatterns (wider k s) ps (wider k u)
  patterns-wider k (pats_first p) = pats_first (pattern-wider k p)
  patterns-wider k (pats_more ps c p) = pats_more (patterns-wider k ps) (takes-wider k c) (pattern-wider k p)

mutual
  object-wider : {o : WrittenObject} {s u : State} (k : ℕ) → IsObject s o u → IsObject (wider k s) o (wider k u)
  object-wider k (obj_lambda h m b d o) = obj_lambda (opens-wider k h) (mark-wider k m) (binder-wider k b) (takes-wider k d) (object-wider k o)
  object-wider k (obj_app a) = obj_app (application-wider k a)

  application-wider : {o : WrittenObject} {s u : State} (k : ℕ) → IsApplication s o u → IsApplication (wider k s) o (wider k u)
  application-wider k (app_all a xs e) = app_all (atom-wider k a) (arguments-wider k xs) e

  arguments-wider : {xs : List (SMode × WrittenObject)} {s u : State} (k : ℕ) → IsArguments s xs u → IsArguments (wider k s) xs (wider k u)
  arguments-wider k args_none = args_none
  arguments-wider k (args_more xs m a) = args_more (arguments-wider k xs) (mark-wider k m) (atom-wider k a)

  atom-wider : {o : WrittenObject} {s u : State} (k : ℕ) → IsAtom s o u → IsAtom (wider k s) o (wider k u)
  atom-wider k (atom_name h) = atom_name (name-wider k h)
  atom-wider k (atom_constant h) = atom_constant (constant-wider k h)
  atom-wider k (atom_hole h) = atom_hole (takes-wider k h)
  atom-wider k (atom_unit h) = atom_unit (takes-wider k h)
  atom-wider k (atom_pair h l c r d) = atom_pair (opens-wider k h) (object-wider k l) (takes-wider k c) (object-wider k r) (closes-wider k d)
  atom-wider k (atom_braces h e c) = atom_braces (opens-wider k h) (expression-wider k e) (closes-wider k c)
  atom-wider k (atom_group h o c) = atom_group (opens-wider k h) (object-wider k o) (closes-wider k c)
  atom-wider k (atom_first h o c) = atom_first (opens-wider k h) (atom-wider k o) (part-wider k c)
  atom-wider k (atom_second h o c) = atom_second (opens-wider k h) (atom-wider k o) (part-wider k c)

  expression-wider : {ss : WrittenSteps} {t : WrittenTuple} {s u : State} (k : ℕ) → IsExpression s ss t u → IsExpression (wider k s) ss t (wider k u)
  expression-wider k (expr_all xs e t) = expr_all (steps-wider k xs) e (tuple-wider k t)

  steps-wider : {xs : List (WrittenPattern × WrittenObject)} {s u : State} (k : ℕ) → IsSteps s xs u → IsSteps (wider k s) xs (wider k u)
  steps-wider k steps_none = steps_none
  steps-wider k (steps_more xs x) = steps_more (steps-wider k xs) (step-wider k x)

  step-wider : {p : WrittenPattern} {o : WrittenObject} {s u : State} (k : ℕ) → IsStep s p o u → IsStep (wider k s) p o (wider k u)
  step-wider k (step_let a b p c d o i) = step_let (takes-wider k a) (opens-wider k b) (pattern-wider k p) (closes-wider k c) (takes-wider k d) (application-wider k o) (takes-wider k i)

  tuple-wider : {t : WrittenTuple} {s u : State} (k : ℕ) → IsTuple s t u → IsTuple (wider k s) t (wider k u)
  tuple-wider k (tup_one h) = tup_one (word-wider k h)
  tuple-wider k (tup_list h ts e c) = tup_list (opens-wider k h) (tuples-wider k ts) e (closes-wider k c)
  tuple-wider k (tup_persistent h a) = tup_persistent (takes-wider k h) (atom-wider k a)
  tuple-wider k (tup_affine h a) = tup_affine (takes-wider k h) (atom-wider k a)
  tuple-wider k (tup_bare o) = tup_bare (object-wider k o)

  tuples-wider : {ts : List WrittenTuple} {s u : State} (k : ℕ) → IsTuples s ts u → IsTuples (wider k s) ts (wider k u)
  tuples-wider k (tups_first t) = tups_first (tuple-wider k t)
  tuples-wider k (tups_more ts c t) = tups_more (tuples-wider k ts) (takes-wider k c) (tuple-wider k t)

index-wider : {o : WrittenObject} {s u : State} (k : ℕ) → IsIndex s o u → IsIndex (wider k s) o (wider k u)
index-wider k (index_bare a) = index_bare (atom-wider k a)
index-wider k (index_banged h a) = index_banged (takes-wider k h) (atom-wider k a)

indices-wider : {os : List WrittenObject} {s u : State} (k : ℕ) → IsIndices s os u → IsIndices (wider k s) os (wider k u)
indices-wider k indices_none = indices_none
indices-wider k (indices_more xs x) = indices_more (indices-wider k xs) (index-wider k x)

family-wider : {n : List ℕ} {d : _} {s u : State} (k : ℕ) → IsFamilyName s n d u → IsFamilyName (wider k s) n d (wider k u)
family-wider k (family_name h) = family_name (name-wider k h)
family-wider k (family_constant h) = family_constant (constant-wider k h)

arrow-wider : {of : TokenKind → Option Arrow} {a : Arrow} {s u : State} (k : ℕ) → OpensArrow of a s u → OpensArrow of a (wider k s) (wider k u)
arrow-wider k h = record { kind = h.kind; sign = opens-wider k h.sign; is = h.is }

mutual
  type-wider : {a : WrittenType} {s u : State} (k : ℕ) → IsType s a u → IsType (wider k s) a (wider k u)
  type-wider k (type_all b e) = type_all (backward-wider k b) e

  backward-wider : {a : WrittenType} {s u : State} (k : ℕ) → IsBackward s a u → IsBackward (wider k s) a (wider k u)
  backward-wider k (back_first f) = back_first (forward-wider k f)
  backward-wider k (back_more b o f) = back_more (backward-wider k b) (arrow-wider k o) (forward-wider k f)

  forward-wider : {a : WrittenType} {s u : State} (k : ℕ) → IsForward s a u → IsForward (wider k s) a (wider k u)
  forward-wider k (forward_pi h n c x d y) = forward_pi (opens-wider k h) (name-wider k n) (takes-wider k c) (type-wider k x) (takes-wider k d) (type-wider k y)
  forward-wider k (forward_alone y e) = forward_alone (sync-wider k y) e
  forward-wider k (forward_arrow y o f) = forward_arrow (sync-wider k y) (arrow-wider k o) (forward-wider k f)

  sync-wider : {a : WrittenType} {s u : State} (k : ℕ) → IsSync s a u → IsSync (wider k s) a (wider k u)
  sync-wider k (sync_exists h n c x d y) = sync_exists (opens-wider k h) (name-wider k n) (takes-wider k c) (type-wider k x) (takes-wider k d) (sync-wider k y)
  sync-wider k (sync_alone f e) = sync_alone (factor-wider k f) e
  sync-wider k (sync_product f c y) = sync_product (factor-wider k f) (takes-wider k c) (sync-wider k y)

  factor-wider : {a : WrittenType} {s u : State} (k : ℕ) → IsFactor s a u → IsFactor (wider k s) a (wider k u)
  factor-wider k (factor_persistent h w) = factor_persistent (takes-wider k h) (with-wider k w)
  factor-wider k (factor_affine h w) = factor_affine (takes-wider k h) (with-wider k w)
  factor-wider k (factor_bare w) = factor_bare (with-wider k w)

  with-wider : {a : WrittenType} {s u : State} (k : ℕ) → IsWith s a u → IsWith (wider k s) a (wider k u)
  with-wider k (with_alone a e) = with_alone (type_atom-wider k a) e
  with-wider k (with_pair a o w) = with_pair (type_atom-wider k a) (opens-wider k o) (with-wider k w)

  type_atom-wider : {a : WrittenType} {s u : State} (k : ℕ) → IsTypeAtom s a u → IsTypeAtom (wider k s) a (wider k u)
  type_atom-wider k (atomty_word h) = atomty_word (takes-wider k h)
  type_atom-wider k (atomty_family n is e) = atomty_family (family-wider k n) (indices-wider k is) e
  type_atom-wider k (atomty_top h) = atomty_top (takes-wider k h)
  type_atom-wider k (atomty_one h) = atomty_one (word-wider k h)
  type_atom-wider k (atomty_braces h x c) = atomty_braces (opens-wider k h) (type-wider k x) (closes-wider k c)
  type_atom-wider k (atomty_group h x c) = atomty_group (opens-wider k h) (type-wider k x) (closes-wider k c)

bound-wider : {b : Bound} {s u : State} (k : ℕ) → IsBound s b u → IsBound (wider k s) b (wider k u)
bound-wider k (bound_number h) = bound_number (number-wider k h)
bound-wider k (bound_star h) = bound_star (takes-wider k h)

implicit-wider : {i : Option Bound} {s u : State} (k : ℕ) → IsImplicit s i u → IsImplicit (wider k s) i (wider k u)
implicit-wider k (implicit_count a n c) = implicit_count (takes-wider k a) (number-wider k n) (takes-wider k c)
implicit-wider k (implicit_none e) = implicit_none e

body-wider : {b : WrittenBody} {s u : State} (k : ℕ) → IsBody s b u → IsBody (wider k s) b (wider k u)
body-wider k (body_declare n c i t) = body_declare (name-wider k n) (takes-wider k c) (implicit-wider k i) (type-wider k t)
body-wider k (body_query h w x y z t) = body_query (word-wider k h) (bound-wider k w) (bound-wider k x) (bound-wider k y) (bound-wider k z) (type-wider k t)
body-wider k (body_trace h n t) = body_trace (word-wider k h) (bound-wider k n) (type-wider k t)
body-wider k (body_equal h l e r c t) = body_equal (word-wider k h) (object-wider k l) (takes-wider k e) (object-wider k r) (takes-wider k c) (type-wider k t)
body-wider k (body_check h o c t) = body_check (word-wider k h) (object-wider k o) (takes-wider k c) (type-wider k t)

item-wider : {i : WrittenItem} {s u : State} (k : ℕ) → IsItem s i u → IsItem (wider k s) i (wider k u)
item-wider k (item_all b d) = item_all (body-wider k b) (takes-wider k d)

-- The same tokens are read in the room of the one and of the other together.
pub any-room : TreeInAnyRoom
any-room ts end m n u v i j h g =
    let both = subst (λ r. IsItem (record { rest = ts; room = r; end = end }) j (wider m v)) (add_comm n m) (item-wider m g) in
    let s : State = record { rest = ts; room = m + n; end = end } in
    (tree-one s (wider n u) (wider m v) i j (item-wider n h) both, ap (λ (x : State). x.rest) (behind-one s (wider n u) (wider m v) i j (item-wider n h) both))

pub ruleset reading_laws = (tree-one, behind-one, any-room)
