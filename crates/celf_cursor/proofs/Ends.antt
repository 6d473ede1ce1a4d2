-- What is read of a state leaves its last token where it is.
use Rattle.std.proofs.Common.{◌≡◌, ℕ, List, Option, refl, sym, ap, ◌∙◌}
use Rattle.celf_lexer.specs.declared.token.TokenKind.{TokenKind}
use Rattle.celf_lexer.specs.Tokens.{Lexeme}
use Rattle.celf_surface.specs.declared.surface.SMode.{SMode}
use Rattle.celf_surface.specs.Surface.{WrittenPattern, WrittenObject, WrittenSteps, WrittenTuple}
use Rattle.celf_grammar.specs.State.{State, TakesToken, Takes, Opens, Closes, EndsPart, TakesName, TakesConstant, TakesOne}
use Rattle.celf_grammar.specs.Grammar.{IsMark, mark_persistent, mark_affine, mark_none, IsBinder, binder_named, binder_hole, IsPattern, pat_one, pat_entry, pat_list, IsPatterns, pats_first, pats_more, IsObject, obj_lambda, obj_app, IsApplication, app_all, IsArguments, args_none, args_more, IsAtom, atom_name, atom_constant, atom_hole, atom_unit, atom_pair, atom_braces, atom_group, atom_first, atom_second, IsExpression, expr_all, IsSteps, steps_none, steps_more, IsStep, step_let, IsTuple, tup_one, tup_list, tup_persistent, tup_affine, tup_bare, IsTuples, tups_first, tups_more, IsIndex, index_bare, index_banged, IsIndices, indices_none, indices_more}
use Rattle.celf_cursor.specs.Faults.{end_of, last_end}

token-end : {left : ℕ} {t : Lexeme} {s u : State} → TakesToken left t s u → last_end s ≡ last_end u
unfolding last_end
token-end {t = t} {s} {u} h = ap (λ (l : List Lexeme). end_of l s.end) h.first ∙ ap (end_of u.rest) (sym h.behind)

pub takes-end : {k : TokenKind} {s u : State} → Takes k s u → last_end s ≡ last_end u
takes-end h = token-end h.taken

pub opens-end : {k : TokenKind} {s u : State} → Opens k s u → last_end s ≡ last_end u
opens-end h = token-end h.taken

pub closes-end : {k : TokenKind} {before : ℕ} {s u : State} → Closes k before s u → last_end s ≡ last_end u
closes-end h = token-end h.taken

pub part-end : {left : ℕ} {s u : State} → EndsPart left s u → last_end s ≡ last_end u
unfolding last_end
part-end {s = s} {u} h = ap (λ (l : List Lexeme). end_of l s.end) (sym h.rest) ∙ ap (end_of u.rest) (sym h.end)

pub name-end : {n : List ℕ} {s u : State} → TakesName s n u → last_end s ≡ last_end u
name-end h = token-end h.taken

pub constant-end : {n : List ℕ} {s u : State} → TakesConstant s n u → last_end s ≡ last_end u
constant-end h = token-end h.taken

pub one-end : {s u : State} → TakesOne s u → last_end s ≡ last_end u
one-end h = token-end h.taken

pub mark-end : {m : SMode} {s u : State} → IsMark s m u → last_end s ≡ last_end u
mark-end (mark_persistent h) = takes-end h
mark-end (mark_affine h) = takes-end h
mark-end (mark_none h) = refl

pub binder-end : {n : Option (List ℕ)} {s u : State} → IsBinder s n u → last_end s ≡ last_end u
binder-end (binder_named h) = name-end h
binder-end (binder_hole h) = takes-end h

mutual
  pub pattern-end : {p : WrittenPattern} {s u : State} → IsPattern s p u → last_end s ≡ last_end u
  pattern-end (pat_one h) = one-end h
  pattern-end (pat_entry m b) = mark-end m ∙ binder-end b
  pattern-end (pat_list o ps e c) = opens-end o ∙ patterns-end ps ∙ closes-end c

  pub patterns-end : {ps : List WrittenPattern} {s u : State} → IsPatterns s ps u → last_end s ≡ last_end u
  patterns-end (pats_first p) = pattern-end p
  patterns-end (pats_more ps c p) = patterns-end ps ∙ takes-end c ∙ pattern-end p

mutual
  pub object-end : {o : WrittenObject} {s u : State} → IsObject s o u → last_end s ≡ last_end u
  object-end (obj_lambda h m b d o) = opens-end h ∙ mark-end m ∙ binder-end b ∙ takes-end d ∙ object-end o
  object-end (obj_app a) = application-end a

  pub application-end : {o : WrittenObject} {s u : State} → IsApplication s o u → last_end s ≡ last_end u
  application-end (app_all a xs e) = atom-end a ∙ arguments-end xs

  pub arguments-end : {xs : List (SMode × WrittenObject)} {s u : State} → IsArguments s xs u → last_end s ≡ last_end u
  arguments-end args_none = refl
  arguments-end (args_more xs m a) = arguments-end xs ∙ mark-end m ∙ atom-end a

  pub atom-end : {o : WrittenObject} {s u : State} → IsAtom s o u → last_end s ≡ last_end u
  atom-end (atom_name h) = name-end h
  atom-end (atom_constant h) = constant-end h
  atom-end (atom_hole h) = takes-end h
  atom-end (atom_unit h) = takes-end h
  atom-end (atom_pair h l c r d) = opens-end h ∙ object-end l ∙ takes-end c ∙ object-end r ∙ closes-end d
  atom-end (atom_braces h e c) = opens-end h ∙ expression-end e ∙ closes-end c
  atom-end (atom_group h o c) = opens-end h ∙ object-end o ∙ closes-end c
  atom-end (atom_first h o c) = opens-end h ∙ atom-end o ∙ part-end c
  atom-end (atom_second h o c) = opens-end h ∙ atom-end o ∙ part-end c

  pub expression-end : {ss : WrittenSteps} {t : WrittenTuple} {s u : State} → IsExpression s ss t u → last_end s ≡ last_end u
  expression-end (expr_all xs e t) = steps-end xs ∙ tuple-end t

  pub steps-end : {xs : List (WrittenPattern × WrittenObject)} {s u : State} → IsSteps s xs u → last_end s ≡ last_end u
  steps-end steps_none = refl
  steps-end (steps_more xs x) = steps-end xs ∙ step-end x

  pub step-end : {p : WrittenPattern} {o : WrittenObject} {s u : State} → IsStep s p o u → last_end s ≡ last_end u
  step-end (step_let a b p c d o i) = takes-end a ∙ opens-end b ∙ pattern-end p ∙ closes-end c ∙ takes-end d ∙ application-end o ∙ takes-end i

  pub tuple-end : {t : WrittenTuple} {s u : State} → IsTuple s t u → last_end s ≡ last_end u
  tuple-end (tup_one h) = one-end h
  tuple-end (tup_list h ts e c) = opens-end h ∙ tuples-end ts ∙ closes-end c
  tuple-end (tup_persistent h a) = takes-end h ∙ atom-end a
  tuple-end (tup_affine h a) = takes-end h ∙ atom-end a
  tuple-end (tup_bare o) = object-end o

  pub tuples-end : {ts : List WrittenTuple} {s u : State} → IsTuples s ts u → last_end s ≡ last_end u
  tuples-end (tups_first t) = tuple-end t
  tuples-end (tups_more ts c t) = tuples-end ts ∙ takes-end c ∙ tuple-end t

pub index-end : {o : WrittenObject} {s u : State} → IsIndex s o u → last_end s ≡ last_end u
index-end (index_bare a) = atom-end a
index-end (index_banged h a) = takes-end h ∙ atom-end a

pub indices-end : {os : List WrittenObject} {s u : State} → IsIndices s os u → last_end s ≡ last_end u
indices-end indices_none = refl
indices-end (indices_more xs x) = indices-end xs ∙ index-end x
