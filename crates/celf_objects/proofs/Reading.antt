-- The productions whose trees are built from parts, with the trees given by equations.
use Rattle.std.proofs.Common.{◌≡◌, ℕ, List, [], ◌∷◌, ◌++◌, Option, false, true, sym, subst}
use Rattle.celf_lexer.specs.declared.token.TokenKind.TheVariants as token
use Rattle.clf_syntax.specs.declared.tree.Mode.TheVariants.{Persistent, Affine}
use Rattle.celf_surface.specs.declared.surface.SMode.{SMode}
use Rattle.celf_surface.specs.declared.surface.Span.{Span}
use Rattle.celf_surface.specs.Surface.{WrittenPattern, pattern_one, pattern_entry, pattern_list, patterns_of, WrittenObject, lam, named, hole, unit, pair, braces, first, second, WrittenSteps, steps_of, WrittenTuple, tuple_one, tuple_list, tuple_marked, tuple_bare, tuples_of}
use Rattle.celf_grammar.specs.State.{State, span_to, Ends, Takes, Opens, Closes, EndsPart, TakesName, TakesConstant, TakesOne}
use Rattle.celf_grammar.specs.Grammar.{IsMark, IsBinder, IsPattern, pat_one, pat_entry, pat_list, IsPatterns, pats_first, pats_more, is_comma, is_let, begins_argument, applied, IsObject, obj_lambda, IsApplication, app_all, IsArguments, args_none, args_more, IsAtom, atom_name, atom_constant, atom_hole, atom_unit, atom_pair, atom_braces, atom_first, atom_second, IsExpression, expr_all, IsSteps, steps_none, steps_more, IsStep, step_let, IsTuple, tup_one, tup_list, tup_persistent, tup_affine, tup_bare, IsTuples, tups_first, tups_more, IsIndex, IsIndices, indices_none, indices_more}

pub pattern_one-read : {s u : State} {p : WrittenPattern} → TakesOne s u → p ≡ pattern_one → IsPattern s p u
pattern_one-read {s} {u} h e = subst (λ (p : WrittenPattern). IsPattern s p u) (sym e) (pat_one h)

pub pattern_entry-read : {s u v : State} {m : SMode} {n : Option (List ℕ)} {p : WrittenPattern} → IsMark s m u → IsBinder u n v → p ≡ pattern_entry m n → IsPattern s p v
pattern_entry-read {s} {v = v} h g e = subst (λ (p : WrittenPattern). IsPattern s p v) (sym e) (pat_entry h g)

pub pattern_list-read : {s u v w : State} {ps : List WrittenPattern} {p : WrittenPattern}
    → Opens token.LeftBracket s u → IsPatterns u ps v → Ends is_comma v → Closes token.RightBracket s.room v w → p ≡ pattern_list (patterns_of ps) → IsPattern s p w
pattern_list-read {s} {w = w} h g f k e = subst (λ (p : WrittenPattern). IsPattern s p w) (sym e) (pat_list h g f k)

pub patterns_first-read : {s u : State} {ps : List WrittenPattern} {p : WrittenPattern} → IsPattern s p u → ps ≡ p ∷ [] → IsPatterns s ps u
patterns_first-read {s} {u} h e = subst (λ (l : List WrittenPattern). IsPatterns s l u) (sym e) (pats_first h)

pub patterns_more-read : {s u v w : State} {ps qs : List WrittenPattern} {p : WrittenPattern}
    → IsPatterns s ps u → Takes token.Comma u v → IsPattern v p w → qs ≡ ps ++ (p ∷ []) → IsPatterns s qs w
patterns_more-read {s} {w = w} h g f e = subst (λ (l : List WrittenPattern). IsPatterns s l w) (sym e) (pats_more h g f)

pub lambda-read : {s a b c d e : State} {m : SMode} {n : Option (List ℕ)} {o x : WrittenObject} {p : Span}
    → Opens token.Backslash s a → IsMark a m b → IsBinder b n c → Takes token.Stop c d → IsObject d o e → p ≡ span_to s e → x ≡ lam p m n o → IsObject s x e
lambda-read {s} {e = e} {m} {n} {o} h g f k i q r = subst (λ (x : WrittenObject). IsObject s x e) (sym (at_span q r)) (obj_lambda h g f k i)
  where
    at_span : {x : WrittenObject} {p q : Span} → p ≡ q → x ≡ lam p m n o → x ≡ lam q m n o
    at_span f g = cc

pub application-read : {s u v : State} {h x : WrittenObject} {xs : List (SMode × WrittenObject)} {p : Span}
    → IsAtom s h u → IsArguments u xs v → Ends begins_argument v → p ≡ span_to s v → x ≡ applied p h xs → IsApplication s x v
application-read {s} {v = v} {h} {xs = xs} f g e q r =
    subst (λ (x : WrittenObject). IsApplication s x v) (sym r) (subst (λ (p : Span). IsApplication s (applied p h xs) v) (sym q) (app_all f g e))

pub arguments_none-read : {s : State} {xs : List (SMode × WrittenObject)} → xs ≡ [] → IsArguments s xs s
arguments_none-read {s} e = subst (λ (l : List (SMode × WrittenObject)). IsArguments s l s) (sym e) args_none

pub arguments_more-read : {s u v w : State} {xs ys : List (SMode × WrittenObject)} {m : SMode} {o : WrittenObject}
    → IsArguments s xs u → IsMark u m v → IsAtom v o w → ys ≡ xs ++ ((m, o) ∷ []) → IsArguments s ys w
arguments_more-read {s} {w = w} h g f e = subst (λ (l : List (SMode × WrittenObject)). IsArguments s l w) (sym e) (args_more h g f)

moved : (of : Span → WrittenObject) {s : State} {u : State} {x : WrittenObject} {p q : Span} → p ≡ q → x ≡ of p → IsAtom s (of q) u → IsAtom s x u
moved of {s} {u} e f h = subst (λ (x : WrittenObject). IsAtom s x u) (sym f) (subst (λ (p : Span). IsAtom s (of p) u) (sym e) h)

pub name-read : {s u : State} {n : List ℕ} {x : WrittenObject} {p : Span} → TakesName s n u → p ≡ span_to s u → x ≡ named p n false → IsAtom s x u
name-read {n = n} h e f = moved (λ p. named p n false) e f (atom_name h)

pub constant-read : {s u : State} {n : List ℕ} {x : WrittenObject} {p : Span} → TakesConstant s n u → p ≡ span_to s u → x ≡ named p n true → IsAtom s x u
constant-read {n = n} h e f = moved (λ p. named p n true) e f (atom_constant h)

pub hole-read : {s u : State} {x : WrittenObject} {p : Span} → Takes token.Hole s u → p ≡ span_to s u → x ≡ hole p → IsAtom s x u
hole-read h e f = moved hole e f (atom_hole h)

pub unit-read : {s u : State} {x : WrittenObject} {p : Span} → Takes token.UnitSign s u → p ≡ span_to s u → x ≡ unit p → IsAtom s x u
unit-read h e f = moved unit e f (atom_unit h)

pub pair-read : {s a b c d e : State} {l r x : WrittenObject} {p : Span}
    → Opens token.Less s a → IsObject a l b → Takes token.Comma b c → IsObject c r d → Closes token.Greater s.room d e → p ≡ span_to s e → x ≡ pair p l r → IsAtom s x e
pair-read {l = l} {r} h g f k i q j = moved (λ p. pair p l r) q j (atom_pair h g f k i)

pub braces-read : {s a b c : State} {ss : WrittenSteps} {t : WrittenTuple} {x : WrittenObject} {p : Span}
    → Opens token.LeftBrace s a → IsExpression a ss t b → Closes token.RightBrace s.room b c → p ≡ span_to s c → x ≡ braces p ss t → IsAtom s x c
braces-read {ss = ss} {t} h g f q j = moved (λ p. braces p ss t) q j (atom_braces h g f)

pub first-read : {s a b c : State} {o x : WrittenObject} {p : Span}
    → Opens token.Proj1 s a → IsAtom a o b → EndsPart s.room b c → p ≡ span_to s c → x ≡ first p o → IsAtom s x c
first-read {o = o} h g f q j = moved (λ p. first p o) q j (atom_first h g f)

pub second-read : {s a b c : State} {o x : WrittenObject} {p : Span}
    → Opens token.Proj2 s a → IsAtom a o b → EndsPart s.room b c → p ≡ span_to s c → x ≡ second p o → IsAtom s x c
second-read {o = o} h g f q j = moved (λ p. second p o) q j (atom_second h g f)

pub expression-read : {s u v : State} {xs : List (WrittenPattern × WrittenObject)} {t r : WrittenTuple} {ss : WrittenSteps}
    → IsSteps s xs u → Ends is_let u → IsTuple u t v → ss ≡ steps_of xs → r ≡ t → IsExpression s ss r v
expression-read {s} {v = v} {xs} {t} {r} h g f e d =
    subst (λ (l : WrittenSteps). IsExpression s l r v) (sym e) (subst (λ (q : WrittenTuple). IsExpression s (steps_of xs) q v) (sym d) (expr_all h g f))

pub steps_none-read : {s : State} {xs : List (WrittenPattern × WrittenObject)} → xs ≡ [] → IsSteps s xs s
steps_none-read {s} e = subst (λ (l : List (WrittenPattern × WrittenObject)). IsSteps s l s) (sym e) steps_none

pub steps_more-read : {s u v : State} {xs ys : List (WrittenPattern × WrittenObject)} {p : WrittenPattern × WrittenObject}
    → IsSteps s xs u → IsStep u p.0 p.1 v → ys ≡ xs ++ (p ∷ []) → IsSteps s ys v
steps_more-read {s} {v = v} h g e = subst (λ (l : List (WrittenPattern × WrittenObject)). IsSteps s l v) (sym e) (steps_more h g)

pub step-read : {s a b c d e f g : State} {p q : WrittenPattern} {o r : WrittenObject}
    → Takes token.KwLet s a → Opens token.LeftBrace a b → IsPattern b p c → Closes token.RightBrace a.room c d
    → Takes token.Equals d e → IsApplication e o f → Takes token.KwIn f g → q ≡ p → r ≡ o → IsStep s q r g
step-read {s} {g = g} {p} {o = o} {r} h i j k l m n e d =
    subst (λ (q : WrittenPattern). IsStep s q r g) (sym e) (subst (λ (x : WrittenObject). IsStep s p x g) (sym d) (step_let h i j k l m n))

pub tuple_one-read : {s u : State} {t : WrittenTuple} → TakesOne s u → t ≡ tuple_one → IsTuple s t u
tuple_one-read {s} {u} h e = subst (λ (t : WrittenTuple). IsTuple s t u) (sym e) (tup_one h)

pub tuple_list-read : {s u v w : State} {ts : List WrittenTuple} {t : WrittenTuple}
    → Opens token.LeftBracket s u → IsTuples u ts v → Ends is_comma v → Closes token.RightBracket s.room v w → t ≡ tuple_list (tuples_of ts) → IsTuple s t w
tuple_list-read {s} {w = w} h g f k e = subst (λ (t : WrittenTuple). IsTuple s t w) (sym e) (tup_list h g f k)

pub persistent-read : {s u v : State} {o : WrittenObject} {t : WrittenTuple} → Takes token.Bang s u → IsAtom u o v → t ≡ tuple_marked Persistent o → IsTuple s t v
persistent-read {s} {v = v} h g e = subst (λ (t : WrittenTuple). IsTuple s t v) (sym e) (tup_persistent h g)

pub affine-read : {s u v : State} {o : WrittenObject} {t : WrittenTuple} → Takes token.AtSign s u → IsAtom u o v → t ≡ tuple_marked Affine o → IsTuple s t v
affine-read {s} {v = v} h g e = subst (λ (t : WrittenTuple). IsTuple s t v) (sym e) (tup_affine h g)

pub bare-read : {s u : State} {o : WrittenObject} {t : WrittenTuple} → IsObject s o u → t ≡ tuple_bare o → IsTuple s t u
bare-read {s} {u} h e = subst (λ (t : WrittenTuple). IsTuple s t u) (sym e) (tup_bare h)

pub tuples_first-read : {s u : State} {ts : List WrittenTuple} {t : WrittenTuple} → IsTuple s t u → ts ≡ t ∷ [] → IsTuples s ts u
tuples_first-read {s} {u} h e = subst (λ (l : List WrittenTuple). IsTuples s l u) (sym e) (tups_first h)

pub tuples_more-read : {s u v w : State} {ts us : List WrittenTuple} {t : WrittenTuple}
    → IsTuples s ts u → Takes token.Comma u v → IsTuple v t w → us ≡ ts ++ (t ∷ []) → IsTuples s us w
tuples_more-read {s} {w = w} h g f e = subst (λ (l : List WrittenTuple). IsTuples s l w) (sym e) (tups_more h g f)

pub indices_none-read : {s : State} {os : List WrittenObject} → os ≡ [] → IsIndices s os s
indices_none-read {s} e = subst (λ (l : List WrittenObject). IsIndices s l s) (sym e) indices_none

pub indices_more-read : {s u v : State} {os ps : List WrittenObject} {o : WrittenObject} → IsIndices s os u → IsIndex u o v → ps ≡ os ++ (o ∷ []) → IsIndices s ps v
indices_more-read {s} {v = v} h g e = subst (λ (l : List WrittenObject). IsIndices s l v) (sym e) (indices_more h g)
