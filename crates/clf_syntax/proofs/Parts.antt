-- Trees are the same where their parts are.
use Rattle.std.specs.Prelude.{ℕ, ◌+◌, ◌<◌, ◌≡◌, List, [], ◌∷◌, ◌++◌, map, length, refl}
use Rattle.std.proofs.Common.{ap, sym, ◌∙◌, drop, get_or}
use Rattle.clf_syntax.specs.declared.tree.Mode.{Mode}
use Rattle.clf_syntax.specs.declared.tree.Head.{Head}
use Rattle.clf_syntax.specs.Tree.{PlainObject, PlainNeutral, head_alone, app, fst, snd, PlainExpression, step, done, PlainTuple, empty, entry, PlainElimination, arg, first, second, eliminated, spine_on, steps_on, tuple_of}
use Rattle.clf_syntax.specs.Plain.{plain_neutral, plain_elim, plain_expr, plain_step, plain_entry, plain-neutral, plain-expr, plain_laws}
use Rattle.clf_syntax.proofs.Next.{dropped}
use Rattle.clf_syntax.proofs.TypeRenaming.{conses}

-- ---- a neutral is its head and its spine

abbrev head_at : PlainNeutral → Head
head_at (head_alone h) = h
head_at (app m r o) = head_at r
head_at (fst r) = head_at r
head_at (snd r) = head_at r

abbrev along : PlainNeutral → List PlainElimination → List PlainElimination
along (head_alone h) es = es
along (app m r o) es = along r (arg m o ∷ es)
along (fst r) es = along r (first ∷ es)
along (snd r) es = along r (second ∷ es)

head-spine : (es : List PlainElimination) (r : PlainNeutral) → head_at (spine_on es r) ≡ head_at r
head-spine [] r = refl
head-spine (e ∷ es) r = head-spine es (eliminated e r) ∙ step_head e
  where
    step_head : (e : PlainElimination) → head_at (eliminated e r) ≡ head_at r
    step_head (arg m o) = refl
    step_head first = refl
    step_head second = refl

along-spine : (es : List PlainElimination) (r : PlainNeutral) (fs : List PlainElimination) → along (spine_on es r) fs ≡ along r (es ++ fs)
along-spine [] r fs = refl
along-spine (e ∷ es) r fs = along-spine es (eliminated e r) fs ∙ step_along e
  where
    step_along : (e : PlainElimination) → along (eliminated e r) (es ++ fs) ≡ along r (e ∷ (es ++ fs))
    step_along (arg m o) = refl
    step_along first = refl
    step_along second = refl

ends : {X : Type 0} (xs : List X) → xs ++ [] ≡ xs
ends [] = refl
ends (x ∷ xs) = ap (λ ys. x ∷ ys) (ends xs)

pub neutral-parts : (h j : Head) (es fs : List PlainElimination) → spine_on es (head_alone h) ≡ spine_on fs (head_alone j) → (h ≡ j) × (es ≡ fs)
neutral-parts h j es fs e = (
  sym (head-spine es (head_alone h)) ∙ ap head_at e ∙ head-spine fs (head_alone j),
  sym (along-spine es (head_alone h) [] ∙ ends es) ∙ ap (λ n. along n []) e ∙ along-spine fs (head_alone j) [] ∙ ends fs,
)

-- ---- an expression is its steps and its tuple

abbrev steps_in : PlainExpression → List (List Mode × PlainNeutral)
steps_in (step ms r e) = (ms, r) ∷ steps_in e
steps_in (done t) = []

abbrev tuple_in : PlainExpression → PlainTuple
tuple_in (step ms r e) = tuple_in e
tuple_in (done t) = t

abbrev entries_in : PlainTuple → List (Mode × PlainObject)
entries_in empty = []
entries_in (entry m o t) = (m, o) ∷ entries_in t

steps-back : (ss : List (List Mode × PlainNeutral)) (t : PlainTuple) → steps_in (steps_on ss (done t)) ≡ ss
steps-back [] t = refl
steps-back (s ∷ ss) t = ap (λ us. s ∷ us) (steps-back ss t)

tuple-back : (ss : List (List Mode × PlainNeutral)) (t : PlainTuple) → tuple_in (steps_on ss (done t)) ≡ t
tuple-back [] t = refl
tuple-back (s ∷ ss) t = tuple-back ss t

entries-back : (es : List (Mode × PlainObject)) → entries_in (tuple_of es) ≡ es
entries-back [] = refl
entries-back (e ∷ es) = ap (λ us. e ∷ us) (entries-back es)

pub expression-parts : (ss us : List (List Mode × PlainNeutral)) (es fs : List (Mode × PlainObject)) → steps_on ss (done (tuple_of es)) ≡ steps_on us (done (tuple_of fs)) → (ss ≡ us) × (es ≡ fs)
expression-parts ss us es fs e = (
  sym (steps-back ss (tuple_of es)) ∙ ap steps_in e ∙ steps-back us (tuple_of fs),
  sym (entries-back es) ∙ ap entries_in (sym (tuple-back ss (tuple_of es)) ∙ ap tuple_in e ∙ tuple-back us (tuple_of fs)) ∙ entries-back fs,
)

pub ruleset same_laws = (plain_laws, neutral-parts, expression-parts)
