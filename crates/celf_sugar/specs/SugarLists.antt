-- Inner: the plain forms of the parts of a list, as one list.
use Rattle.std.specs.Prelude.{◌≡◌, List, [], ◌∷◌, ◌++◌, map, refl}
use Rattle.std.specs.List.{flat_map}
use Rattle.std.proofs.Common.{ap}
use Rattle.celf_surface.specs.declared.surface.SMode.{SMode}
use Rattle.celf_surface.specs.declared.surface.Span.{Span}
use Rattle.celf_surface.specs.declared.surface.SExpr.{SExpr, out-SExpr}
use Rattle.celf_surface.specs.Surface as written
use Rattle.celf_sugar.specs.declared.plain.PName.{PName}
use Rattle.celf_sugar.specs.declared.plain.PBinder.{PBinder}
use Rattle.celf_sugar.specs.PlainTree.{DesugaredAct, argument, DesugaredSpine, step, spine_of, steps_of, DesugaredType, DesugaredEntry, function}
use Rattle.celf_sugar.specs.Sugar.{binders, all_binders, head, object, acts, arguments, steps, entries_of_tuple, entries_of_tuples, functions}

-- an argument
abbrev pub act_of : SMode × written.WrittenObject → DesugaredAct
act_of a = argument a.0 (object a.1)

-- a step
abbrev pub plain_step_of : written.WrittenPattern × written.WrittenObject → List PBinder × PName × DesugaredSpine
plain_step_of s = (binders s.0, head s.1, spine_of (acts s.1))

pub arguments-mapped : (as_ : List (SMode × written.WrittenObject)) → arguments (written.arguments_of as_) ≡ map act_of as_
arguments-mapped [] = refl
arguments-mapped (a ∷ as_) = ap (λ xs. act_of a ∷ xs) (arguments-mapped as_)

pub steps-mapped : (ss : List (written.WrittenPattern × written.WrittenObject)) → steps (written.steps_of ss) ≡ steps_of (map plain_step_of ss)
steps-mapped [] = refl
steps-mapped (s ∷ ss) = ap (step (binders s.0) (head s.1) (spine_of (acts s.1))) (steps-mapped ss)

pub tuples-joined : (ts : List written.WrittenTuple) → entries_of_tuples (written.tuples_of ts) ≡ flat_map entries_of_tuple ts
tuples-joined [] = refl
tuples-joined (t ∷ ts) = ap (λ xs. entries_of_tuple t ++ xs) (tuples-joined ts)

pub patterns-joined : (ps : List written.WrittenPattern) → all_binders (written.patterns_of ps) ≡ flat_map binders ps
patterns-joined [] = refl
patterns-joined (p ∷ ps) = ap (λ xs. binders p ++ xs) (patterns-joined ps)

-- the last entry of some is the function next to the type
pub functions-last : (s : Span) (es : List DesugaredEntry) (e : DesugaredEntry) (b : DesugaredType) → functions s (es ++ e ∷ []) b ≡ functions s es (function s e.0 e.1 e.2 b)
functions-last s [] e b = refl
functions-last s (d ∷ es) e b = ap (function s d.0 d.1 d.2) (functions-last s es e b)

pub expression-steps : (e : SExpr) → (written.expression_tree e).0 ≡ written.steps_of (map written.step_tree (out-SExpr e).steps)
expression-steps e = ap (λ (p : written.WrittenSteps × written.WrittenTuple). p.0) (written.expression-of e)

pub expression-result : (e : SExpr) → (written.expression_tree e).1 ≡ written.tuple_tree (out-SExpr e).result
expression-result e = ap (λ (p : written.WrittenSteps × written.WrittenTuple). p.1) (written.expression-of e)

pub ruleset sugar_laws = (expression-steps, expression-result, arguments-mapped, steps-mapped, tuples-joined, patterns-joined)

-- the laws of one kind of written tree alone, which are sooner tried than all
pub ruleset written_object_laws = (written.object-of, written.form-Lam, written.form-App, written.form-Named, written.form-Hole, written.form-Unit, written.form-Pair, written.form-Braces, written.form-First, written.form-Second)

pub ruleset written_part_laws = (written.argument-of, written.step-of)

pub ruleset written_tuple_laws = (written.tuple-One, written.tuple-List, written.tuple-Marked, written.tuple-Bare)

pub ruleset written_pattern_laws = (written.pattern-One, written.pattern-Entry, written.pattern-List)

pub ruleset written_type_laws = (written.type-Pi, written.type-Exists, written.type-Arrow, written.type-Tensor, written.type-Marked, written.type-With, written.type-TypeWord, written.type-Family, written.type-Top, written.type-One, written.type-Braces, written.type-of)
