-- New metavariables have a family or a monad as their result.
use Rattle.std.proofs.lemmas.List.Elements.{All-append, All-cons, All-nil}
use Rattle.std.specs.List.{All}
use Rattle.std.specs.Prelude.{Bool, [], false, if◌then◌else◌, true, ◌∷◌}
use Rattle.clf_syntax.specs.TypeTree.{SimpleType, arrow, base, lax, simple_top, simple_with}
use Rattle.pattern_laws.specs.Patterns.{HasFinalResult}
use Rattle.metavars.specs.Fresh.{Scope, binder, functions, new_types, scope_of}
use Rattle.celf_elaboration.specs.Fillings.{Fillings, types_of_new}
use Rattle.gathered_laws.specs.Laws.{NewTypesAreFinal}

functions_final : (s : Scope) (t : SimpleType) → HasFinalResult t → HasFinalResult (functions s t)
functions_final [] t p = p
functions_final (l ∷ s) t p = functions_final s (if l.applied then arrow l.mode l.type t else t) (of_local l.applied)
  where
    of_local : (b : Bool) → HasFinalResult (if b then arrow l.mode l.type t else t)
    of_local true = p
    of_local false = p

alone : (t : SimpleType) → HasFinalResult t → All HasFinalResult (t ∷ [])
alone t p = All-cons HasFinalResult t [] p (All-nil HasFinalResult)

pub new_are_final : (s : Scope) (t : SimpleType) → All HasFinalResult (new_types s t)
new_are_final s (base f) = alone (functions s (base f)) (functions_final s (base f) tt)
new_are_final s (arrow m d c) = new_are_final (binder m d ∷ s) c
new_are_final s (simple_with c d) = All-append HasFinalResult (new_types s c) (new_types s d) (new_are_final s c) (new_are_final s d)
new_are_final s simple_top = All-nil HasFinalResult
new_are_final s (lax ts) = alone (functions s (lax ts)) (functions_final s (lax ts) tt)

fillings_final : (fs : Fillings) → All HasFinalResult (types_of_new fs)
fillings_final [] = All-nil HasFinalResult
fillings_final (f ∷ fs) = All-append HasFinalResult (new_types (scope_of f.locals) f.type) (types_of_new fs) (new_are_final (scope_of f.locals) f.type) (fillings_final fs)

pub new_types_are_final : NewTypesAreFinal
new_types_are_final = (new_are_final, fillings_final)
