-- Trees from their parts: a head with arguments is an application.
use Rattle.std.proofs.Common.{◌≡◌, List, [], ◌∷◌, map, refl, ap, ◌∙◌}
use Rattle.celf_surface.specs.declared.surface.Span.{Span}
use Rattle.celf_surface.specs.declared.surface.SObj.{SObj}
use Rattle.celf_surface.specs.declared.surface.SArg.{SArg}
use Rattle.celf_surface.specs.declared.surface.SObjForm.{App}
use Rattle.celf_surface.specs.declared.surface.SStep.{SStep}
use Rattle.celf_surface.specs.declared.surface.STuple.{STuple}
use Rattle.celf_surface.specs.declared.surface.SExpr.{roll-SExpr, fold-roll-SExpr}
use Rattle.celf_surface.specs.Surface.{WrittenObject, app, arguments_of, steps_of, object_tree, form_tree, argument_tree, expression_tree, step_tree, tuple_tree, on_form, on_tuple, on_argument, on_expression, on_object, on_step, form-App}
use Rattle.celf_grammar.specs.Grammar.{applied}

pub applied-made : (x : WrittenObject) (h g : SObj) (xs : List SArg) (s : Span)
    → x ≡ form_tree (App g xs) s → g ≡ h → (xs ≡ [] → ⊥) → x ≡ applied s (object_tree h) (map argument_tree xs)
applied-made x h g [] s e f k = absurd (k refl)
applied-made x h g (a ∷ xs) s e f k = e ∙ form-App g (a ∷ xs) s ∙ ap (λ (o : SObj). app s (object_tree o) (arguments_of (map argument_tree (a ∷ xs)))) f

-- an expression from its parts
pub expression-made : (ss : List SStep) (t : STuple) → expression_tree (roll-SExpr (record { steps = ss; result = t })) ≡ (steps_of (map step_tree ss), tuple_tree t)
unfolding form_tree tuple_tree argument_tree expression_tree object_tree step_tree
expression-made ss t = fold-roll-SExpr _ _ _ _ _ _ on_form on_tuple on_argument on_expression on_object on_step (record { steps = ss; result = t })
