use Rattle.std.proofs.Common.{ap, sym, subst, ◌∙◌, ◌≡◌, ◌≢◌, length, map, List, arith}
use Rattle.clf_syntax.specs.declared.tree.SimpleEntry.{SimpleEntry}
use Rattle.clf_syntax.specs.TypeTree.{lax}
use Rattle.clf_syntax.specs.Plain.{plain_expr}
use Rattle.clf_syntax.specs.PlainSimple.{plain_simple, plain_simple_entry, simple_telescope_of, plain-SimpleMonad}
use Rattle.hered_subst.specs.Substitution.{Flattened}
use Rattle.hered_put.specs.Outcomes.{plain_rest}
use Rattle.metavars.specs.Outcomes.{Flat, NotFlat}
use Rattle.metavars.proofs.Values.{refused-by, other-not_flat, kept-flat, kept-refuses}
use Rattle.metavars.proofs.instantiate.flat_in_front.Goals as goal

pub returns-then-len : goal.returns-then-len
returns-then-len c =
    let ms = c.args.modes.now in
    let es = c.in-Monad.entries in
    let g = plain_expr c.args.value.now in
    let e = plain_rest c.args.rest in
    let other : length es ≢ length ms = omega arith in
    subst (λ t. NotFlat ms g t e) (sym (ap plain_simple c.in-Monad.is ∙ plain-SimpleMonad es)) (other-not_flat ms e g es other)

pub returns-in_err-whole-in-Monad : goal.returns-in_err-whole-in-Monad
returns-in_err-whole-in-Monad c =
    let ms = c.args.modes.now in
    let es = c.as_slice.result.now in
    let g = plain_expr c.args.value.now in
    let e = plain_rest c.args.rest in
    let f = plain_expr c.in_ok-rest-in-Monad.rest in
    let t = lax (simple_telescope_of (map plain_simple_entry es)) in
    let fault = c.in_err-whole-in-Monad.field-0.0 in
    let of : plain_simple c.args.ty.now ≡ t = ap plain_simple c.in-Monad.is ∙ plain-SimpleMonad c.in-Monad.entries ∙ ap (λ (l : List SimpleEntry). lax (simple_telescope_of (map plain_simple_entry l))) (sym c.as_slice.ensures) in
    refused-by _ _ _ _ _ c.from_residual-in_err-whole-in-Monad.ensures.1
    (λ h. subst (λ u. NotFlat ms g u e) (sym of) (subst (λ y. NotFlat ms g t y) c.in_ok-rest-in-Monad.ensures h))
    (kept-refuses ms f g es fault c.in_err-whole-in-Monad.ensures.typed)

pub returns-in_ok-of_expression-in-Monad : goal.returns-in_ok-of_expression-in-Monad
returns-in_ok-of_expression-in-Monad c =
    let ms = c.args.modes.now in
    let es = c.as_slice.result.now in
    let g = plain_expr c.args.value.now in
    let e = plain_rest c.args.rest in
    let f = plain_expr c.in_ok-rest-in-Monad.rest in
    let t = lax (simple_telescope_of (map plain_simple_entry es)) in
    let x = plain_expr c.in_ok-whole-in-Monad.whole in
    let r = c.in_ok-of_expression-in-Monad.field-0 in
    let of : plain_simple c.args.ty.now ≡ t = ap plain_simple c.in-Monad.is ∙ plain-SimpleMonad c.in-Monad.entries ∙ ap (λ (l : List SimpleEntry). lax (simple_telescope_of (map plain_simple_entry l))) (sym c.as_slice.ensures) in
    let same : length c.in-Monad.entries ≡ length ms = omega arith in
    let flat = subst (λ n. Flattened n g f x) (ap length c.as_slice.ensures ∙ same) c.in_ok-whole-in-Monad.ensures.substituted in
    subst (λ u. Flat ms g u e (plain_rest r)) (sym of)
    (subst (λ y. Flat ms g t y (plain_rest r)) c.in_ok-rest-in-Monad.ensures
    (subst (λ y. Flat ms g t f y) (sym c.in_ok-of_expression-in-Monad.ensures)
    (kept-flat ms f g es x flat c.in_ok-whole-in-Monad.ensures.typed)))
