-- What comes back from its plain tree is said by it.
use Rattle.std.proofs.Common.{◌≡◌, ◌∙◌, map, sym, ap}
use Rattle.clf_syntax.specs.declared.tree.Ty.{Ty}
use Rattle.clf_syntax.specs.declared.tree.Kind.{Kind}
use Rattle.clf_syntax.specs.Plain.{plain_obj, plain_neutral, plain_expr}
use Rattle.clf_syntax.specs.PlainTypes.{plain_ty, plain_tele, plain_kind}
use Rattle.clf_syntax.specs.PlainSimple.{plain_simple}
use Rattle.tree_laws.specs.Laws.{PlainIsOneToOne}
use Rattle.tree_laws.proofs.Objects.{object_back, neutral_back, expression_back, object-back, neutral-back, expression-back}
use Rattle.tree_laws.proofs.Types.{type_back, telescope_back, all-back, type-back, telescope-back}
use Rattle.tree_laws.proofs.SimpleTypes.{simple_back, simple-back}

-- a view that has a way back tells what it is of
told : {X Y : Type 0} (view : X → Y) (back : Y → X) → ((x : X) → back (view x) ≡ x) → (x y : X) → view x ≡ view y → x ≡ y
told view back is x y e = sym (is x) ∙ ap back e ∙ is y

kind-told : (x y : Kind) → plain_kind x ≡ plain_kind y → x ≡ y
kind-told x y e =
    let args : x.args ≡ y.args = sym (all-back plain_ty type_back type-back x.args) ∙ ap (map type_back) e ∙ all-back plain_ty type_back type-back y.args in
    ap (λ ts. let k : Kind = record { args = ts } in k) args

pub one-to-one : PlainIsOneToOne
one-to-one = record {
  objects = told plain_obj object_back object-back;
  neutrals = told plain_neutral neutral_back neutral-back;
  expressions = told plain_expr expression_back expression-back;
  types = told plain_ty type_back type-back;
  telescopes = told plain_tele telescope_back telescope-back;
  kinds = kind-told;
  simple_types = told plain_simple simple_back simple-back;
}
