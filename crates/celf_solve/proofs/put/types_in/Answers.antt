use Rattle.std.proofs.Common.{sym, subst, ◌<◌, ◌+◌, List, [], map, length, take, arith}
use Rattle.clf_syntax.specs.declared.tree.Ty.{Ty}
use Rattle.clf_syntax.specs.PlainTypes.{plain_ty}
use Rattle.metavars.specs.Becoming.{Each, none}
use Rattle.metavars.specs.Stored.{additions}
use Rattle.metavars.proofs.Becomings.{each-next}
use Rattle.celf_solve.specs.Puts.{TypeBecomes}
use Rattle.celf_solve.proofs.Puts.{formed_at}
use Rattle.celf_solve.proofs.put.types_in.Goals as goal

pub loop-ty-init : goal.loop-ty-init
loop-ty-init c = subst (λ (ys : List Ty). Each (TypeBecomes (additions c.args.store.now)) [] (map plain_ty ys)) (sym c.new-put.ensures) none

pub type_in-requires : goal.type_in-requires
type_in-requires c =
    let i = c.loop-ty.ty-index in
    let xs = c.args.types.now in
    let lt : i < length xs = omega arith in
    record { formed = formed_at (additions c.args.store.now) xs i c.ty-item.result lt c.ty-item.is c.requires.formed }

pub loop-ty-preserved : goal.loop-ty-preserved
loop-ty-preserved c =
    let i = c.loop-ty.ty-index in
    let xs = c.args.types.now in
    let lt : i < length xs = omega arith in
    let becomes = TypeBecomes (additions c.args.store.now) in
    subst (λ (ys : List Ty). Each becomes (map plain_ty (take (i + 1) xs)) (map plain_ty ys)) (sym c.in_ok-push.ensures.ok)
    (each-next plain_ty becomes xs i c.ty-item.result c.loop-ty.put c.in_ok-type_in.field-0 c.loop-ty.invariant lt c.ty-item.is c.in_ok-type_in.ensures.put_in)
