use Rattle.std.proofs.Common.{ap, sym, ◌∙◌, ◌≡◌, ◌+◌, ◌++◌, length, map}
use Rattle.std.proofs.lemmas.List.{append-nil}
use Rattle.clf_syntax.specs.Tree.{PlainObject, pair}
use Rattle.clf_syntax.specs.TypeTree.{simple_top}
use Rattle.clf_syntax.specs.Plain.{plain_obj, plain-Pair}
use Rattle.clf_syntax.specs.PlainSimple.{plain_simple, plain-SimpleTop}
use Rattle.store_laws.specs.Additions.{new, meta_types}
use Rattle.metavars.specs.Fresh.{new_types, fresh_object}
use Rattle.metavars.specs.Scopes.{plain_scope}
use Rattle.metavars.specs.Stored.{additions}
use Rattle.metavars.proofs.ScopesLaws.{types-more}
use Rattle.metavars.proofs.fresh.+make.Goals as goal

pairs-same : (a b x y : PlainObject) → a ≡ b → x ≡ y → pair a x ≡ pair b y
pairs-same a b x y e f = cc

pub make-returns-in-Top-clause-added : goal.make-returns-in-Top-clause-added
make-returns-in-Top-clause-added t c =
    let e : plain_simple c.args.ty.now ≡ simple_top = cc (plain-SimpleTop) in
    sym (ap (λ u. additions c.args.store.now ++ map new (new_types (plain_scope c.args.scope.items) u)) e ∙ append-nil (additions c.args.store.now))

pub make_pair-returns-clause-object : goal.make_pair-returns-clause-object
make_pair-returns-clause-object t c =
    let scope = c.args.scope.items in
    let first = length (meta_types (additions c.args.store.now)) in
    let l = plain_simple c.args.left.now in
    let r = plain_simple c.args.right.now in
    let same = c.in_ok-again.ensures.items ∙ c.as_slice.ensures.value in
    let count : length (meta_types (additions c.make.new.store)) ≡ first + length (new_types (plain_scope scope) l) =
    ap (λ zs. length (meta_types zs)) c.in_ok-left.ensures.added ∙ types-more (additions c.args.store.now) (new_types (plain_scope c.in_ok-again.again.items) l) ∙ ap (λ xs. first + length (new_types (plain_scope xs) l)) same in
    let left : plain_obj c.in_ok-left.left ≡ fresh_object first (plain_scope scope) l = c.in_ok-left.ensures.object ∙ ap (λ xs. fresh_object first (plain_scope xs) l) same in
    let right : plain_obj c.in_ok-right.right ≡ fresh_object (first + length (new_types (plain_scope scope) l)) (plain_scope scope) r = c.in_ok-right.ensures.object ∙ ap (λ k. fresh_object k (plain_scope scope) r) count in
    plain-Pair c.in_ok-new.field-0 c.in_ok-new-2.field-0 ∙ pairs-same _ _ _ _ (ap plain_obj c.in_ok-new.ensures ∙ left) (ap plain_obj c.in_ok-new-2.ensures ∙ right)
