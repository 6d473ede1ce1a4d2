use Rattle.std.proofs.Common.{sym, ◌∙◌, map}
use Rattle.std.specs.Prelude.{option_copied}
use Rattle.celf_places.specs.Heads.{local_from}
use Rattle.celf_places.specs.Locals.{plain_locals}
use Rattle.celf_places.proofs.LocalsLaws.{all_left, is_newest, is_older, none_left}
use Rattle.celf_filled.specs.Scopes.{declared_local}
use Rattle.celf_filled.proofs.ScopeLaws.{seen_locals}
use Rattle.celf_filled.proofs.scope.Scope.find.Goals as goal

pub loop-left-init : goal.loop-left-init
loop-left-init c = all_left (λ b. (b.name.now, option_copied b.place)) c.args.name.now c.self.inside.locals (map declared_local c.args.self.now) c.len-left.result c.len-left.ensures
    (seen_locals (λ b. (b.mode, (b.name.now, option_copied b.place))) c.self.inside.locals c.args.self.now c.self.view_is)

pub returns-then-has_name : goal.returns-then-has_name
returns-then-has_name c =
    is_newest (λ b. (b.name.now, option_copied b.place)) c.args.name.now c.loop-left.number c.self.inside.locals c.as_slice.result.now c.loop-left.left c.index-as_slice-left.result (local_from 0 c.args.name.now (plain_locals (map declared_local c.args.self.now)))
    c.as_slice.ensures c.loop-left-test.true c.loop-left.invariant.0 c.index-as_slice-left.is (sym c.has_name.ensures ∙ c.if-has_name.true) c.loop-left.invariant.1

pub loop-left-preserved : goal.loop-left-preserved
loop-left-preserved c =
    is_older (λ b. (b.name.now, option_copied b.place)) c.args.name.now c.loop-left.number c.self.inside.locals c.as_slice.result.now c.loop-left.left c.index-as_slice-left.result (local_from 0 c.args.name.now (plain_locals (map declared_local c.args.self.now)))
    c.as_slice.ensures c.loop-left-test.true c.loop-left.invariant.0 c.index-as_slice-left.is (sym c.has_name.ensures ∙ c.if-has_name.false) c.loop-left.invariant.1

pub returns : goal.returns
returns c = none_left (λ b. (b.name.now, option_copied b.place)) c.args.name.now c.loop-left.number c.self.inside.locals c.loop-left.left (local_from 0 c.args.name.now (plain_locals (map declared_local c.args.self.now))) c.loop-left-test.false c.loop-left.invariant.1
