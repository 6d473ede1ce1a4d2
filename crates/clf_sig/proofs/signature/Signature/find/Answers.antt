-- What `find` answers is the place of the name.
use Rattle.std.proofs.Common.{◌≡◌, Some, sym, ◌∙◌}
use Rattle.clf_sig.specs.Entry.{place_of}
use Rattle.clf_sig.specs.Signature.{plain_signature}
use Rattle.clf_sig.proofs.Names.{place_of-keys, found, is_named, distinct}
use Rattle.clf_sig.proofs.signature.Signature.find.Goals as goal

none_is_place : (c : goal.After-from_residual) → c.from_residual.result ≡ place_of c.args.name.now (plain_signature c.args.self.now)
none_is_place c =
    rw (← c.self.view_is)
    (c.from_residual.ensures ∙ sym c.in_err-place.was ∙ c.get_index_of.ensures.index ∙ place_of-keys c.args.name.now c.self.inside.declared.entries)

some_is_place : (c : goal.In_ok-place) → Some c.in_ok-place.place ≡ place_of c.args.name.now (plain_signature c.args.self.now)
some_is_place c =
    rw (← c.self.view_is)
    (sym c.in_ok-place.was ∙ c.get_index_of.ensures.index ∙ place_of-keys c.args.name.now c.self.inside.declared.entries)

pub returns-in_err-place-clause-place : goal.returns-in_err-place-clause-place
returns-in_err-place-clause-place c = none_is_place c

pub returns-in_err-place-clause-is_named : goal.returns-in_err-place-clause-is_named
returns-in_err-place-clause-is_named c = is_named c.args.name.now (plain_signature c.args.self.now) c.from_residual.result (none_is_place c)

pub returns-in_err-place-clause-distinct : goal.returns-in_err-place-clause-distinct
returns-in_err-place-clause-distinct c = rw (← c.self.view_is) (distinct c.self.inside.declared.entries c.get_index_of.ensures.unique)

pub returns-clause-place : goal.returns-clause-place
returns-clause-place c = some_is_place c

pub returns-clause-found : goal.returns-clause-found
returns-clause-found c = found c.args.name.now (plain_signature c.args.self.now) (Some c.in_ok-place.place) (some_is_place c)

pub returns-clause-is_named : goal.returns-clause-is_named
returns-clause-is_named c = is_named c.args.name.now (plain_signature c.args.self.now) (Some c.in_ok-place.place) (some_is_place c)

pub returns-clause-distinct : goal.returns-clause-distinct
returns-clause-distinct c = rw (← c.self.view_is) (distinct c.self.inside.declared.entries c.get_index_of.ensures.unique)
