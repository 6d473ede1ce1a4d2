use Rattle.std.proofs.Common.{◌∙◌, map}
use Rattle.clf_syntax.specs.Plain.{plain_obj}
use Rattle.clf_syntax.specs.TypeTree.{telescope_of}
use Rattle.clf_syntax.specs.PlainTypes.{plain_tele_entry}
use Rattle.clf_syntax.specs.PlainSimple.{plain_simple}
use Rattle.clf_syntax.specs.Simple.{SimplyFormedTelescope}
use Rattle.hered_subst.specs.Substitution.{single, SubstitutedTelescope}
use Rattle.hered_subst.proofs.SimpleTyping.{rank}
use Rattle.hered_put.specs.Environments.{environment_of}
use Rattle.hered_put.specs.Function.{nested, run_telescope}
use Rattle.hered_put.specs.Passes.{PassesTelescope}
use Rattle.hered_put.proofs.Answered.{Met, answers-all, answers-keep}
use Rattle.hered_put.proofs.Called.{telescope-called}
use Rattle.hered_put.proofs.Results.{function_is_sound, function_keeps_forms}
use Rattle.hered_put.proofs.put.put_entries.Goals as goal

met : (c : goal.After-put_tele_entries) → Met (λ es. telescope_of (map plain_tele_entry es)) (run_telescope (nested (rank (plain_simple c.args.simple.now))) (single (plain_obj c.args.obj.now) c.args.var) (telescope_of (map plain_tele_entry c.args.entries.now))) c.put_tele_entries.result (SubstitutedTelescope (single (plain_obj c.args.obj.now) c.args.var) (telescope_of (map plain_tele_entry c.args.entries.now))) (PassesTelescope (single (plain_obj c.args.obj.now) c.args.var) (telescope_of (map plain_tele_entry c.args.entries.now)))
met c =
    let k = rank (plain_simple c.args.simple.now) in
    let s = single (plain_obj c.args.obj.now) c.args.var in
    let into = telescope_of (map plain_tele_entry c.args.entries.now) in
    answers-all (λ es. telescope_of (map plain_tele_entry es)) (run_telescope (nested k) s into) c.put_tele_entries.result (SubstitutedTelescope s into) (PassesTelescope s into)
    (telescope-called c.of_rank-bound.result.rank k (environment_of c.object.result) s c.put_tele_entries.result (c.of_rank-bound.ensures ∙ c.in_ok-type_rank.ensures) c.object.ensures (λ es. telescope_of (map plain_tele_entry es)) into c.put_tele_entries.ensures)
    ((function_is_sound k s).4 into)

pub returns-clause-function : goal.returns-clause-function
returns-clause-function c = (met c).0

pub returns-clause-substituted : goal.returns-clause-substituted
returns-clause-substituted c = (met c).1

pub returns-clause-passes : goal.returns-clause-passes
returns-clause-passes c = (met c).2

pub returns-clause-formed : goal.returns-clause-formed
returns-clause-formed c = λ a z p q. answers-keep (λ es. telescope_of (map plain_tele_entry es)) (run_telescope (nested (rank (plain_simple c.args.simple.now))) (single (plain_obj c.args.obj.now) c.args.var) (telescope_of (map plain_tele_entry c.args.entries.now))) c.put_tele_entries.result (λ x. SimplyFormedTelescope a z x) (met c).0 ((function_keeps_forms a z c.args.var (plain_obj c.args.obj.now) (plain_simple c.args.simple.now) p).1 (telescope_of (map plain_tele_entry c.args.entries.now)) q)
