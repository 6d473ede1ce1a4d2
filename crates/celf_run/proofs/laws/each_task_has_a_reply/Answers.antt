use Rattle.celf_run.proofs.EachReply.{each_task_has_reply}
use Rattle.celf_run.proofs.laws.each_task_has_a_reply.Goals as goal

pub returns : goal.returns
returns c = each_task_has_reply
