use Rattle.celf_run.proofs.OneReply.{reply_is_one}
use Rattle.celf_run.proofs.OneTask.{next_is_one, nothing_is_next}
use Rattle.celf_run.proofs.OneTranscript.{transcript_is_one}
use Rattle.celf_run.proofs.laws.one_transcript.Goals as goal

pub returns : goal.returns
returns c = record { reply = reply_is_one; next = next_is_one; over = nothing_is_next; transcript = transcript_is_one }
