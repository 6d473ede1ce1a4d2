use Rattle.trace_equal.proofs.Joined.{independence_in_words}
use Rattle.trace_equal.proofs.laws.exchange.Goals as goal

pub returns-clause-independence : goal.returns-clause-independence
returns-clause-independence c = independence_in_words
