use Rattle.trace_text.proofs.FeedLaws.{line_is_first, end_is_last, end_of_last, more_is_short}
use Rattle.trace_text.proofs.laws.a_feed_gives_the_first_line.Goals as goal

pub returns-clause-line : goal.returns-clause-line
returns-clause-line c = line_is_first

pub returns-clause-end : goal.returns-clause-end
returns-clause-end c = λ s. (end_is_last s, end_of_last s)

pub returns-clause-more : goal.returns-clause-more
returns-clause-more c = more_is_short
