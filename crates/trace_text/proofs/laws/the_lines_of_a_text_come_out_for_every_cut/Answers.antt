use Rattle.trace_text.proofs.{FedLines.{one_list_of_lines}, FeedLaws.{same_lines, read_as_text}}
use Rattle.trace_text.proofs.laws.the_lines_of_a_text_come_out_for_every_cut.Goals as goal

pub returns-clause-same : goal.returns-clause-same
returns-clause-same c = one_list_of_lines

pub returns-clause-lines : goal.returns-clause-lines
returns-clause-lines c = same_lines

pub returns-clause-reading : goal.returns-clause-reading
returns-clause-reading c = read_as_text
