use Rattle.trace_text.proofs.GrammarLaws.{words_hold, no_other_words}
use Rattle.trace_text.proofs.laws.a_line_has_one_list_of_words.Goals as goal

pub returns-clause-these : goal.returns-clause-these
returns-clause-these c = words_hold

pub returns-clause-no_others : goal.returns-clause-no_others
returns-clause-no_others c = no_other_words
