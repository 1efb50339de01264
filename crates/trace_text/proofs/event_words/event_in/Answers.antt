-- what the words of a line say
use Rattle.std.proofs.Common.{rules, refl, sym}
use Rattle.trace_text.proofs.event_words.event_in.Goals as goal

pub returns-in-None : goal.returns-in-None
returns-in-None c = search rules

pub returns-in_default-next_word : goal.returns-in_default-next_word
returns-in_default-next_word c = rw (c.in-Some.ensures, c.in_default-next_word.ensures, sym c.if-is_comment.ensures) refl

pub returns-in-Some-next_word-2 : goal.returns-in-Some-next_word-2
returns-in-Some-next_word-2 c = rw (c.in-Some.ensures, c.in-Some-next_word.ensures, c.in-Some-next_word-2.ensures, sym c.if-is_comment.ensures) refl
