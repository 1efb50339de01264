use Rattle.std.proofs.Common.{◌∙◌, ap, unwrap_or, length}
use Rattle.trace_text.specs.EventWords.{is_blank}
use Rattle.trace_text.proofs.Parts.{unwrap_or-position}
use Rattle.trace_text.proofs.event_words.word_end.Goals as goal

pub returns : goal.returns
returns c = let line = c.args.line.now in c.unwrap_or.ensures ∙ ap (λ o. unwrap_or o (length line)) c.first_blank.ensures ∙ unwrap_or-position is_blank line
