-- the first bytes are as many as there are, at most
use Rattle.std.proofs.Common.{◌∙◌, ap, take}
use Rattle.std.specs.List.{position}
use Rattle.std.proofs.lemmas.List.{take_min}
use Rattle.trace_text.proofs.{FirstLines.{place_within}, LineLaws.{is_lf}}
use Rattle.trace_text.proofs.feed.short_line_end.Goals as goal

pub returns-clause-place : goal.returns-clause-place
returns-clause-place c = c.line_end.ensures ∙ ap (λ n. position is_lf (take n c.args.ahead.now)) c.min.ensures ∙ ap (position is_lf) (take_min 257 c.args.ahead.now)

pub returns-clause-within : goal.returns-clause-within
returns-clause-within c = place_within c.min.result c.args.ahead.now c.line_end.result c.line_end.ensures
