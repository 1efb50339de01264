-- the text is a prefix of each copy
use Rattle.std.proofs.{Common.{ℕ, List, ◌++◌, take, ap, ◌∙◌}, lemmas.List.{take-take}}
use Rattle.trace_text.specs.LineParts.{LineTexts}
use Rattle.trace_text.proofs.line_parts.LineParts.put_shown.Goals as goal

pub returns-then-size-le-SHORT-clause-text : goal.returns-then-size-le-SHORT-clause-text
returns-then-size-le-SHORT-clause-text c =
    c.put_prefix.ensures.text
    ∙ ap (λ (l : List ℕ). take c.args.at c.args.buf.now ++ l) (take-take c.self.inside.size 64 c.self.inside.tasks c.if-size-le-SHORT.true ∙ ap (λ (p : LineTexts). p.tasks) c.self.view_is)

pub returns-then-size-le-MIDDLE-clause-text : goal.returns-then-size-le-MIDDLE-clause-text
returns-then-size-le-MIDDLE-clause-text c =
    c.put_prefix-then-size-le-MIDDLE.ensures.text
    ∙ ap (λ (l : List ℕ). take c.args.at c.args.buf.now ++ l) (take-take c.self.inside.size 128 c.self.inside.tasks c.if-size-le-MIDDLE.true ∙ ap (λ (p : LineTexts). p.tasks) c.self.view_is)
