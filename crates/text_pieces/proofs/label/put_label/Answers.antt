-- a label is a prefix of each copy
use Rattle.std.proofs.{Common.{ℕ, List, ◌++◌, take, ap, ◌∙◌}, lemmas.List.{take-take}}
use Rattle.text_pieces.proofs.label.put_label.Goals as goal

pub returns-then-size-le-SHORT-clause-text : goal.returns-then-size-le-SHORT-clause-text
returns-then-size-le-SHORT-clause-text c =
    c.put_prefix.ensures.text ∙ ap (λ (l : List ℕ). take c.args.at c.args.buf.now ++ l) (take-take c.label.inside.size 16 c.label.inside.bytes c.if-size-le-SHORT.true ∙ c.label.view_is)

pub returns-then-size-le-MIDDLE-clause-text : goal.returns-then-size-le-MIDDLE-clause-text
returns-then-size-le-MIDDLE-clause-text c =
    c.put_prefix-then-size-le-MIDDLE.ensures.text ∙ ap (λ (l : List ℕ). take c.args.at c.args.buf.now ++ l) (take-take c.label.inside.size 32 c.label.inside.bytes c.if-size-le-MIDDLE.true ∙ c.label.view_is)
