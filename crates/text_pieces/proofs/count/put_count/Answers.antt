-- the digits are a prefix of the copy
use Rattle.std.proofs.Common.{ℕ, List, ◌++◌, take, ap, ◌∙◌}
use Rattle.std.specs.Fmt.{decimal}
use Rattle.std.proofs.lemmas.List.{take-take}
use Rattle.text_pieces.proofs.count.put_count.Goals as goal

pub returns-clause-text : goal.returns-clause-text
returns-clause-text c =
    c.put_prefix.ensures.text
    ∙ ap (λ (l : List ℕ). take c.args.at c.args.buf.now ++ l) (take-take c.count.inside.size 20 c.count.inside.digits c.count.invariant.0 ∙ c.count.invariant.1 ∙ ap decimal c.count.view_is)
