use Rattle.std.proofs.Common.{◌∙◌, sym, ap}
use Rattle.numbered_sets.specs.Numbers.{Numbers}
use Rattle.point_exits.proofs.insides.Insides.settle_entry.Goals as goal

pub put-requires-clause-alike : goal.put-requires-clause-alike
put-requires-clause-alike c = sym (c.in_ok-inside.ensures.domain ∙ ap (λ (x : Numbers). x.domain) c.in_ok-numbers.ensures)
