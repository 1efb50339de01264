use Rattle.std.proofs.Common.{ℕ, ap, ◌∙◌}
use Rattle.flow_text.specs.GeneratedLine.{analysis_counts}
use Rattle.commands.proofs.generating.analyze.Goals as goal

pub returns-clause-counts : goal.returns-clause-counts
returns-clause-counts c = record {
  table = c.in_ok-least.least.table;
  image = c.in_ok-image.image;
  least = c.in_ok-least.ensures.least;
  is = c.in_ok-image.ensures.fitted.kernel.is;
  forms = c.in_ok-image.ensures.forms;
  counted = c.analysis_counts-counts.ensures ∙ ap (λ (n : ℕ). analysis_counts c.in_ok-image.image n) c.values-values.ensures;
}
