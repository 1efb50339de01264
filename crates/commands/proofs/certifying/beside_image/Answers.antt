-- the image that was made, and the bytes of both
use Rattle.std.proofs.Common.{◌≤◌, ℕ, List, length, subst}
use Rattle.osek_values.specs.declared.limits.TheConstants.{MAX_TABLE}
use Rattle.commands.proofs.certifying.beside_image.Goals as goal

pub returns : goal.returns
returns c = record {
  image = c.in_ok-fitted.fitted;
  table = c.args.least.now.table;
  certified = record {
    fitted = c.in_ok-fitted.ensures.fitted;
    least = c.requires.least.least;
    forms = c.in_ok-fitted.ensures.forms;
    statuses = c.in_ok-fitted.ensures.statuses;
    within = subst (λ (b : List ℕ). length b ≤ MAX_TABLE) c.requires.spelled c.requires.within;
  };
  image_are = c.in_ok-image.ensures;
  table_are = c.requires.spelled;
}
