-- tokens behind the file
use Rattle.std.proofs.Common.{[], ap, ◌∙◌}
use Rattle.oil_tree.specs.Expect.{scan}
use Rattle.oil_tree.proofs.file.whole.Goals as goal

pub returns-in-Ok : goal.returns-in-Ok
returns-in-Ok c = c.in_ok-tree.ensures.takes [] ∙ ap (scan 0 []) c.in-Ok.ensures
