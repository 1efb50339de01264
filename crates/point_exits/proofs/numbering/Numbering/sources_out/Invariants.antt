-- the sources so far
use Rattle.std.proofs.Common.{◌≡◌, length}
use Rattle.flow_effects.specs.Outs.{AreOutIn}
use Rattle.numbered_sets.specs.Views.{plain_entry}
use Rattle.point_exits.proofs.numbering.Numbering.sources_out.Given as goal

abbrev pub invariant-loop-source : goal.invariant-loop-source
invariant-loop-source l = record {
  size : length l.outs ≡ l.source;
  out : AreOutIn l.self.app.now l.outs (plain_entry l.self.pool l.before);
}
