-- how far the read and the play of the text have come
use Rattle.std.proofs.Common.{◌≡◌, ◌+◌, ◌-◌, ◌≤◌, false, length}
use Rattle.osek_io.specs.{Counts.{Same}, Reads.{OnlyReads}, Sunk.{sunk}}
use Rattle.command_runs.specs.Playing.{given, HasNoEnd}
use Rattle.command_runs.proofs.FedPlays.{HasCome}
use Rattle.command_runs.proofs.playing.Play.play_text.Given as goal

abbrev pub invariant-pieces : goal.invariant-pieces
invariant-pieces g l = record {
  running : l.self.machine.trapped ≡ false;
  image : l.self.machine.image ≡ l.fn.self.machine.image;
  fits : l.self.place.line + length l.feed.ahead ≤ l.taken + 1;
  within : l.taken ≤ 16777216;
  not_finished : l.feed.finished ≡ false;
  waits : length l.feed.ahead ≤ 256;
  no_more : HasNoEnd l.feed.ahead;
  same : OnlyReads g.F.Shelf l.initial.shelf l.shelf;
  no_fault : Same (g.F.Shelf.read_faults l.initial.shelf) (g.F.Shelf.read_faults l.shelf);
  come : HasCome (g.F.Shelf.contents l.initial.shelf) l.run.events.now (given (sunk g.O.Sink l.initial.out) l.initial.self.buffer) (given (sunk g.O.Sink l.out) l.self.buffer) l.run.showing l.fn.self.machine.image l.fn.self.machine.state l.taken l.feed l.self.place.line l.self.place.event l.self.machine.state;
}

abbrev pub decreases-pieces : goal.decreases-pieces
decreases-pieces g l = 16777216 - l.taken
