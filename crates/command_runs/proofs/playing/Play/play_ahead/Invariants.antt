-- how far the play has come
use Rattle.std.proofs.Common.{◌≡◌, ◌+◌, ◌≤◌, false, length}
use Rattle.osek_io.specs.Sunk.{sunk}
use Rattle.command_runs.specs.Playing.{given, PlaysOn}
use Rattle.command_runs.proofs.playing.Play.play_ahead.Given as goal

abbrev pub invariant-lines : goal.invariant-lines
invariant-lines g l = record {
  running : l.self.machine.trapped ≡ false;
  image : l.self.machine.image ≡ l.fn.self.machine.image;
  fits : l.self.place.line + length l.feed.ahead ≤ l.fn.self.place.line + length l.fn.feed.ahead;
  finished : l.feed.finished ≡ l.fn.feed.finished;
  on : PlaysOn (given (sunk g.O.Sink l.initial.out) l.initial.self.buffer) (given (sunk g.O.Sink l.out) l.self.buffer) l.showing l.fn.self.machine.image l.fn.feed l.feed l.fn.self.place.line l.fn.self.place.event l.fn.self.machine.state l.self.place.line l.self.place.event l.self.machine.state;
}

abbrev pub decreases-lines : goal.decreases-lines
decreases-lines g l = length l.feed.ahead
