-- how far the read and the watch of the record have come
use Rattle.std.proofs.Common.{◌≡◌, ◌+◌, ◌-◌, ◌≤◌, false, length, None}
use Rattle.osek_io.specs.{Counts.{Same}, Reads.{OnlyReads}}
use Rattle.commands.proofs.FedWatches.{HasSeen}
use Rattle.commands.proofs.watching.Watching.see_record.Given as goal

abbrev pub invariant-pieces : goal.invariant-pieces
invariant-pieces g l = record {
  none : l.self.watch.alarm ≡ None;
  app : l.self.watch.app ≡ l.fn.self.watch.app;
  fits : l.self.line + length l.feed.ahead ≤ l.taken + 1;
  within : l.taken ≤ 16777216;
  not_finished : l.feed.finished ≡ false;
  waits : length l.feed.ahead ≤ 256;
  same : OnlyReads g.F.Shelf l.initial.shelf l.shelf;
  no_fault : Same (g.F.Shelf.read_faults l.initial.shelf) (g.F.Shelf.read_faults l.shelf);
  seen : HasSeen (g.F.Shelf.contents l.initial.shelf) l.points l.fn.self.watch l.taken l.feed l.self.line l.self.watch;
}

abbrev pub decreases-pieces : goal.decreases-pieces
decreases-pieces g l = 16777216 - l.taken
