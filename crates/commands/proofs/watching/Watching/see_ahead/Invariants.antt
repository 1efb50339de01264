-- how far the watch has come
use Rattle.std.proofs.Common.{◌≡◌, ◌+◌, ◌≤◌, length, None}
use Rattle.commands.proofs.FedWatches.{GoesOn}
use Rattle.commands.proofs.watching.Watching.see_ahead.Given as goal

abbrev pub invariant-lines : goal.invariant-lines
invariant-lines l = record {
  none : l.self.watch.alarm ≡ None;
  app : l.self.watch.app ≡ l.fn.self.watch.app;
  fits : l.self.line + length l.feed.ahead ≤ l.fn.self.line + length l.fn.feed.ahead;
  finished : l.feed.finished ≡ l.fn.feed.finished;
  on : GoesOn l.fn.feed l.feed l.fn.self.line l.self.line l.fn.self.watch l.self.watch;
}

abbrev pub decreases-lines : goal.decreases-lines
decreases-lines l = length l.feed.ahead
