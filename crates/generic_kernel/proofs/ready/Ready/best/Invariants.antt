-- the highest of the tasks so far, after one scan fewer than there were Live tasks
use Rattle.std.proofs.Common.{◌≡◌, ◌+◌, ◌<◌, take, Some, None, IfSome, slice_index_or}
use Rattle.std.specs.List.{count_by}
use Rattle.osek_standard.specs.{declared.app.App.{App}, TaskStates.{is_live}}
use Rattle.generic_kernel.specs.{declared.ready.Highest.{Highest}, BestBelow.{IsHighestBelow, some_of}, Levels.{IsReady}}
use Rattle.generic_kernel.proofs.ready.Ready.best.Given as goal

abbrev pub invariant-loop-task : goal.invariant-loop-task
invariant-loop-task g l = record {
  below : IfSome l.found (λ (h : Highest). h.task.0 < l.task);
  has : IfSome l.found (λ (h : Highest). slice_index_or l.self h.task.0 None ≡ Some h.priority);
  highest : (app : App) → IsReady app l.state l.self → IsHighestBelow app l.state l.task l.found;
  scans : (app : App) → IsReady app l.state l.self → l.scans + some_of l.found ≡ l.fn.scans + count_by is_live (take l.task l.state.tasks);
}
