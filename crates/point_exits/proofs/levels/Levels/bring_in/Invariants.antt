use Rattle.std.proofs.Common.{◌≡◌, ℕ, ◌<◌, length, get_or}
use Rattle.numbered_sets.specs.Pools.{values_at, IsLonger}
use Rattle.point_exits.specs.{declared.insides.Insides.{Insides}, Levels.{AreInsides}}
use Rattle.point_exits.proofs.levels.Levels.bring_in.Given as goal

abbrev pub invariant-loop-place : goal.invariant-loop-place
invariant-loop-place l = record {
  longer : IsLonger l.initial.pool l.pool;
  same : l.self.tasks ≡ l.initial.self.tasks;
  kept : l.self.arrivals ≡ l.initial.self.arrivals;
  size : length l.self.insides ≡ length l.initial.self.insides;
  insides : AreInsides l.app l.pool l.self.insides;
  all : (k : ℕ) (d : Insides) → k < l.place → length (get_or l.self.insides k d).numbers ≡ length (values_at l.pool (get_or l.self.insides k d).task.0);
}
