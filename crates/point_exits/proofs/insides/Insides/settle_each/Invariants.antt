use Rattle.std.proofs.Common.{◌≡◌, List, length}
use Rattle.std.specs.Prelude.{◌==◌}
use Rattle.numbered_sets.specs.Pools.{Values, values_at}
use Rattle.point_exits.specs.Levels.{AreInside}
use Rattle.point_exits.proofs.SettlingSteps.{AreEndsUpTo}
use Rattle.point_exits.proofs.insides.Insides.settle_each.Given as goal

abbrev pub invariant-loop-place : goal.invariant-loop-place
invariant-loop-place l = record {
  size : length l.ends ≡ length l.initial.ends;
  done : (pool : List Values) → AreInside (values_at pool l.self.task.0) l.self → length (values_at pool l.self.task.0) ≡ length l.self.numbers → AreEndsUpTo (λ k. k == l.self.task.0) pool l.initial.ends l.place l.ends;
}
