use Rattle.std.proofs.Common.{◌≡◌, ℕ, ◌<◌, [], length, get_or}
use Rattle.point_exits.specs.{declared.insides.Insides.{Insides}, Levels.{AreNaming, inside_tasks}}
use Rattle.point_exits.proofs.levels.no_insides.Given as goal

abbrev pub invariant-loop-task : goal.invariant-loop-task
invariant-loop-task l = record {
  tasks : AreNaming l.app l.task (inside_tasks l.insides);
  none : (i : ℕ) (d : Insides) → i < length l.insides → (get_or l.insides i d).numbers ≡ [];
}
