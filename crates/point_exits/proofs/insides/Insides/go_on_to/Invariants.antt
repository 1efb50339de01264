use Rattle.std.proofs.Common.{◌≡◌, ◌≤◌, ℕ, List, length}
use Rattle.abstract_state.specs.declared.value.PartValue.{PartValue}
use Rattle.flow_model.specs.declared.change.Update.TheVariants as update
use Rattle.flow_model.specs.Tests.{updated}
use Rattle.numbered_sets.specs.Pools.{IsNumberOf}
use Rattle.point_exits.specs.Levels.{AreInside}
use Rattle.point_exits.proofs.insides.Insides.go_on_to.Given as goal

abbrev pub invariant-loop-number : goal.invariant-loop-number
invariant-loop-number l = record {
  count : length l.self.numbers ≡ l.number;
  few : length l.initial.self.numbers ≤ l.number;
  task : l.self.task ≡ l.initial.self.task;
  insides : (vs : List PartValue) → l.count ≡ length vs → AreInside vs l.initial.self →
      ((n : ℕ) (v : PartValue) → length l.initial.self.numbers ≤ n → IsNumberOf vs v n → updated update.Inside v ≡ v) → AreInside vs l.self;
}
