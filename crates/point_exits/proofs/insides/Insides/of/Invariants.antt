use Rattle.std.proofs.Common.{◌≡◌, ◌-◌, ◌≤◌, ◌<◌, List, length, IsTrue}
use Rattle.abstract_state.specs.declared.value.PartValue.{PartValue}
use Rattle.flow_model.specs.declared.change.Update.TheVariants as update
use Rattle.flow_model.specs.Tests.{updated}
use Rattle.numbered_sets.specs.{Numbers.{has_number}, Made.{AreMade}}
use Rattle.point_exits.specs.Levels.{AreInside}
use Rattle.point_exits.proofs.insides.Insides.of.Given as goal

abbrev pub decreases-loop-number : goal.decreases-loop-number
decreases-loop-number l = l.count - l.number

abbrev pub invariant-loop-number : goal.invariant-loop-number
invariant-loop-number l = record {
  domain : l.made.domain ≡ l.numbers.domain;
  few : l.number ≤ l.count;
  has : l.number < l.count → IsTrue (has_number l.numbers l.number);
  made : (vs : List PartValue) → AreInside vs l.self → length vs ≡ length l.self.numbers → AreMade (updated update.Inside) vs l.numbers l.number l.made;
}
