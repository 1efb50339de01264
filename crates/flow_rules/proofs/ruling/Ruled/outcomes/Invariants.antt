use Rattle.std.proofs.Common.{◌≡◌, take, flat_map}
use Rattle.flow_rules.specs.Ruling.{outcomes_by}
use Rattle.flow_rules.proofs.ruling.Ruled.outcomes.Given as goal

abbrev pub invariant-loop-exit : goal.invariant-loop-exit
invariant-loop-exit l = l.cases ≡ flat_map (outcomes_by l.self.app.now l.changes l.self.from.now) (take l.exit-index l.exits)
