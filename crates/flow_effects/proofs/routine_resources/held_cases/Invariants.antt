-- those of the holders so far
use Rattle.std.proofs.Common.{◌≡◌, map, take}
use Rattle.flow_effects.specs.RoutineResources.{is_held_by}
use Rattle.flow_effects.proofs.routine_resources.held_cases.Given as goal

abbrev pub invariant-loop-holder : goal.invariant-loop-holder
invariant-loop-holder l = l.cases ≡ map (is_held_by l.runner l.next) (take l.holder-index l.holder-items)
