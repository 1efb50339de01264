use Rattle.std.proofs.Common.{◌≡◌, ℕ, map}
use Rattle.std.specs.{Prelude.{filter}, List.{range_with_len}}
use Rattle.flow_model.specs.declared.change.Update.TheVariants as update
use Rattle.flow_model.specs.{Runners.{change}, Scheduling.{goes_inside}}
use Rattle.flow_rules.proofs.settling.settling_changes.Given as goal

abbrev pub invariant-loop-task : goal.invariant-loop-task
invariant-loop-task l = l.changes ≡ map (λ (t : ℕ). change t update.Inside) (filter (goes_inside l.app l.stay l.decision) (range_with_len 0 l.task))
