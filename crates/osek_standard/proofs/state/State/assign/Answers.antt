-- each part is the other's
use Rattle.std.proofs.Common.{◌≡◌, refl}
use Rattle.osek_standard.specs.declared.state.State.{State}
use Rattle.osek_standard.proofs.state.State.assign.Goals as goal

same_parts : (s t : State) → s.mode ≡ t.mode → s.processor ≡ t.processor → s.tasks ≡ t.tasks → s.counters ≡ t.counters → s.alarms ≡ t.alarms → s.sources ≡ t.sources
    → s.latched ≡ t.latched → s.line ≡ t.line → s ≡ t
same_parts s t mode processor tasks counters alarms sources latched line =
    λ i. record { mode = mode i; processor = processor i; tasks = tasks i; counters = counters i; alarms = alarms i; sources = sources i; latched = latched i; line = line i }

pub returns : goal.returns
returns c = same_parts _ _ refl refl c.copy_tasks.ensures c.copy_from.ensures c.copy_from-2.ensures c.copy_sources.ensures c.copy_from-3.ensures c.copy_from-4.ensures
