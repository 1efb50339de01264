-- The application of a linkable system and its code without a fault is valid.
use Rattle.std.proofs.Common.{arith, ◌≡◌, ◌<◌, ◌≤◌}
use Rattle.std.specs.Prelude.{slice_index_or}
use Rattle.osek_values.specs.declared.limits.TheConstants.{MAX_ACTIVATIONS}
use Rattle.oil_system.specs.{Objects.{greatest_interrupt_ceiling}, declared.system.System.{System}}
use Rattle.osek_standard.specs.Validity.{IsValid, no_counter, IsInternal}
use Rattle.osek_standard.specs.declared.objects.{Task.{Task}, Isr.{Isr}}
use Rattle.oil_model.specs.Linkable.{IsLinkable}
use Rattle.task_code.specs.{declared.tree.Code.{Code}, Fit.{AreFit}}
use Rattle.block_graph.specs.{Apps.{tables_over}, Blocks.{app_blocks, source_size}, Faults.{HasNoFault}}
use Rattle.block_graph.proofs.{ExtentsApart.{apart as owners_apart}, ExtentsOwned.{owned as each_owned}, OwnersCalls.{task_count}}
use Rattle.block_graph.proofs.ExtentsPlaces as places
use Rattle.block_graph.proofs.ExtentsTables as tables

pub valid : (s : System) (code : Code) → IsLinkable s → AreFit code → HasNoFault s code
    → IsValid (tables_over s code.bodies (app_blocks s code.bodies))
valid s code linkable fit clean =
    let bodies = code.bodies in
    record {
      known_hooks = linkable.known_hooks;
      few_tasks = omega (arith, linkable.few_tasks, task_count s bodies);
      few_isrs = omega (arith, linkable.few_isrs, tables.isr_count s bodies);
      few_counters = omega (arith, linkable.few_counters, tables.counter_count s s.counters 0 (source_size bodies));
      few_alarms = linkable.few_alarms;
      few_resources = linkable.few_resources;
      few_modes = linkable.few_modes;
      some_mode = linkable.some_mode;
      few_blocks = tables.few_blocks s code linkable clean;
      task_names = tables.task_names s bodies linkable;
      isr_names = tables.isr_names s bodies linkable;
      counter_names = tables.counter_names s bodies linkable;
      alarm_names = linkable.alarm_names;
      resource_names = linkable.resource_names;
      mode_names = linkable.mode_names;
      each_task = places.each_task s code linkable fit clean;
      task_code = places.task_code s code linkable fit clean;
      task_starts = tables.task_starts s bodies linkable;
      activations = tables.each_task_keeps s bodies linkable (λ (x : Task). (1 ≤ x.activation) × (x.activation ≤ MAX_ACTIVATIONS)) linkable.activations;
      extended_once = tables.each_task_keeps s bodies linkable (λ (x : Task). 0 < x.own.0 → x.activation ≡ 1) linkable.extended_once;
      internals = tables.each_task_keeps s bodies linkable (λ (x : Task). IsInternal (tables_over s bodies (app_blocks s bodies)) x.internal) (λ k d lt. tables.internal_kept s bodies (app_blocks s bodies) (slice_index_or s.tasks k d).internal (linkable.internals k d lt));
      each_isr = places.each_isr s code linkable fit clean;
      isr_code = places.isr_code s code linkable fit clean;
      isr_priorities = tables.each_isr_keeps s bodies linkable (λ (x : Isr). x.priority < greatest_interrupt_ceiling) linkable.isr_priorities;
      each_counter = λ k d lt. (tables.some_maximum s bodies linkable k d lt, places.counter_is_owner s bodies k d lt);
      min_cycles = tables.min_cycles s bodies linkable;
      tick_code = λ c lt. places.tick_code s bodies c no_counter lt;
      each_alarm = tables.each_alarm s bodies linkable (app_blocks s bodies);
      alarm_starts = linkable.alarm_starts;
      no_starts = linkable.no_starts;
      ceilings = linkable.ceilings;
      interrupt_ceilings = linkable.interrupt_ceilings;
      apart = owners_apart s code linkable clean;
      owned = each_owned s code clean;
    }
