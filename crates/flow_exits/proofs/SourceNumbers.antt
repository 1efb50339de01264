-- The sources' components stand in a row, and have numbers of 16 bits.
use Rattle.std.proofs.Common.{◌≡◌, ℕ, zero, suc, ◌+◌, ◌*◌, ◌^◌, ◌<◌, ◌≤◌, not, length, refl, arith}
use Rattle.std.specs.List.{range_with_len}
use Rattle.std.proofs.lemmas.List.{length-map, Filters.{length-filter_both}, FromFn.{length-range_with_len}}
use Rattle.osek_values.specs.{Bits.{has_bit}, Numbers.{event_no, source_no, task_no}}
use Rattle.osek_standard.specs.{declared.app.App.{App}, Apps.{source_count, the_task}}
use Rattle.abstract_state.specs.declared.value.Component.TheVariants as component
use Rattle.abstract_state.specs.Components.{component_number, event_start, events_of, own_bits}
use Rattle.abstract_state.proofs.Numbers.{events_counted}

module _ (app : App) where
  own_few : (t : ℕ) → length (events_of app t) ≤ 64
  own_few t =
      let halves = length-filter_both (has_bit (the_task app t).own.0) (λ k. not (has_bit (the_task app t).own.0 k)) (λ k. refl) (range_with_len 0 64) in
      let wide = length-range_with_len 0 64 in
      omega (arith, halves, wide, length-map (own_bits app t) (λ k. component.Event (task_no t) (event_no k)))

  events_few : (t : ℕ) → event_start app t ≤ 64 * t
  events_few zero = omega arith
  events_few (suc t) = (let before = events_few t in let own = own_few t in omega (arith, before, own))

  pub number_few : (k : ℕ) → k < source_count app → component_number app (component.Source (source_no k)) < 2 ^ 16
  number_few k lt =
      let events = events_counted app in
      let few = events_few (length app.tasks) in
      omega (arith, events, few, lt, app.valid.few_tasks, app.valid.few_alarms, app.valid.few_counters, app.valid.few_isrs)

  pub number_behind : (k : ℕ) → component_number app (component.Source (source_no 0)) + k ≡ component_number app (component.Source (source_no k))
  number_behind k = omega arith
