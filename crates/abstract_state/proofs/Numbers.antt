-- Each component stands at its number.
use Rattle.std.proofs.Common.{◌≡◌, ℕ, zero, suc, ◌+◌, ◌<◌, List, ◌++◌, length, map, flat_map, length-append, refl, sym, ap, ◌∙◌, arith, add-one}
use Rattle.std.specs.{Prelude.{◌^◌, count_ones}, List.{range_with_len}}
use Rattle.std.proofs.lemmas.List.{get_or_default, length-map}
use Rattle.osek_values.specs.{Numbers.{task_no, event_no, alarm_no, source_no}, Bits.{has_bit}}
use Rattle.osek_values.proofs.BitCounts.{bits_counted}
use Rattle.osek_standard.specs.{declared.app.App.{App}, Apps.{the_task, source_count}}
use Rattle.osek_standard.proofs.Members.{Among, among_contained, among_left, among_right, among_map, among_flat_map, among_range, among_passing}
use Rattle.abstract_state.specs.declared.value.Component.{Component}
use Rattle.abstract_state.specs.declared.value.Component.TheVariants as component
use Rattle.abstract_state.specs.Components.{component_count, component_at, component_number, components, events_of, event_start, own_bits, IsComponent}
use Rattle.abstract_state.proofs.ComponentLaws.{component_numbered}

module _ (app : App) where
  abbrev of_tasks : List Component
  of_tasks = map (λ t. component.Task (task_no t)) (range_with_len 0 (length app.tasks))

  abbrev of_events : List Component
  of_events = flat_map (events_of app) (range_with_len 0 (length app.tasks))

  abbrev of_alarms : List Component
  of_alarms = map (λ a. component.Alarm (alarm_no a)) (range_with_len 0 (length app.alarms))

  abbrev of_sources : List Component
  of_sources = map (λ k. component.Source (source_no k)) (range_with_len 0 (source_count app))

  listed : (k : Component) → IsComponent app k → Among k (components app)
  listed (component.Task t) h =
      among_left (component.Task t) ((of_tasks ++ of_events) ++ of_alarms) of_sources
      (among_left (component.Task t) (of_tasks ++ of_events) of_alarms
      (among_left (component.Task t) of_tasks of_events
      (among_map (λ u. component.Task (task_no u)) t.0 (range_with_len 0 (length app.tasks)) (among_range 0 (length app.tasks) t.0 (omega arith) (omega (arith, h))))))
  listed (component.Event t j) h =
      among_left (component.Event t j) ((of_tasks ++ of_events) ++ of_alarms) of_sources
      (among_left (component.Event t j) (of_tasks ++ of_events) of_alarms
      (among_right (component.Event t j) of_tasks of_events
      (among_flat_map (events_of app) t.0 (component.Event t j) (range_with_len 0 (length app.tasks)) (among_range 0 (length app.tasks) t.0 (omega arith) (omega (arith, h.0)))
      (among_map (λ k. component.Event (task_no t.0) (event_no k)) j.0 (own_bits app t.0) (among_passing (has_bit (the_task app t.0).own.0) 64 j.0 h.1 h.2)))))
  listed (component.Alarm a) h =
      among_left (component.Alarm a) ((of_tasks ++ of_events) ++ of_alarms) of_sources
      (among_right (component.Alarm a) (of_tasks ++ of_events) of_alarms
      (among_map (λ u. component.Alarm (alarm_no u)) a.0 (range_with_len 0 (length app.alarms)) (among_range 0 (length app.alarms) a.0 (omega arith) (omega (arith, h)))))
  listed (component.Source k) h =
      among_right (component.Source k) ((of_tasks ++ of_events) ++ of_alarms) of_sources
      (among_map (λ u. component.Source (source_no u)) k.0 (range_with_len 0 (source_count app)) (among_range 0 (source_count app) k.0 (omega arith) (omega (arith, h))))

  record StandsAt (k : Component) : Type 0 where
    place : ℕ
    known : place < component_count app
    is : component_at app place ≡ k

  stands : (k : Component) → IsComponent app k → StandsAt k
  stands k h =
      let m = among_contained (components app) k (listed k h) in
      record { place = m.0; known = m.1; is = get_or_default (components app) m.0 (component.Alarm (alarm_no 0)) k m.1 ∙ m.2 }

  number_is : (k : Component) → (x : StandsAt k) → component_number app k ≡ x.place
  number_is k x = ap (component_number app) (sym x.is) ∙ component_numbered app x.place x.known

  pub component_here : (k : Component) → IsComponent app k → component_at app (component_number app k) ≡ k
  component_here k h = let x = stands k h in ap (component_at app) (number_is k x) ∙ x.is

  pub number_known : (k : Component) → IsComponent app k → component_number app k < component_count app
  number_known k h = let x = stands k h in let same = number_is k x in let known = x.known in omega (arith, known, same)

  -- as many components before a task's events as the tasks below it have events
  flat_length : (a n : ℕ) → length (flat_map (events_of app) (range_with_len a n)) + event_start app a ≡ event_start app (a + n)
  flat_length a zero = let e : a ≡ a + 0 = omega arith in let place : event_start app a ≡ event_start app (a + 0) = ap (event_start app) e in omega (arith, place)
  flat_length a (suc n) =
      let first : event_start app (a + 1) ≡ event_start app a + length (events_of app a) = rw add-one refl in
      let rest = flat_length (a + 1) n in
      let both = length-append (events_of app a) (flat_map (events_of app) (range_with_len (a + 1) n)) in
      let e : a + 1 + n ≡ a + suc n = omega arith in
      let place : event_start app (a + 1 + n) ≡ event_start app (a + suc n) = ap (event_start app) e in
      omega (arith, first, rest, both, place)

  pub events_counted : length (flat_map (events_of app) (range_with_len 0 (length app.tasks))) ≡ event_start app (length app.tasks)
  events_counted =
      let whole = flat_length 0 (length app.tasks) in
      let e : 0 + length app.tasks ≡ length app.tasks = omega arith in
      let place : event_start app (0 + length app.tasks) ≡ event_start app (length app.tasks) = ap (event_start app) e in
      omega (arith, whole, place)

  pub start_after : (t : ℕ) → (the_task app t).own.0 < 2 ^ 64 → event_start app (t + 1) ≡ event_start app t + count_ones (the_task app t).own.0
  start_after t lt =
      let first : event_start app (t + 1) ≡ event_start app t + length (events_of app t) = rw add-one refl in
      let mapped : length (events_of app t) ≡ length (own_bits app t) = length-map (own_bits app t) (λ (k : ℕ). component.Event (task_no t) (event_no k)) in
      let counted = bits_counted (has_bit (the_task app t).own.0) 64 0 (the_task app t).own.0 lt (λ k less. let e : 0 + k ≡ k = omega arith in ap (has_bit (the_task app t).own.0) e) in
      omega (arith, first, mapped, counted)
