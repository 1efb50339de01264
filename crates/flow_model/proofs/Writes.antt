-- What a write to a state does to the components.
use Rattle.std.proofs.Common.{◌≡◌, ◌≢◌, ℕ, ◌<◌, Bool, true, false, List, [], ◌∷◌, length, refl, sym, ap, subst, ◌∙◌, inl, inr, get_or-set_same, get_or-set_other}
use Rattle.std.specs.Prelude.{if◌then◌else◌}
use Rattle.std.proofs.lemmas.Bool.{cases_Bool, cases_eq}
use Rattle.osek_values.specs.{Numbers.{task_no, event_no, alarm_no}, Bits.{has_bit, bits_of}}
use Rattle.osek_standard.specs.declared.{app.App.{App}, state.{State.{State}, AlarmState.{AlarmState}}}
use Rattle.osek_standard.specs.declared.state.AlarmState.TheVariants as alarm
use Rattle.osek_standard.specs.{declared.task_state.TaskState.{TaskState}, Apps.{the_task}, TaskStates.{suspended}, States.{task_state, with_task, alarm_state, with_alarm}}
use Rattle.osek_standard.proofs.Members.{among_map, map_among}
use Rattle.abstract_state.specs.declared.value.{Component.{Component}, PartValue.{PartValue, TheVariants.{OfTask, OfEvent, OfAlarm}}}
use Rattle.abstract_state.specs.declared.value.Component.TheVariants as component
use Rattle.abstract_state.specs.Components.{component_count, component_at, component_number, part_of, abstract_of, value_in, is_armed, IsComponent}
use Rattle.abstract_state.proofs.{ComponentLaws.{component_numbered, component_known, task_at_its_number}, Numbers.{component_here}}
use Rattle.flow_model.specs.{declared.change.{Change.{Change}, Update.{Update}}, Tests.{updated, value_after}, Runners.{change}, Changes.{task_change, alarm_change, event_change, event_changes}}
use Rattle.flow_model.proofs.{ChangeLaws.{change_here, change_there, elsewhere, made}, BitsOf.{bits_among, among_bits}}

-- the task of an event
abbrev event_task : Component → ℕ
event_task (component.Task t) = 0
event_task (component.Event t k) = t.0
event_task (component.Alarm a) = 0
event_task (component.Source k) = 0

abbrev event_bit : Component → ℕ
event_bit (component.Task t) = 0
event_bit (component.Event t k) = k.0
event_bit (component.Alarm a) = 0
event_bit (component.Source k) = 0

module _ (app : App) where
  module _ (t bits : ℕ) (flag : Bool) (known : t < length app.tasks) (within : (k : ℕ) → has_bit bits k ≡ true → has_bit (the_task app t).own.0 k ≡ true) where
    -- what is no event of these bits stays
    pub other_events : (c : ℕ) (v : PartValue) → ((k : ℕ) → component_at app c ≡ component.Event (task_no t) (event_no k) → has_bit bits k ≡ true → ⊥) → value_after (event_changes app t bits flag) c v ≡ v
    other_events c v none = elsewhere (event_changes app t bits flag) c v (λ x m e.
        let h = map_among (event_change app t flag) x (bits_of bits) m in
        let set = among_bits bits h.0 h.1 in
        let number : component_number app (component.Event (task_no t) (event_no h.0)) ≡ c = ap (λ (y : Change). y.component.0) (sym h.2) ∙ e in
        none h.0 (ap (component_at app) (sym number) ∙ component_here app (component.Event (task_no t) (event_no h.0)) (known, set.1, within h.0 set.0)) set.0)

    -- an event of these bits is as they say
    pub these_events : (c : ℕ) (v : PartValue) (k : ℕ) → c < component_count app → component_at app c ≡ component.Event (task_no t) (event_no k) → k < 64 → has_bit bits k ≡ true → value_after (event_changes app t bits flag) c v ≡ OfEvent flag
    these_events c v k lt at below set = made (event_changes app t bits flag) c v (OfEvent flag) (event_change app t flag k)
        (among_map (event_change app t flag) k (bits_of bits) (bits_among bits k below set))
        (ap (component_number app) (sym at) ∙ component_numbered app c lt)
        (λ y m same w. let h = map_among (event_change app t flag) y (bits_of bits) m in ap (λ (z : Change). updated z.update w) h.2)

    module _ (s : State) (x : TaskState) (here : t < length s.tasks)
        (events : (k : ℕ) → k < 64 → has_bit (the_task app t).own.0 k ≡ true → has_bit x.events.0 k ≡ (if has_bit bits k then flag else has_bit (task_state s t).events.0 k)) where
      abbrev changes : List Change
      changes = task_change t (value_in x.activity) ∷ event_changes app t bits flag

      module _ (c : ℕ) (lt : c < component_count app) where
        not_the_task : (k : Component) → component_at app c ≡ k → k ≢ component.Task (task_no t) → t ≢ c
        not_the_task k at other same = other (sym at ∙ ap (component_at app) (sym same) ∙ task_at_its_number app t known)

        part_after : (k : Component) → component_at app c ≡ k → IsComponent app k → part_of (with_task s t x) k ≡ value_after changes c (part_of s k)
        part_after (component.Task u) at is =
            let number : u.0 ≡ c = ap (component_number app) (sym at) ∙ component_numbered app c lt in
            elim (cases_eq u.0 t) [
              | inl same ↦
                  (ap (λ (n : ℕ). OfTask (value_in (task_state (with_task s t x) n).activity)) same
                  ∙ ap (λ (y : TaskState). OfTask (value_in y.activity)) (get_or-set_same s.tasks t x suspended here)
                  ∙ sym (other_events c (OfTask (value_in x.activity)) (λ k e set. absurd (cc)))
                  ∙ sym (change_here (task_change t (value_in x.activity)) (event_changes app t bits flag) c (part_of s (component.Task u)) (sym same ∙ number)))
              | inr other ↦
                  (ap (λ (y : TaskState). OfTask (value_in y.activity)) (get_or-set_other s.tasks t u.0 x suspended other)
                  ∙ sym (other_events c (part_of s (component.Task u)) (λ k e set. absurd (cc)))
                  ∙ sym (change_there (task_change t (value_in x.activity)) (event_changes app t bits flag) c (part_of s (component.Task u)) (λ same. other (number ∙ sym same))))
            ]
        part_after (component.Event u j) at is =
            let apart : t ≢ c = not_the_task (component.Event u j) at (λ e. absurd (cc)) in
            let front = change_there (task_change t (value_in x.activity)) (event_changes app t bits flag) c (part_of s (component.Event u j)) apart in
            elim (cases_eq u.0 t) [
              | inl same ↦ elim (cases_Bool (has_bit bits j.0)) [
                | inl set ↦
                    (ap (λ (n : ℕ). OfEvent (has_bit (task_state (with_task s t x) n).events.0 j.0)) same
                    ∙ ap (λ (y : TaskState). OfEvent (has_bit y.events.0 j.0)) (get_or-set_same s.tasks t x suspended here)
                    ∙ ap OfEvent (events j.0 is.1 (within j.0 set) ∙ ap (λ (b : Bool). if b then flag else has_bit (task_state s t).events.0 j.0) set)
                    ∙ sym (these_events c (part_of s (component.Event u j)) j.0 lt (at ∙ ap (λ (n : ℕ). component.Event (task_no n) j) same) is.1 set)
                    ∙ sym front)
                | inr unset ↦
                    (let own : has_bit (the_task app t).own.0 j.0 ≡ true = subst (λ (n : ℕ). has_bit (the_task app n).own.0 j.0 ≡ true) same is.2 in
                    ap (λ (n : ℕ). OfEvent (has_bit (task_state (with_task s t x) n).events.0 j.0)) same
                    ∙ ap (λ (y : TaskState). OfEvent (has_bit y.events.0 j.0)) (get_or-set_same s.tasks t x suspended here)
                    ∙ ap OfEvent (events j.0 is.1 own ∙ ap (λ (b : Bool). if b then flag else has_bit (task_state s t).events.0 j.0) unset)
                    ∙ ap (λ (n : ℕ). OfEvent (has_bit (task_state s n).events.0 j.0)) (sym same)
                    ∙ sym (other_events c (part_of s (component.Event u j)) (λ k e set.
                    let one : j.0 ≡ k = ap event_bit (sym at ∙ e) in
                    absurd (let no : has_bit bits k ≡ false = ap (has_bit bits) (sym one) ∙ unset in cc)))
                    ∙ sym front)
              ]
              | inr other ↦
                  (ap (λ (y : TaskState). OfEvent (has_bit y.events.0 j.0)) (get_or-set_other s.tasks t u.0 x suspended other)
                  ∙ sym (other_events c (part_of s (component.Event u j)) (λ k e set. other (ap event_task (sym at ∙ e))))
                  ∙ sym front)
            ]
        part_after (component.Alarm a) at is =
            sym (other_events c (part_of s (component.Alarm a)) (λ k e set. absurd (cc)))
            ∙ sym (change_there (task_change t (value_in x.activity)) (event_changes app t bits flag) c (part_of s (component.Alarm a)) (not_the_task (component.Alarm a) at (λ e. absurd (cc))))
        part_after (component.Source k) at is =
            sym (other_events c (part_of s (component.Source k)) (λ j e set. absurd (cc)))
            ∙ sym (change_there (task_change t (value_in x.activity)) (event_changes app t bits flag) c (part_of s (component.Source k)) (not_the_task (component.Source k) at (λ e. absurd (cc))))

        -- the task becomes what its activity says, and of its events those of these bits change
        pub task_written : abstract_of app (with_task s t x) c ≡ value_after (task_change t (value_in x.activity) ∷ event_changes app t bits flag) c (abstract_of app s c)
        task_written = part_after (component_at app c) refl (component_known app c lt)

        -- where the task stays what it was
        pub events_written : value_in x.activity ≡ value_in (task_state s t).activity → abstract_of app (with_task s t x) c ≡ value_after (event_changes app t bits flag) c (abstract_of app s c)
        events_written kept = task_written ∙ elim (cases_eq t c) [
          | inl same ↦
              (let at : component_at app c ≡ component.Task (task_no t) = ap (component_at app) (sym same) ∙ task_at_its_number app t known in
              change_here (task_change t (value_in x.activity)) (event_changes app t bits flag) c (abstract_of app s c) same
              ∙ ap (value_after (event_changes app t bits flag) c) (ap OfTask kept ∙ sym (ap (part_of s) at)))
          | inr other ↦ change_there (task_change t (value_in x.activity)) (event_changes app t bits flag) c (abstract_of app s c) other
        ]

        -- where an update makes that of the task
        pub update_written : (u : Update) → updated u (OfTask (value_in (task_state s t).activity)) ≡ OfTask (value_in x.activity) → abstract_of app (with_task s t x) c ≡ value_after (change t u ∷ event_changes app t bits flag) c (abstract_of app s c)
        update_written u becomes = task_written ∙ elim (cases_eq t c) [
          | inl same ↦
              (let at : component_at app c ≡ component.Task (task_no t) = ap (component_at app) (sym same) ∙ task_at_its_number app t known in
              change_here (task_change t (value_in x.activity)) (event_changes app t bits flag) c (abstract_of app s c) same
              ∙ ap (value_after (event_changes app t bits flag) c) (sym becomes ∙ ap (updated u) (sym (ap (part_of s) at)))
              ∙ sym (change_here (change t u) (event_changes app t bits flag) c (abstract_of app s c) same))
          | inr other ↦
              (change_there (task_change t (value_in x.activity)) (event_changes app t bits flag) c (abstract_of app s c) other
              ∙ sym (change_there (change t u) (event_changes app t bits flag) c (abstract_of app s c) other))
        ]

  module _ (s : State) (a : ℕ) (x : AlarmState) (here : a < length s.alarms) (known : a < length app.alarms) (c : ℕ) (lt : c < component_count app) where
    abbrev one : Change
    one = alarm_change app a (is_armed x)

    elsewhere_of : (k : Component) → component_at app c ≡ k → k ≢ component.Alarm (alarm_no a) → one.component.0 ≢ c
    elsewhere_of k at other same = other (sym at ∙ ap (component_at app) (sym same) ∙ component_here app (component.Alarm (alarm_no a)) known)

    part_with : (k : Component) → component_at app c ≡ k → IsComponent app k → part_of (with_alarm s a x) k ≡ value_after (one ∷ []) c (part_of s k)
    part_with (component.Task u) at is = sym (change_there one [] c (part_of s (component.Task u)) (elsewhere_of (component.Task u) at (λ e. absurd (cc))))
    part_with (component.Event u j) at is = sym (change_there one [] c (part_of s (component.Event u j)) (elsewhere_of (component.Event u j) at (λ e. absurd (cc))))
    part_with (component.Alarm b) at is = elim (cases_eq b.0 a) [
      | inl same ↦
          (ap (λ (n : ℕ). OfAlarm (is_armed (alarm_state (with_alarm s a x) n))) same
          ∙ ap (λ (y : AlarmState). OfAlarm (is_armed y)) (get_or-set_same s.alarms a x alarm.Idle here)
          ∙ sym (change_here one [] c (part_of s (component.Alarm b)) (ap (component_number app) (ap (λ (n : ℕ). component.Alarm (alarm_no n)) (sym same) ∙ sym at) ∙ component_numbered app c lt)))
      | inr other ↦
          (ap (λ (y : AlarmState). OfAlarm (is_armed y)) (get_or-set_other s.alarms a b.0 x alarm.Idle other)
          ∙ sym (change_there one [] c (part_of s (component.Alarm b)) (elsewhere_of (component.Alarm b) at (λ e. other (cc)))))
    ]
    part_with (component.Source k) at is = sym (change_there one [] c (part_of s (component.Source k)) (elsewhere_of (component.Source k) at (λ e. absurd (cc))))

    -- a write to an alarm
    pub alarm_written : abstract_of app (with_alarm s a x) c ≡ value_after (alarm_change app a (is_armed x) ∷ []) c (abstract_of app s c)
    alarm_written = part_with (component_at app c) refl (component_known app c lt)
