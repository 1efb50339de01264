-- The first fault of the header, and of an entry of a table, is what the table of fields says.
use Rattle.std.proofs.Common.{◌≡◌, ℕ, ◌+◌, ◌^◌, Bool, ◌&&◌, List, [], ◌∷◌, ◌++◌, length, map, Ok, subst}
use Rattle.std.specs.{Prelude.{slice_index_or}, Int.{Width, w8, w16, w32, w64}}
use Rattle.osek_values.specs.{declared.limits.TheConstants.{MAX_TASKS, MAX_ISRS, MAX_COUNTERS, MAX_ALARMS, MAX_RESOURCES, MAX_MODES, MAX_BLOCKS}, Hooks.{hook_set}}
use Rattle.osek_values.specs.Numbers.{counter_no}
use Rattle.oil_system.specs.{declared.objects.{Alarm.{Alarm}, Resource.{Resource}, Action.{Action}, Schedule.{Schedule}}, Objects.{greatest_ceiling}}
use Rattle.osek_standard.specs.{declared.objects.{Task.{Task}, Isr.{Isr}, Counter.{Counter}}, Validity.{no_counter, owners}}
use Rattle.image_model.specs.declared.image.Version.{Version}
use Rattle.image_model.specs.declared.image.Version.TheVariants as version
use Rattle.image_fields.specs.declared.{fault.ImageRule.TheVariants.{I3, I5}, parts.{Header.{Header}, Range.{Range}}}
use Rattle.image_codec.specs.Laws.{HeaderFaults, EntryFaults}
use Rattle.image_fields.specs.Reading.{Read, ◌>>=◌, further_byte_at, further_16_at, name_at, number_at, tested_byte_at, tested_at, byte_below_at, modes_at, range_at}
use Rattle.image_fields.specs.TableReading.{version_at, header_at, is_priority, is_activation, is_internal_number, property_at, schedule_of, schedule_at, task_at, isr_at, counter_at, is_action_mask, action_of, action_at, is_start_time}
use Rattle.image_fields.specs.TableReading.{is_start_cycle, alarm_at, resource_at, task_with, is_isr_priority, isr_with, is_interrupt_ceiling, resource_with}
use Rattle.image_codec.specs.FieldTable.{fault_of, Field, field, any, some, below, at_most, first_broken, behind, magic_field, further_field, name_field}
use Rattle.image_codec.specs.FieldTable.{header_fields, range_fields, modes_field, priority_field, activation_field, internal_field, property_field, task_start, task_fields, isr_head, isr_fields, counter_fields, action_fields, start_fields}
use Rattle.image_codec.specs.FieldTable.{alarm_fields, resource_fields}
use Rattle.image_codec.proofs.FieldFaults.{Covers, Any, Numbered, covers_then, covers_made, number_covers, tested_covers, cross_covers, byte_covers, magic_covers}
use Rattle.image_codec.proofs.FieldFaults.{further_byte_covers, further_16_covers, property_covers, name_covers, range_covers, fault_covered}

-- what is read follows the fields, and the value is so
record Follows {A : Type 0} (P : A → Type 0) (fs : List Field) (bytes : List ℕ) (read : Read A) : Type 0 where
  pub covers : Covers P fs bytes read

-- a field, and what follows it
next : {A B : Type 0} {P : A → Type 0} {f : Field} {fs : List Field} {bytes : List ℕ} {r : Read A} (k : A × List ℕ → Read B) → Follows P (f ∷ []) bytes r
    → ((a : A) → P a → Follows Any fs (behind (f ∷ []) bytes) (k (a, behind (f ∷ []) bytes))) → Follows Any (f ∷ fs) bytes (r >>= k)
next {P = P} {f = f} {fs = fs} {bytes = bytes} {r = r} k first second = record { covers = covers_then P Any (f ∷ []) fs bytes r (λ a rest. k (a, rest)) first.covers (λ a so. (second a so).covers) }

made : {A B : Type 0} {P : A → Type 0} {fs : List Field} {bytes : List ℕ} {r : Read A} (make : A → B) → Follows P fs bytes r → Follows Any fs bytes (r >>= λ x. Ok (make x.0, x.1))
made {P = P} {fs = fs} {bytes = bytes} {r = r} make h = record { covers = covers_made P Any fs bytes r make (λ _ _. tt) h.covers }

a_byte : (test : ℕ → Bool) (bytes : List ℕ) → Follows (Numbered w8 bytes) (field w8 test any ∷ []) bytes (tested_byte_at test I3 bytes)
a_byte test bytes = record { covers = byte_covers test bytes }

a_number : (w : Width) (bytes : List ℕ) → Follows (Numbered w bytes) (field w any any ∷ []) bytes (number_at w bytes)
a_number w bytes = record { covers = number_covers w bytes }

a_tested : (w : Width) (test : ℕ → Bool) (bytes : List ℕ) → Follows (Numbered w bytes) (field w test any ∷ []) bytes (tested_at w test I3 bytes)
a_tested w test bytes = record { covers = tested_covers w bytes test }

a_cross : (w : Width) (refers : ℕ → Bool) (bytes : List ℕ) → Follows (Numbered w bytes) (field w any refers ∷ []) bytes (tested_at w refers I5 bytes)
a_cross w refers bytes = record { covers = cross_covers w bytes refers }

a_magic : (bytes : List ℕ) → Follows Any (magic_field ∷ []) bytes (version_at bytes)
a_magic bytes = record { covers = magic_covers bytes }

a_name : (earlier : List (List ℕ)) (bytes : List ℕ) → Follows Any (name_field earlier ∷ []) bytes (name_at earlier bytes)
a_name earlier bytes = record { covers = name_covers earlier bytes }

a_code : (blocks : ℕ) (earlier : List (ℕ × ℕ)) (bytes : List ℕ) → Follows Any (range_fields blocks earlier bytes) bytes (range_at blocks earlier bytes)
a_code blocks earlier bytes = record { covers = range_covers blocks earlier bytes }

a_priority : (v : Version) (earlier : List Task) (bytes : List ℕ) → Follows (Numbered w16 bytes) (priority_field v earlier ∷ []) bytes (tested_at w16 (is_priority v earlier) I5 bytes)
a_priority version.One earlier bytes = a_cross w16 (is_priority version.One earlier) bytes
a_priority version.Two earlier bytes = a_cross w16 (is_priority version.Two earlier) bytes

a_further_byte : (v : Version) (value : ℕ) (test : ℕ → Bool) (bytes : List ℕ) → Follows Any (further_field v (field w8 test any)) bytes (further_byte_at v value test bytes)
a_further_byte v value test bytes = record { covers = further_byte_covers v value test bytes }

a_property : (v : Version) (tasks : List Task) (r : ℕ) (bytes : List ℕ) → Follows Any (further_field v (property_field tasks r)) bytes (property_at v tasks r bytes)
a_property v tasks r bytes = record { covers = property_covers v tasks r bytes }

a_further_16 : (v : Version) (value : ℕ) (test : ℕ → Bool) (bytes : List ℕ) → Follows Any (further_field v (field w16 test any)) bytes (further_16_at v value test bytes)
a_further_16 v value test bytes = record { covers = further_16_covers v value test bytes }

-- fields, and what follows them
rest_of : {A B : Type 0} {fs gs : List Field} {bytes : List ℕ} {r : Read A} (k : A × List ℕ → Read B) → Follows Any fs bytes r
    → ((a : A) → Follows Any gs (behind fs bytes) (k (a, behind fs bytes))) → Follows Any (fs ++ gs) bytes (r >>= k)
rest_of {fs = fs} {gs = gs} {bytes = bytes} {r = r} k first second = record { covers = covers_then Any Any fs gs bytes r (λ a rest. k (a, rest)) first.covers (λ a _. (second a).covers) }

covered : {A : Type 0} {fs : List Field} {bytes : List ℕ} {r : Read A} → Follows Any fs bytes r → fault_of r ≡ first_broken fs bytes
covered {fs = fs} {bytes = bytes} {r = r} h = fault_covered Any (first_broken fs bytes) (behind fs bytes) r h.covers

-- ---- the header

abbrev a_header : Version → ℕ → ℕ → ℕ → ℕ → ℕ → ℕ → ℕ → ℕ → Header
a_header v hooks tasks isrs counters alarms resources modes blocks =
    record { version = v; hooks = hook_set hooks; tasks = tasks; isrs = isrs; counters = counters; alarms = alarms; resources = resources; modes = modes; blocks = blocks }

header_covers : (bytes : List ℕ) → Follows Any header_fields bytes (header_at bytes)
unfolding header_at
header_covers bytes =
    next _ (a_magic bytes) (λ v _.
    next _ (a_byte (below 32) _) (λ hooks _.
    next _ (a_byte (below (MAX_TASKS + 1)) _) (λ tasks _.
    next _ (a_byte (below (MAX_ISRS + 1)) _) (λ isrs _.
    next _ (a_byte (below (MAX_COUNTERS + 1)) _) (λ counters _.
    next _ (a_byte (below (MAX_ALARMS + 1)) _) (λ alarms _.
    next _ (a_byte (below (MAX_RESOURCES + 1)) _) (λ resources _.
    next _ (a_byte (λ n. some n && at_most MAX_MODES n) _) (λ modes _.
    made (a_header v hooks tasks isrs counters alarms resources modes) (a_tested w16 (at_most MAX_BLOCKS) _)))))))))

pub header_faults : HeaderFaults
header_faults bytes = covered (header_covers bytes)

-- ---- tasks and ISRs

schedule_covers : (bytes : List ℕ) → Follows Any (field w8 (below 2) any ∷ []) bytes (schedule_at bytes)
unfolding schedule_at
schedule_covers bytes = made schedule_of (a_byte (below 2) bytes)

module _ (n : Header) (earlier : List Task) where
  -- the fields behind a task's own event bits
  abbrev own_fields : ℕ → List ℕ → List Field
  own_fields own rest =
      modes_field n.modes ∷ (range_fields n.blocks (owners earlier [] []) (behind (modes_field n.modes ∷ []) rest)
      ++ (further_field n.version (activation_field own) ++ further_field n.version (internal_field n.resources)))

  abbrev with_own : List ℕ → ℕ → Schedule → ℕ → List ℕ → Read Task
  with_own name priority schedule own rest =
      modes_at n.modes rest >>= λ autostart. range_at n.blocks (owners earlier [] []) autostart.1 >>= λ code.
      further_byte_at n.version 1 (is_activation own) code.1 >>= λ activation.
      further_byte_at n.version 0xff (is_internal_number n.resources) activation.1 >>= λ internal.
      Ok (task_with name priority schedule own autostart.0 code.0 activation.0 internal.0, internal.1)

  own_rest : (name : List ℕ) (priority : ℕ) (schedule : Schedule) (own : ℕ) (rest : List ℕ) → Follows Any (own_fields own rest) rest (with_own name priority schedule own rest)
  own_rest name priority schedule own rest =
      next _ (a_byte (below (2 ^ n.modes)) rest) (λ autostart _.
      rest_of _ (a_code n.blocks (owners earlier [] []) (behind (modes_field n.modes ∷ []) rest)) (λ code.
      rest_of _ (a_further_byte n.version 1 (is_activation own) _) (λ activation.
      made (task_with name priority schedule own autostart code activation) (a_further_byte n.version 0xff (is_internal_number n.resources) _))))

  task_covers : (bytes : List ℕ) → Follows Any (task_fields n earlier bytes) bytes (task_at n earlier bytes)
  unfolding task_at
  task_covers bytes =
      next _ (a_name (map (λ (x : Task). x.name) earlier) bytes) (λ name _.
      next _ (a_priority n.version earlier _) (λ priority _.
      next _ (schedule_covers _) (λ schedule _.
      let behind_schedule = behind (task_start n earlier) bytes in
      next (λ x. with_own name priority schedule x.0 x.1) (a_number w64 behind_schedule) (λ own is.
      let rest = behind (field w64 any any ∷ []) behind_schedule in
      subst (λ (z : ℕ). Follows Any (own_fields z rest) rest (with_own name priority schedule own rest)) is (own_rest name priority schedule own rest)))))

isr_covers : (n : Header) (tasks : List Task) (earlier : List Isr) (bytes : List ℕ) → Follows Any (isr_fields n tasks earlier bytes) bytes (isr_at n tasks earlier bytes)
unfolding isr_at
isr_covers n tasks earlier bytes =
    next _ (a_name (map (λ (x : Isr). x.name) earlier) bytes) (λ name _.
    rest_of _ (a_code n.blocks (owners tasks earlier []) (behind (isr_head earlier) bytes)) (λ code.
    made (isr_with name code) (a_further_byte n.version 0 is_isr_priority _)))

-- ---- counters

abbrev a_counter : List ℕ → ℕ → ℕ → Range → Counter
a_counter name max min_cycle code = record { name = name; max = max; min_cycle = min_cycle; first = code.first; count = code.count }

module _ (n : Header) (tasks : List Task) (isrs : List Isr) (earlier : List Counter) where
  abbrev with_max : List ℕ → ℕ → List ℕ → Read Counter
  with_max name max rest =
      tested_at w32 (at_most max) I3 rest >>= λ min_cycle. range_at n.blocks (owners tasks isrs earlier) min_cycle.1 >>= λ code. Ok (a_counter name max min_cycle.0 code.0, code.1)

  max_rest : (name : List ℕ) (max : ℕ) (rest : List ℕ)
      → Follows Any (field w32 (at_most max) any ∷ range_fields n.blocks (owners tasks isrs earlier) (behind (field w32 (at_most max) any ∷ []) rest)) rest (with_max name max rest)
  max_rest name max rest =
      next _ (a_tested w32 (at_most max) rest) (λ min_cycle _.
      made (a_counter name max min_cycle) (a_code n.blocks (owners tasks isrs earlier) (behind (field w32 (at_most max) any ∷ []) rest)))

  counter_covers : (bytes : List ℕ) → Follows Any (counter_fields n tasks isrs earlier bytes) bytes (counter_at n tasks isrs earlier bytes)
  unfolding counter_at
  counter_covers bytes =
      let names = map (λ (x : Counter). x.name) earlier in
      next _ (a_name names bytes) (λ name _.
      let behind_name = behind (name_field names ∷ []) bytes in
      next (λ x. with_max name x.0 x.1) (a_tested w32 some behind_name) (λ max is.
      let behind_max = behind (field w32 some any ∷ []) behind_name in
      subst (λ (z : ℕ). Follows Any (field w32 (at_most z) any ∷ range_fields n.blocks (owners tasks isrs earlier) (behind (field w32 (at_most z) any ∷ []) behind_max)) behind_max (with_max name max behind_max)) is
      (max_rest name max behind_max)))

-- ---- alarms

abbrev with_act : Header → ℕ → List ℕ → Read Action
with_act n act rest = byte_below_at n.tasks rest >>= λ task. tested_at w64 (is_action_mask act) I3 task.1 >>= λ events. Ok (action_of act task.0 events.0, events.1)

act_rest : (n : Header) (act : ℕ) (rest : List ℕ) → Follows Any (field w8 (below n.tasks) any ∷ field w64 (is_action_mask act) any ∷ []) rest (with_act n act rest)
act_rest n act rest =
    next _ (a_byte (below n.tasks) rest) (λ task _.
    made (action_of act task) (a_tested w64 (is_action_mask act) _))

action_covers : (n : Header) (bytes : List ℕ) → Follows Any (action_fields n bytes) bytes (action_at n bytes)
unfolding action_at
action_covers n bytes =
    next (λ x. with_act n x.0 x.1) (a_byte (below 2) bytes) (λ act is.
    let rest = behind (field w8 (below 2) any ∷ []) bytes in
    subst (λ (z : ℕ). Follows Any (field w8 (below n.tasks) any ∷ field w64 (is_action_mask z) any ∷ []) rest (with_act n act rest)) is (act_rest n act rest))

module _ (n : Header) (c : Counter) (make : ℕ → ℕ → ℕ → Alarm) where
  abbrev with_autostart : ℕ → List ℕ → Read Alarm
  with_autostart autostart rest =
      tested_at w32 (is_start_time c autostart) I3 rest >>= λ time. tested_at w32 (is_start_cycle c autostart) I3 time.1 >>= λ cycle. Ok (make autostart time.0 cycle.0, cycle.1)

  abbrev with_action : List ℕ → Read Alarm
  with_action rest = modes_at n.modes rest >>= λ autostart. with_autostart autostart.0 autostart.1

  autostart_rest : (autostart : ℕ) (rest : List ℕ) → Follows Any (field w32 (is_start_time c autostart) any ∷ field w32 (is_start_cycle c autostart) any ∷ []) rest (with_autostart autostart rest)
  autostart_rest autostart rest =
      next _ (a_tested w32 (is_start_time c autostart) rest) (λ time _.
      made (make autostart time) (a_tested w32 (is_start_cycle c autostart) _))

  start_covers : (bytes : List ℕ) → Follows Any (start_fields n c bytes) bytes (with_action bytes)
  start_covers bytes =
      next (λ x. with_autostart x.0 x.1) (a_byte (below (2 ^ n.modes)) bytes) (λ autostart is.
      let rest = behind (modes_field n.modes ∷ []) bytes in
      subst (λ (z : ℕ). Follows Any (field w32 (is_start_time c z) any ∷ field w32 (is_start_cycle c z) any ∷ []) rest (with_autostart autostart rest)) is (autostart_rest autostart rest))

abbrev an_alarm : List ℕ → ℕ → Action → ℕ → ℕ → ℕ → Alarm
an_alarm name counter act autostart time cycle = record { name = name; counter = counter_no counter; action = act; autostart = autostart; time = time; cycle = cycle }

module _ (n : Header) (counters : List Counter) (earlier : List Alarm) where
  abbrev of : ℕ → Counter
  of counter = slice_index_or counters counter no_counter

  abbrev with_counter : List ℕ → ℕ → List ℕ → Read Alarm
  with_counter name counter rest = action_at n rest >>= λ act. with_action n (of counter) (an_alarm name counter act.0) act.1

  counter_rest : (name : List ℕ) (counter : ℕ) (rest : List ℕ)
      → Follows Any (action_fields n rest ++ start_fields n (of counter) (behind (action_fields n rest) rest)) rest (with_counter name counter rest)
  counter_rest name counter rest =
      let behind_action = behind (action_fields n rest) rest in
      record {
        covers = covers_then Any Any (action_fields n rest) (start_fields n (of counter) behind_action) rest (action_at n rest) (λ act after. with_action n (of counter) (an_alarm name counter act) after) (action_covers n rest).covers
            (λ act _. (start_covers n (of counter) (an_alarm name counter act) behind_action).covers);
      }

  alarm_covers : (bytes : List ℕ) → Follows Any (alarm_fields n counters earlier bytes) bytes (alarm_at n counters earlier bytes)
  unfolding alarm_at
  alarm_covers bytes =
      let names = map (λ (x : Alarm). x.name) earlier in
      next _ (a_name names bytes) (λ name _.
      let behind_name = behind (name_field names ∷ []) bytes in
      next (λ x. with_counter name x.0 x.1) (a_byte (below n.counters) behind_name) (λ counter is.
      let rest = behind (field w8 (below n.counters) any ∷ []) behind_name in
      subst (λ (z : ℕ). Follows Any (action_fields n rest ++ start_fields n (of z) (behind (action_fields n rest) rest)) rest (with_counter name counter rest)) is (counter_rest name counter rest)))

-- ---- resources

resource_covers : (v : Version) (tasks : List Task) (earlier : List Resource) (bytes : List ℕ) → Follows Any (resource_fields v tasks earlier) bytes (resource_at v tasks earlier bytes)
unfolding resource_at
resource_covers v tasks earlier bytes =
    next _ (a_name (map (λ (x : Resource). x.name) earlier) bytes) (λ name _.
    next _ (a_tested w32 (at_most greatest_ceiling) _) (λ ceiling _.
    rest_of _ (a_property v tasks (length earlier) _) (λ internal.
    made (resource_with name ceiling internal) (a_further_16 v 0 is_interrupt_ceiling _))))

pub entry_faults : EntryFaults
entry_faults = record {
  task = λ n earlier bytes. covered (task_covers n earlier bytes);
  isr = λ n tasks earlier bytes. covered (isr_covers n tasks earlier bytes);
  counter = λ n tasks isrs earlier bytes. covered (counter_covers n tasks isrs earlier bytes);
  alarm = λ n counters earlier bytes. covered (alarm_covers n counters earlier bytes);
  resource = λ v tasks earlier bytes. covered (resource_covers v tasks earlier bytes);
  mode = λ earlier bytes. covered (a_name earlier bytes);
}
