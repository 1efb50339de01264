-- Readers of the header and the tables, and their spellings.
use Rattle.std.proofs.Common.{◌≡◌, ℕ, zero, suc, ◌^◌, ◌<◌, Bool, true, false, cond, eqb, List, [], ◌++◌, length, map, Ok, refl, sym, ap, ◌∙◌, arith, Some, None}
use Rattle.std.proofs.lemmas.Bool.{ltb-true, lt-ltb, eqb-true}
use Rattle.std.specs.{Prelude.{nat_lt, nat_le, slice_index_or}, Int.{w16, w32, w64}, List.{flat_map}}
use Rattle.osek_values.specs.Numbers.{task_no, counter_no, res_no, mask}
use Rattle.oil_system.specs.declared.objects.{Alarm.{Alarm}, Resource.{Resource}, Action.{Action}}
use Rattle.oil_system.specs.declared.objects.Action.TheVariants as action
use Rattle.osek_standard.specs.{declared.objects.{Task.{Task}, Isr.{Isr}, Counter.{Counter}}, Validity.{no_counter, owners}}
use Rattle.image_model.specs.declared.image.Version.{Version}
use Rattle.image_fields.specs.declared.{fault.ImageRule.TheVariants.{I3, I5}, parts.{Header.{Header}, Range.{Range}, Tables.{Tables}}}
use Rattle.image_codec.specs.Spelling.{one, two, four, eight, further, name_bytes, range_bytes, schedule_number, flag_number, internal_number, task_bytes, isr_bytes, counter_bytes, action_bytes, alarm_bytes}
use Rattle.image_codec.specs.Spelling.{resource_bytes}
use Rattle.image_fields.specs.Reading.{number_at, tested_at, byte_below_at, further_byte_at, further_16_at, name_at, modes_at, range_at, entries_at}
use Rattle.image_fields.specs.TableReading.{is_priority, is_activation, is_internal_number, internal_of, property_at, schedule_at, task_at, isr_at, counter_at, is_action_mask, action_of, action_at, is_start_time, is_start_cycle, alarm_at, resource_at}
use Rattle.image_fields.specs.TableReading.{tables_at, task_with, is_isr_priority, isr_with, is_interrupt_ceiling, resource_with}
use Rattle.image_codec.proofs.VersionLaws.{IsFurther, further_byte_law, IsFurther16, further_16_law, IsProperty, property_law}
use Rattle.image_codec.proofs.Spells.{joined3, joined4, joined6, joined8, Spells, nothing_more, and_then, said, wide16, wide32, wide64, number_law, Tested, tested_byte_law}
use Rattle.image_codec.proofs.Spells.{tested_number_law, GoodEntries, entries_law}
use Rattle.image_fields.proofs.NameReading.{is_fresh}
use Rattle.image_codec.proofs.FieldLaws.{name_law, GoodRange, range_law, schedule_law}

abbrev is_below : ℕ → ℕ → Bool
is_below limit n = nat_lt n limit

abbrev pub task_names : List Task → List (List ℕ)
task_names xs = map (λ (x : Task). x.name) xs

abbrev pub range_of : Task → Range
range_of x = record { first = x.first; count = x.count }

internal_back_by : (is : Bool) (n : ℕ) → eqb n 0xff ≡ is → internal_number (cond is None (Some (res_no n))) ≡ n
internal_back_by true n e = sym (eqb-true n 0xff e)
internal_back_by false n e = refl

internal_back : (n : ℕ) → internal_number (internal_of n) ≡ n
internal_back n = internal_back_by (eqb n 0xff) n refl

task_is : (x : Task) → internal_of (internal_number x.internal) ≡ x.internal
    → x ≡ task_with x.name x.priority x.schedule x.own.0 x.autostart (range_of x) x.activation (internal_number x.internal)
task_is x again = λ i. record {
  name = x.name;
  priority = x.priority;
  schedule = x.schedule;
  own = x.own;
  autostart = x.autostart;
  first = x.first;
  count = x.count;
  activation = x.activation;
  internal = sym again i;
}

pub record GoodTask (n : Header) (earlier : List Task) (x : Task) : Type 0 where
  pub fresh : is_fresh (task_names earlier) x.name ≡ true
  pub priority_fits : x.priority < 2 ^ 16
  pub priority : is_priority n.version earlier x.priority ≡ true
  pub own_fits : x.own.0 < 2 ^ 64
  pub autostart_fits : x.autostart < 256
  pub autostart : is_below (2 ^ n.modes) x.autostart ≡ true
  pub code : GoodRange n.blocks (owners earlier [] []) (range_of x)
  pub activation : IsFurther n.version 1 (is_activation x.own.0) x.activation
  pub internal : IsFurther n.version 0xff (is_internal_number n.resources) (internal_number x.internal)
  pub internal_again : internal_of (internal_number x.internal) ≡ x.internal

pub task_law : (n : Header) (earlier : List Task) → Spells (task_at n earlier) (task_bytes n.version) (GoodTask n earlier)
unfolding task_at
task_law n earlier =
    said (task_at n earlier) _ _ (task_bytes n.version) (GoodTask n earlier)
    (and_then (name_at (task_names earlier)) name_bytes _ (λ (x : Task). x.name) _ _ _ (name_law (task_names earlier)) (λ name _.
    and_then (tested_at w16 (is_priority n.version earlier) I5) two _ (λ (x : Task). x.priority) _ _ _ (tested_number_law w16 (2 ^ 16) wide16 (is_priority n.version earlier) I5) (λ priority _.
    and_then schedule_at (λ s. one (schedule_number s)) _ (λ (x : Task). x.schedule) _ _ _ schedule_law (λ schedule _.
    and_then (number_at w64) eight _ (λ (x : Task). x.own.0) _ _ _ (number_law w64 (2 ^ 64) wide64) (λ own _.
    and_then (modes_at n.modes) one _ (λ (x : Task). x.autostart) _ _ _ (tested_byte_law (is_below (2 ^ n.modes)) I3) (λ autostart _.
    and_then (range_at n.blocks (owners earlier [] [])) (λ (r : Range). range_bytes r.first r.count) _ range_of _ _ _ (range_law n.blocks (owners earlier [] [])) (λ code _.
    and_then (further_byte_at n.version 1 (is_activation own)) (λ k. further n.version (one k)) _ (λ (x : Task). x.activation) _ _ _ (further_byte_law n.version 1 (is_activation own)) (λ activation _.
    and_then (further_byte_at n.version 0xff (is_internal_number n.resources)) (λ k. further n.version (one k)) _ (λ (x : Task). internal_number x.internal)
    (λ internal rest. Ok (task_with name priority schedule own autostart code activation internal, rest)) (λ _. []) (λ internal x. x ≡ task_with name priority schedule own autostart code activation internal)
    (further_byte_law n.version 0xff (is_internal_number n.resources)) (λ internal _. nothing_more (task_with name priority schedule own autostart code activation internal))
    (λ internal x _ is. ap (λ (y : Task). internal_number y.internal) is ∙ internal_back internal))
    (λ activation x _ good. ap (λ (y : Task). y.activation) good.1))
    (λ code x _ good. ap range_of good.1.1))
    (λ autostart x _ good. ap (λ (y : Task). y.autostart) good.1.1.1))
    (λ own x _ good. ap (λ (y : Task). y.own.0) good.1.1.1.1))
    (λ schedule x _ good. ap (λ (y : Task). y.schedule) good.1.1.1.1.1))
    (λ priority x _ good. ap (λ (y : Task). y.priority) good.1.1.1.1.1.1))
    (λ name x _ good. ap (λ (y : Task). y.name) good.1.1.1.1.1.1.1))
    (λ x. joined8 (name_bytes x.name) (two x.priority) (one (schedule_number x.schedule)) (eight x.own.0) (one x.autostart) (range_bytes x.first x.count) (further n.version (one x.activation)) (further n.version (one (internal_number x.internal))))
    (λ x good. record {
      fresh = good.0;
      priority_fits = good.1.0.0;
      priority = good.1.0.1;
      own_fits = good.1.1.1.0;
      autostart_fits = good.1.1.1.1.0.0;
      autostart = good.1.1.1.1.0.1;
      code = good.1.1.1.1.1.0;
      activation = good.1.1.1.1.1.1.0;
      internal = good.1.1.1.1.1.1.1.0;
      internal_again = sym (ap (λ (y : Task). y.internal) good.1.1.1.1.1.1.1.1);
    })
    (λ x good. (
      good.fresh,
      (
        (good.priority_fits, good.priority),
        (tt, (good.own_fits, ((good.autostart_fits, good.autostart), (good.code, (good.activation, (good.internal, task_is x good.internal_again)))))),
      ),
    ))

-- ---- ISRs

abbrev pub isr_names : List Isr → List (List ℕ)
isr_names xs = map (λ (x : Isr). x.name) xs

abbrev pub isr_range_of : Isr → Range
isr_range_of x = record { first = x.first; count = x.count }

pub record GoodIsr (n : Header) (tasks : List Task) (earlier : List Isr) (x : Isr) : Type 0 where
  pub fresh : is_fresh (isr_names earlier) x.name ≡ true
  pub code : GoodRange n.blocks (owners tasks earlier []) (isr_range_of x)
  pub priority : IsFurther n.version 0 is_isr_priority x.priority

pub isr_law : (n : Header) (tasks : List Task) (earlier : List Isr) → Spells (isr_at n tasks earlier) (isr_bytes n.version) (GoodIsr n tasks earlier)
unfolding isr_at
isr_law n tasks earlier =
    said (isr_at n tasks earlier) _ _ (isr_bytes n.version) (GoodIsr n tasks earlier)
    (and_then (name_at (isr_names earlier)) name_bytes _ (λ (x : Isr). x.name) _ _ _ (name_law (isr_names earlier)) (λ name _.
    and_then (range_at n.blocks (owners tasks earlier [])) (λ (r : Range). range_bytes r.first r.count) _ isr_range_of _ _ _ (range_law n.blocks (owners tasks earlier [])) (λ code _.
    and_then (further_byte_at n.version 0 is_isr_priority) (λ k. further n.version (one k)) _ (λ (x : Isr). x.priority)
    (λ priority rest. Ok (isr_with name code priority, rest)) (λ _. []) (λ priority x. x ≡ isr_with name code priority)
    (further_byte_law n.version 0 is_isr_priority) (λ priority _. nothing_more (isr_with name code priority))
    (λ priority x _ is. ap (λ (y : Isr). y.priority) is))
    (λ code x _ good. ap isr_range_of good.1))
    (λ name x _ good. ap (λ (y : Isr). y.name) good.1.1))
    (λ x. joined3 (name_bytes x.name) (range_bytes x.first x.count) (further n.version (one x.priority)))
    (λ x good. record { fresh = good.0; code = good.1.0; priority = good.1.1.0 })
    (λ x good. (good.fresh, (good.code, (good.priority, refl))))

-- ---- counters

abbrev pub counter_names : List Counter → List (List ℕ)
counter_names xs = map (λ (x : Counter). x.name) xs

abbrev pub counter_range_of : Counter → Range
counter_range_of x = record { first = x.first; count = x.count }

abbrev a_counter : List ℕ → ℕ → ℕ → Range → Counter
a_counter name max min_cycle code = record { name = name; max = max; min_cycle = min_cycle; first = code.first; count = code.count }

abbrev is_some : ℕ → Bool
is_some n = nat_lt 0 n

abbrev is_at_most : ℕ → ℕ → Bool
is_at_most most n = nat_le n most

pub record GoodCounter (n : Header) (tasks : List Task) (isrs : List Isr) (earlier : List Counter) (x : Counter) : Type 0 where
  pub fresh : is_fresh (counter_names earlier) x.name ≡ true
  pub max_fits : x.max < 2 ^ 32
  pub max_some : is_some x.max ≡ true
  pub min_fits : x.min_cycle < 2 ^ 32
  pub min_within : is_at_most x.max x.min_cycle ≡ true
  pub code : GoodRange n.blocks (owners tasks isrs earlier) (counter_range_of x)

pub counter_law : (n : Header) (tasks : List Task) (isrs : List Isr) (earlier : List Counter) → Spells (counter_at n tasks isrs earlier) counter_bytes (GoodCounter n tasks isrs earlier)
unfolding counter_at
counter_law n tasks isrs earlier =
    said (counter_at n tasks isrs earlier) _ _ counter_bytes (GoodCounter n tasks isrs earlier)
    (and_then (name_at (counter_names earlier)) name_bytes _ (λ (x : Counter). x.name) _ _ _ (name_law (counter_names earlier)) (λ name _.
    and_then (tested_at w32 is_some I3) four _ (λ (x : Counter). x.max) _ _ _ (tested_number_law w32 (2 ^ 32) wide32 is_some I3) (λ max _.
    and_then (tested_at w32 (is_at_most max) I3) four _ (λ (x : Counter). x.min_cycle) _ _ _ (tested_number_law w32 (2 ^ 32) wide32 (is_at_most max) I3) (λ min_cycle _.
    and_then (range_at n.blocks (owners tasks isrs earlier)) (λ (r : Range). range_bytes r.first r.count) _ counter_range_of (λ code rest. Ok (a_counter name max min_cycle code, rest)) (λ _. []) (λ code x. x ≡ a_counter name max min_cycle code)
    (range_law n.blocks (owners tasks isrs earlier)) (λ code _. nothing_more (a_counter name max min_cycle code))
    (λ code x _ is. ap counter_range_of is))
    (λ min_cycle x _ good. ap (λ (y : Counter). y.min_cycle) good.1))
    (λ max x _ good. ap (λ (y : Counter). y.max) good.1.1))
    (λ name x _ good. ap (λ (y : Counter). y.name) good.1.1.1))
    (λ x. joined4 (name_bytes x.name) (four x.max) (four x.min_cycle) (range_bytes x.first x.count))
    (λ x good. record { fresh = good.0; max_fits = good.1.0.0; max_some = good.1.0.1; min_fits = good.1.1.0.0; min_within = good.1.1.0.1; code = good.1.1.1.0 })
    (λ x good. (good.fresh, ((good.max_fits, good.max_some), ((good.min_fits, good.min_within), (good.code, refl)))))

-- ---- alarms

abbrev act_of : Action → ℕ
act_of (action.ActivateTask t) = 0
act_of (action.SetEvent t m) = 1

abbrev acted_task : Action → ℕ
acted_task (action.ActivateTask t) = t.0
acted_task (action.SetEvent t m) = t.0

abbrev acted_events : Action → ℕ
acted_events (action.ActivateTask t) = 0
acted_events (action.SetEvent t m) = m.0

pub record GoodAction (n : Header) (x : Action) : Type 0 where
  pub task_fits : acted_task x < 256
  pub task : is_below n.tasks (acted_task x) ≡ true
  pub events_fit : acted_events x < 2 ^ 64
  pub events : is_action_mask (act_of x) (acted_events x) ≡ true

act_below : (x : Action) → act_of x < 2
act_below (action.ActivateTask t) = omega arith
act_below (action.SetEvent t m) = omega arith

act_back : (act t m : ℕ) → act < 2 → act_of (action_of act t m) ≡ act
act_back zero t m lt = refl
act_back (suc zero) t m lt = refl
act_back (suc (suc act)) t m lt = absurd (omega arith)

task_by : (activates : Bool) (t m : ℕ) → acted_task (cond activates (action.ActivateTask (task_no t)) (action.SetEvent (task_no t) (mask m))) ≡ t
task_by true t m = refl
task_by false t m = refl

task_back : (act t m : ℕ) → acted_task (action_of act t m) ≡ t
task_back act t m = task_by (eqb act 0) t m

events_by : (activates : Bool) (t m : ℕ) → cond activates (eqb m 0) (nat_lt 0 m) ≡ true → acted_events (cond activates (action.ActivateTask (task_no t)) (action.SetEvent (task_no t) (mask m))) ≡ m
events_by true t m e = sym (eqb-true m 0 e)
events_by false t m e = refl

events_back : (act t m : ℕ) → is_action_mask act m ≡ true → acted_events (action_of act t m) ≡ m
events_back act t m e = events_by (eqb act 0) t m e

action_again : (x : Action) → x ≡ action_of (act_of x) (acted_task x) (acted_events x)
action_again (action.ActivateTask t) = refl
action_again (action.SetEvent t m) = refl

action_spelled : (x : Action) → one (act_of x) ++ (one (acted_task x) ++ (eight (acted_events x) ++ [])) ≡ action_bytes x
action_spelled (action.ActivateTask t) = refl
action_spelled (action.SetEvent t m) = refl

pub action_law : (n : Header) → Spells (action_at n) action_bytes (GoodAction n)
unfolding action_at
action_law n =
    said (action_at n) _ _ action_bytes (GoodAction n)
    (and_then (byte_below_at 2) one (Tested (is_below 2) (λ k. k < 256)) act_of _ _ _ (tested_byte_law (is_below 2) I3) (λ act act_good.
    and_then (byte_below_at n.tasks) one (Tested (is_below n.tasks) (λ k. k < 256)) acted_task _ _ _ (tested_byte_law (is_below n.tasks) I3) (λ t _.
    and_then (tested_at w64 (is_action_mask act) I3) eight (Tested (is_action_mask act) (λ k. k < 2 ^ 64)) acted_events (λ m rest. Ok (action_of act t m, rest)) (λ _. []) (λ m x. x ≡ action_of act t m)
    (tested_number_law w64 (2 ^ 64) wide64 (is_action_mask act) I3) (λ m _. nothing_more (action_of act t m))
    (λ m x good is. ap acted_events is ∙ events_back act t m good.1))
    (λ t x _ good. ap acted_task good.1 ∙ task_back act t (acted_events x)))
    (λ act x act_good good. ap act_of good.1.1 ∙ act_back act (acted_task x) (acted_events x) (ltb-true _ _ act_good.1)))
    action_spelled
    (λ x good. record { task_fits = good.1.0.0; task = good.1.0.1; events_fit = good.1.1.0.0; events = good.1.1.0.1 })
    (λ x good. ((omega (arith, act_below x), lt-ltb _ _ (act_below x)), ((good.task_fits, good.task), ((good.events_fit, good.events), action_again x))))

abbrev pub alarm_names : List Alarm → List (List ℕ)
alarm_names xs = map (λ (x : Alarm). x.name) xs

abbrev an_alarm : List ℕ → ℕ → Action → ℕ → ℕ → ℕ → Alarm
an_alarm name counter act autostart time cycle = record { name = name; counter = counter_no counter; action = act; autostart = autostart; time = time; cycle = cycle }

pub record GoodAlarm (n : Header) (counters : List Counter) (earlier : List Alarm) (x : Alarm) : Type 0 where
  pub fresh : is_fresh (alarm_names earlier) x.name ≡ true
  pub counter_fits : x.counter.0 < 256
  pub counter : is_below n.counters x.counter.0 ≡ true
  pub acts : GoodAction n x.action
  pub autostart_fits : x.autostart < 256
  pub autostart : is_below (2 ^ n.modes) x.autostart ≡ true
  pub time_fits : x.time < 2 ^ 32
  pub time : is_start_time (slice_index_or counters x.counter.0 no_counter) x.autostart x.time ≡ true
  pub cycle_fits : x.cycle < 2 ^ 32
  pub cycle : is_start_cycle (slice_index_or counters x.counter.0 no_counter) x.autostart x.cycle ≡ true

pub alarm_law : (n : Header) (counters : List Counter) (earlier : List Alarm) → Spells (alarm_at n counters earlier) alarm_bytes (GoodAlarm n counters earlier)
unfolding alarm_at
alarm_law n counters earlier =
    said (alarm_at n counters earlier) _ _ alarm_bytes (GoodAlarm n counters earlier)
    (and_then (name_at (alarm_names earlier)) name_bytes _ (λ (x : Alarm). x.name) _ _ _ (name_law (alarm_names earlier)) (λ name _.
    and_then (byte_below_at n.counters) one _ (λ (x : Alarm). x.counter.0) _ _ _ (tested_byte_law (is_below n.counters) I3) (λ counter _.
    and_then (action_at n) action_bytes _ (λ (x : Alarm). x.action) _ _ _ (action_law n) (λ act _.
    and_then (modes_at n.modes) one _ (λ (x : Alarm). x.autostart) _ _ _ (tested_byte_law (is_below (2 ^ n.modes)) I3) (λ autostart _.
    and_then (tested_at w32 (is_start_time (slice_index_or counters counter no_counter) autostart) I3) four _ (λ (x : Alarm). x.time) _ _ _
    (tested_number_law w32 (2 ^ 32) wide32 (is_start_time (slice_index_or counters counter no_counter) autostart) I3) (λ time _.
    and_then (tested_at w32 (is_start_cycle (slice_index_or counters counter no_counter) autostart) I3) four _ (λ (x : Alarm). x.cycle)
    (λ cycle rest. Ok (an_alarm name counter act autostart time cycle, rest)) (λ _. []) (λ cycle x. x ≡ an_alarm name counter act autostart time cycle)
    (tested_number_law w32 (2 ^ 32) wide32 (is_start_cycle (slice_index_or counters counter no_counter) autostart) I3) (λ cycle _. nothing_more (an_alarm name counter act autostart time cycle))
    (λ cycle x _ is. ap (λ (y : Alarm). y.cycle) is))
    (λ time x _ good. ap (λ (y : Alarm). y.time) good.1))
    (λ autostart x _ good. ap (λ (y : Alarm). y.autostart) good.1.1))
    (λ act x _ good. ap (λ (y : Alarm). y.action) good.1.1.1))
    (λ counter x _ good. ap (λ (y : Alarm). y.counter.0) good.1.1.1.1))
    (λ name x _ good. ap (λ (y : Alarm). y.name) good.1.1.1.1.1))
    (λ x. joined6 (name_bytes x.name) (one x.counter.0) (action_bytes x.action) (one x.autostart) (four x.time) (four x.cycle))
    (λ x good. record { fresh = good.0; counter_fits = good.1.0.0; counter = good.1.0.1; acts = good.1.1.0; autostart_fits = good.1.1.1.0.0; autostart = good.1.1.1.0.1; time_fits = good.1.1.1.1.0.0; time = good.1.1.1.1.0.1; cycle_fits = good.1.1.1.1.1.0.0; cycle = good.1.1.1.1.1.0.1 })
    (λ x good. (good.fresh, ((good.counter_fits, good.counter), (good.acts, ((good.autostart_fits, good.autostart), ((good.time_fits, good.time), ((good.cycle_fits, good.cycle), refl)))))))

-- ---- resources

abbrev pub resource_names : List Resource → List (List ℕ)
resource_names xs = map (λ (x : Resource). x.name) xs

pub record GoodResource (v : Version) (tasks : List Task) (earlier : List Resource) (x : Resource) : Type 0 where
  pub fresh : is_fresh (resource_names earlier) x.name ≡ true
  pub ceiling_fits : x.ceiling < 2 ^ 32
  pub ceiling : is_at_most 131071 x.ceiling ≡ true
  pub property : IsProperty v tasks (length earlier) x.internal
  pub interrupt_ceiling : IsFurther16 v 0 is_interrupt_ceiling x.interrupt_ceiling

pub resource_law : (v : Version) (tasks : List Task) (earlier : List Resource) → Spells (resource_at v tasks earlier) (resource_bytes v) (GoodResource v tasks earlier)
unfolding resource_at
resource_law v tasks earlier =
    said (resource_at v tasks earlier) _ _ (resource_bytes v) (GoodResource v tasks earlier)
    (and_then (name_at (resource_names earlier)) name_bytes _ (λ (x : Resource). x.name) _ _ _ (name_law (resource_names earlier)) (λ name _.
    and_then (tested_at w32 (is_at_most 131071) I3) four _ (λ (x : Resource). x.ceiling) _ _ _ (tested_number_law w32 (2 ^ 32) wide32 (is_at_most 131071) I3) (λ ceiling _.
    and_then (property_at v tasks (length earlier)) (λ internal. further v (one (flag_number internal))) _ (λ (x : Resource). x.internal) _ _ _ (property_law v tasks (length earlier)) (λ internal _.
    and_then (further_16_at v 0 is_interrupt_ceiling) (λ k. further v (two k)) _ (λ (x : Resource). x.interrupt_ceiling)
    (λ interrupts rest. Ok (resource_with name ceiling internal interrupts, rest)) (λ _. []) (λ interrupts x. x ≡ resource_with name ceiling internal interrupts)
    (further_16_law v 0 is_interrupt_ceiling) (λ interrupts _. nothing_more (resource_with name ceiling internal interrupts))
    (λ interrupts x _ is. ap (λ (y : Resource). y.interrupt_ceiling) is))
    (λ internal x _ good. ap (λ (y : Resource). y.internal) good.1))
    (λ ceiling x _ good. ap (λ (y : Resource). y.ceiling) good.1.1))
    (λ name x _ good. ap (λ (y : Resource). y.name) good.1.1.1))
    (λ x. joined4 (name_bytes x.name) (four x.ceiling) (further v (one (flag_number x.internal))) (further v (two x.interrupt_ceiling)))
    (λ x good. record {
      fresh = good.0;
      ceiling_fits = good.1.0.0;
      ceiling = good.1.0.1;
      property = good.1.1.0;
      interrupt_ceiling = good.1.1.1.0;
    })
    (λ x good. (good.fresh, ((good.ceiling_fits, good.ceiling), (good.property, (good.interrupt_ceiling, refl)))))

-- ---- modes

abbrev pub GoodMode : List (List ℕ) → List ℕ → Type 0
GoodMode earlier x = is_fresh earlier x ≡ true

-- ---- all tables

abbrev the_tables : List Task → List Isr → List Counter → List Alarm → List Resource → List (List ℕ) → Tables
the_tables tasks isrs counters alarms resources modes = record { tasks = tasks; isrs = isrs; counters = counters; alarms = alarms; resources = resources; modes = modes }

pub record GoodTables (n : Header) (t : Tables) : Type 0 where
  pub tasks : GoodEntries (GoodTask n) n.tasks t.tasks
  pub isrs : GoodEntries (GoodIsr n t.tasks) n.isrs t.isrs
  pub counters : GoodEntries (GoodCounter n t.tasks t.isrs) n.counters t.counters
  pub alarms : GoodEntries (GoodAlarm n t.counters) n.alarms t.alarms
  pub resources : GoodEntries (GoodResource n.version t.tasks) n.resources t.resources
  pub modes : GoodEntries GoodMode n.modes t.modes

abbrev pub tables_bytes : Version → Tables → List ℕ
tables_bytes v t =
    flat_map (task_bytes v) t.tasks ++ flat_map (isr_bytes v) t.isrs ++ flat_map counter_bytes t.counters ++ flat_map alarm_bytes t.alarms
    ++ flat_map (resource_bytes v) t.resources ++ flat_map name_bytes t.modes

pub tables_law : (n : Header) → Spells (tables_at n) (tables_bytes n.version) (GoodTables n)
unfolding tables_at
tables_law n =
    said (tables_at n) _ _ (tables_bytes n.version) (GoodTables n)
    (and_then (entries_at (task_at n) [] n.tasks) (flat_map (task_bytes n.version)) _ (λ (t : Tables). t.tasks) _ _ _ (entries_law (task_at n) (task_bytes n.version) (GoodTask n) (task_law n) n.tasks) (λ tasks _.
    and_then (entries_at (isr_at n tasks) [] n.isrs) (flat_map (isr_bytes n.version)) _ (λ (t : Tables). t.isrs) _ _ _ (entries_law (isr_at n tasks) (isr_bytes n.version) (GoodIsr n tasks) (isr_law n tasks) n.isrs) (λ isrs _.
    and_then (entries_at (counter_at n tasks isrs) [] n.counters) (flat_map counter_bytes) _ (λ (t : Tables). t.counters) _ _ _ (entries_law (counter_at n tasks isrs) counter_bytes (GoodCounter n tasks isrs) (counter_law n tasks isrs) n.counters) (λ counters _.
    and_then (entries_at (alarm_at n counters) [] n.alarms) (flat_map alarm_bytes) _ (λ (t : Tables). t.alarms) _ _ _ (entries_law (alarm_at n counters) alarm_bytes (GoodAlarm n counters) (alarm_law n counters) n.alarms) (λ alarms _.
    and_then (entries_at (resource_at n.version tasks) [] n.resources) (flat_map (resource_bytes n.version)) _ (λ (t : Tables). t.resources) _ _ _ (entries_law (resource_at n.version tasks) (resource_bytes n.version) (GoodResource n.version tasks) (resource_law n.version tasks) n.resources) (λ resources _.
    and_then (entries_at name_at [] n.modes) (flat_map name_bytes) _ (λ (t : Tables). t.modes)
    (λ modes rest. Ok (the_tables tasks isrs counters alarms resources modes, rest)) (λ _. []) (λ modes t. t ≡ the_tables tasks isrs counters alarms resources modes)
    (entries_law name_at name_bytes GoodMode name_law n.modes) (λ modes _. nothing_more (the_tables tasks isrs counters alarms resources modes))
    (λ modes t _ is. ap (λ (u : Tables). u.modes) is))
    (λ resources t _ good. ap (λ (u : Tables). u.resources) good.1))
    (λ alarms t _ good. ap (λ (u : Tables). u.alarms) good.1.1))
    (λ counters t _ good. ap (λ (u : Tables). u.counters) good.1.1.1))
    (λ isrs t _ good. ap (λ (u : Tables). u.isrs) good.1.1.1.1))
    (λ tasks t _ good. ap (λ (u : Tables). u.tasks) good.1.1.1.1.1))
    (λ t. joined6 (flat_map (task_bytes n.version) t.tasks) (flat_map (isr_bytes n.version) t.isrs) (flat_map counter_bytes t.counters) (flat_map alarm_bytes t.alarms) (flat_map (resource_bytes n.version) t.resources) (flat_map name_bytes t.modes))
    (λ t good. record { tasks = good.0; isrs = good.1.0; counters = good.1.1.0; alarms = good.1.1.1.0; resources = good.1.1.1.1.0; modes = good.1.1.1.1.1.0 })
    (λ t good. (good.tasks, (good.isrs, (good.counters, (good.alarms, (good.resources, (good.modes, refl)))))))
