-- Reading the blocks of an image.
use Rattle.std.specs.Prelude.{ℕ, ◌+◌, ◌-◌, ◌≤◌, Bool, true, false, not, ◌&&◌, nat_lt, nat_le, ◌==◌, List, [], ◌∷◌, length, slice_get, slice_index_or, Option, Some, None, Ok, Err, if◌then◌else◌}
use Rattle.std.specs.{Int.{w16, w32, w64}, List.{list_any, list_all, enumerate_from}}
use Rattle.osek_values.specs.Numbers.{task_no, alarm_no, res_no, block_no, mask}
use Rattle.oil_system.specs.declared.objects.Alarm.{Alarm}
use Rattle.osek_values.specs.declared.lock.Lock.{Lock}
use Rattle.osek_values.specs.declared.lock.Lock.TheVariants as lock
use Rattle.osek_values.specs.declared.status.Status.TheVariants as status
use Rattle.osek_standard.specs.declared.{objects.{Task.{Task}, Isr.{Isr}, Counter.{Counter}}, block.{Block.{Block}, Kind.{Kind}}}
use Rattle.osek_standard.specs.declared.block.Kind.TheVariants as kind
use Rattle.image_model.specs.CallNames as call
use Rattle.osek_standard.specs.Validity.{owners, is_within, task_may, isr_may, due_of, is_internal}
use Rattle.osek_standard.specs.Versions.{is_for_resource}
use Rattle.image_fields.specs.declared.fault.ImageRule.TheVariants.{I3, I5}
use Rattle.image_model.specs.declared.site.{Form.{Form}, Known.{Known}, Site.{Site}}
use Rattle.image_model.specs.declared.site.Form.TheVariants as form
use Rattle.image_model.specs.declared.site.Known.TheVariants as known
use Rattle.image_model.specs.declared.image.Version.{Version}
use Rattle.image_model.specs.declared.image.Version.TheVariants as version
use Rattle.image_fields.specs.declared.parts.Tables.{Tables}
use Rattle.image_fields.specs.Reading.{Read, ◌>>=◌, fault_at, kept, byte_at, number_at, tested_at, byte_below_at, found_at, flag_at, entries_at}
use Rattle.osek_standard.specs.Apps.{is_site_in}

-- the numbers of the entries fit a byte
pub record AreSmall (t : Tables) : Type 0 where
  pub tasks : length t.tasks ≤ 255
  pub alarms : length t.alarms ≤ 255
  pub resources : length t.resources ≤ 255

-- each kind at the place of its number, its operands still blank
abbrev pub blank_kinds : List Kind
blank_kinds =
    kind.Work 0 ∷ kind.Choice (block_no 0) ∷ kind.Loop ∷ (kind.Call (call.Task call.ActivateTask (task_no 0))) ∷ (kind.Call (call.Plain call.TerminateTask))
    ∷ (kind.Call (call.Task call.ChainTask (task_no 0))) ∷ (kind.Call (call.Plain call.Schedule)) ∷ (kind.Call (call.Resource call.GetResource (res_no 0))) ∷ (kind.Call (call.Resource call.ReleaseResource (res_no 0)))
    ∷ (kind.Call (call.SetEvent (task_no 0) (mask 0))) ∷ (kind.Call (call.Mask call.ClearEvent (mask 0))) ∷ (kind.Call (call.Task call.GetEvent (task_no 0))) ∷ (kind.Call (call.Mask call.WaitEvent (mask 0)))
    ∷ (kind.Call (call.Arm call.SetRelAlarm (alarm_no 0) 0 0)) ∷ (kind.Call (call.Arm call.SetAbsAlarm (alarm_no 0) 0 0)) ∷ (kind.Call (call.Alarm call.CancelAlarm (alarm_no 0)))
    ∷ (kind.Call (call.Alarm call.GetAlarm (alarm_no 0))) ∷ (kind.Call (call.Plain call.GetTaskId)) ∷ (kind.Call (call.Task call.GetTaskState (task_no 0))) ∷ (kind.Call (call.Plain call.GetActiveApplicationMode))
    ∷ kind.Call call.ShutdownOs ∷ (kind.Call (call.Lock lock.SuspendAll)) ∷ kind.TaskEnd ∷ kind.IsrEnd ∷ kind.CountUp
    ∷ kind.Expire (alarm_no 0) ∷ []

-- in a tick routine of so many alarms: CountUp, an Expire for each alarm, IsrEnd
abbrev pub tick_order : ℕ → ℕ → Kind → Bool
tick_order alarms place kind.CountUp = place == 0
tick_order alarms place (kind.Expire a) = nat_lt 0 place && nat_le place alarms
tick_order alarms place kind.IsrEnd = place == alarms + 1
tick_order alarms place _ = false

-- the test passes if block b is among these
abbrev pub where_has : ℕ → ℕ × ℕ → Bool → Bool
where_has b range test = if is_within b range then test else true

-- an owner's blocks
abbrev pub task_range : Task → ℕ × ℕ
task_range x = (x.first.0, x.count)

abbrev pub isr_range : Isr → ℕ × ℕ
isr_range x = (x.first.0, x.count)

abbrev pub counter_range : Counter → ℕ × ℕ
counter_range x = (x.first.0, x.count)

-- which kinds stand in an ISR's code: in version 1 none that takes a resource or gives one back
abbrev pub isr_may_in : Version → Bool → Kind → Bool
isr_may_in version.One last k = not (is_for_resource k) && isr_may last k
isr_may_in version.Two last k = isr_may last k

abbrev pub events_at : List ℕ → Read ℕ
events_at bytes = tested_at w64 (λ m. nat_lt 0 m) I3 bytes

abbrev pub locks : List Lock
locks = lock.SuspendAll ∷ lock.ResumeAll ∷ lock.SuspendOs ∷ lock.ResumeOs ∷ lock.DisableAll ∷ lock.EnableAll ∷ []

abbrev pub lock_of : List ℕ → List ℕ → Option Lock → Read Lock
lock_of bytes rest None = Err (fault_at I3 bytes)
lock_of bytes rest (Some l) = Ok (l, rest)

unfoldable pub lock_at : List ℕ → Read Lock
lock_at bytes = do
  n ← byte_at bytes
  lock_of bytes n.1 (slice_get locks n.0)

-- a resource that isn't INTERNAL
abbrev pub is_takable : Tables → ℕ → Bool
is_takable t r = not (is_internal t.resources r)

unfoldable pub takable_at : Tables → List ℕ → Read ℕ
takable_at t bytes = do
  r ← byte_below_at (length t.resources) bytes
  kept (is_takable t r.0) I5 bytes r

-- the alarm is the one that is due at the place of block b in the tick routine of a counter
abbrev pub is_due_in : List Alarm → ℕ → ℕ → ℕ × Counter → Bool
is_due_in alarms b a p = where_has b (counter_range p.1) (slice_index_or (due_of alarms p.0) (b - p.1.first.0 - 1) 256 == a)

-- the form of a number, where there are so many tasks
abbrev pub direct_form : ℕ → ℕ → Option Form
direct_form tasks n =
    if nat_le 0x0200 n && nat_lt n (0x0200 + tasks) then Some (form.Direct (Some (task_no (n - 0x0200)))) else None

abbrev pub form_of : ℕ → ℕ → Option Form
form_of tasks n =
    if n == 0x0000 then Some form.Never
    else if n == 0x0100 then Some form.Stay
    else if n == 0x02ff then Some (form.Direct None)
    else if n == 0x0300 then Some form.General
    else direct_form tasks n

unfoldable pub form_at : ℕ → List ℕ → Read Form
form_at tasks bytes = do
  n ← number_at w16 bytes
  found_at I3 bytes n.1 (form_of tasks n.0)

-- what is known of a status, by its number
abbrev pub knowns : List Known
knowns =
    known.Always (Some status.Ok) ∷ known.Always (Some status.Access) ∷ known.Always (Some status.CallLevel)
    ∷ known.Always (Some status.Id) ∷ known.Always (Some status.Limit) ∷ known.Always (Some status.NoFunc)
    ∷ known.Always (Some status.Resource) ∷ known.Always (Some status.State) ∷ known.Always (Some status.Value)
    ∷ known.Always None ∷ []

abbrev pub known_of : ℕ → Option Known
known_of n = if n == 0xff then Some known.Any else slice_get knowns n

-- version 1 says nothing of it
unfoldable pub known_at : Version → List ℕ → Read Known
known_at version.One bytes = Ok (known.Any, bytes)
known_at version.Two bytes = do
  n ← byte_at bytes
  found_at I3 bytes n.1 (known_of n.0)

-- a site, where there are so many tasks
unfoldable pub stated_at : Version → ℕ → List ℕ → Read Site
stated_at v tasks bytes = do
  form ← form_at tasks bytes
  known ← known_at v form.1
  Ok (record { form = form.0; known = known.0 }, known.1)

module _ (t : Tables) (b : ℕ) where
  -- whoever has block b allows a block of this kind there
  abbrev pub tasks_allow : Kind → Bool
  tasks_allow k = list_all (λ (x : Task). where_has b (task_range x) (task_may (b + 1 == x.first.0 + x.count) k)) t.tasks

  abbrev pub isrs_allow : Version → Kind → Bool
  isrs_allow v k = list_all (λ (x : Isr). where_has b (isr_range x) (isr_may_in v (b + 1 == x.first.0 + x.count) k)) t.isrs

  -- a tick routine has CountUp, an Expire for each alarm of its counter, and IsrEnd
  abbrev pub counter_allows : Kind → ℕ × Counter → Bool
  counter_allows k p =
      where_has b (counter_range p.1)
      (p.1.count == length (due_of t.alarms p.0) + 2 && tick_order (length (due_of t.alarms p.0)) (b - p.1.first.0) k)

  abbrev pub counters_allow : Kind → Bool
  counters_allow k = list_all (counter_allows k) (enumerate_from 0 t.counters)

  abbrev pub is_owned : Bool
  is_owned = list_any (is_within b) (owners t.tasks t.isrs t.counters)

  abbrev pub is_allowed : Version → Kind → Bool
  is_allowed v k = is_owned && tasks_allow k && isrs_allow v k && counters_allow k

  -- the alarm is the one that is due here
  abbrev pub is_due : ℕ → Bool
  is_due a = list_all (is_due_in t.alarms b a) (enumerate_from 0 t.counters)

  -- a way stays in the owner; in a tick routine it leads to the following block
  abbrev pub is_way : ℕ → Bool
  is_way n =
      list_all (λ (x : Task). where_has b (task_range x) (is_within n (task_range x))) t.tasks
      && list_all (λ (x : Isr). where_has b (isr_range x) (is_within n (isr_range x))) t.isrs
      && list_all (λ (x : Counter). where_has b (counter_range x) (n == b + 1)) t.counters

  -- the kind of a number, if there is one and it may stand here
  abbrev pub judged_at : Version → List ℕ → List ℕ → Option Kind → Read Kind
  judged_at v bytes rest None = Err (fault_at I3 bytes)
  judged_at v bytes rest (Some k) = kept (is_allowed v k) I5 bytes (k, rest)

  unfoldable pub kind_at : Version → List ℕ → Read Kind
  kind_at v bytes = do
    n ← byte_at bytes
    judged_at v bytes n.1 (slice_get blank_kinds n.0)

  abbrev pub task_no_at : List ℕ → Read ℕ
  task_no_at bytes = byte_below_at (length t.tasks) bytes

  abbrev pub alarm_no_at : List ℕ → Read ℕ
  alarm_no_at bytes = byte_below_at (length t.alarms) bytes

  unfoldable pub due_at : List ℕ → Read ℕ
  due_at bytes = do
    a ← alarm_no_at bytes
    kept (is_due a.0) I5 bytes a

  -- the operands of a kind
  unfoldable pub operands_at : Kind → List ℕ → Read Kind
  operands_at (kind.Work _) bytes = do
    n ← tested_at w16 (λ n. nat_lt 0 n) I3 bytes
    Ok (kind.Work n.0, n.1)
  operands_at (kind.Choice o) bytes = Ok (kind.Choice o, bytes)
  operands_at kind.Loop bytes = Ok (kind.Loop, bytes)
  operands_at (kind.Call (call.Task k _)) bytes = do
    x ← task_no_at bytes
    Ok ((kind.Call (call.Task k (task_no x.0))), x.1)
  operands_at (kind.Call (call.Plain k)) bytes = Ok (kind.Call (call.Plain k), bytes)
  operands_at (kind.Call (call.Resource k _)) bytes = do
    r ← takable_at t bytes
    Ok ((kind.Call (call.Resource k (res_no r.0))), r.1)
  operands_at (kind.Call (call.SetEvent _ _)) bytes = do
    x ← task_no_at bytes
    m ← events_at x.1
    Ok ((kind.Call (call.SetEvent (task_no x.0) (mask m.0))), m.1)
  operands_at (kind.Call (call.Mask k _)) bytes = do
    m ← events_at bytes
    Ok ((kind.Call (call.Mask k (mask m.0))), m.1)
  operands_at (kind.Call (call.Arm k _ _ _)) bytes = do
    a ← alarm_no_at bytes
    i ← number_at w64 a.1
    c ← number_at w64 i.1
    Ok ((kind.Call (call.Arm k (alarm_no a.0) i.0 c.0)), c.1)
  operands_at (kind.Call (call.Alarm k _)) bytes = do
    a ← alarm_no_at bytes
    Ok ((kind.Call (call.Alarm k (alarm_no a.0))), a.1)
  operands_at (kind.Call (call.Lock _)) bytes = do
    l ← lock_at bytes
    Ok ((kind.Call (call.Lock l.0)), l.1)
  operands_at (kind.Call call.ShutdownOs) bytes = Ok (kind.Call call.ShutdownOs, bytes)
  operands_at kind.TaskEnd bytes = Ok (kind.TaskEnd, bytes)
  operands_at kind.IsrEnd bytes = Ok (kind.IsrEnd, bytes)
  operands_at kind.CountUp bytes = Ok (kind.CountUp, bytes)
  operands_at (kind.Expire _) bytes = do
    a ← due_at bytes
    Ok (kind.Expire (alarm_no a.0), a.1)

  -- the site, where the block is one
  unfoldable pub site_at : Version → Kind → List ℕ → Read (Option Site)
  site_at v k bytes = if is_site_in t.tasks b k then stated_at v (length t.tasks) bytes >>= (λ x. Ok (Some x.0, x.1)) else Ok (None, bytes)

module _ (t : Tables) (blocks b : ℕ) where
  -- the number of one of the blocks, where block b may lead
  unfoldable pub way_at : List ℕ → Read ℕ
  way_at bytes = do
    n ← tested_at w16 (λ n. nat_lt n blocks) I3 bytes
    kept (is_way t b n.0) I5 bytes n

  -- where the block leads: an end nowhere, which stands as its own number, and a choice to two blocks
  unfoldable pub ways_at : Kind → List ℕ → Read (Kind × ℕ)
  ways_at kind.TaskEnd bytes = Ok ((kind.TaskEnd, b), bytes)
  ways_at kind.IsrEnd bytes = Ok ((kind.IsrEnd, b), bytes)
  ways_at (kind.Choice _) bytes = do
    next ← way_at bytes
    other ← way_at next.1
    Ok ((kind.Choice (block_no other.0), next.0), other.1)
  ways_at k bytes = do
    next ← way_at bytes
    Ok ((k, next.0), next.1)

  unfoldable pub block_at : Version → List ℕ → Read (Block × Option Site)
  block_at v bytes = do
    blank ← kind_at t b v bytes
    locked ← flag_at blank.1
    line ← number_at w32 locked.1
    filled ← operands_at t b blank.0 line.1
    ways ← ways_at filled.0 filled.1
    site ← site_at t b v ways.0.0 ways.1
    Ok ((record { kind = ways.0.0; locked = locked.0; line = line.0; next = block_no ways.0.1 }, site.0), site.1)

-- the blocks in order, with their sites
abbrev pub blocks_at : Version → Tables → ℕ → List ℕ → Read (List (Block × Option Site))
blocks_at v t count bytes = entries_at (λ earlier. block_at t count (length earlier) v) [] count bytes
