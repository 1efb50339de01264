-- What the tables of the application keep of those of the system, and how many blocks there are.
use Rattle.std.proofs.Common.{◌≡◌, ℕ, zero, suc, ◌+◌, ◌*◌, ◌<◌, ◌≤◌, ◌^◌, List, [], ◌∷◌, length, map, true, cond, eqb, leb, refl, sym, ap, ◌∙◌, subst, arith}
use Rattle.std.proofs.lemmas.{Bool.Decides.{nat_tests}, List.{length-append, length-map, Elements.{All-from_recursion, recursion_from_All}, Sums.{count_by-le-length, sum_by-cons}}, Simd.{map-map}}
use Rattle.std.specs.Prelude.{◌||◌, ◌&&◌, ◌==◌, nat_le, slice_index_or, All, Option, Some, None, count_by}
use Rattle.osek_values.{specs.{Names.{AreNames}, declared.numbers.ResNo.{ResNo}}, proofs.Lists.{each_map}}
use Rattle.oil_system.specs.declared.{objects.{Action.{Action}, Alarm.{Alarm}}, system.{CounterObject.{CounterObject}, IsrObject.{IsrObject}, TaskObject.{TaskObject}, System.{System}}}
use Rattle.oil_system.specs.declared.objects.Action.TheVariants as action
use Rattle.osek_standard.specs.declared.{objects.{Counter.{Counter}, Isr.{Isr}, Task.{Task}}, block.Block.{Block}}
use Rattle.osek_standard.{specs.Validity.{IsAction, IsAlarm, IsInternal, due_of, is_cycle_of, no_counter}, proofs.DueAlarms.{due_count}}
use Rattle.oil_model.specs.Linkable.{IsActionAmong, IsAlarmAmong, IsInternalAmong, IsLinkable, is_cycle_of_object, no_counter_object}
use Rattle.task_code.specs.declared.tree.{Body.{Body}, Code.{Code}}
use Rattle.task_code.specs.declared.tree.BodyKind.TheVariants as body_kind
use Rattle.block_graph.specs.Apps.{counters_from, counters_of, extent, isr_with, isrs_of, tables_over, task_with, tasks_of}
use Rattle.block_graph.specs.{Blocks.{app_blocks, routine, routine_size, routines, source_blocks, source_size}, Faults.{HasNoFault}}
use Rattle.block_graph.proofs.{OwnersCalls.{task_count}, OwnersLaws.{routine_length, source_length}}
use Rattle.block_graph.proofs.ExtentsRules.{few_source_blocks}

-- ---- counters

pub counter_count : (s : System) (xs : List CounterObject) (c n : ℕ) → length (counters_from s xs c n) ≡ length xs
counter_count s [] c n = refl
counter_count s (x ∷ xs) c n = ap suc (counter_count s xs (c + 1) (n + routine_size (due_of s.alarms c)))

counter_name : (s : System) (xs : List CounterObject) (c n : ℕ) → map (λ (x : Counter). x.name) (counters_from s xs c n) ≡ map (λ (x : CounterObject). x.name) xs
counter_name s [] c n = refl
counter_name s (x ∷ xs) c n = ap (λ (names : List (List ℕ)). x.name ∷ names) (counter_name s xs (c + 1) (n + routine_size (due_of s.alarms c)))

-- a counter has the bounds of its object
abbrev HasBounds : Counter → CounterObject → Type 0
HasBounds x o = (x.max ≡ o.max) × (x.min_cycle ≡ o.min_cycle)

counter_bounds : (s : System) (xs : List CounterObject) (c n i : ℕ) (d : Counter) (e : CounterObject) → i < length xs → HasBounds (slice_index_or (counters_from s xs c n) i d) (slice_index_or xs i e)
counter_bounds s [] c n i d e lt = absurd (omega (arith, lt))
counter_bounds s (x ∷ xs) c n zero d e lt = (refl, refl)
counter_bounds s (x ∷ xs) c n (suc i) d e lt = counter_bounds s xs (c + 1) (n + routine_size (due_of s.alarms c)) i d e (omega (arith, lt))

-- ---- alarms

action_named : (s : System) (bodies : List Body) (blocks : List Block) (x : Action) → IsActionAmong (length s.tasks) x → IsAction (tables_over s bodies blocks) x
action_named s bodies blocks (action.ActivateTask t) h = omega (arith, task_count s bodies, h)
action_named s bodies blocks (action.SetEvent t m) h = (omega (arith, task_count s bodies, h.0), h.1)

-- ---- INTERNAL resources

pub internal_kept : (s : System) (bodies : List Body) (blocks : List Block) (o : Option ResNo) → IsInternalAmong s.resources o → IsInternal (tables_over s bodies blocks) o
internal_kept s bodies blocks None h = tt
internal_kept s bodies blocks (Some r) h = h

cycle_kept : (x : Counter) (o : CounterObject) (cycle : ℕ) → HasBounds x o → is_cycle_of_object o cycle ≡ true → is_cycle_of x cycle ≡ true
cycle_kept x o cycle same e = (λ i. (cycle == 0) || (nat_le (same.1 i) cycle && nat_le cycle (same.0 i))) ∙ e

-- ---- how many blocks there are

-- an alarm of a counter is none of a later one
one_more : (k c : ℕ) → cond (eqb k c) 1 0 + cond (leb (c + 1) k) 1 0 ≤ cond (leb c k) 1 0
one_more k c = grind (arith, nat_tests)

more_due : (alarms : List Alarm) (c : ℕ) → count_by (λ (x : Alarm). eqb x.counter.0 c) alarms + count_by (λ (x : Alarm). leb (c + 1) x.counter.0) alarms ≤ count_by (λ (x : Alarm). leb c x.counter.0) alarms
more_due [] c = omega arith
more_due (x ∷ xs) c =
    omega (arith, more_due xs c, one_more x.counter.0 c, sum_by-cons (λ (y : Alarm). cond (eqb y.counter.0 c) 1 0) x xs, sum_by-cons (λ (y : Alarm). cond (leb (c + 1) y.counter.0) 1 0) x xs, sum_by-cons (λ (y : Alarm). cond (leb c y.counter.0) 1 0) x xs)

-- each alarm has one counter
routine_blocks : (s : System) (xs : List CounterObject) (c n : ℕ) → length (routines s xs c n) ≤ length xs * 2 + count_by (λ (x : Alarm). leb c x.counter.0) s.alarms
routine_blocks s [] c n = omega arith
routine_blocks s (x ∷ xs) c n =
    let due = due_of s.alarms c in
    let more = routines s xs (c + 1) (n + routine_size due) in
    omega (arith, routine_blocks s xs (c + 1) (n + routine_size due), length-append (routine due n) more, routine_length due n, due_count s.alarms c, more_due s.alarms c)

pub few_blocks : (s : System) (code : Code) → IsLinkable s → HasNoFault s code → length (app_blocks s code.bodies) ≤ 1056
few_blocks s code linkable clean =
    let bodies = code.bodies in
    omega (
      arith,
      few_source_blocks s code clean,
      linkable.few_counters,
      linkable.few_alarms,
      source_length s bodies 0,
      routine_blocks s s.counters 0 (source_size bodies),
      count_by-le-length (λ (x : Alarm). leb 0 x.counter.0) s.alarms,
      length-append (source_blocks s bodies 0) (routines s s.counters 0 (source_size bodies)),
    )

-- ---- the tables

module _ (s : System) (bodies : List Body) where
  pub isr_count : length (isrs_of s bodies) ≡ length s.isrs
  isr_count = length-map s.isrs (λ (x : IsrObject). isr_with x (extent body_kind.Isr x.name bodies 0))

module _ (s : System) (bodies : List Body) (linkable : IsLinkable s) where
  pub task_names : AreNames (map (λ (x : Task). x.name) (tasks_of s bodies))
  task_names = subst AreNames (sym (map-map (λ (x : Task). x.name) (λ (x : TaskObject). task_with x (extent body_kind.Task x.name bodies 0)) s.tasks)) linkable.task_names

  pub isr_names : AreNames (map (λ (x : Isr). x.name) (isrs_of s bodies))
  isr_names = subst AreNames (sym (map-map (λ (x : Isr). x.name) (λ (x : IsrObject). isr_with x (extent body_kind.Isr x.name bodies 0)) s.isrs)) linkable.isr_names

  pub counter_names : AreNames (map (λ (x : Counter). x.name) (counters_of s bodies))
  counter_names = subst AreNames (sym (counter_name s s.counters 0 (source_size bodies))) linkable.counter_names

  -- what is so of each task of the system
  pub each_task_keeps : (P : Task → Type 0) → All (λ (x : TaskObject). P (task_with x (extent body_kind.Task x.name bodies 0))) s.tasks → All P (tasks_of s bodies)
  each_task_keeps P h =
      All-from_recursion P (tasks_of s bodies)
      (each_map P (λ (x : TaskObject). task_with x (extent body_kind.Task x.name bodies 0)) s.tasks
      (recursion_from_All (λ (x : TaskObject). P (task_with x (extent body_kind.Task x.name bodies 0))) s.tasks h))

  -- what is so of each ISR of the system
  pub each_isr_keeps : (P : Isr → Type 0) → All (λ (x : IsrObject). P (isr_with x (extent body_kind.Isr x.name bodies 0))) s.isrs → All P (isrs_of s bodies)
  each_isr_keeps P h =
      All-from_recursion P (isrs_of s bodies)
      (each_map P (λ (x : IsrObject). isr_with x (extent body_kind.Isr x.name bodies 0)) s.isrs
      (recursion_from_All (λ (x : IsrObject). P (isr_with x (extent body_kind.Isr x.name bodies 0))) s.isrs h))

  pub task_starts : All (λ (x : Task). x.autostart < 2 ^ length s.modes) (tasks_of s bodies)
  task_starts = each_task_keeps (λ (x : Task). x.autostart < 2 ^ length s.modes) linkable.task_starts

  counter_facts : (k : ℕ) (d : Counter) → k < length (counters_of s bodies) → (1 ≤ (slice_index_or (counters_of s bodies) k d).max) × ((slice_index_or (counters_of s bodies) k d).min_cycle ≤ (slice_index_or (counters_of s bodies) k d).max)
  counter_facts k d lt =
      let below : k < length s.counters = omega (arith, lt, counter_count s s.counters 0 (source_size bodies)) in
      let same = counter_bounds s s.counters 0 (source_size bodies) k d no_counter_object below in
      let facts = linkable.each_counter k no_counter_object below in
      (omega (arith, same.0, facts.0), omega (arith, same.0, same.1, facts.1))

  pub some_maximum : (k : ℕ) (d : Counter) → k < length (counters_of s bodies) → 1 ≤ (slice_index_or (counters_of s bodies) k d).max
  some_maximum k d lt = (counter_facts k d lt).0

  pub min_cycles : All (λ (x : Counter). x.min_cycle ≤ x.max) (counters_of s bodies)
  min_cycles = λ k d lt. (counter_facts k d lt).1

  alarm_kept : (blocks : List Block) (x : Alarm) → IsAlarmAmong (length s.tasks) s.counters x → IsAlarm (tables_over s bodies blocks) x
  alarm_kept blocks x among =
      let same = counter_bounds s s.counters 0 (source_size bodies) x.counter.0 no_counter no_counter_object among.counter in
      let counter = slice_index_or (counters_of s bodies) x.counter.0 no_counter in
      let object = slice_index_or s.counters x.counter.0 no_counter_object in
      record {
        counter = omega (arith, among.counter, counter_count s s.counters 0 (source_size bodies));
        action = action_named s bodies blocks x.action among.action;
        time = omega (arith, among.time, same.0);
        cycle = cycle_kept counter object x.cycle same among.cycle;
      }

  pub each_alarm : (blocks : List Block) → All (IsAlarm (tables_over s bodies blocks)) s.alarms
  each_alarm blocks = λ k d lt. alarm_kept blocks (slice_index_or s.alarms k d) (linkable.each_alarm k d lt)
