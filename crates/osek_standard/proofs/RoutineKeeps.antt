-- Latches, the begin and the end of a routine, and ShutdownOS keep a state well-formed (ISO 17356-3, interrupt
-- processing).
use Rattle.std.proofs.Common.{◌≡◌, ℕ, ◌+◌, ◌<◌, ◌≤◌, Bool, false, length, refl, sym, ◌∙◌, subst, inl, inr, arith, Some, None, get_or-set_same, List, ◌∷◌, map, ap}
use Rattle.std.proofs.{Math.ListN.{length-set, length-map}, lemmas.{Bool.{cases_lt}, List.{get_or-map, get_or_past}}}
use Rattle.std.specs.declared.option.Option.{Option}
use Rattle.osek_values.specs.declared.numbers.{TaskNo.{TaskNo}, SourceNo.{SourceNo}}
use Rattle.osek_standard.specs.declared.{app.App.{App}, state.{State.{State}, Source.{Source}, Processor.{Processor}}}
use Rattle.osek_standard.specs.Apps.{source_count, routine_start, routine_count, no_block}
use Rattle.osek_standard.specs.States.{task_of, with_latch, with_source, source_state, all_out, task_state, with_processor}
use Rattle.osek_standard.specs.{Effects.{returned_by, returned, halted_by, returned_to}, Arrivals.{begun, arrival, entered}}
use Rattle.osek_standard.specs.{Well.{Well, AreOut, IsProcessor, IsRoutine, IsRunningAt, IsRoutineStandingOf}, Line.{places_due, with_line}, Levels.{next_routine}}
use Rattle.osek_standard.specs.declared.state.Source.TheVariants as source
use Rattle.osek_standard.specs.declared.state.Processor.TheVariants as processor
use Rattle.osek_standard.proofs.{WellLaws.{routine_owner, offset_0}, Keeps.{processor_keeps, at_processor_keeps, current_of, due_when_first}}
use Rattle.osek_standard.proofs.{SourceKeeps.{with_source_keeps, began_runs, sources_after}, ArrivalLaws.{arrival_is, latched_known}, PlaceLaws.{places_in}, LineLaws.{put_first}}
use Rattle.osek_standard.proofs.{StackLaws.{no_stack}, NestLaws.{entered_known, next_is, none_next}}

-- each source is out where all are put out
all_are_out : (app : App) (s : State) → AreOut app (all_out s)
all_are_out app s k = elim (cases_lt k (length s.sources)) [
  | inl h ↦ get_or-map (λ _. source.Out) s.sources k source.Out source.Out h
  | inr h ↦ get_or_past (map (λ _. source.Out) s.sources) k source.Out (subst (λ (n : ℕ). n ≤ k) (sym (length-map s.sources (λ _. source.Out))) h)
]

module _ (app : App) (s : State) where
  -- a state with another latch
  pub with_latch_keeps : (k : ℕ) (b : Bool) → Well app s → Well app (with_latch s k b)
  with_latch_keeps k b w = record {
    mode = w.mode;
    tasks_len = w.tasks_len;
    counters_len = w.counters_len;
    alarms_len = w.alarms_len;
    sources_len = w.sources_len;
    latched_len = length-set s.latched k b ∙ w.latched_len;
    tasks = w.tasks;
    counters = w.counters;
    alarms = w.alarms;
    processor = processor_keeps app s (with_latch s k b) (λ u h. h) (λ l. refl) s.processor w.processor;
    line = w.line;
  }

  -- a routine that begins is right
  begun_is_right : (k : ℕ) → k < source_count app → IsRoutineStandingOf app k (begun app k)
  begun_is_right k known =
      let owner = routine_owner app k known in
      let start = routine_start app k in
      let own : (start.0 ≤ start.0) × (start.0 < start.0 + routine_count app k) = (omega arith, omega (arith, owner.some)) in
      record { own = own; offset = offset_0 app _ (owner.each start.0 no_block own).operands; stack = no_stack app; none = λ _. refl }

  -- the routine of a source begins
  pub entered_keeps : (k : SourceNo) → Well app s → k.0 < source_count app → Well app (entered app s k)
  entered_keeps k w known =
      let here : k.0 < length s.sources = omega (arith, w.sources_len, known) in
      let r = with_latch s k.0 false in
      let v = with_latch_keeps k.0 false w in
      let x : Source = source.In (begun app k.0) in
      let has : IsRoutine app (with_source r k.0 x) k (task_of s.processor) = record {
        known = known;
        runs = subst (IsRunningAt app k.0) (sym (get_or-set_same s.sources k.0 x source.Out here)) (begun_is_right k.0 known);
        others = sources_after app r k.0 x v known (begun_is_right k.0 known);
        over = current_of app s s.processor w.processor;
      } in
      with_source_keeps app r k.0 x (processor.Interrupted k (task_of s.processor)) v has refl

  -- an arrival keeps a state well-formed
  pub arrival_keeps : (k : SourceNo) → Well app s → arrival app s ≡ Some k → Well app (entered app s k)
  arrival_keeps k w e =
      let h = arrival_is app s k e in
      entered_keeps k w (omega (arith, latched_known s k.0 h.latched, w.latched_len))

  -- where a routine ended, the next one goes on, or else the processor goes back to what they interrupted
  returned_to_keeps : (k : SourceNo) (over : Option TaskNo) (o : Option SourceNo) → Well app s → IsRoutine app s k over → task_of s.processor ≡ over
      → next_routine app (with_source s k.0 source.Out) ≡ o →
      Well app (returned_to app (with_source s k.0 source.Out) over o).state
  returned_to_keeps k None None w h same e = with_source_keeps app s k.0 source.Out processor.Idle w (none_next app (with_source s k.0 source.Out) e) (sym same)
  returned_to_keeps k (Some t) None w h same e =
      with_source_keeps app s k.0 source.Out (processor.Running t) w (record { running = h.over; out = none_next app (with_source s k.0 source.Out) e }) (sym same)
  returned_to_keeps k over (Some j) w h same e =
      let r = with_source s k.0 source.Out in
      let next = next_is app r j e in
      let right = sources_after app s k.0 source.Out w h.known tt in
      with_source_keeps app s k.0 source.Out (processor.Interrupted j over) w (record {
        known = omega (arith, entered_known app r j.0 next.began, length-set s.sources k.0 source.Out, w.sources_len);
        runs = began_runs app j.0 (source_state r j.0) next.began (right j.0);
        others = right;
        over = h.over;
      }) (sym same)

  returned_by_keeps : (p : Processor) → s.processor ≡ p → IsProcessor app s p → Well app s → Well app (returned_by app s p).state
  returned_by_keeps processor.Halted e h w = w
  returned_by_keeps processor.Idle e h w = w
  returned_by_keeps (processor.Running t) e h w = w
  returned_by_keeps (processor.Interrupted k over) e h w = returned_to_keeps k over (next_routine app (with_source s k.0 source.Out)) w h (ap task_of e) refl

  -- the end of a routine keeps a state well-formed
  pub returned_keeps : Well app s → Well app (returned app s).state
  returned_keeps w = returned_by_keeps s.processor refl w.processor w

  -- all routines are over, and nobody has the processor
  all_out_keeps : (line : List TaskNo) → Well app s → ((t : ℕ) → places_in line t ≡ places_due None t (task_state s t).activity)
      → Well app (with_processor (all_out (with_line s line)) processor.Halted)
  all_out_keeps line w due = record {
    mode = w.mode;
    tasks_len = w.tasks_len;
    counters_len = w.counters_len;
    alarms_len = w.alarms_len;
    sources_len = length-map s.sources (λ _. source.Out) ∙ w.sources_len;
    latched_len = w.latched_len;
    tasks = w.tasks;
    counters = w.counters;
    alarms = w.alarms;
    processor = all_are_out app s;
    line = due;
  }

  -- the task that runs or is interrupted goes first in the line
  first_due : (p : Processor) → s.processor ≡ p → Well app s → (t : ℕ) → places_in (put_first (task_of p) s.line) t ≡ places_due None t (task_state s t).activity
  first_due p e w = subst (λ (q : Processor). (t : ℕ) → places_in (put_first (task_of q) s.line) t ≡ places_due None t (task_state s t).activity) e (due_when_first app s w)

  halted_by_keeps : (p : Processor) → s.processor ≡ p → IsProcessor app s p → Well app s → Well app (halted_by s p)
  halted_by_keeps processor.Halted e h w = w
  halted_by_keeps processor.Idle e h w = at_processor_keeps app s s.line processor.Halted w h (first_due processor.Idle e w)
  halted_by_keeps (processor.Running t) e h w = at_processor_keeps app s (t ∷ s.line) processor.Halted w h.out (first_due (processor.Running t) e w)
  halted_by_keeps (processor.Interrupted k None) e h w = all_out_keeps s.line w (first_due (processor.Interrupted k None) e w)
  halted_by_keeps (processor.Interrupted k (Some t)) e h w = all_out_keeps (t ∷ s.line) w (first_due (processor.Interrupted k (Some t)) e w)

  -- the kernel halts
  pub halted_keeps : Well app s → Well app (halted_by s s.processor)
  halted_keeps w = halted_by_keeps s.processor refl w.processor w
