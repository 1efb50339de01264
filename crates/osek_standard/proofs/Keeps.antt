-- What keeps a state well-formed: another state of a task, and another line and processor.
use Rattle.std.proofs.Common.{◌≡◌, ◌≢◌, ℕ, ◌+◌, ◌<◌, true, [], length, refl, sym, ◌∙◌, subst, inl, inr, arith, Some, None, IfSome, get_or-set_same, get_or-set_other, List, ◌∷◌}
use Rattle.std.proofs.Common.{◌++◌}
use Rattle.std.proofs.{lemmas.Bool.{cases_eq, eqb-true, ne_eqb}, Math.ListN.{length-set}}
use Rattle.std.specs.declared.option.Option.{Option}
use Rattle.osek_values.specs.{declared.numbers.TaskNo.{TaskNo}, Numbers.{task_no}}
use Rattle.osek_standard.specs.{declared.{app.App.{App}, state.{State.{State}, Processor.{Processor}}, task_state.TaskState.{TaskState}}, TaskStates.{suspended, is_live}}
use Rattle.osek_standard.specs.{States.{task_state, with_task, source_state, with_processor, here, task_of}, Services.{left}}
use Rattle.osek_standard.specs.{Well.{Well, HasProcessor, IsProcessor, IsRunningAt, IsTaskState, IsSourceState, IsTaskLevel}, Line.{places_due, with_line, last_in_line}}
use Rattle.osek_standard.specs.declared.state.Processor.TheVariants as processor
use Rattle.osek_standard.proofs.{PlaceLaws.{places_in}, LineLaws.{IsLiveIf, due_beside, due_first, due_last, due_other, due_out, put_first, take_out}}

-- the state of another task, or of the one that was set
pub task_after : (s : State) (t : ℕ) (x : TaskState) → t < length s.tasks → (P : ℕ → TaskState → Type 0) → P t x → ((u : ℕ) → u ≢ t → P u (task_state s u)) → (u : ℕ) → P u (task_state (with_task s t x) u)
task_after s t x known P at_t others u = elim (cases_eq u t) [
  | inl same ↦ subst (λ (v : ℕ). P v (task_state (with_task s t x) v)) (sym same) (subst (P t) (sym (get_or-set_same s.tasks t x suspended known)) at_t)
  | inr other ↦ subst (P u) (sym (get_or-set_other s.tasks t u x suspended other)) (others u other)
]

-- a Live task stays Live
live_after : (s : State) (t : ℕ) (x : TaskState) → t < length s.tasks → (is_live (task_state s t) ≡ true → is_live x ≡ true) →
    (u : ℕ) → is_live (task_state s u) ≡ true → is_live (task_state (with_task s t x) u) ≡ true
live_after s t x known live = task_after s t x known (λ u y. is_live (task_state s u) ≡ true → is_live y ≡ true) live (λ u _ h. h)

module _ (app : App) (s r : State) (live : (u : ℕ) → is_live (task_state s u) ≡ true → is_live (task_state r u) ≡ true) where
  over_keeps : (o : Option TaskNo) → IfSome o (HasProcessor app s) → IfSome o (HasProcessor app r)
  over_keeps None h = tt
  over_keeps (Some t) h = (h.0, live t.0 h.1)

  -- who has the processor has it where no Live task is lost and each source is as it was
  pub processor_keeps : ((k : ℕ) → source_state s k ≡ source_state r k) → (p : Processor) → IsProcessor app s p → IsProcessor app r p
  processor_keeps same processor.Halted h = λ k. sym (same k) ∙ h k
  processor_keeps same processor.Idle h = λ k. sym (same k) ∙ h k
  processor_keeps same (processor.Running t) h = record { running = (h.running.0, live t.0 h.running.1); out = λ k. sym (same k) ∙ h.out k }
  processor_keeps same (processor.Interrupted k over) h = record {
    known = h.known;
    runs = subst (IsRunningAt app k.0) (same k.0) h.runs;
    others = λ l. subst (IsSourceState app l) (same l) (h.others l);
    over = over_keeps over h.over;
  }

-- who runs or is interrupted
pub current_of : (app : App) (s : State) (p : Processor) → IsProcessor app s p → IfSome (task_of p) (HasProcessor app s)
current_of app s processor.Halted h = tt
current_of app s processor.Idle h = tt
current_of app s (processor.Running t) h = h.running
current_of app s (processor.Interrupted k over) h = h.over

current_live : (app : App) (s : State) (o : Option TaskNo) → IfSome o (HasProcessor app s) → (t : ℕ) → IsLiveIf o t (task_state s t).activity
current_live app s None h t e = absurd (cc)
current_live app s (Some u) h t e = subst (λ (n : ℕ). is_live (task_state s n) ≡ true) (eqb-true u.0 t e) h.1

-- is Live
pub live_at_processor : (app : App) (s : State) → Well app s → (t : ℕ) → IsLiveIf (task_of s.processor) t (task_state s t).activity
live_at_processor app s w = current_live app s (task_of s.processor) (current_of app s s.processor w.processor)

module _ (app : App) (s : State) where
  -- a right state of a task, with a processor that is right in the state after, and the line that both ask for
  task_is_well : (t : ℕ) (x : TaskState) (line : List TaskNo) (p : Processor) → Well app s → t < length app.tasks → IsTaskState app t x → IsProcessor app (with_task s t x) p →
      places_in line t ≡ places_due (task_of p) t x.activity → ((u : ℕ) → u ≢ t → places_in line u ≡ places_due (task_of p) u (task_state s u).activity)
      → Well app (with_processor (with_line (with_task s t x) line) p)
  task_is_well t x line p w known right has due others = let here : t < length s.tasks = omega (arith, w.tasks_len) in record {
    mode = w.mode;
    tasks_len = length-set s.tasks t x ∙ w.tasks_len;
    counters_len = w.counters_len;
    alarms_len = w.alarms_len;
    sources_len = w.sources_len;
    latched_len = w.latched_len;
    tasks = λ u h. task_after s t x here (λ v y. v < length app.tasks → IsTaskState app v y) (λ _. right) (λ v _ k. w.tasks v k) u h;
    counters = w.counters;
    alarms = w.alarms;
    processor = processor_keeps app (with_task s t x) (with_processor (with_line (with_task s t x) line) p) (λ u h. h) (λ k. refl) p has;
    line = task_after s t x here (λ v y. places_in line v ≡ places_due (task_of p) v y.activity) due others;
  }

  task_processor : (t : ℕ) (x : TaskState) → Well app s → t < length app.tasks → (is_live (task_state s t) ≡ true → is_live x ≡ true) → IsProcessor app (with_task s t x) s.processor
  task_processor t x w known live = let here : t < length s.tasks = omega (arith, w.tasks_len) in
      processor_keeps app s (with_task s t x) (live_after s t x here live) (λ k. refl) s.processor w.processor

  -- a state with another state of a task is well-formed, where that is right, no running task is lost and no place is asked for
  pub with_task_keeps : (t : ℕ) (x : TaskState) → Well app s → t < length app.tasks → IsTaskState app t x → (is_live (task_state s t) ≡ true → is_live x ≡ true) →
      ((o : Option TaskNo) → places_due o t x.activity ≡ places_due o t (task_state s t).activity) → Well app (with_task s t x)
  with_task_keeps t x w known right live same =
      task_is_well t x s.line s.processor w known right (task_processor t x w known live) (w.line t ∙ sym (same (task_of s.processor))) (λ u _. w.line u)

  -- the same with one place more at the end of the line
  pub with_place_keeps : (t : ℕ) (x : TaskState) → Well app s → t < length app.tasks → IsTaskState app t x → (is_live (task_state s t) ≡ true → is_live x ≡ true) →
      places_due (task_of s.processor) t x.activity ≡ places_due (task_of s.processor) t (task_state s t).activity + 1 → Well app (last_in_line (with_task s t x) t)
  with_place_keeps t x w known right live more =
      task_is_well t x (s.line ++ task_no t ∷ []) s.processor w known right (task_processor t x w known live)
      (due_last t s.line _ _ (w.line t) more) (λ u other. due_other t u s.line _ other (w.line u))

  -- the running task gets another state and leaves the processor, where the line has the places that are due then
  pub left_keeps : (t : TaskNo) (x : TaskState) → Well app s → s.processor ≡ processor.Running t → IsTaskState app t.0 x →
      places_due None t.0 x.activity ≡ places_due (Some t) t.0 (task_state s t.0).activity → Well app (left (with_task s t.0 x))
  left_keeps t x w e right same =
      let h : IsTaskLevel app s t = subst (IsProcessor app s) e w.processor in
      let due : (u : ℕ) → places_in s.line u ≡ places_due (Some t) u (task_state s u).activity
      = subst (λ (p : Processor). (u : ℕ) → places_in s.line u ≡ places_due (task_of p) u (task_state s u).activity) e w.line in
      task_is_well t.0 x s.line processor.Idle w h.running.0 right h.out (due t.0 ∙ sym same)
      (λ u other. due u ∙ due_beside (Some t) u (task_state s u).activity (ne_eqb t.0 u (λ f. other (sym f))))

  -- a state with another line and processor
  pub at_processor_keeps : (line : List TaskNo) (p : Processor) → Well app s → IsProcessor app s p
      → ((t : ℕ) → places_in line t ≡ places_due (task_of p) t (task_state s t).activity) → Well app (with_processor (with_line s line) p)
  at_processor_keeps line p w has due = record {
    mode = w.mode;
    tasks_len = w.tasks_len;
    counters_len = w.counters_len;
    alarms_len = w.alarms_len;
    sources_len = w.sources_len;
    latched_len = w.latched_len;
    tasks = w.tasks;
    counters = w.counters;
    alarms = w.alarms;
    processor = processor_keeps app s (with_processor (with_line s line) p) (λ u h. h) (λ k. refl) p has;
    line = due;
  }

  -- who has the processor goes first in the line
  pub due_when_first : Well app s → (t : ℕ) → places_in (put_first (task_of s.processor) s.line) t ≡ places_due None t (task_state s t).activity
  due_when_first w t = due_first (task_of s.processor) s.line t (task_state s t).activity (live_at_processor app s w t) (w.line t)

  -- and who gets it comes out
  pub due_when_out : (o : Option TaskNo) → Well app s → IfSome o (HasProcessor app s) → (t : ℕ)
      → places_in (take_out o (put_first (task_of s.processor) s.line)) t ≡ places_due o t (task_state s t).activity
  due_when_out o w h t = due_out o (put_first (task_of s.processor) s.line) t (task_state s t).activity (current_live app s o h t) (due_when_first w t)
