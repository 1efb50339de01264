-- Instructions that note nothing leave each task as high as it was.
use Rattle.std.proofs.{Common.{◌≡◌, ℕ, refl, ap, arith, Bool, true, false, None, Some, IfSome, ◌<◌, List, length, sym, ◌∙◌}, lemmas.Bool.{false≢true, eq-eqb}}
use Rattle.std.specs.{Int.Bits.{and_zero_r}, declared.option.Option.{Option}, Prelude.{if◌then◌else◌, is_some}, List.{cons_option}}
use Rattle.osek_values.specs.{Hooks.{hook_set}, declared.{mask.Mask.{Mask}, numbers.{ResNo.{ResNo}, TaskNo.{TaskNo}}}}
use Rattle.osek_standard.specs.declared.{app.App.{App}, state.{State.{State}, Processor.{Processor}}}
use Rattle.osek_standard.specs.declared.task_state.{Place.{Place}, TaskState.{TaskState}, Activity.{Activity, TheVariants.{Suspended, Live, Waiting}}}
use Rattle.osek_standard.specs.{TaskStates.{is_live}, States.{caller, task_of, task_state, is_that_task}, Priority.{base_priority, highest}, Services.{counted_by}}
use Rattle.osek_standard.specs.{Line.{first_in_line, out_of_line}, Dispatch.{dispatched}}
use Rattle.osek_standard.specs.{Effects.{moved, moved_by, standing_at, task_at, wanted, returned}, Well.{Well, HasProcessor, IsProcessor}}
use Rattle.osek_standard.specs.Internal.{occupied, internal_of, inside_as, put_inside}
use Rattle.osek_standard.specs.declared.state.Processor.TheVariants as processor
use Rattle.osek_standard.proofs.Keeps.{task_after}
use Rattle.generic_kernel.specs.{Levels.{level, level_if}, Moves.{task_inside, KeepsLevels}}
use Rattle.generic_kernel.proofs.TaskLaws.{counted_leaves_task, returned_leaves_task}

pub nothing_wanted : (app : App) → wanted app 0 ≡ hook_set 0
nothing_wanted app = ap hook_set (and_zero_r app.hooks.0)

module _ (app : App) where
  -- how high a task is that has this state
  abbrev level_in : ℕ → TaskState → Option ℕ
  level_in t x = level_if (is_live x) (highest app (base_priority app t) (occupied app t x))

  -- the level says nothing of the place
  placed : (t : ℕ) (m : Mask) (a : Activity) (to : Place) → level_in t (record { activity = standing_at a to; events = m }) ≡ level_in t (record { activity = a; events = m })
  placed t m Suspended to = refl
  placed t m (Live x) to = refl
  placed t m (Waiting w) to = refl

  -- where the tasks are as they were, they are as high
  pub same_levels : (s r : State) → ((u : ℕ) → task_state r u ≡ task_state s u) → (u : ℕ) → level app r u ≡ level app s u
  same_levels s r same u = ap (level_in u) (same u)

  module _ (s : State) (w : Well app s) (to : Place) where
    moved_levels_by : (p : Processor) → IsProcessor app s p → (u : ℕ) → level app (moved_by s p to) u ≡ level app s u
    moved_levels_by processor.Halted h u = refl
    moved_levels_by processor.Idle h u = refl
    moved_levels_by (processor.Running t) h u =
        task_after s t.0 (task_at (task_state s t.0) to) (omega (arith, w.tasks_len, h.running.0)) (λ (v : ℕ) (y : TaskState). level_in v y ≡ level app s v)
        (placed t.0 (task_state s t.0).events (task_state s t.0).activity to) (λ v other. refl) u
    moved_levels_by (processor.Interrupted k over) h u = refl

    -- a move
    pub moved_levels : (u : ℕ) → level app (moved s to) u ≡ level app s u
    moved_levels u = moved_levels_by s.processor w.processor u

  -- the end of a routine
  pub returned_levels : (s : State) (u : ℕ) → level app (returned app s).state u ≡ level app s u
  returned_levels s = same_levels s (returned app s).state (λ u. returned_leaves_task app u s s.processor)

  -- a tick
  pub counted_levels : (s : State) (u : ℕ) → level app (counted_by app s (caller s.processor)) u ≡ level app s u
  counted_levels s = same_levels s (counted_by app s (caller s.processor)) (λ u. counted_leaves_task app u s (caller s.processor))

  either_none : (b : Bool) (o : Option ResNo) → o ≡ None → (if b then o else None) ≡ None
  either_none true o e = e
  either_none false o e = refl

  -- inside or not, a task that names no INTERNAL resource is as high
  inside_or_not : (t : ℕ) (b : Bool) (m : Mask) (a : Activity) → internal_of app t ≡ None
      → level_in t (record { activity = inside_as b a; events = m }) ≡ level_in t (record { activity = a; events = m })
  inside_or_not t b m Suspended none = refl
  inside_or_not t b m (Live x) none =
      ap (λ (o : Option ResNo). Some (highest app (base_priority app t) (cons_option o x.held))) (either_none b (internal_of app t) none ∙ sym (either_none x.inside (internal_of app t) none))
  inside_or_not t b m (Waiting c) none = refl

  kept_level : (s : State) (t : TaskNo) (o : Option ResNo) → internal_of app t.0 ≡ o → is_that_task (if is_some o then Some t else None) t.0 ≡ false →
      level_in t.0 (record (task_state s t.0) { activity = inside_as (is_some o) (task_state s t.0).activity }) ≡ level app s t.0
  kept_level s t None e f = inside_or_not t.0 false (task_state s t.0).events (task_state s t.0).activity e
  kept_level s t (Some r) e f = absurd (false≢true (sym f ∙ eq-eqb t.0 t.0 refl))

  -- a task that is inside, or no longer, where it names an INTERNAL resource: no other is higher or lower
  inside_levels : (s : State) (t : TaskNo) → t.0 < length s.tasks → (u : ℕ) → is_that_task (task_inside app (processor.Running t)) u ≡ false → level app (put_inside app s (Some t)) u ≡ level app s u
  inside_levels s t known u e =
      let o = internal_of app t.0 in
      task_after s t.0 (record (task_state s t.0) { activity = inside_as (is_some o) (task_state s t.0).activity }) known
      (λ (v : ℕ) (y : TaskState). is_that_task (task_inside app (processor.Running t)) v ≡ false → level_in v y ≡ level app s v)
      (kept_level s t o refl) (λ v other f. refl) u e

  line_levels : (s : State) (c x : Option TaskNo) (u : ℕ) → level app (out_of_line (first_in_line s c) x) u ≡ level app s u
  line_levels s None None u = refl
  line_levels s None (Some t) u = refl
  line_levels s (Some c) None u = refl
  line_levels s (Some c) (Some t) u = refl

  line_tasks : (s : State) (c x : Option TaskNo) → (out_of_line (first_in_line s c) x).tasks ≡ s.tasks
  line_tasks s None None = refl
  line_tasks s None (Some t) = refl
  line_tasks s (Some c) None = refl
  line_tasks s (Some c) (Some t) = refl

  -- and so is one that gets it, and each other
  pub dispatched_levels : (s : State) → Well app s → (o : Option TaskNo) → IfSome o (HasProcessor app s) → KeepsLevels app s (dispatched app s o)
  dispatched_levels s w None live u e = line_levels s (task_of s.processor) None u
  dispatched_levels s w (Some t) live u e =
      let r = out_of_line (first_in_line s (task_of s.processor)) (Some t) in
      let known : t.0 < length r.tasks = omega (arith, w.tasks_len, live.0, ap (λ (xs : List TaskState). length xs) (line_tasks s (task_of s.processor) (Some t))) in
      inside_levels r t known u e ∙ line_levels s (task_of s.processor) (Some t) u
