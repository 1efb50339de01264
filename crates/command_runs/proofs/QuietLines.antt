-- What a line shows of the tasks after a step, where it showed all of them before it.
use Rattle.std.proofs.Common.{◌≡◌, ℕ, ◌<◌, Bool, List, length, false, if◌then◌else◌, Some, None, IfSome, refl, sym, ◌∙◌, ap}
use Rattle.std.specs.declared.option.Option.{Option}
use Rattle.osek_values.specs.declared.{mask.Mask.{Mask}, status.Letter.{TheVariants.{R, Y}}, numbers.TaskNo.{TaskNo}}
use Rattle.osek_standard.specs.declared.{app.App.{App}, state.{State.{State}, Processor.{Processor}}}
use Rattle.osek_standard.specs.declared.task_state.{Place.{Place}, TaskState.{TaskState}, Activity.{Activity, TheVariants.{Suspended, Live, Waiting}}}
use Rattle.osek_standard.specs.{TaskStates.{further, held, is_inside}, States.{is_that_task, letter_of, nowhere, task_of, task_state}, Effects.{standing_at}, Well.{HasProcessor, Well}}
use Rattle.osek_standard.proofs.Keeps.{current_of}
use Rattle.trace_text.specs.{declared.shown.{KeptTask.{KeptTask}, Shown.{Shown}}, LineParts.{ShowsAll, ShowsOthers, shown_of}}
use Rattle.image_run.specs.Quiet.{ChangesFew, KeepsTasks}

-- what a line shows of a task in this state, under who has the processor
abbrev shown_in : Processor → ℕ → TaskState → Shown
shown_in p t x = record { letter = letter_of p t x; further = further x; events = x.events; inside = is_inside x; stack = held x }

anywhere : (p : Processor) (t : ℕ) (m : Mask) (a : Activity) (to : Place) → shown_in p t (record { activity = standing_at a to; events = m }) ≡ shown_in p t (record { activity = a; events = m })
anywhere p t m Suspended to = refl
anywhere p t m (Live x) to = refl
anywhere p t m (Waiting b) to = refl

-- of the processor a line's tasks show who runs or is interrupted
by_current : (p q : Processor) (t : ℕ) (m : Mask) (a : Activity) → task_of q ≡ task_of p → shown_in q t (record { activity = a; events = m }) ≡ shown_in p t (record { activity = a; events = m })
by_current p q t m Suspended e = refl
by_current p q t m (Live x) e =
    ap (λ (o : Option TaskNo). record { letter = if is_that_task o t then R else Y; further = x.further; events = m; inside = x.inside; stack = x.held }) e
by_current p q t m (Waiting b) e = refl

module _ (s r : State) (k : KeepsTasks s r) where
  shown_same : (t : ℕ) → shown_of r t ≡ shown_of s t
  shown_same t =
      let x = task_state s t in
      let y = task_state r t in
      by_current s.processor r.processor t y.events y.activity k.current
      ∙ sym (anywhere s.processor t y.events y.activity nowhere)
      ∙ ap (shown_in s.processor t) (k.tasks t)
      ∙ anywhere s.processor t x.events x.activity nowhere

-- under another processor that neither the one nor the other task has, the same is shown
by_other : (p q : Processor) (t : ℕ) (m : Mask) (a : Activity) → is_that_task (task_of p) t ≡ false → is_that_task (task_of q) t ≡ false →
    shown_in q t (record { activity = a; events = m }) ≡ shown_in p t (record { activity = a; events = m })
by_other p q t m Suspended e f = refl
by_other p q t m (Live x) e f =
    ap (λ (b : Bool). record { letter = if b then R else Y; further = x.further; events = m; inside = x.inside; stack = x.held }) (f ∙ sym e)
by_other p q t m (Waiting b) e f = refl

-- what was shown of each task is so after a quiet step
pub all_quietly : (app : App) (s r : State) (ks : List KeptTask) → KeepsTasks s r → ShowsAll app s ks → ShowsAll app r ks
all_quietly app s r ks k h = record { count = h.count; each = λ t known. h.each t known ∙ sym (shown_same s r k t) }

known_first : (app : App) (s : State) (o : Option TaskNo) → IfSome o (HasProcessor app s) → IfSome o (λ t. t.0 < length app.tasks)
known_first app s None h = tt
known_first app s (Some t) h = h.0

-- and of each but few after any
pub others_shown : (app : App) (s r : State) (x : Option TaskNo) (ks : List KeptTask) → Well app s → IfSome x (λ t. t.0 < length app.tasks) → ChangesFew x s r → ShowsAll app s ks →
    ShowsOthers app r (task_of s.processor) x ks
others_shown app s r x ks w named few h = record {
  count = h.count;
  one = known_first app s (task_of s.processor) (current_of app s s.processor w.processor);
  other = named;
  each = λ t within own other current.
      let y = task_state s t in
      h.each t within ∙ sym (by_other s.processor r.processor t y.events y.activity own current) ∙ ap (shown_in r.processor t) (sym (few t own other current));
}
