-- The flag of an INTERNAL resource: a state stays well-formed with it and without it.
use Rattle.std.proofs.Common.{◌≡◌, ℕ, ◌<◌, Bool, true, length, refl, Some, None, IfSome}
use Rattle.std.specs.{Prelude.{is_some}, declared.option.Option.{Option}}
use Rattle.osek_values.specs.declared.numbers.TaskNo.{TaskNo}
use Rattle.osek_standard.specs.declared.{app.App.{App}, state.{State.{State}, Processor.{Processor}}, task_state.Activity.{Activity, TheVariants.{Suspended, Live, Waiting}}}
use Rattle.osek_standard.specs.{TaskStates.{is_live_activity}, States.{task_state}, Internal.{inside_as, internal_of, kept, kept_by, put_inside, with_inside}}
use Rattle.osek_standard.specs.Well.{Well, HasProcessor, IsActivityOf, IsProcessor}
use Rattle.osek_standard.specs.declared.state.Processor.TheVariants as processor
use Rattle.osek_standard.proofs.{LineLaws.{due_inside}, Keeps.{with_task_keeps}}

inside_is_right : (app : App) (t : ℕ) (b : Bool) (a : Activity) → IsActivityOf app t a → IsActivityOf app t (inside_as b a)
inside_is_right app t b Suspended h = h
inside_is_right app t b (Live x) h = record { own = h.own; offset = h.offset; stack = h.stack; further = h.further }
inside_is_right app t b (Waiting c) h = h

pub inside_is_live : (b : Bool) (a : Activity) → is_live_activity a ≡ true → is_live_activity (inside_as b a) ≡ true
inside_is_live b Suspended h = h
inside_is_live b (Live x) h = refl
inside_is_live b (Waiting c) h = h

module _ (app : App) (s : State) (w : Well app s) where
  -- a task gets its INTERNAL resource, or gives it back
  pub with_inside_keeps : (t : ℕ) (b : Bool) → t < length app.tasks → Well app (with_inside s t b)
  with_inside_keeps t b known =
      let x = task_state s t in
      let right = w.tasks t known in
      with_task_keeps app s t _ w known (record { activity = inside_is_right app t b x.activity right.activity; events = right.events }) (inside_is_live b x.activity)
      (λ o. due_inside b o t x.activity)

  pub put_inside_keeps : (o : Option TaskNo) → IfSome o (HasProcessor app s) → Well app (put_inside app s o)
  put_inside_keeps None h = w
  put_inside_keeps (Some t) h = with_inside_keeps t.0 (is_some (internal_of app t.0)) h.0

  kept_by_keeps : (p : Processor) → IsProcessor app s p → Well app (kept_by app s p)
  kept_by_keeps processor.Halted h = w
  kept_by_keeps processor.Idle h = w
  kept_by_keeps (processor.Running t) h = put_inside_keeps (Some t) h.running
  kept_by_keeps (processor.Interrupted k over) h = w

  -- a task that keeps the processor is inside again
  pub kept_keeps : Well app (kept app s)
  kept_keeps = kept_by_keeps s.processor w.processor
