-- A non-preemptive task keeps the processor but by its own instructions that give it up.
use Rattle.std.proofs.Common.{◌≡◌, ℕ, Bool, true, false, refl, sym, subst, ap, ◌∙◌, Some, None}
use Rattle.std.proofs.lemmas.Bool.{false≢true}
use Rattle.std.specs.declared.option.Option.{Option}
use Rattle.osek_values.specs.declared.{event.Event.{Event}, numbers.{SourceNo.{SourceNo}, TaskNo.{TaskNo}}, status.Ask.{Ask}}
use Rattle.osek_values.specs.declared.status.Ask.TheVariants as ask
use Rattle.oil_system.specs.declared.objects.Schedule.{TheVariants.{Non}}
use Rattle.osek_standard.specs.declared.{app.App.{App}, block.Kind.{Kind}, state.{State.{State}, Processor.{Processor}}}
use Rattle.osek_standard.specs.{Apps.{the_task}, States.{caller, task_of, with_source}, Internal.{kept_by}, Services.{count_up}}
use Rattle.osek_standard.specs.{Effects.{asked_over, effect, is_schedule, returned_to}, Kernel.{step}, Well.{IsActive, Well}, Dispatch.{instruction, outcome_by, settled}}
use Rattle.osek_standard.specs.declared.state.Processor.TheVariants as processor
use Rattle.osek_standard.specs.declared.state.Source.TheVariants as source
use Rattle.osek_standard.specs.declared.block.Kind.TheVariants as kind
use Rattle.osek_standard.proofs.Callers.{moved_processor}
use Rattle.kernel_guarantees.specs.{Instructions.{is_end, is_wait}, Scheduling.{gives_up, is_shutdown, kind_at, leaves}}
use Rattle.kernel_guarantees.proofs.{Deeds.{AreDeeds, asked_of}, Effecting.{effect_does}, Reaching.{step_has}}
use Rattle.kernel_guarantees.proofs.CallNames as call

shutdown_leaves : (k : Kind) → is_shutdown k ≡ true → leaves k ≡ true
shutdown_leaves (kind.Call call.ShutdownOs) e = refl
shutdown_leaves _ e = absurd (false≢true e)

end_leaves : (k : Kind) → is_end k ≡ true → leaves k ≡ true
end_leaves (kind.Call (call.Plain call.TerminateTask)) e = refl
end_leaves (kind.Call (call.Task call.ChainTask t)) e = refl
end_leaves kind.TaskEnd e = refl
end_leaves _ e = absurd (false≢true e)

wait_leaves : (k : Kind) → is_wait k ≡ true → leaves k ≡ true
wait_leaves (kind.Call (call.Mask call.WaitEvent m)) e = refl
wait_leaves _ e = absurd (false≢true e)

schedule_leaves : (k : Kind) → is_schedule k ≡ true → leaves k ≡ true
schedule_leaves (kind.Call (call.Plain call.Schedule)) e = refl
schedule_leaves _ e = absurd (false≢true e)

module _ (app : App) (s : State) (c : TaskNo) (now : task_of s.processor ≡ Some c) (non : (the_task app c.0).schedule ≡ Non) (stays : gives_up (caller s.processor) (kind_at app s) ≡ false) where
  abbrev AsBefore : State → Type 0
  AsBefore m = m.processor ≡ s.processor

  abbrev Keeps : State → Ask → Type 0
  Keeps r a = (task_of r.processor ≡ Some c) × (a ≡ ask.No)

  stays_current : (m : State) → AsBefore m → task_of m.processor ≡ Some c
  stays_current m q = ap task_of q ∙ now

  never_leaves : (m : State) (d : TaskNo) → AsBefore m → m.processor ≡ processor.Running d → leaves (kind_at app s) ≡ true → ⊥
  never_leaves m d q e goes = false≢true (sym stays ∙ ap (λ (p : Processor). gives_up (caller p) (kind_at app s)) (sym q ∙ e) ∙ goes)

  never_halts : (p : Processor) → s.processor ≡ p → is_shutdown (kind_at app s) ≡ true → ⊥
  never_halts processor.Halted e off = cc (ap task_of e, now)
  never_halts processor.Idle e off = cc (ap task_of e, now)
  never_halts (processor.Running d) e off = never_leaves s d refl e (shutdown_leaves (kind_at app s) off)
  never_halts (processor.Interrupted k over) e off = false≢true (sym stays ∙ ap (λ (p : Processor). gives_up (caller p) (kind_at app s)) e ∙ off)

  asks_none : (d : TaskNo) → Some d ≡ Some c → asked_over (the_task app d.0).schedule ≡ ask.No
  asks_none d same = let is : d ≡ c = cc (same) in ap (λ (t : TaskNo). asked_over (the_task app t.0).schedule) is ∙ ap asked_over non

  asks_by : (m : State) (p : Processor) → AsBefore m → m.processor ≡ p → asked_of app (caller p) ≡ ask.No
  asks_by m processor.Halted q e = refl
  asks_by m processor.Idle q e = refl
  asks_by m (processor.Running d) q e = asks_none d (ap task_of (sym e) ∙ stays_current m q)
  asks_by m (processor.Interrupted k over) q e = refl

  counting : (m : State) (d : ℕ) → AsBefore m → AsBefore (count_up app m d)
  unfolding count_up
  counting m d q = q

  returning : (m : State) (k : SourceNo) (over : Option TaskNo) (o : Option SourceNo) → over ≡ Some c
      → Keeps (returned_to app (with_source m k.0 source.Out) over o).state (returned_to app (with_source m k.0 source.Out) over o).ask
  returning m k None None e = absurd (cc (e))
  returning m k (Some t) None e = (e, asks_none t e)
  returning m k over (Some j) e = (e, refl)

  keeping_deeds : AreDeeds app (kind_at app s) AsBefore Keeps
  keeping_deeds = record {
    counts = λ m d q up. counting m d q;
    arms = λ m a x q sets. q;
    rests = λ m w q. (stays_current m q, refl);
    takes = λ m d r w q e free low. (stays_current m q, refl);
    gives = λ m d n w q e goes. (stays_current m q, asks_none d (ap task_of (sym e) ∙ stays_current m q));
    routine_takes = λ m l r w q e free low. (stays_current m q, refl);
    routine_gives = λ m l n w q e. (stays_current m q, refl);
    activates = λ m t w q known room goes. (stays_current m q, asks_by m m.processor q refl);
    wakes = λ m t e w q known ext waits goes. (stays_current m q, asks_by m m.processor q refl);
    sets = λ m t e w q known waits sent. (stays_current m q, refl);
    clears = λ m d e w q r goes. (stays_current m q, refl);
    ends = λ m d w q e goes. absurd (never_leaves m d q e (end_leaves (kind_at app s) goes));
    chains = λ m d t w q e known room goes chained. absurd (never_leaves m d q e (end_leaves (kind_at app s) goes));
    waits = λ m d w q e ext none goes. absurd (never_leaves m d q e (wait_leaves (kind_at app s) goes));
    lets_out = λ m d w q e none goes. absurd (never_leaves m d q e (schedule_leaves (kind_at app s) goes));
    returns = λ m l over o w q e f goes. returning m l over o (ap task_of (sym e) ∙ stays_current m q);
    halts = λ m w q off. absurd (never_halts s.processor refl off);
  }

  kept_current : (r : State) (p : Processor) → task_of r.processor ≡ Some c → task_of (kept_by app r p).processor ≡ Some c
  kept_current r processor.Halted e = e
  kept_current r processor.Idle e = e
  kept_current r (processor.Running t) e = e
  kept_current r (processor.Interrupted k over) e = e

  settled_keeps : (r : State) (a : Ask) → Keeps r a → task_of (settled app r (outcome_by app r a)).processor ≡ Some c
  settled_keeps r a h = subst (λ (b : Ask). task_of (settled app r (outcome_by app r b)).processor ≡ Some c) (sym h.1) (kept_current r r.processor h.0)

  instruction_keeps_it : (choice : Bool) → Well app s → IsActive s.processor → task_of (instruction app s choice).state.processor ≡ Some c
  unfolding instruction
  instruction_keeps_it choice w active =
      let e = effect app s choice in
      settled_keeps e.state e.ask (effect_does app AsBefore Keeps s keeping_deeds w active refl (λ to. moved_processor s to s.processor) choice)

  pub stays_at_processor : (e : Event) → Well app s → task_of (step app s e).state.processor ≡ Some c
  stays_at_processor e w = step_has app s (λ r. task_of r.processor ≡ Some c) now (λ k. now) (λ k a. now) (λ choice active. instruction_keeps_it choice w active) e
