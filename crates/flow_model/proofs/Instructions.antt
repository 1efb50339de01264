-- Which instruction a step is.
use Rattle.std.proofs.Common.{◌≡◌, Bool, refl, ap, ◌∙◌, None}
use Rattle.osek_values.specs.declared.{event.Event.TheVariants.{Run}, numbers.BlockNo.{BlockNo}}
use Rattle.osek_standard.specs.declared.{app.App.{App}, block.Kind.{Kind}, state.{State.{State}, Processor.{Processor}}}
use Rattle.osek_standard.specs.declared.state.Processor.TheVariants as processor
use Rattle.osek_standard.specs.{Apps.{the_block}, States.{here}, Well.{IsActive}, Effects.{Effect, effect, effect_by, effect_at}}
use Rattle.osek_standard.specs.{Dispatch.{Outcome, Stepped, instruction, outcome, outcome_of, settled}, Arrivals.{arrival}, Kernel.{step, run_by, entered_or}}
use Rattle.osek_standard.specs.Outcomes.{Did, did, arrived_or, shown_by, shows}
use Rattle.flow_model.specs.{declared.runner.Runner.{Runner}, Runners.{Stands}}
use Rattle.flow_model.proofs.Standing.{is_active}

abbrev itself : Stepped → Stepped
itself n = n

module _ (app : App) (s : State) where
  effect_active : (choice : Bool) (p : Processor) → IsActive p → effect_by app s choice p ≡ effect_at app s choice (here s) (the_block app (here s).block.0) (the_block app (here s).block.0).kind
  effect_active choice processor.Halted active = absurd active
  effect_active choice processor.Idle active = absurd active
  effect_active choice (processor.Running t) active = refl
  effect_active choice (processor.Interrupted k over) active = refl

  -- the effect of an instruction at block b
  pub effect_there : (r : Runner) (b : BlockNo) (k : Kind) (choice : Bool) → Stands app s r b → (the_block app b.0).kind ≡ k → effect app s choice ≡ effect_at app s choice (here s) (the_block app b.0) k
  unfolding effect
  effect_there r b k choice h is =
      effect_active choice s.processor (is_active app s r b h)
      ∙ ap (λ (c : BlockNo). effect_at app s choice (here s) (the_block app c.0) (the_block app c.0).kind) h.block
      ∙ ap (effect_at app s choice (here s) (the_block app b.0)) is

  runs_active : (choice : Bool) (p : Processor) → IsActive p → run_by itself app s (instruction app s choice) p ≡ entered_or itself app s (instruction app s choice) (arrival app s)
  runs_active choice processor.Halted active = absurd active
  runs_active choice processor.Idle active = absurd active
  runs_active choice (processor.Running t) active = refl
  runs_active choice (processor.Interrupted k over) active = refl

  shows_active : (choice : Bool) (p : Processor) → IsActive p → shown_by app s choice p ≡ arrived_or (did app s choice) (arrival app s)
  shows_active choice processor.Halted active = absurd active
  shows_active choice processor.Idle active = absurd active
  shows_active choice (processor.Running t) active = refl
  shows_active choice (processor.Interrupted k over) active = refl

  -- where no routine begins the step is the instruction
  pub instruction_by : (choice : Bool) → IsActive s.processor → arrival app s ≡ None → step app s (Run choice) ≡ instruction app s choice
  instruction_by choice active none = runs_active choice s.processor active ∙ ap (entered_or itself app s (instruction app s choice)) none

  pub shown_so : (choice : Bool) → IsActive s.processor → arrival app s ≡ None → shows app s (Run choice) ≡ Did (outcome app s choice) (effect app s choice).notes.status
  shown_so choice active none = shows_active choice s.processor active ∙ ap (arrived_or (did app s choice)) none

  -- the state after an instruction whose effect and outcome are known
  pub state_after : (choice : Bool) (e : Effect) (o : Outcome) → effect app s choice ≡ e → outcome_of app e ≡ o → (instruction app s choice).state ≡ settled app e.state o
  unfolding instruction
  state_after choice e o is does = ap (λ (f : Effect). settled app f.state (outcome_of app f)) is ∙ ap (settled app e.state) does
