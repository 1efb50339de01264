-- What the effect of an instruction is where a caller stands, and when it may dispatch.
use Rattle.std.proofs.Common.{◌≡◌, ℕ, Bool, refl, sym, subst, ◌⊎◌, inl, inr, not}
use Rattle.osek_values.specs.declared.status.Ask.{Ask}
use Rattle.osek_values.specs.declared.status.Ask.TheVariants as ask
use Rattle.osek_standard.specs.declared.{app.App.{App}, task_state.Place.{Place}}
use Rattle.osek_standard.specs.declared.state.{State.{State}, Caller.{Caller, TheVariants.{Nobody, Task, Routine}}, Processor.{Processor}}
use Rattle.osek_standard.specs.declared.state.Processor.TheVariants as processor
use Rattle.osek_standard.specs.{Apps.{the_block, is_extended}, States.{here, task_state}, Services.{Answer, holds_some, share, wait_event}}
use Rattle.osek_standard.specs.{Effects.{Effect, effect, effect_by, effect_at}, Well.{AreOut, IsActive}}
use Rattle.osek_standard.proofs.BoolLaws.{either_way}
use Rattle.generic_kernel.specs.Moves.{MayDispatch}

module _ (app : App) (s : State) where
  -- without a wait, WaitEvent changes nothing
  pub waits_or_stays : (c : Caller) (m : ℕ) → ((wait_event app s c m).ask ≡ ask.Left) ⊎ ((wait_event app s c m).state ≡ s)
  unfolding wait_event
  waits_or_stays Nobody m = inr refl
  waits_or_stays (Routine k) m = inr refl
  waits_or_stays (Task c) m =
      let P : Answer → Type 0 = λ a. (a.ask ≡ ask.Left) ⊎ (a.state ≡ s) in
      either_way P (not (is_extended app c.0)) _ _ (inr refl)
      (either_way P (holds_some s c.0) _ _ (inr refl)
      (either_way P (share (task_state s c.0).events.0 m) _ _ (inr refl) (inl refl)))

  abbrev HasEffectAt : Bool → Place → Effect → Type 0
  HasEffectAt choice at e = e ≡ effect_at app s choice at (the_block app at.block.0) (the_block app at.block.0).kind

  effect_of_active : (choice : Bool) (p : Processor) → IsActive p → HasEffectAt choice (here s) (effect_by app s choice p)
  effect_of_active choice processor.Halted active = absurd active
  effect_of_active choice processor.Idle active = absurd active
  effect_of_active choice (processor.Running t) active = refl
  effect_of_active choice (processor.Interrupted k over) active = refl

  -- the effect is that of the instruction where the caller stands
  pub effect_here : (choice : Bool) (at : Place) → IsActive s.processor → at ≡ here s → effect app s choice ≡ effect_at app s choice at (the_block app at.block.0) (the_block app at.block.0).kind
  unfolding effect
  effect_here choice at active e = subst (λ (p : Place). HasEffectAt choice p (effect_by app s choice s.processor)) (sym e) (effect_of_active choice s.processor active)

  -- nothing is asked, or no routine runs
  pub may_dispatch_as : (a : Ask) → (a ≡ ask.No) ⊎ AreOut app s → MayDispatch app s a
  may_dispatch_as ask.No h = tt
  may_dispatch_as ask.Maybe (inl e) = absurd (cc)
  may_dispatch_as ask.Maybe (inr out) = out
  may_dispatch_as ask.Left (inl e) = absurd (cc)
  may_dispatch_as ask.Left (inr out) = out
  may_dispatch_as ask.Free (inl e) = absurd (cc)
  may_dispatch_as ask.Free (inr out) = out
