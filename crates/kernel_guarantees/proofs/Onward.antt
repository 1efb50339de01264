-- The instruction at the processor: what is known of its block, and the state in which its caller went on.
use Rattle.std.proofs.Common.{◌≡◌, Bool, refl, subst, ap}
use Rattle.osek_standard.specs.declared.{app.App.{App}, block.Kind.{Kind}, state.{State.{State}, Processor.{Processor}}}
use Rattle.osek_standard.specs.{Apps.{tables, the_block}, States.{caller, here}, Validity.{NamesEntries}, Effects.{Effect, effect, effect_at, effect_by, moved_to, place_at}, Well.{InOwner, IsActive, Well}}
use Rattle.osek_standard.specs.declared.state.Processor.TheVariants as processor
use Rattle.osek_standard.proofs.{Callers.{BlockHere, block_here, moved_processor}, EffectKeeps.{moved_to_keeps}, MoveKeeps.{here_own}}
use Rattle.kernel_guarantees.specs.Scheduling.{kind_at}

module _ (app : App) (s : State) where
  abbrev pub onward : State
  onward = moved_to s (the_block app (here s).block.0).next

  -- what the instruction does, were it of this kind
  abbrev pub effect_as : Bool → Kind → Effect
  effect_as choice k = effect_at app s choice (here s) (the_block app (here s).block.0) k

  pub onward_processor : onward.processor ≡ s.processor
  onward_processor = moved_processor s (place_at (the_block app (here s).block.0).next 0) s.processor

  pub onward_caller : caller onward.processor ≡ caller s.processor
  onward_caller = ap caller onward_processor

  module _ (w : Well app s) (active : IsActive s.processor) where
    pub own_block : InOwner app s.processor (here s).block.0
    own_block = here_own app s w active

    pub known_block : BlockHere app s.processor (here s).block.0
    known_block = block_here app s s.processor (here s).block.0 w.processor own_block

    pub onward_well : Well app onward
    onward_well = moved_to_keeps app s w (the_block app (here s).block.0).next known_block.next

    pub operands_of : (k : Kind) → kind_at app s ≡ k → NamesEntries (tables app) k
    operands_of k e = subst (NamesEntries (tables app)) e known_block.operands

    pub effect_is : (choice : Bool) → effect app s choice ≡ effect_as choice (kind_at app s)
    unfolding effect
    effect_is choice = by s.processor refl where
      by : (p : Processor) → s.processor ≡ p → effect_by app s choice p ≡ effect_as choice (kind_at app s)
      by processor.Halted e = absurd (subst IsActive e active)
      by processor.Idle e = absurd (subst IsActive e active)
      by (processor.Running c) e = refl
      by (processor.Interrupted k over) e = refl
