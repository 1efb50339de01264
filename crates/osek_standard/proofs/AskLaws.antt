-- An instruction asks for another dispatch only where no routine runs after its effect.
use Rattle.std.proofs.Common.{◌≡◌, ℕ, ◌+◌, Bool, List, refl, ◌∙◌, ap, ◌⊎◌, inl, inr, Some, None, not, nat_lt, slice_index_or}
use Rattle.std.specs.declared.option.Option.{Option}
use Rattle.osek_values.specs.declared.numbers.{TaskNo.{TaskNo}, BlockNo.{BlockNo}, SourceNo.{SourceNo}}
use Rattle.osek_values.specs.declared.status.Ask.TheVariants as ask
use Rattle.osek_standard.specs.declared.{app.App.{App}, block.{Block.{Block}, Kind.{Kind}}}
use Rattle.osek_standard.specs.declared.state.{State.{State}, Source.{Source}, Processor.{Processor}, Caller.{Caller, TheVariants.{Nobody, Task, Routine}}}
use Rattle.osek_standard.specs.declared.task_state.Place.{Place}
use Rattle.osek_standard.specs.{Apps.{the_block, is_extended}, States.{caller, here, task_state, with_source}, Services.{Answer, holds_some, share, wait_event}}
use Rattle.osek_standard.specs.Effects.{Effect, asks_as, called, effect, effect_at, effect_by, end_task, given_back, goes_on_unless_left, moved_by, moved_to, noted, place_at}
use Rattle.osek_standard.specs.Effects.{returned_by, returned_to}
use Rattle.osek_standard.specs.{Well.{Well, AreOut, IsTaskLevel}, Levels.{next_routine}}
use Rattle.osek_standard.specs.CallNames as call
use Rattle.osek_standard.specs.declared.block.Kind.TheVariants as kind
use Rattle.osek_standard.specs.declared.state.Source.TheVariants as source
use Rattle.osek_standard.specs.declared.state.Processor.TheVariants as processor
use Rattle.osek_standard.proofs.{BoolLaws.{either_way}, Callers.{IfTask, calls, if_task_onward}, SourceLaws.{called_leaves}, NestLaws.{none_next}}

-- it asks nothing, or no routine runs
abbrev pub MayDispatch : App → Effect → Type 0
MayDispatch app e = (e.ask ≡ ask.No) ⊎ AreOut app e.state

module _ (app : App) where
  -- where the sources are as they were, and all were out
  still_out : (s : State) (xs : List Source) → xs ≡ s.sources → AreOut app s → AreOut app (record s { sources = xs })
  still_out s xs e out k = ap (λ (ys : List Source). slice_index_or ys k source.Out) e ∙ out k

  row_may : (s : State) (c : Caller) (k : Kind) → IfTask c (λ (t : TaskNo). AreOut app s) → MayDispatch app (noted app (asks_as app c k (called app s c k)))
  row_may s Nobody k out = inl refl
  row_may s (Routine r) k out = inl refl
  row_may s (Task t) k out = inr (still_out s (called app s (Task t) k).state.sources (called_leaves app s t k) out)

  wait_may : (s : State) (c : Caller) (m : ℕ) (next : BlockNo) → IfTask c (λ (t : TaskNo). AreOut app s) → MayDispatch app (noted app (goes_on_unless_left next (wait_event app s c m)))
  unfolding wait_event
  wait_may s Nobody m next out = inl refl
  wait_may s (Routine r) m next out = inl refl
  wait_may s (Task c) m next out =
      let P : Answer → Type 0 = λ a. MayDispatch app (noted app (goes_on_unless_left next a)) in
      either_way P (not (is_extended app c.0)) _ _ (inl refl) (either_way P (holds_some s c.0) _ _ (inl refl) (either_way P (share (task_state s c.0).events.0 m) _ _ (inl refl) (inr out)))

  end_may : (s : State) (c : Caller) → IfTask c (λ (t : TaskNo). AreOut app s) → MayDispatch app (noted app (end_task app s c))
  end_may s Nobody out = inl refl
  end_may s (Routine r) out = inl refl
  end_may s (Task c) out = inr out

  given_back_may : (s : State) (over : Option TaskNo) → AreOut app s → MayDispatch app (noted app (given_back app s over))
  given_back_may s None out = inr out
  given_back_may s (Some t) out = inr out

  returned_to_may : (s : State) (over : Option TaskNo) (o : Option SourceNo) → next_routine app s ≡ o → MayDispatch app (noted app (returned_to app s over o))
  returned_to_may s over None e = given_back_may s over (none_next app s e)
  returned_to_may s over (Some k) e = inl refl

  returned_may : (s : State) (p : Processor) → MayDispatch app (noted app (returned_by app s p))
  returned_may s processor.Halted = inl refl
  returned_may s processor.Idle = inl refl
  returned_may s (processor.Running t) = inl refl
  returned_may s (processor.Interrupted k over) = let r = with_source s k.0 source.Out in returned_to_may r over (next_routine app r) refl

  out_after_move : (s : State) (to : Place) (p : Processor) → IfTask (caller p) (λ (t : TaskNo). AreOut app s) → IfTask (caller p) (λ (t : TaskNo). AreOut app (moved_by s p to))
  out_after_move s to processor.Halted out = tt
  out_after_move s to processor.Idle out = tt
  out_after_move s to (processor.Running t) out = out
  out_after_move s to (processor.Interrupted k over) out = tt

  module _ (s : State) (w : Well app s) where
    task_out : IfTask (caller s.processor) (λ (t : TaskNo). AreOut app s)
    task_out = if_task_onward (IsTaskLevel app s) (λ (t : TaskNo). AreOut app s) (λ t h. h.out) (caller s.processor) (calls app s w)

    row_after : (b : Block) (k : Kind) → MayDispatch app (noted app (asks_as app (caller s.processor) k (called app (moved_to s b.next) (caller s.processor) k)))
    row_after b k = row_may (moved_to s b.next) (caller s.processor) k (out_after_move s (place_at b.next 0) s.processor task_out)

    effect_at_may : (choice : Bool) (p : Place) (b : Block) (k : Kind) → MayDispatch app (effect_at app s choice p b k)
    effect_at_may choice p b (kind.Work n) = either_way (λ (a : Answer). MayDispatch app (noted app a)) (nat_lt (p.offset + 1) n) _ _ (inl refl) (inl refl)
    effect_at_may choice p b (kind.Choice other) = inl refl
    effect_at_may choice p b (kind.Call (call.Mask call.WaitEvent m)) = wait_may s (caller s.processor) m.0 b.next task_out
    effect_at_may choice p b (kind.Call call.ShutdownOs) = inl refl
    effect_at_may choice p b kind.TaskEnd = end_may s (caller s.processor) task_out
    effect_at_may choice p b kind.IsrEnd = returned_may s s.processor
    effect_at_may choice p b k = row_after b k

    effect_by_may : (choice : Bool) (p : Processor) → MayDispatch app (effect_by app s choice p)
    effect_by_may choice processor.Halted = inl refl
    effect_by_may choice processor.Idle = inl refl
    effect_by_may choice (processor.Running t) = effect_at_may choice (here s) (the_block app (here s).block.0) (the_block app (here s).block.0).kind
    effect_by_may choice (processor.Interrupted k over) = effect_at_may choice (here s) (the_block app (here s).block.0) (the_block app (here s).block.0).kind

    pub effect_may : (choice : Bool) → MayDispatch app (effect app s choice)
    unfolding effect
    effect_may choice = effect_by_may choice s.processor
