-- What an instruction at a site does to the sources: in a task nothing, and in a routine its end alone is a site.
use Rattle.std.proofs.{Common.{◌≡◌, ℕ, ◌+◌, ◌<◌, Bool, true, false, refl, sym, ◌∙◌, subst, inl, inr, not, nat_lt}, lemmas.Bool.{cases_Bool}}
use Rattle.std.specs.Prelude.{⊤, if◌then◌else◌}
use Rattle.osek_values.specs.declared.numbers.BlockNo.{BlockNo}
use Rattle.osek_standard.specs.declared.{app.App.{App}, block.{Block.{Block}, Kind.{Kind}}}
use Rattle.osek_standard.specs.declared.{state.{State.{State}, Processor.{Processor}, Caller.{Caller, TheVariants.{Nobody, Task, Routine}}}, task_state.Place.{Place}}
use Rattle.osek_standard.specs.{Apps.{the_block, is_extended, is_routine_end, is_site, is_task_block, may_dispatch, source_count}, States.{caller, task_state}}
use Rattle.osek_standard.specs.Services.{Answer, holds_some, share, wait_event}
use Rattle.osek_standard.specs.{Effects.{effect_at, end_task, goes_on_unless_left, halted_by, moved_by, moved_to, place_at, returned_by, called}, Well.{IsOfRoutine}}
use Rattle.osek_standard.specs.declared.block.Kind.TheVariants as kind
use Rattle.osek_standard.specs.declared.state.Processor.TheVariants as processor
use Rattle.osek_standard.proofs.{BoolLaws.{either_way}, Callers.{moved_processor}, SourceLaws.{called_leaves}}
use Rattle.image_model.specs.CallNames as call
use Rattle.image_run.proofs.Apart.{routine_is_no_task_block}

-- a task has the processor
abbrev pub TaskRuns : Processor → Type 0
TaskRuns processor.Halted = ⊥
TaskRuns processor.Idle = ⊥
TaskRuns (processor.Running t) = ⊤
TaskRuns (processor.Interrupted k over) = ⊥

moved_leaves : (s : State) (to : Place) (p : Processor) → TaskRuns p → (moved_by s p to).sources ≡ s.sources
moved_leaves s to processor.Halted r = absurd r
moved_leaves s to processor.Idle r = absurd r
moved_leaves s to (processor.Running t) r = refl
moved_leaves s to (processor.Interrupted k over) r = absurd r

halted_leaves : (s : State) (p : Processor) → TaskRuns p → (halted_by s p).sources ≡ s.sources
halted_leaves s processor.Halted r = absurd r
halted_leaves s processor.Idle r = absurd r
halted_leaves s (processor.Running t) r = refl
halted_leaves s (processor.Interrupted k over) r = absurd r

returned_leaves : (app : App) (s : State) (p : Processor) → TaskRuns p → (returned_by app s p).state.sources ≡ s.sources
returned_leaves app s processor.Halted r = absurd r
returned_leaves app s processor.Idle r = absurd r
returned_leaves app s (processor.Running t) r = refl
returned_leaves app s (processor.Interrupted k over) r = absurd r

end_leaves : (app : App) (s : State) (c : Caller) → (end_task app s c).state.sources ≡ s.sources
end_leaves app s Nobody = refl
end_leaves app s (Routine k) = refl
end_leaves app s (Task t) = refl

wait_leaves : (app : App) (s : State) (c : Caller) (m : ℕ) (next : BlockNo) → (moved_to s next).sources ≡ s.sources → (goes_on_unless_left next (wait_event app s c m)).state.sources ≡ s.sources
unfolding wait_event
wait_leaves app s Nobody m next h = h
wait_leaves app s (Routine k) m next h = h
wait_leaves app s (Task c) m next h =
    let P : Answer → Type 0 = λ a. (goes_on_unless_left next a).state.sources ≡ s.sources in
    either_way P (not (is_extended app c.0)) _ _ h (either_way P (holds_some s c.0) _ _ h (either_way P (share (task_state s c.0).events.0 m) _ _ h refl))

called_leaves_by : (app : App) (s : State) (p : Processor) → TaskRuns p → (k : Kind) → (called app s (caller p) k).state.sources ≡ s.sources
called_leaves_by app s processor.Halted r k = absurd r
called_leaves_by app s processor.Idle r k = absurd r
called_leaves_by app s (processor.Running t) r k = called_leaves app s t k
called_leaves_by app s (processor.Interrupted j over) r k = absurd r

-- an instruction of a task leaves the sources as they are
pub task_leaves : (app : App) (s : State) → TaskRuns s.processor → (choice : Bool) (p : Place) (b : Block) (k : Kind) → (effect_at app s choice p b k).state.sources ≡ s.sources
task_leaves app s r choice p b (kind.Work n) =
    either_way (λ (a : Answer). a.state.sources ≡ s.sources) (nat_lt (p.offset + 1) n) _ _ (moved_leaves s (place_at p.block (p.offset + 1)) s.processor r) (moved_leaves s (place_at b.next 0) s.processor r)
task_leaves app s r choice p b (kind.Choice other) = moved_leaves s (place_at (if choice then b.next else other) 0) s.processor r
task_leaves app s r choice p b (kind.Call (call.Mask call.WaitEvent m)) = wait_leaves app s (caller s.processor) m.0 b.next (moved_leaves s (place_at b.next 0) s.processor r)
task_leaves app s r choice p b (kind.Call call.ShutdownOs) =
    let moved = moved_to s b.next in
    halted_leaves moved moved.processor (subst TaskRuns (sym (moved_processor s (place_at b.next 0) s.processor)) r) ∙ moved_leaves s (place_at b.next 0) s.processor r
task_leaves app s r choice p b kind.TaskEnd = end_leaves app s (caller s.processor)
task_leaves app s r choice p b kind.IsrEnd = returned_leaves app s s.processor r
task_leaves app s r choice p b k = called_leaves_by app (moved_to s b.next) s.processor r k ∙ moved_leaves s (place_at b.next 0) s.processor r

end_kind : (k : Kind) → is_routine_end k ≡ true → k ≡ kind.IsrEnd
end_kind kind.IsrEnd e = refl
end_kind _ e = absurd (cc)

end_or_task : (end may task : Bool) → (if end then true else if may then task else false) ≡ true → end ≡ false → task ≡ true
end_or_task true may task e f = absurd (cc)
end_or_task false true task e f = e
end_or_task false false task e f = absurd (cc)

-- in a routine its end alone is a site
pub routine_site : (app : App) (k b : ℕ) → k < source_count app → IsOfRoutine app k b → is_site app b ≡ true → (the_block app b).kind ≡ kind.IsrEnd
routine_site app k b known own site = elim (cases_Bool (is_routine_end (the_block app b).kind)) [
  | inl e ↦ end_kind (the_block app b).kind e
  | inr e ↦ absurd (routine_is_no_task_block app k b known own (end_or_task (is_routine_end (the_block app b).kind) (may_dispatch (the_block app b).kind) (is_task_block app b) site e))
]
