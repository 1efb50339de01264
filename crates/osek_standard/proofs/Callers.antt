-- Who calls a service in a well-formed state, and what is known of the block where the processor stands.
use Rattle.std.proofs.Common.{◌≡◌, ℕ, ◌<◌, length, refl, subst, false}
use Rattle.std.specs.{Prelude.{⊤}, declared.option.Option.{Option}}
use Rattle.osek_values.specs.declared.numbers.{TaskNo.{TaskNo}, BlockNo.{BlockNo}, SourceNo.{SourceNo}}
use Rattle.osek_standard.specs.declared.{app.App.{App}, block.Kind.{Kind}, state.{State.{State}, Processor.{Processor}, Caller.{Caller, TheVariants.{Nobody, Task, Routine}}}}
use Rattle.osek_standard.specs.declared.{task_state.Place.{Place}, call.Call.{Call}}
use Rattle.osek_standard.specs.{Validity.{IsAmong, IsOtherWay, NamesEntries}, Apps.{tables, the_block, is_counter}, States.{caller, IfRoutine}, Effects.{moved_by}}
use Rattle.osek_standard.specs.Well.{Well, InOwner, IsOffsetAt, IsOwn, IsProcessor, IsTaskLevel, IsRoutine}
use Rattle.osek_standard.specs.declared.block.Kind.TheVariants as kind
use Rattle.osek_standard.specs.declared.state.Processor.TheVariants as processor
use Rattle.osek_standard.proofs.WellLaws.{own_block, routine_block, calls_by_isr, offset_0}

-- a fact of the task that calls, if a task calls
abbrev pub IfTask : Caller → (TaskNo → Type 0) → Type 0
IfTask Nobody P = ⊤
IfTask (Routine k) P = ⊤
IfTask (Task t) P = P t

pub if_task_onward : (P Q : TaskNo → Type 0) → ((t : TaskNo) → P t → Q t) → (c : Caller) → IfTask c P → IfTask c Q
if_task_onward P Q f Nobody h = tt
if_task_onward P Q f (Routine k) h = tt
if_task_onward P Q f (Task t) h = f t h

-- who calls has the processor
abbrev pub IsAtProcessor : State → Caller → Type 0
IsAtProcessor s Nobody = ⊤
IsAtProcessor s (Routine k) = (over : Option TaskNo) × (s.processor ≡ processor.Interrupted k over)
IsAtProcessor s (Task t) = s.processor ≡ processor.Running t

at_processor_by : (s : State) (p : Processor) → s.processor ≡ p → IsAtProcessor s (caller p)
at_processor_by s processor.Halted e = tt
at_processor_by s processor.Idle e = tt
at_processor_by s (processor.Running t) e = e
at_processor_by s (processor.Interrupted k over) e = (over, e)

pub at_processor : (s : State) → IsAtProcessor s (caller s.processor)
at_processor s = at_processor_by s s.processor refl

-- a move leaves the processor to whom it was
pub moved_processor : (s : State) (to : Place) (p : Processor) → (moved_by s p to).processor ≡ s.processor
moved_processor s to processor.Halted = refl
moved_processor s to processor.Idle = refl
moved_processor s to (processor.Running t) = refl
moved_processor s to (processor.Interrupted k over) = refl

-- what is known of a task and of a routine that has the processor
pub task_level_of : (app : App) (s : State) (t : TaskNo) → Well app s → s.processor ≡ processor.Running t → IsTaskLevel app s t
task_level_of app s t w e = subst (IsProcessor app s) e w.processor

pub routine_level_of : (app : App) (s : State) (k : SourceNo) (over : Option TaskNo) → Well app s → s.processor ≡ processor.Interrupted k over → IsRoutine app s k over
routine_level_of app s k over w e = subst (IsProcessor app s) e w.processor

module _ (app : App) where
  calls_by : (s : State) (p : Processor) → IsProcessor app s p → IfTask (caller p) (IsTaskLevel app s)
  calls_by s processor.Halted h = tt
  calls_by s processor.Idle h = tt
  calls_by s (processor.Running t) h = h
  calls_by s (processor.Interrupted k over) h = tt

  -- a task that calls is Live, and no routine runs
  pub calls : (s : State) → Well app s → IfTask (caller s.processor) (IsTaskLevel app s)
  calls s w = calls_by s s.processor w.processor

  pub known_caller : (s : State) (c : Caller) → IfTask c (IsTaskLevel app s) → IfTask c (λ (t : TaskNo). t.0 < length app.tasks)
  known_caller s c h = if_task_onward (IsTaskLevel app s) (λ (t : TaskNo). t.0 < length app.tasks) (λ t k. k.running.0) c h

  -- a block of the caller's owner is a task's own, if a task calls
  pub caller_owns : (b : ℕ) (p : Processor) → InOwner app p b → IfTask (caller p) (λ (t : TaskNo). IsOwn app t.0 b)
  caller_owns b processor.Halted h = tt
  caller_owns b processor.Idle h = tt
  caller_owns b (processor.Running t) h = h
  caller_owns b (processor.Interrupted k over) h = tt

  -- a routine that stands at a call is an ISR's
  pub isr_calls : (p : Processor) (b : ℕ) (c : Call) → InOwner app p b → (the_block app b).kind ≡ kind.Call c → IfRoutine (caller p) (λ (k : SourceNo). is_counter app k.0 ≡ false)
  isr_calls processor.Halted b c own e = tt
  isr_calls processor.Idle b c own e = tt
  isr_calls (processor.Running t) b c own e = tt
  isr_calls (processor.Interrupted k over) b c own e = calls_by_isr app k.0 b c own e

  -- what is known of a block of the caller's owner
  pub record BlockHere (p : Processor) (b : ℕ) : Type 0 where
    pub operands : NamesEntries (tables app) (the_block app b).kind
    pub next : InOwner app p (the_block app b).next.0
    pub other : (o : BlockNo) → (the_block app b).kind ≡ kind.Choice o → InOwner app p o.0

  other_way : (first count : ℕ) (k : Kind) → IsOtherWay (tables app) first count k → (o : BlockNo) → k ≡ kind.Choice o → IsAmong o.0 first count
  other_way first count k h o e = subst (IsOtherWay (tables app) first count) e h

  pub block_here : (s : State) (p : Processor) (b : ℕ) → IsProcessor app s p → InOwner app p b → BlockHere p b
  block_here s processor.Halted b h own = absurd own
  block_here s processor.Idle b h own = absurd own
  block_here s (processor.Running t) b h own = let x = own_block app t.0 b h.running.0 own in
      record { operands = x.operands; next = x.next; other = other_way _ _ (the_block app b).kind x.other }
  block_here s (processor.Interrupted k over) b h own = let x = routine_block app k.0 b h.known own in
      record { operands = x.operands; next = x.next; other = other_way _ _ (the_block app b).kind x.other }

  -- each block of the caller's owner may be entered
  pub enters : (s : State) → Well app s → (b : ℕ) → InOwner app s.processor b → IsOffsetAt (the_block app b).kind 0
  enters s w b own = offset_0 app _ (block_here s s.processor b w.processor own).operands
