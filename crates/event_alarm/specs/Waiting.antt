-- Where a task calls WaitEvent.
use Rattle.std.specs.Prelude.{⊤}
use Rattle.osek_standard.specs.{declared.{app.App.{App}, state.{State.{State}, Caller.{Caller, TheVariants.{Nobody, Task, Routine}}}}, Apps.{the_block}, States.{here}}
use Rattle.osek_standard.specs.Well.{IsWaitEvent}

-- a task that calls stands at a WaitEvent block
abbrev pub StandsAtWaitEvent : App → State → Caller → Type 0
StandsAtWaitEvent app s Nobody = ⊤
StandsAtWaitEvent app s (Task t) = IsWaitEvent (the_block app (here s).block.0).kind
StandsAtWaitEvent app s (Routine k) = ⊤
