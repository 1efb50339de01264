-- A move within the blocks of who has the processor keeps a state well-formed.
use Rattle.std.proofs.Common.{◌≡◌, ℕ, true, refl}
use Rattle.osek_standard.specs.declared.{app.App.{App}, state.{State.{State}, Source.{Source}, Processor.{Processor}}}
use Rattle.osek_standard.specs.declared.task_state.{Place.{Place}, Activity.{Activity, TheVariants.{Suspended, Live, Waiting}}}
use Rattle.osek_standard.specs.{Apps.{the_block}, TaskStates.{is_live_activity}, States.{task_state, source_state, place_in, place_of_source, place_by, here}}
use Rattle.osek_standard.specs.Effects.{source_at, task_at, standing_at, moved_by, moved}
use Rattle.osek_standard.specs.Well.{Well, InOwner, IsActive, IsActivityOf, IsOffsetAt, IsOfRoutine, IsOwn, IsProcessor, IsRunningAt}
use Rattle.osek_standard.specs.declared.block.Kind.TheVariants as kind
use Rattle.osek_standard.specs.declared.state.Source.TheVariants as source
use Rattle.osek_standard.specs.declared.state.Processor.TheVariants as processor
use Rattle.osek_standard.proofs.{LineLaws.{due_moved}, Keeps.{with_task_keeps}, SourceKeeps.{running_is_right, runs_began, in_source_keeps}}

-- a Live task at another place
at_is_right : (app : App) (t : ℕ) (p : Place) (a : Activity) → IsActivityOf app t a → IsOwn app t p.block.0 → IsOffsetAt (the_block app p.block.0).kind p.offset
    → IsActivityOf app t (standing_at a p)
at_is_right app t p Suspended h own off = h
at_is_right app t p (Live x) h own off = record { own = own; offset = off; stack = h.stack; further = h.further }
at_is_right app t p (Waiting b) h own off = h

at_is_live : (p : Place) (a : Activity) → is_live_activity a ≡ true → is_live_activity (standing_at a p) ≡ true
at_is_live p Suspended h = h
at_is_live p (Live x) h = refl
at_is_live p (Waiting b) h = h

module _ (app : App) (k : ℕ) (p : Place) (own : IsOfRoutine app k p.block.0) (off : IsOffsetAt (the_block app p.block.0).kind p.offset) where
  -- a routine at another place of its own
  pub running_at : (x : Source) → IsRunningAt app k x → IsRunningAt app k (source_at x p)
  running_at source.Out h = h
  running_at (source.In x) h = record { own = own; offset = off; stack = h.stack; none = h.none }

module _ (app : App) (s : State) (w : Well app s) where
  moved_by_keeps : (p : Processor) → s.processor ≡ p → IsProcessor app s p → (to : Place) → InOwner app p to.block.0 → IsOffsetAt (the_block app to.block.0).kind to.offset
      → Well app (moved_by s p to)
  moved_by_keeps processor.Halted e h to own off = w
  moved_by_keeps processor.Idle e h to own off = w
  moved_by_keeps (processor.Running t) e h to own off =
      let x = task_state s t.0 in
      let right = w.tasks t.0 h.running.0 in
      with_task_keeps app s t.0 (task_at x to) w h.running.0 (record { activity = at_is_right app t.0 to x.activity right.activity own off; events = right.events })
      (at_is_live to x.activity) (λ o. due_moved to o t.0 x.activity)
  moved_by_keeps (processor.Interrupted k over) e h to own off =
      let x = source_at (source_state s k.0) to in
      let runs = running_at app k.0 to own off (source_state s k.0) h.runs in
      in_source_keeps app s k.0 x w h.known (runs_began app k.0 (source_state s k.0) h.runs) (runs_began app k.0 x runs) (running_is_right app k.0 x runs)

  -- a move within the owner's blocks keeps a state well-formed
  pub moved_keeps : (to : Place) → InOwner app s.processor to.block.0 → IsOffsetAt (the_block app to.block.0).kind to.offset → Well app (moved s to)
  moved_keeps to own off = moved_by_keeps s.processor refl w.processor to own off

  place_own : (t : ℕ) (a : Activity) → IsActivityOf app t a → is_live_activity a ≡ true → IsOwn app t (place_in a).block.0
  place_own t Suspended h live = absurd (cc)
  place_own t (Live x) h live = h.own
  place_own t (Waiting b) h live = absurd (cc)

  source_own : (k : ℕ) (x : Source) → IsRunningAt app k x → IsOfRoutine app k (place_of_source x).block.0
  source_own k source.Out h = absurd h
  source_own k (source.In x) h = h.own

  own_by : (p : Processor) → IsActive p → IsProcessor app s p → InOwner app p (place_by s p).block.0
  own_by processor.Halted a h = a
  own_by processor.Idle a h = a
  own_by (processor.Running t) a h = place_own t.0 (task_state s t.0).activity (w.tasks t.0 h.running.0).activity h.running.1
  own_by (processor.Interrupted k over) a h = source_own k.0 (source_state s k.0) h.runs

  -- the processor stands at a block of the caller's owner
  pub here_own : IsActive s.processor → InOwner app s.processor (here s).block.0
  here_own active = own_by s.processor active w.processor
