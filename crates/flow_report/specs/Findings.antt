-- What can't happen, by a table of possible states (this project's profile).
use Rattle.std.specs.Prelude.{◌≡◌, ◌⊎◌, ℕ, ◌<◌, ◌^◌, length, IsTrue}
use Rattle.osek_values.specs.declared.{event.Event.{Event}, numbers.{ModeNo.{ModeNo}, ResNo.{ResNo}, BlockNo.{BlockNo}}}
use Rattle.osek_values.specs.{Bits.{has_bit}, Hooks.{startup, shutdown, error, pre_task, post_task}}
use Rattle.osek_standard.specs.declared.{app.App.{App}, state.{State.{State}, AlarmState.TheVariants.{Idle}}, task_state.Activity.TheVariants.{Suspended}}
use Rattle.osek_standard.specs.declared.block.Kind.TheVariants as kind
use Rattle.image_model.specs.CallNames as call
use Rattle.osek_standard.specs.{Apps.{the_task, the_block}, States.{task_state, alarm_state, is_taken}, Services.{share}, TraceText.{has_hook}, Dispatch.{Stepped, silent}}
use Rattle.osek_standard.specs.{Kernel.{start, step}, Points.{point_of, StandsAt}}
use Rattle.abstract_state.specs.Tables.{Sets, In}
use Rattle.flow_report.specs.declared.finding.Finding.{Finding}
use Rattle.flow_report.specs.declared.finding.Finding.TheVariants as finding

abbrev pub IsHook : ℕ → Type 0
IsHook h = (h ≡ error) ⊎ ((h ≡ startup) ⊎ ((h ≡ shutdown) ⊎ ((h ≡ post_task) ⊎ (h ≡ pre_task))))

-- the mask is that of this one event of the task's own
pub record IsOwnEvent (app : App) (t m k : ℕ) : Type 0 where
  pub known : k < 64
  pub own : IsTrue (has_bit (the_task app t).own.0 k)
  pub is : m ≡ 2 ^ k

module _ (app : App) where
  -- the resource that a block takes
  abbrev pub Takes : BlockNo → ResNo → Type 0
  Takes b r = (the_block app b.0).kind ≡ kind.Call (call.Resource call.GetResource r)

  -- What a finding speaks of is the application's.
  abbrev pub IsOf : Finding → Type 0
  IsOf (finding.Suspended t) = t.0 < length app.tasks
  IsOf (finding.Unarmed a) = a.0 < length app.alarms
  IsOf (finding.Unset t m) = (t.0 < length app.tasks) × (k : ℕ) × IsOwnEvent app t.0 m.0 k
  IsOf (finding.Silent h) = IsHook h.0 × IsTrue (has_hook app.hooks h.0)
  IsOf (finding.Free b) = (b.0 < length app.blocks) × (r : ResNo) × Takes b r
  IsOf (finding.Dead b) = b.0 < length app.blocks

  -- What a finding denies of a state and of what was noted on the way to it.
  abbrev pub Denies : Finding → Stepped → Type 0
  Denies (finding.Suspended t) x = (task_state x.state t.0).activity ≡ Suspended → ⊥
  Denies (finding.Unarmed a) x = alarm_state x.state a.0 ≡ Idle → ⊥
  Denies (finding.Unset t m) x = IsTrue (share (task_state x.state t.0).events.0 m.0)
  Denies (finding.Silent h) x = IsTrue (has_hook x.notes.hooks h.0)
  Denies (finding.Free b) x = StandsAt (point_of x.state) b × (r : ResNo) × Takes b r × IsTrue (is_taken x.state r.0)
  Denies (finding.Dead b) x = StandsAt (point_of x.state) b

module _ (app : App) (table : Sets) where
  -- no state in the table is as the finding denies
  abbrev pub NoStateIs : Finding → Type 0
  NoStateIs f = (s : State) → In app table s → Denies app f (silent s) → ⊥

  -- neither the start in a mode nor a step from a state in the table is as the finding denies
  pub record NoStepIs (f : Finding) : Type 0 where
    pub starts : (m : ModeNo) → m.0 < length app.modes → Denies app f (start app m) → ⊥
    pub steps : (s : State) (e : Event) → In app table s → Denies app f (step app s e) → ⊥

  -- some state in the table stands at the block
  pub record IsReachedBlock (b : BlockNo) : Type 0 where
    pub state : State
    pub inside : In app table state
    pub stands : StandsAt (point_of state) b

  abbrev pub HoldsOf : Finding → Type 0
  HoldsOf (finding.Suspended t) = NoStateIs (finding.Suspended t)
  HoldsOf (finding.Unarmed a) = NoStateIs (finding.Unarmed a)
  HoldsOf (finding.Unset t m) = NoStateIs (finding.Unset t m)
  HoldsOf (finding.Silent h) = NoStepIs (finding.Silent h)
  HoldsOf (finding.Free b) = IsReachedBlock b × NoStateIs (finding.Free b)
  HoldsOf (finding.Dead b) = NoStateIs (finding.Dead b)

  -- The finding is one of the table.
  abbrev pub Holds : Finding → Type 0
  Holds f = IsOf app f × HoldsOf f
