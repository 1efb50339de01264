-- The conditions of WaitEvents, made once for a task and a mask.
use Rattle.std.specs.Prelude.{◌≡◌, ℕ, ◌<◌, List, length, slice_index_or, IfSome}
use Rattle.osek_standard.specs.declared.app.App.{App}
use Rattle.flow_effects.specs.declared.{effects.Effects.{Effects}, known_waits.KnownWait.{KnownWait}, waiting.Wait.{Wait}}
use Rattle.flow_effects.specs.Alternatives.{wait_effects, wait_conditions}

abbrev pub IsKnownWait : App → KnownWait → Type 0
IsKnownWait app x = IfSome x.conditions (λ conditions. conditions ≡ wait_conditions app x.task x.mask)

abbrev pub AreKnownWaits : App → List KnownWait → Type 0
AreKnownWaits app known = (i : ℕ) (d : KnownWait) → i < length known → IsKnownWait app (slice_index_or known i d)

-- what is at a place is of the WaitEvent's task and mask
pub record IsPlaceOf (w : Wait) (known : List KnownWait) (i : ℕ) : Type 0 where
  pub listed : i < length known
  pub task : (d : KnownWait) → (slice_index_or known i d).task ≡ w.task
  pub mask : (d : KnownWait) → (slice_index_or known i d).mask ≡ w.mask

-- if the effects are said to be those of a WaitEvent, they are
abbrev pub AreOfTheirWait : App → Effects → Type 0
AreOfTheirWait app x = IfSome x.wait (λ w. x ≡ wait_effects app w)

-- and have the case in which the task waits
abbrev pub HaveWaitingCase : Effects → Type 0
HaveWaitingCase x = IfSome x.wait (λ w. 1 < length x.cases)
