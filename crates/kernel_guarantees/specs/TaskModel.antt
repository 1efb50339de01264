-- What becomes of tasks (ISO 17356-3, task state model).
use Rattle.std.specs.Prelude.{◌≡◌, ◌⊎◌, ⊤, ℕ, List, []}
use Rattle.osek_values.specs.declared.{numbers.ResNo.{ResNo}, status.Letter.{Letter, TheVariants.{S, Y, R, W}}}
use Rattle.osek_standard.specs.declared.{app.App.{App}, task_state.{Place.{Place}, Activity.{Activity, TheVariants.{Suspended, Live, Waiting}}}}
use Rattle.osek_standard.specs.{Apps.{the_block, the_task}, Effects.{place_at}}

-- Live at this place, with these resources
abbrev pub IsStandingAs : Place → List ResNo → Activity → Type 0
IsStandingAs p h Suspended = ⊥
IsStandingAs p h (Live x) = (x.at ≡ p) × (x.held ≡ h)
IsStandingAs p h (Waiting b) = ⊥

-- What others may make of a task: it is activated at its first instruction, or released at the block after its WaitEvent.
-- A Live one stays where it stands, with what it holds.
abbrev pub MayBecome : App → ℕ → Activity → Activity → Type 0
MayBecome app t Suspended a = (a ≡ Suspended) ⊎ IsStandingAs (place_at (the_task app t).first 0) [] a
MayBecome app t (Live x) a = IsStandingAs x.at x.held a
MayBecome app t (Waiting b) a = (a ≡ Waiting b) ⊎ IsStandingAs (place_at (the_block app b.0).next 0) [] a

-- the moves that one step makes in the task state model: none from suspended to waiting or back, and a ready task neither
-- ends nor waits
abbrev pub MayMove : Letter → Letter → Type 0
MayMove S S = ⊤
MayMove S Y = ⊤
MayMove S R = ⊤
MayMove S W = ⊥
MayMove Y S = ⊥
MayMove Y Y = ⊤
MayMove Y R = ⊤
MayMove Y W = ⊥
MayMove R S = ⊤
MayMove R Y = ⊤
MayMove R R = ⊤
MayMove R W = ⊤
MayMove W S = ⊥
MayMove W Y = ⊤
MayMove W R = ⊤
MayMove W W = ⊤
