-- What a task can be at a point, in a few numbers.
use Rattle.std.specs.Prelude.{ℕ, zero, suc, ◌≡◌, ◌<◌, ◌↔◌, ◌==◌, ◌||◌, Bool, false, not, IsTrue, Some, None, length}
use Rattle.osek_values.specs.declared.numbers.BlockNo.{BlockNo}
use Rattle.osek_standard.specs.{declared.{app.App.{App}, point.Point.{Point}}, Validity.{IsAmong}, Well.{IsOwn, IsStack, IsWaitingAt}}
use Rattle.osek_standard.specs.declared.point.Point.TheVariants as point
use Rattle.abstract_state.specs.declared.value.{LiveVal.{LiveVal}, Val.TheVariants.{Suspended, Live, Waiting}, PartValue.TheVariants.{OfTask}, Component.{Component}}
use Rattle.abstract_state.specs.declared.value.Component.TheVariants as component
use Rattle.abstract_state.specs.{Components.{IsPart}, ValueOrder.{flag_field}}
use Rattle.table_codec.specs.declared.shape.Shape.{Shape}

-- the task of a shape
abbrev pub shaped : Shape → Component
shaped x = component.Task x.task

-- Whether a Live task of the shape may be inside, 1, or not, 0: one that runs or is interrupted is so exactly where it names
-- an INTERNAL resource.
abbrev pub IsFlag : Shape → ℕ → Type 0
IsFlag x zero = IsTrue (x.is_free || not x.named)
IsFlag x (suc zero) = IsTrue x.named
IsFlag x (suc (suc n)) = ⊥

-- what a Live task of the shape can be
pub record IsLiveShaped (app : App) (x : Shape) (v : LiveVal) : Type 0 where
  pub among : IsAmong v.block.0 x.first.0 x.count
  pub further : v.further < x.activation
  pub flag : IsFlag x (flag_field v.inside)
  pub stack : IsStack app v.held

-- Each of its numbers says what the task can be at its point.
pub record IsShape (app : App) (x : Shape) : Type 0 where
  pub known : x.task.0 < length app.tasks
  pub suspended : IsTrue x.is_free ↔ IsPart app x.point (shaped x) (OfTask Suspended)
  pub live : (v : LiveVal) → IsLiveShaped app x v ↔ IsPart app x.point (shaped x) (OfTask (Live v))
  pub some : 0 < x.count
  pub takes : 0 < x.activation
  pub waiting : (b : BlockNo) → (IsTrue x.is_free × IsWaitingAt app x.task.0 b.0) ↔ IsPart app x.point (shaped x) (OfTask (Waiting b))
  pub waits : IsTrue x.waits ↔ ((b : BlockNo) × IsPart app x.point (shaped x) (OfTask (Waiting b)))

-- the point is over the task
abbrev pub is_over : Point → ℕ → Bool
is_over point.Halted t = false
is_over point.Idle t = false
is_over (point.Task b) t = false
is_over (point.Routine b None) t = false
is_over (point.Routine b (Some u)) t = u.0 == t

-- the task has the processor at the block
pub record HasProcessorAt (app : App) (p : Point) (t : ℕ) (b : BlockNo) : Type 0 where
  pub at : p ≡ point.Task b
  pub own : IsOwn app t b.0

abbrev pub HasProcessorNowhere : App → Point → ℕ → Type 0
HasProcessorNowhere app p t = (b : BlockNo) → HasProcessorAt app p t b → ⊥
