-- What holds of each task code text that has no fault (this project's profile), beside its grammar.
use Rattle.std.specs.Prelude.{ℕ, ◌+◌, ◌≤◌, ◌<◌, max, length, All, IsTrue, ⊤}
use Rattle.osek_values.specs.declared.limits.TheConstants.{MAX_CODE_DEPTH}
use Rattle.task_code.specs.{declared.{call.Call.{Call, TheVariants.{SetEvent, ClearEvent, WaitEvent}}, tree.{Body.{Body}, Code.{Code}}}, Faults.{is_count}}
use Rattle.task_code.specs.Statements.{Statements, closed, work_then, if_then, if_else_then, while_then, call_then}

-- each `work` takes as many instructions as it may
abbrev pub HasCounts : Statements → Type 0
HasCounts (closed line) = ⊤
HasCounts (work_then line count next) = IsTrue (is_count count) × HasCounts next
HasCounts (if_then line branch next) = HasCounts branch × HasCounts next
HasCounts (if_else_then line branch otherwise next) = HasCounts branch × HasCounts otherwise × HasCounts next
HasCounts (while_then line condition body next) = HasCounts body × HasCounts next
HasCounts (call_then line call next) = HasCounts next

-- a mask names at least one event
abbrev pub NamesEvents : Call → Type 0
NamesEvents (SetEvent task mask) = 1 ≤ length mask
NamesEvents (ClearEvent mask) = 1 ≤ length mask
NamesEvents (WaitEvent mask) = 1 ≤ length mask
NamesEvents _ = ⊤

-- each mask does
abbrev pub HasMasks : Statements → Type 0
HasMasks (closed line) = ⊤
HasMasks (work_then line count next) = HasMasks next
HasMasks (if_then line branch next) = HasMasks branch × HasMasks next
HasMasks (if_else_then line branch otherwise next) = HasMasks branch × HasMasks otherwise × HasMasks next
HasMasks (while_then line condition body next) = HasMasks body × HasMasks next
HasMasks (call_then line call next) = NamesEvents call × HasMasks next

-- how deep braces nest within a list of statements, its own left out
abbrev pub depth : Statements → ℕ
depth (closed line) = 0
depth (work_then line count next) = depth next
depth (if_then line branch next) = max (depth branch + 1) (depth next)
depth (if_else_then line branch otherwise next) = max (max (depth branch + 1) (depth otherwise + 1)) (depth next)
depth (while_then line condition body next) = max (depth body + 1) (depth next)
depth (call_then line call next) = depth next

-- a body that can be linked: its braces nest at most 32 deep, its own among them
pub record IsFit (body : Body) : Type 0 where
  pub counts : HasCounts body.statements
  pub masks : HasMasks body.statements
  pub depth : depth body.statements < MAX_CODE_DEPTH

abbrev pub AreFit : Code → Type 0
AreFit code = All IsFit code.bodies
