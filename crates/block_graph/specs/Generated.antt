-- What is generated for a system from the bodies of its task code.
use Rattle.std.specs.Prelude.{◌≡◌, List, Result, Ok, Err}
use Rattle.osek_values.specs.declared.{refused.LineFault.{LineFault}, refusal.CodeRule.{CodeRule}}
use Rattle.oil_system.specs.declared.system.System.{System}
use Rattle.task_code.specs.declared.tree.{Body.{Body}, Code.{Code}}
use Rattle.block_graph.specs.{declared.linker.Generated.{Generated}, Apps.{tasks_of, isrs_of, counters_of}, Blocks.{app_blocks}, Faults.{HasNoFault, IsLeastFault}}

pub record IsGenerated (s : System) (bodies : List Body) (g : Generated) : Type 0 where
  pub tasks : g.tasks ≡ tasks_of s bodies
  pub isrs : g.isrs ≡ isrs_of s bodies
  pub counters : g.counters ≡ counters_of s bodies
  pub blocks : g.blocks ≡ app_blocks s bodies

-- where there is no fault; else the least fault
abbrev pub Generates : System → Code → Result Generated (LineFault CodeRule) → Type 0
Generates s code (Ok g) = HasNoFault s code × IsGenerated s code.bodies g
Generates s code (Err fault) = IsLeastFault s code fault.rule fault.line
