-- A linkable system and fit code have an answer.
use Rattle.std.proofs.Common.{◌≡◌, refl, sym, subst, List}
use Rattle.std.specs.Prelude.{Option, Some, None, Result, Ok, Err}
use Rattle.osek_standard.specs.{declared.{app.App.{App}, block.Block.{Block}, objects.{Counter.{Counter}, Isr.{Isr}, Task.{Task}}}, Tables.{tabled}, Validity.{IsValid}}
use Rattle.oil_system.specs.declared.system.System.{System}
use Rattle.oil_model.specs.Linkable.{IsLinkable}
use Rattle.task_code.specs.{declared.tree.Code.{Code}, Fit.{AreFit}}
use Rattle.osek_values.specs.declared.{refused.LineFault.{LineFault}, refusal.CodeRule.{CodeRule, TheVariants.{C1}}}
use Rattle.block_graph.specs.{Answers.{IsAnswer}, Apps.{tables_over, tasks_of, isrs_of, counters_of}, declared.linker.Generated.{Generated}, Generated.{Generates}, Blocks.{app_blocks}, Faults.{order, HasNoFault, IsLeastOrNone}}
use Rattle.osek_values.proofs.LeastFaults.{least_or_none}
use Rattle.block_graph.proofs.{LeastFaults.{rules, lines_in, all}, Valid.{valid}}

-- tables that are the system's own are valid
pub valid_with : (s : System) (code : Code) → IsLinkable s → AreFit code → HasNoFault s code
    → (tasks : List Task) (isrs : List Isr) (counters : List Counter) (blocks : List Block)
    → tasks ≡ tasks_of s code.bodies → isrs ≡ isrs_of s code.bodies → counters ≡ counters_of s code.bodies → blocks ≡ app_blocks s code.bodies
    → IsValid (tabled s.hooks tasks isrs counters s.alarms s.resources s.modes blocks)
valid_with s code linkable fit clean tasks isrs counters blocks same_tasks same_isrs same_counters same_blocks =
    let same : tables_over s code.bodies (app_blocks s code.bodies) ≡ tabled s.hooks tasks isrs counters s.alarms s.resources s.modes blocks =
    (λ i. tabled s.hooks (sym same_tasks i) (sym same_isrs i) (sym same_counters i) s.alarms s.resources s.modes (sym same_blocks i)) in
    subst IsValid same (valid s code linkable fit clean)

-- and so are those of what was generated
pub valid_generated : (s : System) (code : Code) (g : Generated) → IsLinkable s → AreFit code → Generates s code (Ok g)
    → IsValid (tabled s.hooks g.tasks g.isrs g.counters s.alarms s.resources s.modes g.blocks)
valid_generated s code g linkable fit made = valid_with s code linkable fit made.0 g.tasks g.isrs g.counters g.blocks made.1.tasks made.1.isrs made.1.counters made.1.blocks

-- the application of a system and its code that have no fault
abbrev app_of : (s : System) (code : Code) → IsLinkable s → AreFit code → HasNoFault s code → App
app_of s code linkable fit clean = record {
  hooks = s.hooks;
  tasks = tasks_of s code.bodies;
  isrs = isrs_of s code.bodies;
  counters = counters_of s code.bodies;
  alarms = s.alarms;
  resources = s.resources;
  modes = s.modes;
  blocks = app_blocks s code.bodies;
  valid = valid s code linkable fit clean;
}

answered : (s : System) (code : Code) → IsLinkable s → AreFit code → (fault : Option (LineFault CodeRule)) → IsLeastOrNone fault s code → (answer : Result App (LineFault CodeRule)) × IsAnswer answer s code
answered s code linkable fit None clean = (Ok (app_of s code linkable fit clean), record { no_fault = clean; hooks = refl; tasks = refl; isrs = refl; counters = refl; alarms = refl; resources = refl; modes = refl; blocks = refl })
answered s code linkable fit (Some fault) least = (Err fault, least)

pub some : (s : System) (code : Code) → IsLinkable s → AreFit code → (answer : Result App (LineFault CodeRule)) × IsAnswer answer s code
some s code linkable fit = let judged = least_or_none order (lines_in s code) rules C1 (all s code) in answered s code linkable fit judged.0 judged.1
