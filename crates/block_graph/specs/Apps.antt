-- The application of a system and its task code.
use Rattle.std.specs.Prelude.{◌≡◌, ℕ, ◌+◌, if◌then◌else◌, List, [], ◌∷◌, map}
use Rattle.osek_values.specs.Numbers.{block_no}
use Rattle.oil_system.specs.declared.system.{CounterObject.{CounterObject}, IsrObject.{IsrObject}, TaskObject.{TaskObject}, System.{System}}
use Rattle.osek_standard.specs.{declared.{app.App.{App}, objects.{Counter.{Counter}, Isr.{Isr}, Task.{Task}}, block.Block.{Block}}, Tables.{Tables, tabled}, Validity.{due_of}}
use Rattle.task_code.specs.declared.tree.{BodyKind.{BodyKind}, Body.{Body}, Code.{Code}}
use Rattle.task_code.specs.declared.tree.BodyKind.TheVariants as body_kind
use Rattle.block_graph.specs.{Blocks.{size, source_size, routine_size, app_blocks}, Rules.{is_code_of}, Faults.{HasNoFault}}

-- the blocks of the code of a task or an ISR among bodies that begin at block n: the first, and how many
abbrev pub extent : BodyKind → List ℕ → List Body → ℕ → ℕ × ℕ
extent kind name [] n = (n, 0)
extent kind name (body ∷ more) n = if is_code_of kind name body then (n, size body) else extent kind name more (n + size body)

-- A task's own event bits, priority, autostart, activations and INTERNAL resource are the system's.
abbrev pub task_with : TaskObject → ℕ × ℕ → Task
task_with x e = record {
  name = x.name;
  priority = x.priority;
  schedule = x.schedule;
  own = x.own;
  autostart = x.autostart;
  first = block_no e.0;
  count = e.1;
  activation = x.activation;
  internal = x.internal;
}

-- The resources that it names end here: its code takes no others.
abbrev pub isr_with : IsrObject → ℕ × ℕ → Isr
isr_with x e = record { name = x.name; first = block_no e.0; count = e.1; priority = x.priority }

-- TICKSPERBASE ends here
abbrev pub counter_with : CounterObject → ℕ × ℕ → Counter
counter_with x e = record { name = x.name; max = x.max; min_cycle = x.min_cycle; first = block_no e.0; count = e.1 }

module _ (s : System) where
  abbrev pub tasks_of : List Body → List Task
  tasks_of bodies = map (λ (x : TaskObject). task_with x (extent body_kind.Task x.name bodies 0)) s.tasks

  abbrev pub isrs_of : List Body → List Isr
  isrs_of bodies = map (λ (x : IsrObject). isr_with x (extent body_kind.Isr x.name bodies 0)) s.isrs

  -- the counters from number c on, whose tick routines begin at block n
  abbrev pub counters_from : List CounterObject → (c n : ℕ) → List Counter
  counters_from [] c n = []
  counters_from (x ∷ more) c n =
      let count = routine_size (due_of s.alarms c) in
      counter_with x (n, count) ∷ counters_from more (c + 1) (n + count)

  abbrev pub counters_of : List Body → List Counter
  counters_of bodies = counters_from s.counters 0 (source_size bodies)

  -- the tables of the application, over some blocks
  abbrev pub tables_over : List Body → List Block → Tables
  tables_over bodies blocks = tabled s.hooks (tasks_of bodies) (isrs_of bodies) (counters_of bodies) s.alarms s.resources s.modes blocks

-- The application of a system and its code, where they have no fault. Names of events and category 1 ISRs end here too.
pub record HasApp (s : System) (code : Code) (app : App) : Type 0 where
  pub no_fault : HasNoFault s code
  pub hooks : app.hooks ≡ s.hooks
  pub tasks : app.tasks ≡ tasks_of s code.bodies
  pub isrs : app.isrs ≡ isrs_of s code.bodies
  pub counters : app.counters ≡ counters_of s code.bodies
  pub alarms : app.alarms ≡ s.alarms
  pub resources : app.resources ≡ s.resources
  pub modes : app.modes ≡ s.modes
  pub blocks : app.blocks ≡ app_blocks s code.bodies
