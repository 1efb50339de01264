-- Which resources a task may take: those that it names in the OIL text (ISO 17356-6, TASK, RESOURCE), and RES_SCHEDULER where that exists.
use Rattle.std.specs.{Prelude.{◌≡◌, ℕ, ◌<◌, List, length, true, Some, codes, slice_get}}
use Rattle.osek_standard.specs.{declared.app.App.{App}, Apps.{the_resource}}
use Rattle.oil_tree.specs.declared.tree.Object.{Object}
use Rattle.oil_model.specs.{Objects.{has_scheduler, objects_of}, Systems.{names_resource}}

-- task t, in order of declaration, names resource r by a RESOURCE of its own
pub record NamesResource (objects : List Object) (app : App) (t r : ℕ) : Type 0 where
  pub task : Object
  pub declared : slice_get (objects_of (codes "TASK") objects) t ≡ Some task
  pub known : r < length app.resources
  pub named : names_resource (the_resource app r).name task ≡ true

-- resource r is RES_SCHEDULER, which exists
pub record IsScheduler (objects : List Object) (app : App) (r : ℕ) : Type 0 where
  pub exists : has_scheduler objects ≡ true
  pub name : (the_resource app r).name ≡ codes "RES_SCHEDULER"

pub data MayTake (objects : List Object) (app : App) (t r : ℕ) : Type 0 where
  names : NamesResource objects app t r → MayTake objects app t r
  scheduler : IsScheduler objects app r → MayTake objects app t r
