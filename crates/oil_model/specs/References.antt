-- What the rule on references needs to know of the objects.
use Rattle.std.specs.Prelude.{◌≡◌, List, codes}
use Rattle.oil_tree.specs.declared.tree.Object.{Object}
use Rattle.oil_model.specs.{declared.references.References.{References}, NameSets.{KnowsNames}, Objects.{has_scheduler}}

-- it has the names of the kinds that are referred to
pub record KnowsObjects (r : References) (objects : List Object) : Type 0 where
  pub tasks : KnowsNames r.tasks (codes "TASK") objects
  pub events : KnowsNames r.events (codes "EVENT") objects
  pub counters : KnowsNames r.counters (codes "COUNTER") objects
  pub resources : KnowsNames r.resources (codes "RESOURCE") objects
  pub modes : KnowsNames r.modes (codes "APPMODE") objects
  pub scheduler : r.scheduler ≡ has_scheduler objects
