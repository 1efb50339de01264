-- The texts that stand in many lines of a trace of an application, each a mark and a name.
use Rattle.std.specs.Prelude.{ℕ, List, ◌++◌, map, codes}
use Rattle.oil_system.specs.declared.objects.Resource.{Resource}
use Rattle.osek_standard.specs.declared.{app.App.{App}, objects.{Task.{Task}, Isr.{Isr}, Counter.{Counter}}}

-- of the tasks, of the sources, which are the counters and then the ISRs, and of the resources
pub record LabelTexts : Type 0 where
  pub tasks : List (List ℕ)
  pub sources : List (List ℕ)
  pub resources : List (List ℕ)

abbrev pub task_label : Task → List ℕ
task_label t = codes " " ++ t.name

abbrev pub counter_label : Counter → List ℕ
counter_label c = codes " %" ++ c.name

abbrev pub isr_label : Isr → List ℕ
isr_label i = codes " @" ++ i.name

abbrev pub resource_label : Resource → List ℕ
resource_label r = codes "+" ++ r.name

abbrev pub label_texts : App → LabelTexts
label_texts app = record {
  tasks = map task_label app.tasks;
  sources = map counter_label app.counters ++ map isr_label app.isrs;
  resources = map resource_label app.resources;
}
