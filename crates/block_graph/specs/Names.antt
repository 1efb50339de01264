-- What the names in task code stand for: an object of the needed kind, by its number.
use Rattle.std.specs.{Prelude.{◌≡◌, ℕ, List, Option, map}, Borrow.{Bor}, List.{position}, Str.{bytes_eq}}
use Rattle.oil_system.specs.declared.{objects.{Alarm.{Alarm}, Resource.{Resource}}, system.{TaskObject.{TaskObject}, IsrObject.{IsrObject}, EventObject.{EventObject}, System.{System}}}

module _ (s : System) where
  abbrev pub task_of : List ℕ → Option ℕ
  task_of name = position (λ (x : TaskObject). bytes_eq name x.name) s.tasks

  -- of category 2
  abbrev pub isr_of : List ℕ → Option ℕ
  isr_of name = position (λ (x : IsrObject). bytes_eq name x.name) s.isrs

  abbrev pub alarm_of : List ℕ → Option ℕ
  alarm_of name = position (λ (x : Alarm). bytes_eq name x.name) s.alarms

  -- RES_SCHEDULER is one of them, where it exists
  abbrev pub resource_of : List ℕ → Option ℕ
  resource_of name = position (λ (x : Resource). bytes_eq name x.name) s.resources

  abbrev pub event_of : List ℕ → Option ℕ
  event_of name = position (λ (x : EventObject). bytes_eq name x.name) s.events

-- names that stand behind references
abbrev pub plain : List (Bor (List ℕ)) → List (List ℕ)
plain names = map (λ (n : Bor (List ℕ)). n.now) names

-- these are the names of a system's tasks, category 2 ISRs, alarms, resources and events, each at its number
pub record AreNumbered (s : System) (of_tasks of_isrs of_alarms of_resources of_events : List (Bor (List ℕ))) : Type 0 where
  pub tasks : plain of_tasks ≡ map (λ (x : TaskObject). x.name) s.tasks
  pub isrs : plain of_isrs ≡ map (λ (x : IsrObject). x.name) s.isrs
  pub alarms : plain of_alarms ≡ map (λ (x : Alarm). x.name) s.alarms
  pub resources : plain of_resources ≡ map (λ (x : Resource). x.name) s.resources
  pub events : plain of_events ≡ map (λ (x : EventObject). x.name) s.events
