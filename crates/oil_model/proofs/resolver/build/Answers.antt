-- each part is the system's
use Rattle.std.proofs.Common.{◌≡◌, ℕ, List, map, length, ◌≤◌, sym, subst, ◌∙◌}
use Rattle.std.specs.Prelude.{codes}
use Rattle.oil_tree.specs.declared.tree.Object.{Object}
use Rattle.oil_model.specs.{Objects.{objects_of}, Systems.{modes, events, resources, task, alarm, names_of}}
use Rattle.oil_system.specs.declared.objects.Resource.{Resource}
use Rattle.oil_model.proofs.WithinLimits.{few_resources}
use Rattle.oil_model.proofs.resolver.build.Goals as goal

pub tasks-requires : goal.tasks-requires
tasks-requires c = record {
  allowed = c.requires.allowed;
  activated = c.requires.activated;
  few = subst (λ (names : List (List ℕ)). length names ≤ 8) (sym c.as_slice.ensures) c.in_ok-modes.ensures.few;
  few_resources = subst (λ (rs : List Resource). length rs ≤ 8) (sym (c.as_slice-3.ensures ∙ c.in_ok-resources.ensures)) (few_resources c.args.objects.now c.requires.room);
}

pub alarms-requires : goal.alarms-requires
alarms-requires c = record {
  allowed = c.requires.allowed;
  inside = c.requires.inside;
  room = c.requires.room;
  few = subst (λ (names : List (List ℕ)). length names ≤ 8) (sym c.as_slice-4.ensures) c.in_ok-modes.ensures.few;
}

pub returns : goal.returns
returns c =
    let objects : List Object = c.args.objects.now in
    let modes_of_tasks : c.as_slice.result.now ≡ modes objects = c.as_slice.ensures ∙ c.in_ok-modes.ensures.is in
    let events_of_tasks : c.as_slice-2.result.now ≡ events objects = c.as_slice-2.ensures ∙ c.in_ok-events.ensures in
    let resources_of_tasks : c.as_slice-3.result.now ≡ resources objects = c.as_slice-3.ensures ∙ c.in_ok-resources.ensures in
    let modes_of_alarms : c.as_slice-4.result.now ≡ modes objects = c.as_slice-4.ensures ∙ c.in_ok-modes.ensures.is in
    let events_of_alarms : c.as_slice-5.result.now ≡ events objects = c.as_slice-5.ensures ∙ c.in_ok-events.ensures in
    λ i. record {
      hooks = c.hooks.ensures i;
      tasks = (c.in_ok-tasks.ensures ∙ (λ j. map (task (modes_of_tasks j) (events_of_tasks j) (resources_of_tasks j)) (objects_of (codes "TASK") objects))) i;
      isrs = c.in_ok-isrs.ensures i;
      category_1_isrs = c.in_ok-category_1_isrs.ensures i;
      counters = c.in_ok-counters.ensures i;
      alarms = (c.in_ok-alarms.ensures ∙ (λ j. map (alarm (names_of (codes "COUNTER") objects) (names_of (codes "TASK") objects) (modes_of_alarms j) (events_of_alarms j)) (objects_of (codes "ALARM") objects))) i;
      resources = c.in_ok-resources.ensures i;
      modes = c.in_ok-modes.ensures.is i;
      events = c.in_ok-events.ensures i;
    }

pub counters-requires : goal.counters-requires
counters-requires c = record { allowed = c.requires.allowed; inside = c.requires.inside }

pub isrs-requires : goal.isrs-requires
isrs-requires c = c.requires.allowed

pub resources-requires : goal.resources-requires
resources-requires c = c.requires.allowed

pub modes-requires : goal.modes-requires
modes-requires c = c.requires.room
