-- The tasks of an application are at or under the ceilings of the resources that they may take.
use Rattle.std.proofs.Common.{◌≡◌, ℕ, ◌*◌, ◌<◌, ◌≤◌, List, length, map, sym, ap, ◌∙◌, subst, arith, inl, inr, IfSome}
use Rattle.std.specs.{Prelude.{Some, codes, slice_get, slice_index_or, All}, List.{AllByRecursion}}
use Rattle.std.proofs.lemmas.{Bool.{cases_lt}, List.{get_or-map, get_or_past, length-map, Elements.{All-from_recursion}}, Option.{get_or_from_slice_get, slice_get_cases, slice_get_within}}
use Rattle.osek_values.specs.declared.numbers.ResNo.{ResNo}
use Rattle.oil_system.specs.declared.{objects.Resource.{Resource}, system.{System.{System}, TaskObject.{TaskObject}}}
use Rattle.osek_standard.specs.declared.{app.App.{App}, objects.Task.{Task}}
use Rattle.osek_standard.specs.{Apps.{the_resource, the_task}, Internal.{internal_of}, Priority.{base_priority, ceiling}, Validity.{no_resource, no_task}}
use Rattle.oil_tree.specs.{AttrLists.{attr_list}, declared.tree.Object.{Object}}
use Rattle.oil_model.specs.{Objects.{priority}, Systems.{above_all, events, internal, modes, resources, system_of, task}}
use Rattle.task_code.specs.declared.tree.{BodyKind.TheVariants.{Task as OfTask}, Code.{Code}}
use Rattle.block_graph.specs.Apps.{HasApp, extent, task_with}
use Rattle.kernel_guarantees.specs.Conditions.{HasGroups, HasTops}
use Rattle.text_guarantees.specs.Naming.{IsScheduler, MayTake, NamesResource, names, scheduler}
use Rattle.text_guarantees.proofs.SystemCeilings.{ReachesTask, internal_found, scheduler_reaches, task_reached, tasks_below, tasks_of, tops}

module _ (objects : List Object) (s : System) (is : s ≡ system_of objects) (code : Code) (app : App) (has : HasApp s code app) where
  abbrev found : List Resource
  found = resources objects

  same_resources : app.resources ≡ found
  same_resources = has.resources ∙ ap (λ (x : System). x.resources) is

  -- what is so of each resource of the system
  pub each_in_app : (P : Resource → Type 0) → AllByRecursion P found → All P app.resources
  each_in_app P h = subst (All P) (sym same_resources) (All-from_recursion P found h)

  abbrev object_of : Object → TaskObject
  object_of = task (modes objects) (events objects) found

  abbrev entry_of : TaskObject → Task
  entry_of x = task_with x (extent OfTask x.name code.bodies 0)

  same_tasks : app.tasks ≡ map entry_of (map object_of (tasks_of objects))
  same_tasks = has.tasks ∙ ap (λ (x : System). map entry_of x.tasks) is

  -- the entry of a task is that of its object
  entry_at : (t : ℕ) (o : Object) → slice_get (tasks_of objects) t ≡ Some o → the_task app t ≡ entry_of (object_of o)
  entry_at t o at =
      let within : t < length (tasks_of objects) = slice_get_within (tasks_of objects) t o at in
      let inside : t < length (map object_of (tasks_of objects)) = omega (arith, length-map (tasks_of objects) object_of) in
      ap (λ (xs : List Task). slice_index_or xs t no_task) same_tasks
      ∙ get_or-map entry_of (map object_of (tasks_of objects)) t (object_of o) no_task inside
      ∙ ap entry_of (get_or-map object_of (tasks_of objects) t o (object_of o) within ∙ ap object_of (get_or_from_slice_get (tasks_of objects) t o o at))

  -- past the last stands one that declares nothing
  entry_past : (t : ℕ) → length (tasks_of objects) ≤ t → the_task app t ≡ no_task
  entry_past t past =
      let behind : length (map entry_of (map object_of (tasks_of objects))) ≤ t = omega
      (arith, length-map (map object_of (tasks_of objects)) entry_of, length-map (tasks_of objects) object_of) in
      ap (λ (xs : List Task). slice_index_or xs t no_task) same_tasks ∙ get_or_past (map entry_of (map object_of (tasks_of objects))) t no_task behind

  resource_past : (r : ℕ) → length app.resources ≤ r → the_resource app r ≡ no_resource
  resource_past r past = get_or_past app.resources r no_resource past

  reached : (t : ℕ) (o : Object) → slice_get (tasks_of objects) t ≡ Some o → AllByRecursion (ReachesTask o) found
  reached t o at = task_reached objects o t at

  -- ---- groups

  group_of : (t : ℕ) (o : Object) → slice_get (tasks_of objects) t ≡ Some o → IfSome (internal_of app t) (λ (r : ResNo). base_priority app t ≤ ceiling app r.0)
  group_of t o at =
      let under = internal_found (λ (x : Resource). 2 * priority o ≤ x.ceiling) found (attr_list o.attrs) (reached t o at) in
      let in_app = subst (λ (xs : List Resource). IfSome (internal found (attr_list o.attrs))
      (λ (r : ResNo). 2 * priority o ≤ (slice_index_or xs r.0 no_resource).ceiling)) (sym same_resources) under in
      subst (λ (x : Task). IfSome x.internal (λ (r : ResNo). 2 * x.priority ≤ ceiling app r.0)) (sym (entry_at t o at)) in_app

  pub groups : HasGroups app
  groups t = elim (slice_get_cases (tasks_of objects) t).1 [
    | inl h ↦ group_of t h.0 h.2
    | inr h ↦ subst (λ (x : Task). IfSome x.internal (λ (r : ResNo). 2 * x.priority ≤ ceiling app r.0)) (sym (entry_past t h.0)) tt
  ]

  -- ---- ceilings of every task

  below_all : (t : ℕ) → base_priority app t ≤ above_all (tasks_of objects)
  below_all t = elim (slice_get_cases (tasks_of objects) t).1 [
    | inl h ↦ omega (arith, ap (λ (x : Task). x.priority) (entry_at t h.0 h.2), tasks_below objects h.0 t h.2)
    | inr h ↦ omega (arith, ap (λ (x : Task). x.priority) (entry_past t h.0))
  ]

  pub all_tops : HasTops app
  all_tops r t some = elim (cases_lt r (length app.resources)) [
    | inl known ↦ omega (
      arith,
      below_all t,
      each_in_app (λ (x : Resource). 0 < x.interrupt_ceiling → above_all (tasks_of objects) ≤ x.ceiling)
          (tops objects) r no_resource known some,
    )
    | inr past ↦ absurd (omega (arith, some, ap (λ (x : Resource). x.interrupt_ceiling) (resource_past r past)))
  ]

  -- ---- what a task may take

  names_under : (t r : ℕ) → NamesResource objects app t r → base_priority app t ≤ ceiling app r
  names_under t r h =
      let under = each_in_app (ReachesTask h.task) (reached t h.task h.declared) r no_resource h.known h.named in
      omega (arith, under, ap (λ (x : Task). x.priority) (entry_at t h.task h.declared))

  scheduler_over : (t r : ℕ) → IsScheduler objects app r → base_priority app t ≤ ceiling app r
  scheduler_over t r h = elim (cases_lt r (length app.resources)) [
    | inl known ↦ omega (
      arith,
      below_all t,
      each_in_app (λ (x : Resource). x.name ≡ codes "RES_SCHEDULER" → above_all (tasks_of objects) ≤ x.ceiling)
          (scheduler_reaches objects h.exists) r no_resource known h.name,
    )
    | inr past ↦ absurd (let none : no_resource.name ≡ codes "RES_SCHEDULER" = ap (λ (x : Resource). x.name) (sym (resource_past r past)) ∙ h.name in cc)
  ]

  pub taken_under : (t r : ℕ) → MayTake objects app t r → base_priority app t ≤ ceiling app r
  taken_under t r (names h) = names_under t r h
  taken_under t r (scheduler h) = scheduler_over t r h
