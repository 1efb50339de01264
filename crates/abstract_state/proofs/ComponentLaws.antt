-- The components of an application: each is one of it, and stands at its number.
use Rattle.std.proofs.Common.{◌≡◌, ℕ, zero, suc, ◌+◌, ◌-◌, ◌<◌, ◌≤◌, Bool, true, cond, List, [], ◌∷◌, ◌++◌, length, map, filter, get_or, flat_map, refl, sym, subst, ◌∙◌, inl, inr, arith, add-one}
use Rattle.std.specs.{Prelude.{if◌then◌else◌}, List.{range_with_len}}
use Rattle.std.proofs.lemmas.{Bool.{cases_Bool, cases_lt}, List.{get_or_append_left, get_or-append_right, length-append}}
use Rattle.std.proofs.lemmas.List.FromFn.{length-map-range_with_len, get_or-map-range_with_len}
use Rattle.osek_values.specs.{Numbers.{task_no, event_no, alarm_no, source_no}, Bits.{has_bit, passing_below}}
use Rattle.osek_standard.specs.{declared.{app.App.{App}, state.{Processor.{Processor}, State.{State}}}, Apps.{the_task, source_count}, States.{with_processor}}
use Rattle.abstract_state.specs.declared.value.Component.{Component}
use Rattle.abstract_state.specs.declared.value.Component.TheVariants as component
use Rattle.abstract_state.specs.Components.{events_of, components, component_count, component_at, IsComponent, event_start, before_alarms, component_number, part_of}

-- who has the processor is no component
pub processor_part : (s : State) (p : Processor) (c : Component) → part_of (with_processor s p) c ≡ part_of s c
processor_part s p (component.Task t) = refl
processor_part s p (component.Event t j) = refl
processor_part s p (component.Alarm a) = refl
processor_part s p (component.Source k) = refl

-- each element fits its place, counted from a number on
abbrev Each : {X : Type 0} → (ℕ → X → Type 0) → ℕ → List X → Type 0
Each {X} Q from xs = (i : ℕ) (d : X) → i < length xs → Q (from + i) (get_or xs i d)

module _ {X : Type 0} (Q : ℕ → X → Type 0) where
  each_none : (from : ℕ) → Each Q from []
  each_none from i d lt = absurd (omega (arith, lt))

  each_cons : (from : ℕ) (x : X) (xs : List X) → Q from x → Each Q (from + 1) xs → Each Q from (x ∷ xs)
  each_cons from x xs h more zero d lt = subst (λ (n : ℕ). Q n x) (omega arith) h
  each_cons from x xs h more (suc i) d lt = subst (λ (n : ℕ). Q n (get_or xs i d)) (omega arith) (more i d (omega (arith, lt)))

  each_append : (from : ℕ) (xs ys : List X) → Each Q from xs → Each Q (from + length xs) ys → Each Q from (xs ++ ys)
  each_append from xs ys h more i d lt = elim (cases_lt i (length xs)) [
    | inl below ↦ subst (λ (x : X). Q (from + i) x) (sym (get_or_append_left xs ys d i below)) (h i d below)
    | inr above ↦
        (let both = length-append xs ys in
        let place : from + length xs + (i - length xs) ≡ from + i = omega (arith, above) in
        subst (λ (x : X). Q (from + i) x) (sym (get_or-append_right xs ys (length xs) i d refl above))
        (subst (λ (n : ℕ). Q n (get_or ys (i - length xs) d)) place (more (i - length xs) d (omega (arith, above, lt, both)))))
  ]

  each_range : (from : ℕ) (f : ℕ → X) (n : ℕ) → ((j : ℕ) → j < n → Q (from + j) (f j)) → Each Q from (map f (range_with_len 0 n))
  each_range from f n h i d lt =
      let long = length-map-range_with_len f 0 n in
      let known : i < n = omega (arith, lt, long) in
      subst (λ (x : X). Q (from + i) x) (sym (get_or-map-range_with_len f 0 n i i d known (omega arith))) (h i known)

  each_flat_map : (f : ℕ → List X) (start : ℕ → ℕ) → ((j : ℕ) → start (j + 1) ≡ start j + length (f j)) → (a n : ℕ) → ((j : ℕ) → a ≤ j → j < a + n → Each Q (start j) (f j)) → Each Q (start a) (flat_map f (range_with_len a n))
  each_flat_map f start onward a zero h = each_none (start a)
  each_flat_map f start onward a (suc n) h =
      each_append (start a) (f a) (flat_map f (range_with_len (a + 1) n)) (h a (omega arith) (omega arith))
      (subst (λ (m : ℕ). Each Q m (flat_map f (range_with_len (a + 1) n))) (onward a) (each_flat_map f start onward (a + 1) n (λ j low high. h j (omega (arith, low)) (omega (arith, high)))))

  module _ (test : ℕ → Bool) (f : ℕ → X) (base : ℕ) where
    passing_more : (k : ℕ) → passing_below test (k + 1) ≡ passing_below test k + (if test k then 1 else 0)
    passing_more k = rw add-one refl

    each_passing : (a n : ℕ) → ((j : ℕ) → a ≤ j → j < a + n → test j ≡ true → Q (base + passing_below test j) (f j)) → Each Q (base + passing_below test a) (map f (filter test (range_with_len a n)))
    each_passing a zero h = each_none (base + passing_below test a)
    each_passing a (suc n) h =
        let rest = each_passing (a + 1) n (λ j low high. h j (omega (arith, low)) (omega (arith, high))) in
        elim (cases_Bool (test a)) [
          | inl passes ↦
              (let count : passing_below test (a + 1) ≡ passing_below test a + 1 = subst (λ (b : Bool). passing_below test (a + 1) ≡ passing_below test a + (if b then 1 else 0)) passes (passing_more a) in
              let place : base + passing_below test (a + 1) ≡ base + passing_below test a + 1 = omega (arith, count) in
              let tail : Each Q (base + passing_below test a + 1) (map f (filter test (range_with_len (a + 1) n))) = subst (λ (m : ℕ). Each Q m (map f (filter test (range_with_len (a + 1) n)))) place rest in
              subst (λ (b : Bool). Each Q (base + passing_below test a) (map f (cond b (a ∷ filter test (range_with_len (a + 1) n)) (filter test (range_with_len (a + 1) n))))) (sym passes)
              (each_cons (base + passing_below test a) (f a) (map f (filter test (range_with_len (a + 1) n))) (h a (omega arith) (omega arith) passes) tail))
          | inr fails ↦
              (let count : passing_below test (a + 1) ≡ passing_below test a + 0 = subst (λ (b : Bool). passing_below test (a + 1) ≡ passing_below test a + (if b then 1 else 0)) fails (passing_more a) in
              let place : base + passing_below test (a + 1) ≡ base + passing_below test a = omega (arith, count) in
              subst (λ (b : Bool). Each Q (base + passing_below test a) (map f (cond b (a ∷ filter test (range_with_len (a + 1) n)) (filter test (range_with_len (a + 1) n))))) (sym fails)
              (subst (λ (m : ℕ). Each Q m (map f (filter test (range_with_len (a + 1) n)))) place rest))
        ]

module _ (app : App) where
  -- the application's, at this number
  record Stands (n : ℕ) (x : Component) : Type 0 where
    known : IsComponent app x
    number : component_number app x ≡ n

  tasks_stand : Each Stands 0 (map (λ t. component.Task (task_no t)) (range_with_len 0 (length app.tasks)))
  tasks_stand = each_range Stands 0 (λ t. component.Task (task_no t)) (length app.tasks) (λ j lt. record { known = lt; number = omega arith })

  start_more : (t : ℕ) → event_start app (t + 1) ≡ event_start app t + length (events_of app t)
  start_more t = rw add-one refl

  events_of_stand : (t : ℕ) → t < length app.tasks → Each Stands (length app.tasks + event_start app t) (events_of app t)
  events_of_stand t lt =
      subst (λ (m : ℕ). Each Stands m (events_of app t)) (omega arith)
      (each_passing Stands (has_bit (the_task app t).own.0) (λ k. component.Event (task_no t) (event_no k)) (length app.tasks + event_start app t) 0 64
      (λ k low high passes. record { known = (lt, omega (arith, high), passes); number = refl }))

  events_stand : Each Stands (length app.tasks) (flat_map (events_of app) (range_with_len 0 (length app.tasks)))
  events_stand =
      subst (λ (m : ℕ). Each Stands m (flat_map (events_of app) (range_with_len 0 (length app.tasks)))) (omega arith)
      (each_flat_map Stands (events_of app) (λ t. length app.tasks + event_start app t) (λ t. let more = start_more t in omega (arith, more)) 0 (length app.tasks)
      (λ t low high. events_of_stand t (omega (arith, high))))

  alarms_stand : Each Stands (before_alarms app) (map (λ a. component.Alarm (alarm_no a)) (range_with_len 0 (length app.alarms)))
  alarms_stand = each_range Stands (before_alarms app) (λ a. component.Alarm (alarm_no a)) (length app.alarms) (λ j lt. record { known = lt; number = refl })

  sources_stand : Each Stands (before_alarms app + length app.alarms) (map (λ k. component.Source (source_no k)) (range_with_len 0 (source_count app)))
  sources_stand = each_range Stands (before_alarms app + length app.alarms) (λ k. component.Source (source_no k)) (source_count app) (λ j lt. record { known = lt; number = refl })

  all_stand : Each Stands 0 (components app)
  all_stand =
      let xs = map (λ t. component.Task (task_no t)) (range_with_len 0 (length app.tasks)) in
      let ys = flat_map (events_of app) (range_with_len 0 (length app.tasks)) in
      let zs = map (λ a. component.Alarm (alarm_no a)) (range_with_len 0 (length app.alarms)) in
      let few : length xs ≡ length app.tasks = length-map-range_with_len (λ t. component.Task (task_no t)) 0 (length app.tasks) in
      let ws = map (λ k. component.Source (source_no k)) (range_with_len 0 (source_count app)) in
      let alarms : length zs ≡ length app.alarms = length-map-range_with_len (λ a. component.Alarm (alarm_no a)) 0 (length app.alarms) in
      let both : length (xs ++ ys) ≡ length xs + length ys = length-append xs ys in
      let three : length ((xs ++ ys) ++ zs) ≡ length (xs ++ ys) + length zs = length-append (xs ++ ys) zs in
      each_append Stands 0 ((xs ++ ys) ++ zs) ws
      (each_append Stands 0 (xs ++ ys) zs
      (each_append Stands 0 xs ys tasks_stand (subst (λ (m : ℕ). Each Stands m ys) (omega (arith, few)) events_stand))
      (subst (λ (m : ℕ). Each Stands m zs) (omega (arith, few, both)) alarms_stand))
      (subst (λ (m : ℕ). Each Stands m ws) (omega (arith, few, alarms, both, three)) sources_stand)

  stands_at : (c : ℕ) → c < component_count app → Stands c (component_at app c)
  stands_at c lt = subst (λ (n : ℕ). Stands n (component_at app c)) (omega arith) (all_stand c (component.Alarm (alarm_no 0)) lt)

  -- each number below the count is that of a component
  pub component_known : (c : ℕ) → c < component_count app → IsComponent app (component_at app c)
  component_known c lt = (stands_at c lt).known

  pub component_numbered : (c : ℕ) → c < component_count app → component_number app (component_at app c) ≡ c
  component_numbered c lt = (stands_at c lt).number

  -- the tasks come first
  pub task_counted : (t : ℕ) → t < length app.tasks → t < component_count app
  task_counted t lt =
      let xs = map (λ t. component.Task (task_no t)) (range_with_len 0 (length app.tasks)) in
      let ys = flat_map (events_of app) (range_with_len 0 (length app.tasks)) in
      let zs = map (λ a. component.Alarm (alarm_no a)) (range_with_len 0 (length app.alarms)) in
      let few : length xs ≡ length app.tasks = length-map-range_with_len (λ t. component.Task (task_no t)) 0 (length app.tasks) in
      let ws = map (λ k. component.Source (source_no k)) (range_with_len 0 (source_count app)) in
      omega (arith, few, length-append xs ys, length-append (xs ++ ys) zs, length-append ((xs ++ ys) ++ zs) ws, lt)

  pub task_at_its_number : (t : ℕ) → t < length app.tasks → component_at app t ≡ component.Task (task_no t)
  task_at_its_number t lt =
      let xs = map (λ t. component.Task (task_no t)) (range_with_len 0 (length app.tasks)) in
      let ys = flat_map (events_of app) (range_with_len 0 (length app.tasks)) in
      let zs = map (λ a. component.Alarm (alarm_no a)) (range_with_len 0 (length app.alarms)) in
      let few : length xs ≡ length app.tasks = length-map-range_with_len (λ t. component.Task (task_no t)) 0 (length app.tasks) in
      let d = component.Alarm (alarm_no 0) in
      let ws = map (λ k. component.Source (source_no k)) (range_with_len 0 (source_count app)) in
      get_or_append_left ((xs ++ ys) ++ zs) ws d t (omega (arith, few, length-append xs ys, length-append (xs ++ ys) zs, lt))
      ∙ get_or_append_left (xs ++ ys) zs d t (omega (arith, few, length-append xs ys, lt))
      ∙ get_or_append_left xs ys d t (omega (arith, few, lt))
      ∙ get_or-map-range_with_len (λ t. component.Task (task_no t)) 0 (length app.tasks) t t d lt (omega arith)
