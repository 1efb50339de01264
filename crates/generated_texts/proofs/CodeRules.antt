-- A generated task code text breaks no rule beside the system of its OIL text.
use Rattle.std.proofs.Common.{◌≡◌, ℕ, ◌+◌, ◌*◌, ◌<◌, ◌≤◌, ⊎_elim, Bool, true, false, not, suc, ◌||◌, List, [], ◌∷◌, ◌++◌, length, map, codes, Option, Some, None, Ok, refl, sym, ap, subst, ◌∙◌, arith}
use Rattle.std.specs.{Prelude.{is_some, filter, if◌then◌else◌}, List.{list_any, flat_map, position, position_or_len}, Str.{bytes_eq}}
use Rattle.std.proofs.lemmas.{Bool.{or_from, or_left, or_right, lt-ltb, cases_eq}, List.{length-append, Folds.{list_any-append}}, Slice.Eq.{bytes_eq-Decides}}
use Rattle.std.proofs.Math.ListN.{drop_of_length-le}
use Rattle.osek_values.specs.{Lines.{IsOneOf}, declared.refusal.CodeRule.{CodeRule, TheVariants.{C1, C2, C3, C4, C6, C7, C8, C9, C10}}}
use Rattle.oil_system.specs.declared.{objects.{Alarm.{Alarm}, Resource.{Resource}}, system.{TaskObject.{TaskObject}, IsrObject.{IsrObject}, EventObject.{EventObject}, System.{System}}}
use Rattle.oil_tree.specs.declared.tree.Object.{Object}
use Rattle.oil_model.specs.{Rules.{repeated}, Systems.{modes, events, resources, names_of, task, isr as isr_of_object, alarm as alarm_of_object, system_of}}
use Rattle.task_code.specs.{declared.tree.{Body.{Body}, BodyKind.TheVariants.{Task, Isr}, Code.{Code}}, Statements.{Statements, closed, closing_line}}
use Rattle.block_graph.specs.{Faults.{HasNoFault}, Locks.{walked, unpaired}, Names.{task_of, isr_of, alarm_of, resource_of, event_of}}
use Rattle.block_graph.specs.Rules.{is_code_of, line_of_body, lacks_code, is_stray, has_same_owner, from_calls, undeclared, undeclared_in, internal_at, internal_in, unnamed_resources, isr_resources_by, statement_lines, block_lines, first_only, lines}
use Rattle.generated_texts.proofs.{Rows.{AllFrom}, TaskNames.{task_name}, OilSentence.{tasks_from, oil_objects}}
use Rattle.generated_texts.proofs.OilSentence as oil
use Rattle.generated_texts.proofs.OilRules.{names_apart, tasks_only, alarm_only, isr_counted}
use Rattle.generated_texts.proofs.CodeLexemes.{Step, works, clears, takes, gives, schedules, waits, asks, activates, sets, arms, IsAmong, Steps, AreSteps}
use Rattle.generated_texts.proofs.CodeSentence.{step_then, steps_then, loop_end, body_end, body_statements, task_body, isr_body, bodies_from, the_code}

-- where an element passes a test, one is found
place_by : {X : Type 0} (p : X → Bool) (x : X) (xs : List X) (b : Bool) → p x ≡ b → (list_any p xs ≡ true → position_or_len p xs < length xs) → (b || list_any p xs) ≡ true → position_or_len p (x ∷ xs) < length (x ∷ xs)
place_by p x xs true e more any = rw e (omega arith)
place_by p x xs false e more any = let inside = more any in rw e (omega (arith, inside))

place_inside : {X : Type 0} (p : X → Bool) (xs : List X) → list_any p xs ≡ true → position_or_len p xs < length xs
place_inside p [] any = absurd cc
place_inside p (x ∷ xs) any = place_by p x xs (p x) refl (place_inside p xs) any

found : {X : Type 0} (p : X → Bool) (xs : List X) → list_any p xs ≡ true → is_some (position p xs) ≡ true
found p xs any = rw (lt-ltb (position_or_len p xs) (length xs) (place_inside p xs any)) refl

at_first : {X : Type 0} (p : X → Bool) (xs : List X) → position_or_len p xs ≡ 0 → list_any p xs ≡ true → position p xs ≡ Some 0
at_first p xs first any = rw (lt-ltb (position_or_len p xs) (length xs) (place_inside p xs any)) (ap Some first)

declared : (o : Option ℕ) (line : ℕ) → is_some o ≡ true → undeclared o line ≡ []
declared None line some = absurd cc
declared (Some number) line some = refl

-- whatever stands in for the objects of the tasks, if it has their names
module _ (f : Object → TaskObject) (named : (o : Object) → (f o).name ≡ o.name) where
  any_task : (k i line : ℕ) (nons : List Bool) → i ≤ k → k < i + length nons → list_any (λ (x : TaskObject). bytes_eq (task_name k) x.name) (map f (tasks_from i line nons)) ≡ true
  any_task k i line [] low high = absurd (omega (arith, low, high))
  any_task k i line (non ∷ nons) low high =
      let t = oil.task_object i line non in
      ⊎_elim
      (λ same. or_left (bytes_eq (task_name k) (f t).name) _ ((bytes_eq-Decides (task_name k) (f t).name).1 (ap task_name same ∙ sym (named t))))
      (λ other. or_right (bytes_eq (task_name k) (f t).name) _ (any_task k (i + 1) (line + 1) nons (omega (arith, low, other)) (omega (arith, high))))
      (cases_eq k i)

  none_lacks : (bodies : List Body) (i line : ℕ) (nons : List Bool) → ((k : ℕ) → i ≤ k → k < i + length nons → list_any (is_code_of Task (task_name k)) bodies ≡ true) → list_any (λ (x : TaskObject). lacks_code Task bodies x.name) (map f (tasks_from i line nons)) ≡ false
  none_lacks bodies i line [] has = refl
  none_lacks bodies i line (non ∷ nons) has =
      or_from (lacks_code Task bodies (f (oil.task_object i line non)).name) _
      (ap (λ (n : List ℕ). lacks_code Task bodies n) (named (oil.task_object i line non)) ∙ ap not (has i (omega arith) (omega arith)))
      (none_lacks bodies (i + 1) (line + 1) nons (λ k low high. has k (omega (arith, low)) (omega (arith, high))))

-- the bodies by their owners
has_task_code : (k i line : ℕ) (bodies : List Steps) (task : ℕ) → i ≤ k → k < i + length bodies → list_any (is_code_of Task (task_name k)) (bodies_from i line bodies task) ≡ true
has_task_code k i line [] task low high = absurd (omega (arith, low, high))
has_task_code k i line (steps ∷ bodies) task low high =
    ⊎_elim
    (λ same. or_left (bytes_eq (task_name k) (task_name i)) _ ((bytes_eq-Decides (task_name k) (task_name i)).1 (ap task_name same)))
    (λ other. or_right (bytes_eq (task_name k) (task_name i)) _ (has_task_code k (i + 1) (body_end line steps + 1) bodies task (omega (arith, low, other)) (omega (arith, high))))
    (cases_eq k i)

has_isr_code : (i line : ℕ) (bodies : List Steps) (task : ℕ) → list_any (is_code_of Isr (codes "I")) (bodies_from i line bodies task) ≡ true
has_isr_code i line [] task = refl
has_isr_code i line (steps ∷ bodies) task = has_isr_code (i + 1) (body_end line steps + 1) bodies task

no_strays : (s : System) (i line : ℕ) (bodies : List Steps) (task : ℕ) → ((k : ℕ) → k < i + length bodies → is_some (task_of s (task_name k)) ≡ true) → is_some (isr_of s (codes "I")) ≡ true → filter (is_stray s) (bodies_from i line bodies task) ≡ []
no_strays s i line [] task tasks isr = rw isr refl
no_strays s i line (steps ∷ bodies) task tasks isr =
    rw (tasks i (omega arith)) (no_strays s (i + 1) (body_end line steps + 1) bodies task (λ k h. tasks k (omega (arith, h))) isr)

one_owner : (i line : ℕ) (bodies : List Steps) (task : ℕ) (before : List Body) → i + length bodies ≤ 16 →
    ((j l : ℕ) (steps : Steps) → i ≤ j → j < 16 → list_any (has_same_owner (task_body j l steps)) before ≡ false) → ((l : ℕ) → list_any (has_same_owner (isr_body l task)) before ≡ false) →
    repeated has_same_owner before (bodies_from i line bodies task) ≡ []
one_owner i line [] task before few tasks isr = rw (isr line) refl
one_owner i line (steps ∷ bodies) task before few tasks isr =
    let here = task_body i line steps in
    rw (tasks i line steps (omega arith) (omega (arith, few)))
    (one_owner (i + 1) (body_end line steps + 1) bodies task (before ++ here ∷ []) (omega (arith, few))
    (λ j l other low high. list_any-append (has_same_owner (task_body j l other)) before (here ∷ [])
    ∙ or_from (list_any (has_same_owner (task_body j l other)) before) _ (tasks j l other (omega (arith, low)) high)
    (or_from (bytes_eq (task_name j) (task_name i)) false (names_apart j i (omega (arith, high)) (omega (arith, low, high)) (λ e. omega (arith, low, e))) refl))
    (λ l. list_any-append (has_same_owner (isr_body l task)) before (here ∷ []) ∙ or_from (list_any (has_same_owner (isr_body l task)) before) _ (isr l) refl))

-- names in calls
record Knows (s : System) (n : ℕ) : Type 0 where
  tasks : (k : ℕ) → k < n → is_some (task_of s (task_name k)) ≡ true
  isr : is_some (isr_of s (codes "I")) ≡ true
  alarm : is_some (alarm_of s (codes "A")) ≡ true
  resource : is_some (resource_of s (codes "R")) ≡ true
  event : is_some (event_of s (codes "E")) ≡ true
  takable : (line : ℕ) → internal_at s (resource_of s (codes "R")) line ≡ []

module _ (s : System) (n : ℕ) (knows : Knows s n) where
  named_step : (step : Step) (line : ℕ) (next : Statements) → IsAmong n step → from_calls (undeclared_in s) (step_then line step next) ≡ from_calls (undeclared_in s) next
  named_step works line next among = refl
  named_step (activates task) line next among = rw (declared (task_of s (task_name task)) line (knows.tasks task among)) refl
  named_step (sets task) line next among = rw (declared (task_of s (task_name task)) line (knows.tasks task among), declared (event_of s (codes "E")) line knows.event) refl
  named_step clears line next among = rw (declared (event_of s (codes "E")) line knows.event) refl
  named_step takes line next among = rw (declared (resource_of s (codes "R")) line knows.resource) refl
  named_step gives line next among = rw (declared (resource_of s (codes "R")) line knows.resource) refl
  named_step schedules line next among = refl
  named_step waits line next among = rw (declared (event_of s (codes "E")) line knows.event) refl
  named_step asks line next among = rw (declared (alarm_of s (codes "A")) line knows.alarm) refl
  named_step (arms offset) line next among = rw (declared (alarm_of s (codes "A")) line knows.alarm) refl

  named_steps : (steps : List Step) (i line close : ℕ) → AllFrom (λ _. IsAmong n) i steps → from_calls (undeclared_in s) (steps_then line steps (closed close)) ≡ []
  named_steps [] i line close among = refl
  named_steps (step ∷ steps) i line close among = named_step step line (steps_then (line + 1) steps (closed close)) among.0 ∙ named_steps steps (i + 1) (line + 1) close among.1

  named_bodies : (i line : ℕ) (bodies : List Steps) (task : ℕ) → AllFrom (λ _. AreSteps n) i bodies → task < n → flat_map (λ (body : Body). from_calls (undeclared_in s) body.statements) (bodies_from i line bodies task) ≡ []
  named_bodies i line [] task among h = rw (declared (task_of s (task_name task)) line (knows.tasks task h)) refl
  named_bodies i line (steps ∷ bodies) task among h =
      rw (named_steps steps.0 0 (line + 1 + 1) (loop_end line steps) among.0.0.1, named_steps steps.1 0 (loop_end line steps + 1) (body_end line steps) among.0.1.1)
      (named_bodies (i + 1) (body_end line steps + 1) bodies task among.1 h)

  -- no call takes or gives back an INTERNAL resource
  takable_step : (step : Step) (line : ℕ) (next : Statements) → from_calls (internal_in s) (step_then line step next) ≡ from_calls (internal_in s) next
  takable_step works line next = refl
  takable_step (activates task) line next = refl
  takable_step takes line next = λ i. knows.takable line i ++ from_calls (internal_in s) next
  takable_step gives line next = λ i. knows.takable line i ++ from_calls (internal_in s) next
  takable_step _ line next = refl

  takable_steps : (steps : List Step) (line close : ℕ) → from_calls (internal_in s) (steps_then line steps (closed close)) ≡ []
  takable_steps [] line close = refl
  takable_steps (step ∷ steps) line close = takable_step step line (steps_then (line + 1) steps (closed close)) ∙ takable_steps steps (line + 1) close

  takable_bodies : (i line : ℕ) (bodies : List Steps) (task : ℕ) → flat_map (λ (body : Body). from_calls (internal_in s) body.statements) (bodies_from i line bodies task) ≡ []
  takable_bodies i line [] task = refl
  takable_bodies i line (steps ∷ bodies) task =
      rw (takable_steps steps.0 (line + 1 + 1) (loop_end line steps), takable_steps steps.1 (loop_end line steps + 1) (body_end line steps))
      (takable_bodies (i + 1) (body_end line steps + 1) bodies task)

-- the ISR takes no resource, whatever it names
takes_none : (s : System) (o : Option ℕ) (line task : ℕ) → unnamed_resources s o (isr_body line task).statements ++ [] ≡ []
takes_none s None line task = refl
takes_none s (Some number) line task = refl

no_resources : (s : System) (i line : ℕ) (bodies : List Steps) (task : ℕ) → flat_map (λ (body : Body). isr_resources_by s body.kind body.owner.name body.statements) (bodies_from i line bodies task) ≡ []
no_resources s i line [] task = takes_none s (isr_of s (codes "I")) line task
no_resources s i line (steps ∷ bodies) task = no_resources s (i + 1) (body_end line steps + 1) bodies task

-- no statement locks anything
unlocked_step : (step : Step) (line : ℕ) (next : Statements) → walked (step_then line step next) [] ≡ walked next []
unlocked_step works line next = refl
unlocked_step (activates task) line next = refl
unlocked_step _ line next = refl

unlocked_steps : (steps : List Step) (line close : ℕ) → walked (steps_then line steps (closed close)) [] ≡ Ok []
unlocked_steps [] line close = refl
unlocked_steps (step ∷ steps) line close = unlocked_step step line (steps_then (line + 1) steps (closed close)) ∙ unlocked_steps steps (line + 1) close

unlocked_bodies : (i line : ℕ) (bodies : List Steps) (task : ℕ) → flat_map unpaired (bodies_from i line bodies task) ≡ []
unlocked_bodies i line [] task = refl
unlocked_bodies i line (steps ∷ bodies) task =
    rw (unlocked_steps steps.0 (line + 1 + 1) (loop_end line steps), unlocked_steps steps.1 (loop_end line steps + 1) (body_end line steps))
    (unlocked_bodies (i + 1) (body_end line steps + 1) bodies task)

-- ten blocks for each task, and two for the ISR
step_line : (step : Step) (line : ℕ) (next : Statements) → statement_lines (step_then line step next) ≡ line ∷ statement_lines next
step_line works line next = refl
step_line (activates task) line next = refl
step_line _ line next = refl

step_lines : (steps : List Step) (line close : ℕ) → length (statement_lines (steps_then line steps (closed close))) ≡ length steps
step_lines [] line close = refl
step_lines (step ∷ steps) line close =
    ap length (step_line step line (steps_then (line + 1) steps (closed close))) ∙ ap suc (step_lines steps (line + 1) close)

body_lines : (line n : ℕ) (steps : Steps) → AreSteps n steps → length (statement_lines (body_statements line steps)) ≡ 9
body_lines line n steps are =
    let inner = steps_then (line + 1 + 1) steps.0 (closed (loop_end line steps)) in
    let outer = steps_then (loop_end line steps + 1) steps.1 (closed (body_end line steps)) in
    omega (arith, length-append (statement_lines inner) (statement_lines outer), step_lines steps.0 (line + 1 + 1) (loop_end line steps), step_lines steps.1 (loop_end line steps + 1) (body_end line steps), are.0.0, are.1.0)

blocks_count : (n i line : ℕ) (bodies : List Steps) (task : ℕ) → AllFrom (λ _. AreSteps n) i bodies → length (block_lines (bodies_from i line bodies task)) ≡ 10 * length bodies + 2
blocks_count n i line [] task are = refl
blocks_count n i line (steps ∷ bodies) task are =
    let own = statement_lines (body_statements line steps) in
    let close = closing_line (body_statements line steps) ∷ [] in
    let more = block_lines (bodies_from (i + 1) (body_end line steps + 1) bodies task) in
    let rest = blocks_count n (i + 1) (body_end line steps + 1) bodies task are.1 in
    length-append (own ++ close) more ∙ omega (arith, length-append own close, body_lines line n steps are.0, rest)

module _ (nons : List Bool) (bodies : List Steps) (task_named : ℕ) (few : length nons ≤ 16) (some : 0 < length nons) (same : length bodies ≡ length nons) (are : AllFrom (λ _. AreSteps (length nons)) 0 bodies) (among : task_named < length nons) where
  abbrev s : System
  s = system_of (oil_objects nons)

  abbrev code : Code
  code = the_code bodies task_named

  abbrev object_of : Object → TaskObject
  object_of = task (modes (oil_objects nons)) (events (oil_objects nons)) (resources (oil_objects nons))

  tasks_are : s.tasks ≡ map object_of (tasks_from 0 6 nons)
  tasks_are = ap (map object_of) (tasks_only nons few some)

  pub isrs_are : s.isrs ≡ isr_of_object (oil.isr_object (oil.line_behind 6 nons + 1)) ∷ []
  isrs_are = ap (map isr_of_object) (isr_counted nons few some)

  knows : Knows s (length nons)
  knows = record {
    tasks = λ k h. found (λ (x : TaskObject). bytes_eq (task_name k) x.name) s.tasks
        (ap (list_any (λ (x : TaskObject). bytes_eq (task_name k) x.name)) tasks_are ∙ any_task object_of (λ o. refl) k 0 6 nons (omega arith) (omega (arith, h)));
    isr = found (λ (x : IsrObject). bytes_eq (codes "I") x.name) s.isrs (ap (list_any (λ (x : IsrObject). bytes_eq (codes "I") x.name)) isrs_are);
    alarm = found (λ (x : Alarm). bytes_eq (codes "A") x.name) s.alarms
        (ap (λ (os : List Object). list_any (λ (x : Alarm). bytes_eq (codes "A") x.name) (map (alarm_of_object (names_of (codes "COUNTER") (oil_objects nons)) (names_of (codes "TASK") (oil_objects nons)) (modes (oil_objects nons)) (events (oil_objects nons))) os)) (alarm_only nons few some));
    resource = found (λ (x : Resource). bytes_eq (codes "R") x.name) s.resources refl;
    event = found (λ (x : EventObject). bytes_eq (codes "E") x.name) s.events refl;
    takable = λ line. ap (λ (o : Option ℕ). internal_at s o line) (at_first (λ (x : Resource). bytes_eq (codes "R") x.name) s.resources refl refl);
  }

  all_coded : (list_any (λ (x : TaskObject). lacks_code Task code.bodies x.name) s.tasks || list_any (λ (x : IsrObject). lacks_code Isr code.bodies x.name) s.isrs) ≡ false
  all_coded =
      or_from (list_any (λ (x : TaskObject). lacks_code Task code.bodies x.name) s.tasks) _
      (ap (list_any (λ (x : TaskObject). lacks_code Task code.bodies x.name)) tasks_are
      ∙ none_lacks object_of (λ o. refl) code.bodies 0 6 nons (λ k low high. has_task_code k 0 1 bodies task_named low (omega (arith, high, same))))
      (ap (list_any (λ (x : IsrObject). lacks_code Isr code.bodies x.name)) isrs_are ∙ or_from (lacks_code Isr code.bodies (codes "I")) false (ap not (has_isr_code 0 1 bodies task_named)) refl)

  no_lines : (rule : CodeRule) → lines rule s code ≡ []
  no_lines C1 = ap (λ (b : Bool). if b then 0 ∷ [] else []) all_coded
  no_lines C2 = ap (map line_of_body) (no_strays s 0 1 bodies task_named (λ k h. knows.tasks k (omega (arith, h, same))) knows.isr)
  no_lines C3 = ap (map line_of_body) (one_owner 0 1 bodies task_named [] (omega (arith, few, same)) (λ _ _ _ _ _. refl) (λ _. refl))
  no_lines C4 = named_bodies s (length nons) knows 0 1 bodies task_named are among
  no_lines C6 = no_resources s 0 1 bodies task_named
  no_lines C7 = unlocked_bodies 0 1 bodies task_named
  no_lines C8 = ap first_only (drop_of_length-le (block_lines code.bodies) {i = 1024} (omega (arith, blocks_count (length nons) 0 1 bodies task_named are, few, same)))
  no_lines C9 = refl
  no_lines C10 = takable_bodies s (length nons) knows 0 1 bodies task_named

  pub code_has_no_fault : HasNoFault s code
  code_has_no_fault rule line violated = subst (IsOneOf line) (no_lines rule) violated
