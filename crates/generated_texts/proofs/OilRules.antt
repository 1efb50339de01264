-- A generated OIL text breaks no rule on objects.
use Rattle.std.proofs.Common.{◌≡◌, ℕ, ◌+◌, ◌<◌, ◌≤◌, ◌^◌, Bool, true, false, suc, List, [], ◌∷◌, ◌++◌, length, map, codes, decimal, refl, ap, subst, ◌∙◌, arith}
use Rattle.std.specs.{Prelude.{◌&&◌, not, nat_le, find, filter}, List.{list_any, flat_map, AllByRecursion}, Str.{bytes_eq}}
use Rattle.std.proofs.lemmas.{Bool.{and_from, or_from, or_left, le-leb, false_from_ne_true}, Fmt.{decimal_digit}, List.Folds.{list_any-append}, Option.{slice_get_past}}
use Rattle.std.proofs.lemmas.Slice.Eq.{bytes_eq-Decides}
use Rattle.osek_values.specs.{Lines.{IsOneOf}, declared.refusal.OilRule.{OilRule, TheVariants.{O1, O2, O3, O4, O5, O6, O7, O9, O10, O11, O12, O13, O14, O15, O16, O17, O18}}}
use Rattle.oil_lexer.specs.Numbers.{value_of}
use Rattle.oil_tree.specs.{declared.tree.{Attr.{Attr}, Object.{Object}}, AttrLists.{attr_list}}
use Rattle.oil_model.specs.{declared.objects.Category.TheVariants.{Two}, Faults.{HasNoFault}, Lists.{found_of}, LookUp.{is_named, word_of, word_at, attr_line}}
use Rattle.oil_model.specs.Objects.{is_kind, objects_of, is_called, declares, line_at, object_line, has_scheduler, is_other_mode, is_ordinary, is_isr, is_internal, explicit_bits, free_from}
use Rattle.oil_model.specs.Rules.{repeated, is_unknown, has_same_name, kinds, repeated_names, all_repeated_names, os_lines, missing_in, doubles_in, wrong_in, dangling_in, is_wrongly_activated, is_linked, is_callback, empty_masks_from, found_line, first_beyond, beyond_limits, is_reversed, late_times_of, is_other_category, second_internals_of, is_internal_scheduler, barred_resources_of, lines}
use Rattle.generated_texts.proofs.TaskNames.{task_name, task_name_injective, decimal_value}
use Rattle.generated_texts.proofs.OilSentence.{task_with, task_object, tasks_from, line_behind, bare_object, counter_object, alarm_object, isr_object, foot_objects, oil_objects, oil_tree}

-- what a filter leaves of tasks of which it leaves none
pub past_tasks : (p : Object → Bool) → ((i line : ℕ) (non : Bool) → p (task_object i line non) ≡ false) → (i line : ℕ) (nons : List Bool) (rest : List Object) → filter p (tasks_from i line nons ++ rest) ≡ filter p rest
past_tasks p none i line [] rest = refl
past_tasks p none i line (non ∷ nons) rest = rw (none i line non) (past_tasks p none (i + 1) (line + 1) nons rest)

no_tasks : (p : Object → Bool) → ((i line : ℕ) (non : Bool) → p (task_object i line non) ≡ false) → (i line : ℕ) (nons : List Bool) → filter p (tasks_from i line nons) ≡ []
no_tasks p none i line [] = refl
no_tasks p none i line (non ∷ nons) = rw (none i line non) (no_tasks p none (i + 1) (line + 1) nons)

only_tasks : (i line : ℕ) (nons : List Bool) (l : ℕ) → filter (is_kind (codes "TASK")) (tasks_from i line nons ++ foot_objects l) ≡ tasks_from i line nons
only_tasks i line [] l = refl
only_tasks i line (non ∷ nons) l = ap (λ (os : List Object). task_object i line non ∷ os) (only_tasks (i + 1) (line + 1) nons l)

-- what tasks bring of which none brings anything
nothing_of_tasks : (f : Object → List ℕ) → ((i line : ℕ) (non : Bool) → i < 16 → f (task_object i line non) ≡ []) → (i line : ℕ) (nons : List Bool) (rest : List Object) → i + length nons ≤ 16 → flat_map f (tasks_from i line nons ++ rest) ≡ flat_map f rest
nothing_of_tasks f none i line [] rest few = refl
nothing_of_tasks f none i line (non ∷ nons) rest few = rw (none i line non (omega (arith, few))) (nothing_of_tasks f none (i + 1) (line + 1) nons rest (omega (arith, few)))

-- no task is the same as an earlier one
none_repeated : (same : Object → Object → Bool) → ((i j line l : ℕ) (non n : Bool) → i < j → j < 16 → same (task_object j l n) (task_object i line non) ≡ false) →
    (i line : ℕ) (nons : List Bool) (before : List Object) → i + length nons ≤ 16 → ((j l : ℕ) (n : Bool) → i ≤ j → j < 16 → list_any (same (task_object j l n)) before ≡ false) → repeated same before (tasks_from i line nons) ≡ []
none_repeated same apart i line [] before few new = refl
none_repeated same apart i line (non ∷ nons) before few new =
    rw (new i line non (omega arith) (omega (arith, few)))
    (none_repeated same apart (i + 1) (line + 1) nons (before ++ task_object i line non ∷ []) (omega (arith, few))
    (λ j l n low high. list_any-append (same (task_object j l n)) before (task_object i line non ∷ [])
    ∙ or_from (list_any (same (task_object j l n)) before) _ (new j l n (omega (arith, low)) high) (or_from (same (task_object j l n) (task_object i line non)) false (apart i j line l non n (omega (arith, low)) high) refl)))

pub names_apart : (i j : ℕ) → i < 2 ^ 64 → j < 2 ^ 64 → (i ≡ j → ⊥) → bytes_eq (task_name i) (task_name j) ≡ false
names_apart i j h k other = false_from_ne_true (bytes_eq (task_name i) (task_name j)) (λ same. other (task_name_injective i j h k ((bytes_eq-Decides (task_name i) (task_name j)).0 same)))

other_name : (i j line l : ℕ) (non n : Bool) → i < j → j < 16 → has_same_name (task_object j l n) (task_object i line non) ≡ false
other_name i j line l non n lt few = names_apart i j (omega (arith, lt, few)) (omega (arith, few)) (λ e. omega (arith, lt, e))

pub tasks_count : (i line : ℕ) (nons : List Bool) → length (tasks_from i line nons) ≡ length nons
tasks_count i line [] = refl
tasks_count i line (non ∷ nons) = ap suc (tasks_count (i + 1) (line + 1) nons)

-- T0 is the first task
pub first_name : task_name 0 ≡ codes "T0"
first_name = ap (λ (ds : List ℕ). 84 ∷ ds) (decimal_digit 0 (omega arith))

first_called : (nons : List Bool) → 0 < length nons → list_any (is_called (codes "T0")) (tasks_from 0 6 nons) ≡ true
first_called [] some = absurd (omega (arith, some))
first_called (non ∷ nons) some = or_left (is_called (codes "T0") (task_object 0 6 non)) _ ((bytes_eq-Decides (task_name 0) (codes "T0")).1 first_name)

allowed : (v : ℕ) → v ≤ 65535 → (nat_le 0 v && nat_le v 65535) ≡ true
allowed v h = and_from (nat_le 0 v) (nat_le v 65535) (le-leb 0 v (omega arith)) (le-leb v 65535 h)

wrong_task : (n : List ℕ) (v line : ℕ) (non : Bool) → v ≤ 65535 → found_of wrong_in (task_with n v line non) ≡ []
wrong_task n v line true h = rw (allowed v h) refl
wrong_task n v line false h = rw (allowed v h) refl

each_nothing : {X : Type 0} (f : X → List ℕ) (xs : List X) → AllByRecursion (λ (x : X). f x ≡ []) xs → flat_map f xs ≡ []
each_nothing f [] none = refl
each_nothing f (x ∷ xs) none = λ i. none.0 i ++ each_nothing f xs none.1 i

masks_right : empty_masks_from (explicit_bits 0 (bare_object (codes "EVENT") (codes "E") 3 ∷ [])) (bare_object (codes "EVENT") (codes "E") 3 ∷ []) ≡ []
unfolding free_from
masks_right = refl

-- the lines on which an object names one of these resources beside another
abbrev names_one : List Object → Attr → Bool
names_one internals a = is_named (codes "RESOURCE") a && list_any (is_called (word_of a.value)) internals

abbrev further_names : List Object → Object → List ℕ
further_names internals o =
    map attr_line (filter (λ (a : Attr). names_one internals a && not (bytes_eq (word_of a.value) (word_at (find (names_one internals) (attr_list o.attrs))))) (attr_list o.attrs))

module _ (nons : List Bool) (few : length nons ≤ 16) (some : 0 < length nons) where
  few_from : 0 + length nons ≤ 16
  few_from = omega (arith, few)

  abbrev objects : List Object
  objects = oil_objects nons

  abbrev foot : List Object
  foot = foot_objects (line_behind 6 nons)

  -- the objects of each kind
  os_only : objects_of (codes "OS") objects ≡ bare_object (codes "OS") (codes "os") 2 ∷ []
  os_only = ap (λ (os : List Object). bare_object (codes "OS") (codes "os") 2 ∷ os) (past_tasks (is_kind (codes "OS")) (λ _ _ _. refl) 0 6 nons foot)

  modes_none : objects_of (codes "APPMODE") objects ≡ []
  modes_none = past_tasks (is_kind (codes "APPMODE")) (λ _ _ _. refl) 0 6 nons foot

  pub tasks_only : objects_of (codes "TASK") objects ≡ tasks_from 0 6 nons
  tasks_only = only_tasks 0 6 nons (line_behind 6 nons)

  isr_only : objects_of (codes "ISR") objects ≡ isr_object (line_behind 6 nons + 1) ∷ []
  isr_only = past_tasks (is_kind (codes "ISR")) (λ _ _ _. refl) 0 6 nons foot

  pub counter_only : objects_of (codes "COUNTER") objects ≡ counter_object ∷ []
  counter_only = ap (λ (os : List Object). counter_object ∷ os) (past_tasks (is_kind (codes "COUNTER")) (λ _ _ _. refl) 0 6 nons foot)

  pub alarm_only : objects_of (codes "ALARM") objects ≡ alarm_object (line_behind 6 nons) ∷ []
  alarm_only = past_tasks (is_kind (codes "ALARM")) (λ _ _ _. refl) 0 6 nons foot

  pub event_only : objects_of (codes "EVENT") objects ≡ bare_object (codes "EVENT") (codes "E") 3 ∷ []
  event_only = ap (λ (os : List Object). bare_object (codes "EVENT") (codes "E") 3 ∷ os) (past_tasks (is_kind (codes "EVENT")) (λ _ _ _. refl) 0 6 nons foot)

  resource_only : objects_of (codes "RESOURCE") objects ≡ bare_object (codes "RESOURCE") (codes "R") 4 ∷ []
  resource_only = ap (λ (os : List Object). bare_object (codes "RESOURCE") (codes "R") 4 ∷ os) (past_tasks (is_kind (codes "RESOURCE")) (λ _ _ _. refl) 0 6 nons foot)

  pub isr_counted : filter (is_isr Two) objects ≡ isr_object (line_behind 6 nons + 1) ∷ []
  isr_counted = past_tasks (is_isr Two) (λ _ _ _. refl) 0 6 nons foot

  resource_counted : filter (is_ordinary (has_scheduler objects)) objects ≡ bare_object (codes "RESOURCE") (codes "R") 4 ∷ []
  resource_counted = ap (λ (os : List Object). bare_object (codes "RESOURCE") (codes "R") 4 ∷ os) (past_tasks (is_ordinary (has_scheduler objects)) (λ _ _ _. refl) 0 6 nons foot)

  modes_counted : filter is_other_mode objects ≡ []
  modes_counted = past_tasks is_other_mode (λ _ _ _. refl) 0 6 nons foot

  -- names
  once : (kind : List ℕ) (os : List Object) → objects_of kind objects ≡ os → repeated has_same_name [] os ≡ [] → repeated_names kind objects ≡ []
  once kind os e r = ap (λ (xs : List Object). map object_line (repeated has_same_name [] xs)) e ∙ ap (map object_line) r

  names_once : all_repeated_names objects ≡ []
  names_once =
      each_nothing (λ (kind : List ℕ). repeated_names kind objects) kinds (
        once (codes "OS") _ os_only refl,
        (
          once (codes "APPMODE") _ modes_none refl,
          (
            once (codes "TASK") _ tasks_only (none_repeated has_same_name other_name 0 6 nons [] few_from (λ _ _ _ _ _. refl)),
            (
              once (codes "ISR") _ isr_only refl,
              (
                once (codes "COUNTER") _ counter_only refl,
                (
                  once (codes "ALARM") _ alarm_only refl,
                  (once (codes "EVENT") _ event_only refl, (once (codes "RESOURCE") _ resource_only refl, tt)),
                ),
              ),
            ),
          ),
        ),
      )

  -- references
  pub first_declared : declares (codes "TASK") (codes "T0") objects ≡ true
  first_declared = ap (list_any (is_called (codes "T0"))) tasks_only ∙ first_called nons some

  foot_declared : flat_map (found_of (dangling_in objects)) foot ≡ []
  foot_declared = rw first_declared refl

  -- no resource is INTERNAL
  internals_none : filter is_internal objects ≡ []
  internals_none = past_tasks is_internal (λ _ _ _. refl) 0 6 nons foot

  none_of_task : (i line : ℕ) (non : Bool) → second_internals_of objects (task_object i line non) ≡ []
  none_of_task i line non = ap (λ (os : List Object). further_names os (task_object i line non)) internals_none

  none_of_tasks : (i line : ℕ) (ns : List Bool) → flat_map (second_internals_of objects) (tasks_from i line ns) ≡ []
  none_of_tasks i line [] = refl
  none_of_tasks i line (non ∷ ns) = λ k. none_of_task i line non k ++ none_of_tasks (i + 1) (line + 1) ns k

  -- limits
  within : beyond_limits objects ≡ []
  within =
      let tasks : first_beyond 16 (objects_of (codes "TASK") objects) ≡ [] = ap (first_beyond 16) tasks_only ∙ ap found_line (slice_get_past (tasks_from 0 6 nons) 16 (omega (arith, tasks_count 0 6 nons, few))) in
      (λ i. tasks i ++ (first_beyond 8 (isr_counted i) ++ (first_beyond 8 (counter_only i) ++ (first_beyond 16 (alarm_only i) ++ (first_beyond 32 (event_only i) ++ (first_beyond 7 (resource_counted i) ++ first_beyond 7 (modes_counted i)))))))

  no_lines : (rule : OilRule) → lines rule (oil_tree nons) ≡ []
  no_lines O1 = ap (map object_line) (past_tasks is_unknown (λ _ _ _. refl) 0 6 nons foot)
  no_lines O2 = names_once
  no_lines O3 = ap (os_lines 1) os_only
  no_lines O4 = nothing_of_tasks (found_of missing_in) (λ _ _ _ _. refl) 0 6 nons foot few_from
  no_lines O5 = nothing_of_tasks (found_of doubles_in) (λ _ _ _ _. refl) 0 6 nons foot few_from
  no_lines O6 = nothing_of_tasks (found_of wrong_in) (λ i line non h. wrong_task (task_name i) (value_of 10 (decimal i)) line non (omega (arith, decimal_value i (omega (arith, h)), h))) 0 6 nons foot few_from
  no_lines O7 = nothing_of_tasks (found_of (dangling_in objects)) (λ _ _ _ _. refl) 0 6 nons foot few_from ∙ foot_declared
  no_lines O9 = ap (λ (os : List Object). map (line_at (codes "ACTIVATION")) (filter is_wrongly_activated os)) tasks_only
      ∙ ap (map (line_at (codes "ACTIVATION"))) (no_tasks is_wrongly_activated (λ _ _ _. refl) 0 6 nons)
  no_lines O10 = ap (λ (os : List Object). map (line_at (codes "RESOURCEPROPERTY")) (filter is_linked os)) resource_only
  no_lines O11 = ap (λ (os : List Object). map (line_at (codes "ACTION")) (filter is_callback os)) alarm_only
  no_lines O12 = ap (λ (es : List Object). empty_masks_from (explicit_bits 0 es) es) event_only ∙ masks_right
  no_lines O13 = within
  no_lines O14 = λ i. map (line_at (codes "MINCYCLE")) (filter is_reversed (counter_only i)) ++ flat_map (late_times_of objects) (alarm_only i)
  no_lines O15 = ap (λ (os : List Object). map (line_at (codes "CATEGORY")) (filter is_other_category os)) isr_only
  no_lines O16 = ap (λ (os : List Object). flat_map (second_internals_of objects) os) tasks_only ∙ none_of_tasks 0 6 nons
  no_lines O17 = ap (λ (os : List Object). map (line_at (codes "RESOURCEPROPERTY")) (filter is_internal_scheduler os)) resource_only
  no_lines O18 = ap (flat_map (barred_resources_of (has_scheduler objects) objects)) isr_counted

  pub oil_has_no_fault : HasNoFault (oil_tree nons)
  oil_has_no_fault rule line violated = subst (IsOneOf line) (no_lines rule) violated
