-- What the lines of a trace are put by: labels, and the text of the tasks as they were shown last.
use Rattle.std.specs.{Prelude.{◌≡◌, ◌≢◌, ⊤, ℕ, ◌≤◌, ◌<◌, Bool, true, false, ◌==◌, List, [], ◌++◌, length, take, slice_index_or, if◌then◌else◌, codes, None, IfSome}, declared.option.Option.{Option}}
use Rattle.std.specs.Coded.{Coded-set, Unit-prop}
use Rattle.std.proofs.Props.{props}
use Rattle.std.specs.List.{flat_map, enumerate_from, sum_by, cons_option}
use Rattle.osek_values.specs.{declared.{numbers.TaskNo.{TaskNo}, status.Letter.{Letter, TheVariants.{S, Y, R, W}}}, Numbers.{mask, hexadecimal}}
use Rattle.osek_standard.specs.declared.{app.App.{App}, objects.Task.{Task}, state.State.{State}}
use Rattle.osek_standard.specs.{Apps.{the_task}, TaskStates.{further, is_inside, held}, Internal.{internal_of}}
use Rattle.osek_standard.specs.{States.{is_that_task, task_of, task_state, letter_of}, TraceText.{letter, further_text, resource_text, task_text, routine_text}}
use Rattle.trace_text.specs.contracts.shown.Shown.{the_row as shown_row}
use Rattle.trace_text.specs.{declared.{shown.{Shown.{Shown}, KeptTask.{KeptTask}, Unshown.{Unshown, TheVariants.{Nothing, Few, All}}}, trace_line.TheConstants.{MAX_TASK}}, Labels.{LabelTexts, label_texts}}

-- what a line shows of a task
abbrev pub shown_of : State → ℕ → Shown
shown_of s t = record {
  letter = letter_of s.processor t (task_state s t);
  further = further (task_state s t);
  events = (task_state s t).events;
  inside = is_inside (task_state s t);
  stack = held (task_state s t);
}

-- S stands for the suspended tasks alone
abbrev pub is_suspended_letter : Letter → Bool
is_suspended_letter S = true
is_suspended_letter Y = false
is_suspended_letter R = false
is_suspended_letter W = false

-- the events of a task by what is shown of it
abbrev pub shown_events : Task → Shown → List ℕ
shown_events d x =
    if (d.own.0 == 0) then []
    else if is_suspended_letter x.letter then []
    else codes ":" ++ hexadecimal x.events.0

-- the text of a task by what is shown of it
abbrev pub shown_text : App → ℕ → Task → Shown → List ℕ
shown_text app t d x =
    codes " " ++ d.name ++ codes "=" ++ letter x.letter ++ further_text x.further ++ shown_events d x
    ++ flat_map (resource_text app) (cons_option (if x.inside then internal_of app t else None) x.stack)

-- the same with another letter
abbrev pub with_letter : Shown → Letter → Shown
with_letter x l = record x { letter = l }

-- with the letter alone the events of task t don't change
abbrev pub KeepsEvents : App → ℕ → Shown → Letter → Type 0
KeepsEvents app t x l = shown_events (the_task app t) (with_letter x l) ≡ shown_events (the_task app t) x

-- the tasks in a line
abbrev pub tasks_text : App → State → List ℕ
tasks_text app s = flat_map (task_text app s) (enumerate_from 0 app.tasks)

-- the routines in a line
abbrev pub routines_text : App → State → List ℕ
routines_text app s = flat_map (routine_text app s.processor) (enumerate_from 0 s.sources)

-- before it is shown
abbrev pub not_shown : KeptTask
not_shown = record { shown = record { letter = S; further = 0; events = mask 0; inside = false; stack = [] }; size = 0 }

abbrev pub kept_with_letter : KeptTask → Letter → KeptTask
kept_with_letter k l = record { shown = with_letter k.shown l; size = k.size }

-- what was shown of task t
abbrev pub shown_before : List KeptTask → ℕ → Shown
shown_before ks t = (slice_index_or ks t not_shown).shown

-- the text of a task as it was shown, by its number
abbrev pub kept_text : App → ℕ × KeptTask → List ℕ
kept_text app k = shown_text app k.0 (the_task app k.0) k.1.shown

-- the texts of the tasks from task n on, one behind the other
abbrev pub kept_texts : App → ℕ → List KeptTask → List ℕ
kept_texts app n ks = flat_map (kept_text app) (enumerate_from n ks)

-- where the text of task t begins
abbrev pub kept_place : List KeptTask → ℕ → ℕ
kept_place ks t = sum_by (λ k. k.size) (take t ks)

-- a text has the length that is kept of it
pub record IsKept (app : App) (t : ℕ) (k : KeptTask) : Type 0 where
  pub size : k.size ≡ length (kept_text app (t, k))
  pub most : k.size ≤ MAX_TASK

pub record LineTexts : Type 0 where
  pub labels : LabelTexts
  pub kept : List KeptTask
  pub tasks : List ℕ

-- The labels are those of the application, and the text is that of each task as it was shown, one behind the other.
pub record ArePartsOf (app : App) (p : LineTexts) : Type 0 where
  pub labelled : p.labels ≡ label_texts app
  pub kept : (t : ℕ) → t < length p.kept → IsKept app t (slice_index_or p.kept t not_shown)
  pub text : p.tasks ≡ kept_texts app 0 p.kept

-- then this is shown of task t, and of each other one what was
pub record ShowsTask (old new : List KeptTask) (t : ℕ) (x : Shown) : Type 0 where
  pub count : length new ≡ length old
  pub others : (u : ℕ) → u ≢ t → shown_before new u ≡ shown_before old u
  pub shown : shown_before new t ≡ x

-- then a task, if there is one, is shown as it is in a state, and each other one as it was
pub record ShowsOne (s : State) (x : Option TaskNo) (old new : List KeptTask) : Type 0 where
  pub count : length new ≡ length old
  pub others : (t : ℕ) → is_that_task x t ≡ false → shown_before new t ≡ shown_before old t
  pub shown : (t : ℕ) → is_that_task x t ≡ true → shown_before new t ≡ shown_of s t

module _ (app : App) (s : State) where
  -- each task is shown as it is in a state
  pub record ShowsAll (ks : List KeptTask) : Type 0 where
    pub count : length ks ≡ length app.tasks
    pub each : (t : ℕ) → t < length app.tasks → shown_before ks t ≡ shown_of s t

  -- each is but two, and the one that runs or is interrupted
  pub record ShowsOthers (x y : Option TaskNo) (ks : List KeptTask) : Type 0 where
    pub count : length ks ≡ length app.tasks
    pub one : IfSome x (λ t. t.0 < length app.tasks)
    pub other : IfSome y (λ t. t.0 < length app.tasks)
    pub each : (t : ℕ) → t < length app.tasks → is_that_task x t ≡ false → is_that_task y t ≡ false → is_that_task (task_of s.processor) t ≡ false → shown_before ks t ≡ shown_of s t

  abbrev pub ShowsBut : Unshown → List KeptTask → Type 0
  ShowsBut Nothing ks = ShowsAll ks
  ShowsBut (Few x y) ks = ShowsOthers x y ks
  ShowsBut All ks = ⊤

  Shown-prop : (x y : Shown) → IsProp (x ≡ y)
  Shown-prop x y = Coded-set shown_row.coded x y

  ShowsAll-prop : (ks : List KeptTask) → IsProp (ShowsAll ks)
  ShowsAll-prop ks = hlevel (props, Shown-prop)

  ShowsOthers-prop : (x y : Option TaskNo) (ks : List KeptTask) → IsProp (ShowsOthers x y ks)
  ShowsOthers-prop x y ks = hlevel (props, Shown-prop)

  pub ShowsBut-prop : (u : Unshown) (ks : List KeptTask) → IsProp (ShowsBut u ks)
  ShowsBut-prop Nothing ks = ShowsAll-prop ks
  ShowsBut-prop (Few x y) ks = ShowsOthers-prop x y ks
  ShowsBut-prop All ks = Unit-prop
