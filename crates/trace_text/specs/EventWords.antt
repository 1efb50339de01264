-- What one line of an event text says: `run 0`, `run 1`, `irq ISR` or `tick COUNTER` (this project's profile).
use Rattle.std.specs.{Prelude.{ℕ, ◌==◌, ◌||◌, nat_lt, Bool, true, false, List, [], ◌∷◌, length, filter, if◌then◌else◌, codes, Some, None, Ok, Err}, List.{slice_split, position}}
use Rattle.std.specs.{Str.{bytes_eq}, declared.{option.Option.{Option}, result.Result.{Result}}}
use Rattle.osek_values.specs.{declared.{limits.TheConstants.{MAX_EVENT_LINE}, event.Event.{Event, TheVariants.{Run, Irq, Tick}}}, Numbers.{isr_no, counter_no}}
use Rattle.osek_standard.specs.declared.{app.App.{App}, objects.{Isr.{Isr}, Counter.{Counter}}}
use Rattle.trace_text.specs.declared.fault.EventFault.{EventFault, TheVariants.{E1, E2, E3}}

-- a space or a tab
abbrev pub is_blank : ℕ → Bool
is_blank c = (c == 32) || (c == 9)

abbrev pub is_some_word : List ℕ → Bool
is_some_word [] = false
is_some_word (c ∷ cs) = true

-- the words of a line, parted by spaces and tabs
abbrev pub words : List ℕ → List (List ℕ)
words line = filter is_some_word (slice_split is_blank line)

-- the word begins with `#`
abbrev pub is_comment : List ℕ → Bool
is_comment [] = false
is_comment (c ∷ cs) = c == 35

-- the choice that a `run` takes
abbrev pub run_by : List ℕ → Result (Option Event) EventFault
run_by choice =
    if bytes_eq choice (codes "0") then Ok (Some (Run false))
    else if bytes_eq choice (codes "1") then Ok (Some (Run true))
    else Err E1

-- the event of a source by its number, where one has the name
abbrev pub of_source : (ℕ → Event) → Option ℕ → Result (Option Event) EventFault
of_source event None = Err E2
of_source event (Some k) = Ok (Some (event k))

module _ (app : App) where
  -- the number of the category 2 ISR of a name
  abbrev pub isr_named : List ℕ → Option ℕ
  isr_named name = position (λ (x : Isr). bytes_eq x.name name) app.isrs

  abbrev pub counter_named : List ℕ → Option ℕ
  counter_named name = position (λ (x : Counter). bytes_eq x.name name) app.counters

  -- a verb and its operand
  abbrev pub said_by : List ℕ → List ℕ → Result (Option Event) EventFault
  said_by verb operand =
      if bytes_eq verb (codes "run") then run_by operand
      else if bytes_eq verb (codes "irq") then of_source (λ i. Irq (isr_no i)) (isr_named operand)
      else if bytes_eq verb (codes "tick") then of_source (λ c. Tick (counter_no c)) (counter_named operand)
      else Err E1

  abbrev pub said_with : List ℕ → List (List ℕ) → Result (Option Event) EventFault
  said_with verb [] = Err E1
  said_with verb (operand ∷ []) = said_by verb operand
  said_with verb (operand ∷ more ∷ rest) = Err E1

  -- what the words of a line say: none, or a comment, is no event
  abbrev pub said : List (List ℕ) → Result (Option Event) EventFault
  said [] = Ok None
  said (verb ∷ rest) = if is_comment verb then Ok None else said_with verb rest

  -- What a line says, without its LF and the CR before it. A line over MAX_EVENT_LINE bytes is faulty whatever it says.
  abbrev pub read_line : List ℕ → Result (Option Event) EventFault
  read_line line = if nat_lt MAX_EVENT_LINE (length line) then Err E3 else said (words line)
