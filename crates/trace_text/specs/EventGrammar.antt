-- The grammar of event lines: which words a line has, which words an event has, and the text of a list of events.
use Rattle.std.specs.{Prelude.{◌≡◌, ◌⊎◌, ⊤, ℕ, ◌≤◌, Bool, true, false, not, List, [], ◌∷◌, ◌++◌, length, IsTrue, codes, None}, List.{list_all, flat_map}}
use Rattle.osek_values.specs.declared.{limits.TheConstants.{MAX_EVENT_LINE}, event.Event.{Event, TheVariants.{Run, Irq, Tick}}}
use Rattle.osek_standard.specs.{declared.app.App.{App}, Apps.{the_isr, the_counter, IsDeclared}}
use Rattle.trace_text.specs.EventWords.{is_blank, is_some_word, is_comment, isr_named, counter_named}

-- nothing, or a blank
abbrev pub ends_word : List ℕ → Bool
ends_word [] = true
ends_word (c ∷ cs) = is_blank c

-- blanks, a word, and the rest
pub record BeginsWith (line gap word rest : List ℕ) : Type 0 where
  pub parts : line ≡ gap ++ (word ++ rest)
  pub blanks : IsTrue (list_all is_blank gap)
  pub some : IsTrue (is_some_word word)
  pub whole : IsTrue (list_all (λ c. not (is_blank c)) word)
  pub ends : IsTrue (ends_word rest)

-- the words of a line, parted by spaces and tabs
abbrev pub HasWords : List ℕ → List (List ℕ) → Type 0
HasWords line [] = IsTrue (list_all is_blank line)
HasWords line (w ∷ ws) = (gap : List ℕ) × (rest : List ℕ) × BeginsWith line gap w rest × HasWords rest ws

-- no words, or a comment
abbrev pub SayNothing : List (List ℕ) → Type 0
SayNothing [] = ⊤
SayNothing (word ∷ more) = IsTrue (is_comment word)

module _ (app : App) where
  abbrev pub event_words : Event → List (List ℕ)
  event_words (Run false) = codes "run" ∷ codes "0" ∷ []
  event_words (Run true) = codes "run" ∷ codes "1" ∷ []
  event_words (Irq i) = codes "irq" ∷ (the_isr app i.0).name ∷ []
  event_words (Tick c) = codes "tick" ∷ (the_counter app c.0).name ∷ []

  -- a line says an event of the application
  pub record Says (line : List ℕ) (e : Event) : Type 0 where
    pub short : length line ≤ MAX_EVENT_LINE
    pub known : IsDeclared app e
    pub words : HasWords line (event_words e)

  -- the words name a category 2 ISR or a counter that isn't declared
  abbrev pub NamesUndeclared : List (List ℕ) → Type 0
  NamesUndeclared ws = (name : List ℕ) × (((ws ≡ codes "irq" ∷ name ∷ []) × (isr_named app name ≡ None)) ⊎ ((ws ≡ codes "tick" ∷ name ∷ []) × (counter_named app name ≡ None)))

  -- an event as it is written
  abbrev pub event_line : Event → List ℕ
  event_line (Run false) = codes "run 0"
  event_line (Run true) = codes "run 1"
  event_line (Irq i) = codes "irq " ++ (the_isr app i.0).name
  event_line (Tick c) = codes "tick " ++ (the_counter app c.0).name

  -- events as they are written, each on a line of its own
  abbrev pub event_text : List Event → List ℕ
  event_text es = flat_map (λ e. event_line e ++ 10 ∷ []) es
