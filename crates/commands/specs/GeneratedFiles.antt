-- The texts of a generated system as files in memory, and the mode in which it runs.
use Rattle.std.specs.{Prelude.{ℕ, List, codes}, FinMap.{empty, insert}}
use Rattle.osek_vectors.specs.{declared.generated.Generated.{Generated}, GeneratedTexts.{generated_texts}}
use Rattle.osek_io.specs.Files.{Files}
use Rattle.command_runs.specs.declared.stop.Stop.{Stop}
use Rattle.command_runs.specs.declared.stop.Stop.TheVariants as stop

abbrev pub oil_name : List ℕ
oil_name = codes "oil"

abbrev pub code_name : List ℕ
code_name = codes "code"

abbrev pub events_name : List ℕ
events_name = codes "events"

abbrev pub default_mode : List ℕ
default_mode = codes "OSDEFAULTAPPMODE"

abbrev pub text_files : Generated → Files
text_files texts = insert (insert (insert empty oil_name texts.oil) code_name texts.code) events_name texts.events

-- of a seed and a number of tasks
unfoldable pub generated_files : (seed tasks : ℕ) → Files
generated_files seed tasks = text_files (generated_texts seed tasks)

-- why a run in memory stops the command: a file or a text in memory fails for want of memory alone
abbrev pub own_stop : Stop → Stop
own_stop (stop.Unread i) = stop.Memory
own_stop stop.Unprinted = stop.Memory
own_stop other = other
