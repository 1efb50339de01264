-- What the words of a command name: a field for each kind of word that names (this project's profile).
use Rattle.std.specs.Prelude.{ℕ, List, [], Option, Some, None}
use Rattle.command_runs.specs.declared.stop.{Input.{Input}, Output.{Output}}
use Rattle.command_runs.specs.declared.stop.Input.TheVariants as input
use Rattle.command_runs.specs.declared.stop.Output.TheVariants as output
use Rattle.commands.specs.Words.{Command, Build, Replay, Trace, Show, Report, Info, Gen, Upgrade, Certify, Check, Record, Watch}

-- the words; an empty one where the command has none of the kind
pub record Names : Type 0 where
  pub oil : List ℕ
  pub code : List ℕ
  pub image : List ℕ
  pub table : List ℕ
  pub upgraded : List ℕ
  pub mode : List ℕ
  pub events : List ℕ
  pub points : List ℕ

abbrev pub no_names : Names
no_names = record { oil = []; code = []; image = []; table = []; upgraded = []; mode = []; events = []; points = [] }

abbrev pub command_names : Command → Names
command_names (Build oil code image) = record no_names { oil = oil; code = code; image = image }
command_names (Replay image mode events) = record no_names { image = image; mode = mode; events = events }
command_names (Trace oil code mode events) = record no_names { oil = oil; code = code; mode = mode; events = events }
command_names (Show oil code) = record no_names { oil = oil; code = code }
command_names (Report oil code) = record no_names { oil = oil; code = code }
command_names (Info image) = record no_names { image = image }
command_names (Gen seed tasks) = no_names
command_names (Upgrade image upgraded) = record no_names { image = image; upgraded = upgraded }
command_names (Certify oil code image table) = record no_names { oil = oil; code = code; image = image; table = table }
command_names (Check image table) = record no_names { image = image; table = table }
command_names (Record image mode events) = record no_names { image = image; mode = mode; events = events }
command_names (Watch oil code points) = record no_names { oil = oil; code = code; points = points }

-- words of no stated form name nothing
abbrev pub names_of : Option Command → Names
names_of None = no_names
names_of (Some command) = command_names command

-- the word that names an input
abbrev pub input_name : Names → Input → List ℕ
input_name names input.Oil = names.oil
input_name names input.Code = names.code
input_name names input.Image = names.image
input_name names input.Table = names.table
input_name names input.Events = names.events
input_name names input.Record = names.points

-- the word that names a file that is written
abbrev pub output_name : Names → Output → List ℕ
output_name names output.Image = names.image
output_name names output.Table = names.table
output_name names output.Upgraded = names.upgraded
