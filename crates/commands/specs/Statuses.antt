-- The status of each answer, and the text on err that goes with it (this project's profile).
use Rattle.std.specs.Prelude.{ℕ, List, [], ◌++◌, Option, Result, Ok, Err, codes}
use Rattle.osek_values.specs.declared.refusal.TextFile.{TextFile}
use Rattle.osek_values.specs.declared.refusal.TextFile.TheVariants as file
use Rattle.osek_values.specs.Rules.{rule_name}
use Rattle.image_fields.specs.Rules.{image_rule_name}
use Rattle.table_codec.specs.Rules.{table_rule_name}
use Rattle.trace_text.specs.{EventFaults.{event_fault_name}, PointFaults.{point_fault_name}}
use Rattle.command_runs.specs.declared.stop.{Input.{Input}, Stop.{Stop}}
use Rattle.command_runs.specs.declared.stop.Input.TheVariants as input
use Rattle.command_runs.specs.declared.stop.Stop.TheVariants as stop
use Rattle.command_runs.specs.{CheckRules.{check_rule_name}, Telling.{fault_text}}
use Rattle.commands.specs.{Names.{Names, input_name, output_name, names_of}, Words.{Command}}

abbrev pub stop_status : Stop → ℕ
stop_status (stop.Refused r) = 1
stop_status stop.Usage = 2
stop_status (stop.Image f) = 3
stop_status (stop.Events f) = 4
stop_status (stop.Unread i) = 5
stop_status (stop.Unstored o) = 6
stop_status stop.Unprinted = 6
stop_status stop.Memory = 7
stop_status stop.Trapped = 8
stop_status stop.NoMode = 9
stop_status stop.AlreadyNew = 10
stop_status (stop.Table f) = 11
stop_status (stop.Denied d) = 12
stop_status stop.TooLong = 13
stop_status (stop.Record f) = 14
stop_status stop.Alarmed = 15

abbrev pub status_of : Result (Unit {0}) Stop → ℕ
status_of (Ok done) = 0
status_of (Err s) = stop_status s

-- the input that holds a text
abbrev pub text_input : TextFile → Input
text_input file.Oil = input.Oil
text_input file.Code = input.Code

-- the text that is due on err where a command stops, by what its words name
abbrev pub stop_text : Names → Stop → List ℕ
stop_text names (stop.Refused r) = fault_text (input_name names (text_input r.file)) r.line (rule_name r.rule)
stop_text names stop.Usage = codes "usage" ++ codes "\n"
stop_text names (stop.Image f) = fault_text names.image f.offset (image_rule_name f.rule)
stop_text names (stop.Events f) = fault_text names.events f.line (event_fault_name f.rule)
stop_text names (stop.Unread i) = input_name names i ++ codes ": read\n"
stop_text names (stop.Unstored o) = output_name names o ++ codes ": write\n"
stop_text names stop.Unprinted = codes "out" ++ codes ": write\n"
stop_text names stop.Memory = codes "memory" ++ codes "\n"
stop_text names stop.Trapped = []
stop_text names stop.NoMode = names.mode ++ codes ": no such mode\n"
stop_text names stop.AlreadyNew = names.image ++ codes ": version 2\n"
stop_text names (stop.Table f) = fault_text names.table f.offset (table_rule_name f.rule)
stop_text names (stop.Denied d) = (names.table ++ codes ": ") ++ (check_rule_name d.rule ++ codes " ") ++ (d.place ++ codes "\n")
stop_text names stop.TooLong = names.table ++ codes ": too long\n"
stop_text names (stop.Record f) = fault_text names.points f.line (point_fault_name f.rule)
stop_text names stop.Alarmed = []

-- the text that is due on err, by the words and what the command answers
abbrev pub text_due : Option Command → Result (Unit {0}) Stop → List ℕ
text_due command (Ok done) = []
text_due command (Err s) = stop_text (names_of command) s
