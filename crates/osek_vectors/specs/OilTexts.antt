-- The OIL text of a generated system (this project's profile).
use Rattle.std.specs.Prelude.{ℕ, ◌==◌, List, ◌++◌, if◌then◌else◌, codes, decimal}
use Rattle.osek_vectors.specs.Writing.{Text, fixed, draw, each_from, ◌⨾◌}

abbrev pub oil_head : List ℕ
oil_head = codes "CPU gen {\n" ++ codes "OS os;\n" ++ codes "EVENT E;\n" ++ codes "RESOURCE R;\n" ++ codes "COUNTER C { MAXALLOWEDVALUE = 9; };\n"

abbrev pub schedule : ℕ → List ℕ
schedule number = if number == 0 then codes "NON" else codes "FULL"

-- task i, with its schedule drawn
abbrev pub task_line : ℕ → Text
task_line i = draw 4 (λ number. fixed (
    codes "TASK T" ++ decimal i ++ codes " { PRIORITY = " ++ decimal i ++ codes "; SCHEDULE = " ++ schedule number
    ++ codes "; AUTOSTART = TRUE; EVENT = E; RESOURCE = R; };\n"))

abbrev pub oil_foot : List ℕ
oil_foot =
    codes "ALARM A { COUNTER = C; ACTION = ACTIVATETASK { TASK = T0; }; AUTOSTART = TRUE { ALARMTIME = 1; CYCLETIME = 3; }; };\n"
    ++ codes "ISR I { CATEGORY = 2; };\n" ++ codes "};\n"

abbrev pub oil_text : ℕ → Text
oil_text n = fixed oil_head ⨾ each_from 0 n task_line ⨾ fixed oil_foot
