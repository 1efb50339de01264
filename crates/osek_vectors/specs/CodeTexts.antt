-- The task code of a generated system (this project's profile).
use Rattle.std.specs.Prelude.{ℕ, ◌+◌, ◌==◌, ◌++◌, if◌then◌else◌, codes, decimal}
use Rattle.osek_vectors.specs.Writing.{Text, fixed, draw, each_from, ◌⨾◌}

-- of a task that is drawn among n
abbrev pub activation : ℕ → Text
activation n = draw n (λ k. fixed (codes "ActivateTask(T" ++ decimal k ++ codes ");\n"))

abbrev pub event_setting : ℕ → Text
event_setting n = draw n (λ k. fixed (codes "SetEvent(T" ++ decimal k ++ codes ", E);\n"))

abbrev pub alarm_setting : Text
alarm_setting = draw 12 (λ v. fixed (codes "SetRelAlarm(A, " ++ decimal (1 + v) ++ codes ", 0);\n"))

-- the statement of one of ten kinds
abbrev pub statement_of_kind : ℕ → ℕ → Text
statement_of_kind n kind =
    if kind == 0 then fixed (codes "work 3;\n")
    else if kind == 1 then activation n
    else if kind == 2 then event_setting n
    else if kind == 3 then fixed (codes "ClearEvent(E);\n")
    else if kind == 4 then fixed (codes "GetResource(R);\n")
    else if kind == 5 then fixed (codes "ReleaseResource(R);\n")
    else if kind == 6 then fixed (codes "Schedule();\n")
    else if kind == 7 then fixed (codes "WaitEvent(E);\n")
    else if kind == 8 then fixed (codes "GetAlarm(A);\n")
    else alarm_setting

abbrev pub statement : ℕ → Text
statement n = draw 10 (statement_of_kind n)

abbrev pub statements : ℕ → Text
statements n = each_from 0 4 (λ _. statement n)

-- four statements in a loop, and four behind it
abbrev pub task_body : ℕ → ℕ → Text
task_body n i =
    fixed (codes "TASK(T" ++ decimal i ++ codes ") {\nwhile (?) {\n") ⨾ statements n ⨾ fixed (codes "}\n")
    ⨾ statements n ⨾ fixed (codes "}\n")

abbrev pub isr_body : ℕ → Text
isr_body n = draw n (λ k. fixed (codes "ISR(I) { ActivateTask(T" ++ decimal k ++ codes "); }\n"))

abbrev pub code_text : ℕ → Text
code_text n = each_from 0 n (task_body n) ⨾ isr_body n
