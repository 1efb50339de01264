-- How many lines the generated texts have.
use Rattle.std.proofs.Common.{◌≡◌, ℕ, ◌+◌, ◌*◌, ◌^◌, ◌<◌, ◌≤◌, ◌==◌, Bool, true, false, List, ◌++◌, codes, decimal, refl, ap₂, subst, ◌∙◌, arith}
use Rattle.std.specs.Prelude.{if◌then◌else◌}
use Rattle.osek_vectors.specs.{Writing.{Text, fixed, draw, ◌⨾◌, each_from}, LineCounts.{line_count}, OilTexts.{oil_head, oil_foot, schedule, task_line, oil_text}}
use Rattle.osek_vectors.specs.CodeTexts.{alarm_setting, statement_of_kind, statement, statements, task_body, isr_body, code_text}
use Rattle.osek_vectors.specs.EventLines.{event_line_of_kind, event_line, event_text}
use Rattle.osek_vectors.proofs.LineCountLaws.{HasLines, HasLines-fixed, HasLines-draw, HasLines-then, HasLines-each, line_count-append, line_count-decimal}

added : (xs ys : List ℕ) (j k : ℕ) → line_count xs ≡ j → line_count ys ≡ k → line_count (xs ++ ys) ≡ j + k
added xs ys j k e f = line_count-append xs ys ∙ ap₂ (λ a b. a + b) e f

-- a number between two pieces of text
with_number : (before : List ℕ) (n : ℕ) (after : List ℕ) (k : ℕ) → n < 2 ^ 64 → line_count before ≡ 0 → line_count after ≡ k → line_count (before ++ decimal n ++ after) ≡ k
with_number before n after k h e f =
    added (before ++ decimal n) after 0 k (added before (decimal n) 0 0 e (line_count-decimal n h)) f ∙ (omega arith)

HasLines-either : (k : ℕ) (b : Bool) (first second : Text) → HasLines k first → HasLines k second → HasLines k (if b then first else second)
HasLines-either k true first second f s = f
HasLines-either k false first second f s = s

-- a text that draws a number and shows it on a line
HasLines-shown : (choices : ℕ) (before after : List ℕ) → 0 < choices → choices ≤ 16 → line_count before ≡ 0 → line_count after ≡ 1 → HasLines 1 (draw choices (λ k. fixed (before ++ decimal k ++ after)))
HasLines-shown choices before after positive few e f =
    HasLines-draw 1 choices (λ k. fixed (before ++ decimal k ++ after)) positive
    (λ k h. HasLines-fixed 1 (before ++ decimal k ++ after) (with_number before k after 1 (omega arith) e f))

schedule-lines : (number : ℕ) → line_count (schedule number) ≡ 0
schedule-lines number =
    elim (number == 0) as (λ b. line_count (if b then codes "NON" else codes "FULL") ≡ 0) [ true ↦ refl | false ↦ refl ]

-- a number twice, and then a word, on one line
twice_shown : (i : ℕ) (a b c word d : List ℕ) → i < 2 ^ 64 → line_count a ≡ 0 → line_count b ≡ 0 → line_count c ≡ 0 → line_count word ≡ 0 → line_count d ≡ 1 → line_count (a ++ decimal i ++ b ++ decimal i ++ c ++ word ++ d) ≡ 1
twice_shown i a b c word d h ea eb ec ew ed =
    let once = with_number a i b 0 h ea eb in
    let twice = with_number (a ++ decimal i ++ b) i c 0 h once ec in
    added (a ++ decimal i ++ b ++ decimal i ++ c ++ word) d 0 1 (added (a ++ decimal i ++ b ++ decimal i ++ c) word 0 0 twice ew) ed

HasLines-task_line : (i : ℕ) → i < 2 ^ 64 → HasLines 1 (task_line i)
HasLines-task_line i h =
    HasLines-draw 1 4 _ (omega arith)
    (λ number _. HasLines-fixed 1 _
    (twice_shown i (codes "TASK T") (codes " { PRIORITY = ") (codes "; SCHEDULE = ") (schedule number)
    (codes "; AUTOSTART = TRUE; EVENT = E; RESOURCE = R; };\n") h refl refl refl (schedule-lines number) refl))

pub HasLines-oil : (n : ℕ) → n ≤ 16 → HasLines (n + 8) (oil_text n)
HasLines-oil n few =
    let tasks = HasLines-each 1 task_line n 0 (λ i h. HasLines-task_line i (omega arith)) in
    let head = HasLines-fixed 5 oil_head refl in
    let foot = HasLines-fixed 3 oil_foot refl in
    let all = HasLines-then (5 + 1 * n) 3 (fixed oil_head ⨾ each_from 0 n task_line) (fixed oil_foot)
    (HasLines-then 5 (1 * n) (fixed oil_head) (each_from 0 n task_line) head tasks) foot in
    let same : 5 + 1 * n + 3 ≡ n + 8 = omega arith in
    subst (λ k. HasLines k (oil_text n)) same all

HasLines-alarm_setting : HasLines 1 alarm_setting
HasLines-alarm_setting =
    HasLines-draw 1 12 _ (omega arith) (λ v h. HasLines-fixed 1 _
    (with_number (codes "SetRelAlarm(A, ") (1 + v) (codes ", 0);\n") 1 (omega arith) refl refl))

HasLines-statement_of_kind : (n kind : ℕ) → 0 < n → n ≤ 16 → HasLines 1 (statement_of_kind n kind)
HasLines-statement_of_kind n kind positive few =
    HasLines-either 1 (kind == 0) _ _ (HasLines-fixed 1 (codes "work 3;\n") refl)
    (HasLines-either 1 (kind == 1) _ _ (HasLines-shown n (codes "ActivateTask(T") (codes ");\n") positive few refl refl)
    (HasLines-either 1 (kind == 2) _ _ (HasLines-shown n (codes "SetEvent(T") (codes ", E);\n") positive few refl refl)
    (HasLines-either 1 (kind == 3) _ _ (HasLines-fixed 1 (codes "ClearEvent(E);\n") refl)
    (HasLines-either 1 (kind == 4) _ _ (HasLines-fixed 1 (codes "GetResource(R);\n") refl)
    (HasLines-either 1 (kind == 5) _ _ (HasLines-fixed 1 (codes "ReleaseResource(R);\n") refl)
    (HasLines-either 1 (kind == 6) _ _ (HasLines-fixed 1 (codes "Schedule();\n") refl)
    (HasLines-either 1 (kind == 7) _ _ (HasLines-fixed 1 (codes "WaitEvent(E);\n") refl)
    (HasLines-either 1 (kind == 8) _ _ (HasLines-fixed 1 (codes "GetAlarm(A);\n") refl) HasLines-alarm_setting))))))))

HasLines-statements : (n : ℕ) → 0 < n → n ≤ 16 → HasLines 4 (statements n)
HasLines-statements n positive few =
    HasLines-each 1 (λ _. statement n) 4 0
    (λ _ _. HasLines-draw 1 10 (statement_of_kind n) (omega arith) (λ kind _. HasLines-statement_of_kind n kind positive few))

HasLines-task_body : (n i : ℕ) → 0 < n → n ≤ 16 → i < 2 ^ 64 → HasLines 12 (task_body n i)
HasLines-task_body n i positive few h =
    let head = codes "TASK(T" ++ decimal i ++ codes ") {\nwhile (?) {\n" in
    let begun = HasLines-fixed 2 head (with_number (codes "TASK(T") i (codes ") {\nwhile (?) {\n") 2 h refl refl) in
    let four = HasLines-statements n positive few in
    let end = HasLines-fixed 1 (codes "}\n") refl in
    let inner = HasLines-then 2 4 (fixed head) (statements n) begun four in
    let closed = HasLines-then 6 1 (fixed head ⨾ statements n) (fixed (codes "}\n")) inner end in
    let more = HasLines-then 7 4 (fixed head ⨾ statements n ⨾ fixed (codes "}\n")) (statements n) closed four in
    HasLines-then 11 1 (fixed head ⨾ statements n ⨾ fixed (codes "}\n") ⨾ statements n) (fixed (codes "}\n")) more end

pub HasLines-code : (n : ℕ) → 0 < n → n ≤ 16 → HasLines (12 * n + 1) (code_text n)
HasLines-code n positive few =
    HasLines-then (12 * n) 1 (each_from 0 n (task_body n)) (isr_body n)
    (HasLines-each 12 (task_body n) n 0 (λ i h. HasLines-task_body n i positive few (omega arith)))
    (HasLines-shown n (codes "ISR(I) { ActivateTask(T") (codes "); }\n") positive few refl refl)

HasLines-event_line : HasLines 1 event_line
HasLines-event_line =
    HasLines-draw 1 10 event_line_of_kind (omega arith) (λ kind _.
    HasLines-either 1 (kind == 0) _ _ (HasLines-fixed 1 (codes "irq I\n") refl)
    (HasLines-either 1 (kind == 1) _ _ (HasLines-fixed 1 (codes "tick C\n") refl)
    (HasLines-shown 2 (codes "run ") (codes "\n") (omega arith) (omega arith) refl refl)))

pub HasLines-events : (n : ℕ) → HasLines (1000 * n) (event_text n)
HasLines-events n =
    let all = HasLines-each 1 (λ _. event_line) (1000 * n) 0 (λ _ _. HasLines-event_line) in
    let same : 1 * (1000 * n) ≡ 1000 * n = omega arith in
    subst (λ k. HasLines k (event_text n)) same all
