-- A generated task code text, word by word: all that is drawn in it is which statements stand in each task.
use Rattle.std.proofs.Common.{◌≡◌, ℕ, ◌+◌, ◌*◌, ◌<◌, ◌≤◌, true, List, [], ◌∷◌, ◌++◌, length, codes, decimal, refl, ◌∙◌, arith}
use Rattle.std.specs.Prelude.{⊤}
use Rattle.std.proofs.lemmas.{Fmt.{length-decimal-le}, List.{length-append}}
use Rattle.oil_lexer.specs.declared.token.Mark.TheVariants.{OpenBrace, CloseBrace, OpenParen, CloseParen, Comma, Semicolon, Question}
use Rattle.generated_texts.proofs.{Lexemes.{a_word, a_number, a_mark, a_space, a_line_end, spelled, are_right}, OilLexemes.{Lexemes}, Rows.{each_of, AllFrom}}
use Rattle.generated_texts.proofs.TaskNames.{task_name, task_name_right, decimal_numeral}

-- a statement, with the number of the task that it names or the offset of the alarm
pub data Step : Type 0 where
  works clears takes gives schedules waits asks : Step
  activates sets : (task : ℕ) → Step
  arms : (offset : ℕ) → Step

-- of n tasks
abbrev pub IsAmong : ℕ → Step → Type 0
IsAmong n (activates task) = task < n
IsAmong n (sets task) = task < n
IsAmong n (arms offset) = offset ≤ 12
IsAmong n _ = ⊤

abbrev call_end : Lexemes → Lexemes
call_end rest = a_mark CloseParen ∷ a_mark Semicolon ∷ a_line_end ∷ rest

abbrev call_of : List ℕ → List ℕ → Lexemes → Lexemes
call_of service object rest = a_word service ∷ a_mark OpenParen ∷ a_word object ∷ rest

abbrev pub step_lexemes : Step → Lexemes → Lexemes
step_lexemes works rest = a_word (codes "work") ∷ a_space ∷ a_number (codes "3") ∷ a_mark Semicolon ∷ a_line_end ∷ rest
step_lexemes (activates task) rest = call_of (codes "ActivateTask") (task_name task) (call_end rest)
step_lexemes (sets task) rest = call_of (codes "SetEvent") (task_name task) (a_mark Comma ∷ a_space ∷ a_word (codes "E") ∷ call_end rest)
step_lexemes clears rest = call_of (codes "ClearEvent") (codes "E") (call_end rest)
step_lexemes takes rest = call_of (codes "GetResource") (codes "R") (call_end rest)
step_lexemes gives rest = call_of (codes "ReleaseResource") (codes "R") (call_end rest)
step_lexemes schedules rest = a_word (codes "Schedule") ∷ a_mark OpenParen ∷ call_end rest
step_lexemes waits rest = call_of (codes "WaitEvent") (codes "E") (call_end rest)
step_lexemes asks rest = call_of (codes "GetAlarm") (codes "A") (call_end rest)
step_lexemes (arms offset) rest =
    call_of (codes "SetRelAlarm") (codes "A") (a_mark Comma ∷ a_space ∷ a_number (decimal offset) ∷ a_mark Comma ∷ a_space ∷ a_number (codes "0") ∷ call_end rest)

abbrev pub steps_lexemes : List Step → Lexemes → Lexemes
steps_lexemes [] rest = rest
steps_lexemes (s ∷ steps) rest = step_lexemes s (steps_lexemes steps rest)

-- the steps in the loop of a task, and those behind it
abbrev pub Steps : Type 0
Steps = List Step × List Step

abbrev pub body_front : List ℕ → List ℕ → Lexemes → Lexemes
body_front word owner rest = a_word word ∷ a_mark OpenParen ∷ a_word owner ∷ a_mark CloseParen ∷ a_space ∷ a_mark OpenBrace ∷ rest

abbrev pub block_end : Lexemes → Lexemes
block_end rest = a_mark CloseBrace ∷ a_line_end ∷ rest

abbrev pub loop_front : Lexemes → Lexemes
loop_front rest = a_word (codes "while") ∷ a_space ∷ a_mark OpenParen ∷ a_mark Question ∷ a_mark CloseParen ∷ a_space ∷ a_mark OpenBrace ∷ a_line_end ∷ rest

abbrev pub body_lexemes : ℕ → Steps → Lexemes → Lexemes
body_lexemes i steps rest =
    body_front (codes "TASK") (task_name i) (a_line_end ∷ loop_front (steps_lexemes steps.0 (block_end (steps_lexemes steps.1 (block_end rest)))))

-- the ISR activates a task
abbrev pub isr_lexemes : ℕ → Lexemes → Lexemes
isr_lexemes task rest =
    body_front (codes "ISR") (codes "I") (a_space ∷ call_of (codes "ActivateTask") (task_name task)
    (a_mark CloseParen ∷ a_mark Semicolon ∷ a_space ∷ block_end rest))

abbrev pub code_lexemes : List Steps → ℕ → Lexemes
code_lexemes bodies task = each_of body_lexemes 0 bodies (isr_lexemes task [])

-- four steps, each among n tasks
abbrev pub AreFour : ℕ → List Step → Type 0
AreFour n steps = (length steps ≡ 4) × AllFrom (λ _. IsAmong n) 0 steps

-- four in the loop, and four behind it
abbrev pub AreSteps : ℕ → Steps → Type 0
AreSteps n steps = AreFour n steps.0 × AreFour n steps.1

-- it is spelled right
step_right : (n : ℕ) (s : Step) (rest : Lexemes) → n ≤ 16 → IsAmong n s → are_right (step_lexemes s rest) ≡ are_right rest
step_right n works rest few among = refl
step_right n (activates task) rest few among = rw (task_name_right task (omega (arith, few, among))) refl
step_right n (sets task) rest few among = rw (task_name_right task (omega (arith, few, among))) refl
step_right n clears rest few among = refl
step_right n takes rest few among = refl
step_right n gives rest few among = refl
step_right n schedules rest few among = refl
step_right n waits rest few among = refl
step_right n asks rest few among = refl
step_right n (arms offset) rest few among = rw (decimal_numeral offset (omega (arith, among))) refl

steps_right : (n i : ℕ) (steps : List Step) (rest : Lexemes) → n ≤ 16 → AllFrom (λ _. IsAmong n) i steps → are_right (steps_lexemes steps rest) ≡ are_right rest
steps_right n i [] rest few among = refl
steps_right n i (s ∷ steps) rest few among = step_right n s (steps_lexemes steps rest) few among.0 ∙ steps_right n (i + 1) steps rest few among.1

body_right : (n i : ℕ) (steps : Steps) (rest : Lexemes) → n ≤ 16 → i < 16 → AreSteps n steps → are_right (body_lexemes i steps rest) ≡ are_right rest
body_right n i steps rest few low are =
    let behind = block_end (steps_lexemes steps.1 (block_end rest)) in
    rw (task_name_right i (omega (arith, low))) (steps_right n 0 steps.0 behind few are.0.1 ∙ steps_right n 0 steps.1 (block_end rest) few are.1.1)

bodies_right : (n i : ℕ) (bodies : List Steps) (rest : Lexemes) → n ≤ 16 → i + length bodies ≤ 16 → AllFrom (λ _. AreSteps n) i bodies → are_right (each_of body_lexemes i bodies rest) ≡ are_right rest
bodies_right n i [] rest few inside are = refl
bodies_right n i (steps ∷ bodies) rest few inside are =
    body_right n i steps (each_of body_lexemes (i + 1) bodies rest) few (omega (arith, inside)) are.0 ∙ bodies_right n (i + 1) bodies rest few (omega (arith, inside)) are.1

pub code_right : (n : ℕ) (bodies : List Steps) (task : ℕ) → n ≤ 16 → length bodies ≡ n → AllFrom (λ _. AreSteps n) 0 bodies → task < n → are_right (code_lexemes bodies task) ≡ true
code_right n bodies task few same are named =
    bodies_right n 0 bodies (isr_lexemes task []) few (omega (arith, few, same)) are ∙ (rw (task_name_right task (omega (arith, few, named))) refl)

-- and short
one_number : (a d rest : List ℕ) → length (a ++ (d ++ rest)) ≡ length a + length d + length rest
one_number a d rest = omega (arith, length-append a (d ++ rest), length-append d rest)

few_digits : (k : ℕ) → k < 100 → length (decimal k) ≤ 2
few_digits k h = length-decimal-le 2 k (omega arith) h (omega (arith, h))

step_size : (n : ℕ) (s : Step) (rest : Lexemes) → n ≤ 16 → IsAmong n s → length (spelled (step_lexemes s rest)) ≤ 40 + length (spelled rest)
step_size n works rest few among = omega arith
step_size n (activates task) rest few among =
    let size : length (spelled (step_lexemes (activates task) rest)) ≡ length (codes "ActivateTask(T") + length (decimal task) + length (spelled (call_end rest)) = one_number (codes "ActivateTask(T") (decimal task) (spelled (call_end rest)) in
    omega (arith, size, few_digits task (omega (arith, few, among)))
step_size n (sets task) rest few among =
    let tail = a_mark Comma ∷ a_space ∷ a_word (codes "E") ∷ call_end rest in
    let size : length (spelled (step_lexemes (sets task) rest)) ≡ length (codes "SetEvent(T") + length (decimal task) + length (spelled tail) = one_number (codes "SetEvent(T") (decimal task) (spelled tail) in
    omega (arith, size, few_digits task (omega (arith, few, among)))
step_size n clears rest few among = omega arith
step_size n takes rest few among = omega arith
step_size n gives rest few among = omega arith
step_size n schedules rest few among = omega arith
step_size n waits rest few among = omega arith
step_size n asks rest few among = omega arith
step_size n (arms offset) rest few among =
    let tail = a_mark Comma ∷ a_space ∷ a_number (codes "0") ∷ call_end rest in
    let size : length (spelled (step_lexemes (arms offset) rest)) ≡ length (codes "SetRelAlarm(A, ") + length (decimal offset) + length (spelled tail) = one_number (codes "SetRelAlarm(A, ") (decimal offset) (spelled tail) in
    omega (arith, size, few_digits offset (omega (arith, among)))

steps_size : (n i : ℕ) (steps : List Step) (rest : Lexemes) → n ≤ 16 → AllFrom (λ _. IsAmong n) i steps → length (spelled (steps_lexemes steps rest)) ≤ 40 * length steps + length (spelled rest)
steps_size n i [] rest few among = omega arith
steps_size n i (s ∷ steps) rest few among =
    omega (arith, step_size n s (steps_lexemes steps rest) few among.0, steps_size n (i + 1) steps rest few among.1)

body_size : (n i : ℕ) (steps : Steps) (rest : Lexemes) → n ≤ 16 → i < 16 → AreSteps n steps → length (spelled (body_lexemes i steps rest)) ≤ 400 + length (spelled rest)
body_size n i steps rest few low are =
    let behind = block_end (steps_lexemes steps.1 (block_end rest)) in
    let tail = a_mark CloseParen ∷ a_space ∷ a_mark OpenBrace ∷ a_line_end ∷ loop_front (steps_lexemes steps.0 behind) in
    let size : length (spelled (body_lexemes i steps rest)) ≡ length (codes "TASK(T") + length (decimal i) + length (spelled tail) = one_number (codes "TASK(T") (decimal i) (spelled tail) in
    let inner : length (spelled (steps_lexemes steps.0 behind)) ≤ 160 + length (spelled behind) = omega (arith, steps_size n 0 steps.0 behind few are.0.1, are.0.0) in
    let outer : length (spelled (steps_lexemes steps.1 (block_end rest))) ≤ 160 + length (spelled (block_end rest)) = omega (arith, steps_size n 0 steps.1 (block_end rest) few are.1.1, are.1.0) in
    omega (arith, size, few_digits i (omega (arith, low)), inner, outer)

bodies_size : (n i : ℕ) (bodies : List Steps) (rest : Lexemes) → n ≤ 16 → i + length bodies ≤ 16 → AllFrom (λ _. AreSteps n) i bodies → length (spelled (each_of body_lexemes i bodies rest)) ≤ 400 * length bodies + length (spelled rest)
bodies_size n i [] rest few inside are = omega arith
bodies_size n i (steps ∷ bodies) rest few inside are =
    omega (arith, body_size n i steps (each_of body_lexemes (i + 1) bodies rest) few (omega (arith, inside)) are.0, bodies_size n (i + 1) bodies rest few (omega (arith, inside)) are.1)

isr_size : (task : ℕ) → task < 16 → length (spelled (isr_lexemes task [])) ≤ 100
isr_size task low =
    let tail = a_mark CloseParen ∷ a_mark Semicolon ∷ a_space ∷ block_end [] in
    let size : length (spelled (isr_lexemes task [])) ≡ length (codes "ISR(I) { ActivateTask(T") + length (decimal task) + length (spelled tail) = one_number (codes "ISR(I) { ActivateTask(T") (decimal task) (spelled tail) in
    omega (arith, size, few_digits task (omega (arith, low)))

pub code_size : (n : ℕ) (bodies : List Steps) (task : ℕ) → n ≤ 16 → length bodies ≡ n → AllFrom (λ _. AreSteps n) 0 bodies → task < n → length (spelled (code_lexemes bodies task)) ≤ 1048576
code_size n bodies task few same are named =
    omega (arith, bodies_size n 0 bodies (isr_lexemes task []) few (omega (arith, few, same)) are, isr_size task (omega (arith, few, named)), same, few)
