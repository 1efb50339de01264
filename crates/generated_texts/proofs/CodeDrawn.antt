-- The generator's task code text is spelled word by word.
use Rattle.std.proofs.Common.{◌≡◌, ℕ, ◌+◌, ◌<◌, ◌==◌, Bool, List, [], ◌∷◌, ◌++◌, length, codes, decimal, refl, sym, ap, ◌∙◌, append_assoc, arith}
use Rattle.std.specs.Prelude.{if◌then◌else◌}
use Rattle.std.proofs.lemmas.List.{append-nil}
use Rattle.osek_vectors.specs.Writing.{Text, fixed, ◌⨾◌, each_from}
use Rattle.osek_vectors.specs.CodeTexts.{activation, event_setting, alarm_setting, statement_of_kind, statement, statements, task_body, isr_body, code_text}
use Rattle.generated_texts.proofs.CodeLexemes.{Step, works, clears, takes, gives, schedules, waits, asks, activates, sets, arms, IsAmong, Steps, AreFour, AreSteps, step_lexemes, steps_lexemes, body_front, block_end, loop_front, body_lexemes, isr_lexemes, code_lexemes}
use Rattle.generated_texts.proofs.Drawing.{Spells, Spells-fixed, Spells-draw, Spells-either, Spells-then, Spells-front, Spells-behind, Spells-each, Spells-by}
use Rattle.generated_texts.proofs.{Lexemes.{a_line_end, spelled}, OilLexemes.{Lexemes}, Rows.{each_of, AllFrom}, TaskNames.{task_name}}

-- the generator's pieces, one behind the other
three_pieces : (a b c rest : List ℕ) → (a ++ b ++ c) ++ rest ≡ a ++ (b ++ (c ++ rest))
three_pieces a b c rest = simp append_assoc refl

module _ (n : ℕ) (positive : 0 < n) where
  abbrev Spells-step : Text → Type 0
  Spells-step text = Spells spelled step_lexemes (IsAmong n) text

  plain : (s : Step) (bytes : List ℕ) → IsAmong n s → ((rest : Lexemes) → bytes ++ spelled rest ≡ spelled (step_lexemes s rest)) → Spells-step (fixed bytes)
  plain s bytes is e = Spells-fixed spelled step_lexemes (IsAmong n) bytes s is e

  Spells-activation : Spells-step (activation n)
  Spells-activation =
      Spells-draw spelled step_lexemes (IsAmong n) n _ positive (λ k h. plain (activates k) _ h (λ rest. three_pieces (codes "ActivateTask(T") (decimal k) (codes ");\n") (spelled rest)))

  Spells-event_setting : Spells-step (event_setting n)
  Spells-event_setting =
      Spells-draw spelled step_lexemes (IsAmong n) n _ positive (λ k h. plain (sets k) _ h (λ rest. three_pieces (codes "SetEvent(T") (decimal k) (codes ", E);\n") (spelled rest)))

  Spells-alarm_setting : Spells-step alarm_setting
  Spells-alarm_setting =
      Spells-draw spelled step_lexemes (IsAmong n) 12 _ (omega arith) (λ v h. plain (arms (1 + v)) _ (omega (arith, h)) (λ rest. three_pieces (codes "SetRelAlarm(A, ") (decimal (1 + v)) (codes ", 0);\n") (spelled rest)))

  either : (b : Bool) (first second : Text) → Spells-step first → Spells-step second → Spells-step (if b then first else second)
  either b first second f s = Spells-either spelled step_lexemes (IsAmong n) b first second f s

  Spells-kind : (kind : ℕ) → Spells-step (statement_of_kind n kind)
  Spells-kind kind =
      either (kind == 0) _ _ (plain works (codes "work 3;\n") tt (λ _. refl))
      (either (kind == 1) _ _ Spells-activation
      (either (kind == 2) _ _ Spells-event_setting
      (either (kind == 3) _ _ (plain clears (codes "ClearEvent(E);\n") tt (λ _. refl))
      (either (kind == 4) _ _ (plain takes (codes "GetResource(R);\n") tt (λ _. refl))
      (either (kind == 5) _ _ (plain gives (codes "ReleaseResource(R);\n") tt (λ _. refl))
      (either (kind == 6) _ _ (plain schedules (codes "Schedule();\n") tt (λ _. refl))
      (either (kind == 7) _ _ (plain waits (codes "WaitEvent(E);\n") tt (λ _. refl))
      (either (kind == 8) _ _ (plain asks (codes "GetAlarm(A);\n") tt (λ _. refl)) Spells-alarm_setting))))))))

  Spells-statement : Spells-step (statement n)
  Spells-statement = Spells-draw spelled step_lexemes (IsAmong n) 10 (statement_of_kind n) (omega arith) (λ kind _. Spells-kind kind)

  each_step : (i : ℕ) (steps : List Step) (rest : Lexemes) → each_of (λ _. step_lexemes) i steps rest ≡ steps_lexemes steps rest
  each_step i [] rest = refl
  each_step i (s ∷ steps) rest = ap (step_lexemes s) (each_step (i + 1) steps rest)

  Spells-statements : Spells spelled steps_lexemes (AreFour n) (statements n)
  Spells-statements =
      Spells-by spelled (each_of (λ _. step_lexemes) 0) (AreFour n) steps_lexemes (AreFour n) (λ steps. steps) (λ _ h. h) (each_step 0) (statements n)
      (Spells-each spelled (λ _. step_lexemes) (λ _. IsAmong n) (λ _. statement n) 4 0 (λ _ _. Spells-statement))

  Spells-body : (i : ℕ) → Spells spelled (body_lexemes i) (AreSteps n) (task_body n i)
  Spells-body i =
      let head = codes "TASK(T" ++ decimal i ++ codes ") {\nwhile (?) {\n" in
      let front = λ (rest : Lexemes). body_front (codes "TASK") (task_name i) (a_line_end ∷ loop_front rest) in
      let begun = Spells-front spelled steps_lexemes (AreFour n) head front (statements n) (λ rest. three_pieces (codes "TASK(T") (decimal i) (codes ") {\nwhile (?) {\n") (spelled rest)) Spells-statements in
      let inner = Spells-behind spelled (λ (inner : List Step) (rest : Lexemes). front (steps_lexemes inner rest)) (AreFour n) (codes "}\n") block_end (fixed head ⨾ statements n) (λ rest. refl) begun in
      let both = Spells-then spelled (λ (inner : List Step) (rest : Lexemes). front (steps_lexemes inner (block_end rest))) (AreFour n) steps_lexemes (AreFour n) (fixed head ⨾ statements n ⨾ fixed (codes "}\n")) (statements n) inner Spells-statements in
      Spells-behind spelled (λ (steps : Steps) (rest : Lexemes). front (steps_lexemes steps.0 (block_end (steps_lexemes steps.1 rest)))) (AreSteps n) (codes "}\n") block_end (fixed head ⨾ statements n ⨾ fixed (codes "}\n") ⨾ statements n) (λ rest. refl) both

  Spells-isr : Spells spelled isr_lexemes (λ (task : ℕ). task < n) (isr_body n)
  Spells-isr = Spells-draw spelled isr_lexemes (λ (task : ℕ). task < n) n _ positive
      (λ k h. Spells-fixed spelled isr_lexemes (λ (task : ℕ). task < n) _ k h (λ rest. three_pieces (codes "ISR(I) { ActivateTask(T") (decimal k) (codes "); }\n") (spelled rest)))

  Spells-code : Spells spelled (λ (p : List Steps × ℕ) (rest : Lexemes). each_of body_lexemes 0 p.0 (isr_lexemes p.1 rest)) (λ (p : List Steps × ℕ). ((length p.0 ≡ n) × AllFrom (λ _. (AreSteps n)) 0 p.0) × (p.1 < n)) (code_text n)
  Spells-code =
      Spells-then spelled (each_of body_lexemes 0) (λ (bodies : List Steps). (length bodies ≡ n) × AllFrom (λ _. AreSteps n) 0 bodies) isr_lexemes (λ (task : ℕ). task < n) (each_from 0 n (task_body n)) (isr_body n)
      (Spells-each spelled body_lexemes (λ _. (AreSteps n)) (task_body n) n 0 (λ i _. Spells-body i)) Spells-isr

-- the generator's task code text is spelled so
pub record IsCodeText (n : ℕ) (bytes : List ℕ) : Type 0 where
  pub bodies : List Steps
  pub task : ℕ
  pub tasks : length bodies ≡ n
  pub among : AllFrom (λ _. AreSteps n) 0 bodies
  pub named : task < n
  pub is : bytes ≡ spelled (code_lexemes bodies task)

pub code_is : (n x : ℕ) → 0 < n → IsCodeText n (code_text n x).text
code_is n x positive =
    let (p, good, e) = Spells-code n positive x in
    record { bodies = p.0; task = p.1; tasks = good.0.0; among = good.0.1; named = good.1; is = sym (append-nil (code_text n x).text) ∙ e [] }
