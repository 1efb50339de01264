-- The tree of a generated task code text: its tokens are a sentence, with a body for each task and one for the ISR.
use Rattle.std.proofs.Common.{◌≡◌, ℕ, ◌+◌, List, [], ◌∷◌, codes, decimal, refl, ◌∙◌}
use Rattle.std.specs.Prelude.{None}
use Rattle.oil_lexer.specs.{declared.token.{Mark.TheVariants.{CloseBrace}, Token.{Token}}, Numbers.{value_of}}
use Rattle.task_code.specs.declared.call.Call.TheVariants as call
use Rattle.task_code.specs.declared.tree.{Body.{Body}, BodyKind.TheVariants.{Task, Isr}, Code.{Code}, Condition.TheVariants.{Choice}}
use Rattle.task_code.specs.declared.words.ObjectService.TheVariants as of_object
use Rattle.task_code.specs.declared.words.MaskService.TheVariants as of_mask
use Rattle.task_code.specs.declared.words.AlarmService.TheVariants as of_alarm
use Rattle.task_code.specs.declared.words.PlainService.TheVariants as of_none
use Rattle.task_code.specs.declared.words.Service.TheVariants as service
use Rattle.task_code.specs.{Expect.{Stack, scan, some_statements}, Faults.{wrong_works, wrong_works_in, HasCode}}
use Rattle.task_code.specs.Grammar.{reference, last_event, plain, object, mask, set_event, alarm, choice, IsStatements, no_more, a_work, a_while, a_call, AreBodies, no_body, a_body}
use Rattle.task_code.specs.{Statements.{Statements, closed, work_then, while_then, call_then}, Words.{body_kind, plain_service, object_service, service_of, statement_word}}
use Rattle.task_code.proofs.Viable.{has_tree}
use Rattle.generated_texts.proofs.{Lexemes.{Lexeme, a_mark, a_line_end, tokens_from}, Rows.{each_of}, TaskNames.{task_name}}
use Rattle.generated_texts.proofs.CodeLexemes.{Step, works, clears, takes, gives, schedules, waits, asks, activates, sets, arms, Steps, step_lexemes, steps_lexemes, body_lexemes, isr_lexemes, code_lexemes}

-- a statement in front of others
abbrev pub step_then : ℕ → Step → Statements → Statements
step_then line works next = work_then line 3 next
step_then line (activates task) next = call_then line (call.ActivateTask (reference (task_name task) line)) next
step_then line (sets task) next = call_then line (call.SetEvent (reference (task_name task) line) (reference (codes "E") line ∷ [])) next
step_then line clears next = call_then line (call.ClearEvent (reference (codes "E") line ∷ [])) next
step_then line takes next = call_then line (call.GetResource (reference (codes "R") line)) next
step_then line gives next = call_then line (call.ReleaseResource (reference (codes "R") line)) next
step_then line schedules next = call_then line call.Schedule next
step_then line waits next = call_then line (call.WaitEvent (reference (codes "E") line ∷ [])) next
step_then line asks next = call_then line (call.GetAlarm (reference (codes "A") line)) next
step_then line (arms offset) next = call_then line (call.SetRelAlarm (reference (codes "A") line) (value_of 10 (decimal offset)) 0) next

-- each on a line of its own
abbrev pub steps_then : ℕ → List Step → Statements → Statements
steps_then line [] next = next
steps_then line (s ∷ steps) next = step_then line s (steps_then (line + 1) steps next)

abbrev pub line_behind : ℕ → List Step → ℕ
line_behind line [] = line
line_behind line (s ∷ steps) = line_behind (line + 1) steps

-- the lines of the closing braces of a task's loop and of its body, which begins on a line
abbrev pub loop_end : ℕ → Steps → ℕ
loop_end line steps = line_behind (line + 1 + 1) steps.0

abbrev pub body_end : ℕ → Steps → ℕ
body_end line steps = line_behind (loop_end line steps + 1) steps.1

abbrev pub body_statements : ℕ → Steps → Statements
body_statements line steps =
    while_then (line + 1) Choice (steps_then (line + 1 + 1) steps.0 (closed (loop_end line steps))) (steps_then (loop_end line steps + 1) steps.1 (closed (body_end line steps)))

abbrev pub task_body : ℕ → ℕ → Steps → Body
task_body i line steps = record { kind = Task; line = line; owner = reference (task_name i) line; statements = body_statements line steps }

abbrev pub isr_body : ℕ → ℕ → Body
isr_body line task = record { kind = Isr; line = line; owner = reference (codes "I") line; statements = call_then line (call.ActivateTask (reference (task_name task) line)) (closed line) }

-- the bodies of tasks from number i on, and that of the ISR
abbrev pub bodies_from : ℕ → ℕ → List Steps → ℕ → List Body
bodies_from i line [] task = isr_body line task ∷ []
bodies_from i line (steps ∷ bodies) task = task_body i line steps ∷ bodies_from (i + 1) (body_end line steps + 1) bodies task

abbrev pub the_code : List Steps → ℕ → Code
the_code bodies task = record { bodies = bodies_from 0 1 bodies task }

step_is : (s : Step) (line : ℕ) (ls : List Lexeme) {next : Statements} {rest : List Token} → IsStatements next (tokens_from (line + 1) ls) rest → IsStatements (step_then line s next) (tokens_from line (step_lexemes s ls)) rest
unfolding statement_word service_of object_service plain_service
step_is works line ls h = a_work refl h
step_is (activates task) line ls h = a_call {s = service.Object of_object.ActivateTask} refl (object {s = of_object.ActivateTask}) h
step_is (sets task) line ls h = a_call {s = service.SetEvent} refl (set_event last_event) h
step_is clears line ls h = a_call {s = service.Mask of_mask.ClearEvent} refl (mask {s = of_mask.ClearEvent} last_event) h
step_is takes line ls h = a_call {s = service.Object of_object.GetResource} refl (object {s = of_object.GetResource}) h
step_is gives line ls h = a_call {s = service.Object of_object.ReleaseResource} refl (object {s = of_object.ReleaseResource}) h
step_is schedules line ls h = a_call {s = service.Plain of_none.Schedule} refl (plain {s = of_none.Schedule}) h
step_is waits line ls h = a_call {s = service.Mask of_mask.WaitEvent} refl (mask {s = of_mask.WaitEvent} last_event) h
step_is asks line ls h = a_call {s = service.Object of_object.GetAlarm} refl (object {s = of_object.GetAlarm}) h
step_is (arms offset) line ls h = a_call {s = service.Alarm of_alarm.SetRelAlarm} refl (alarm {s = of_alarm.SetRelAlarm}) h

steps_are : (steps : List Step) (line : ℕ) (ls : List Lexeme) {next : Statements} {rest : List Token} → IsStatements next (tokens_from (line_behind line steps) ls) rest → IsStatements (steps_then line steps next) (tokens_from line (steps_lexemes steps ls)) rest
steps_are [] line ls h = h
steps_are (s ∷ steps) line ls h = step_is s line (steps_lexemes steps ls) (steps_are steps (line + 1) ls h)

bodies_are : (i line : ℕ) (bodies : List Steps) (task : ℕ) → AreBodies (bodies_from i line bodies task) (tokens_from line (each_of body_lexemes i bodies (isr_lexemes task [])))
unfolding body_kind statement_word service_of object_service plain_service
bodies_are i line [] task = a_body refl (a_call {s = service.Object of_object.ActivateTask} refl (object {s = of_object.ActivateTask}) no_more) no_body
bodies_are i line (steps ∷ bodies) task =
    a_body refl (a_while refl choice (steps_are steps.0 (line + 1 + 1) _ no_more) (steps_are steps.1 (loop_end line steps + 1) _ no_more))
    (bodies_are (i + 1) (body_end line steps + 1) bodies task)

-- the reader's stack takes them
step_taken : (s : Step) (line d : ℕ) (ls : List Lexeme) (stack : Stack) → scan d (some_statements ∷ stack) (tokens_from line (step_lexemes s ls)) ≡ scan d (some_statements ∷ stack) (tokens_from (line + 1) ls)
unfolding statement_word service_of object_service plain_service
step_taken works line d ls stack = refl
step_taken (activates task) line d ls stack = refl
step_taken (sets task) line d ls stack = refl
step_taken clears line d ls stack = refl
step_taken takes line d ls stack = refl
step_taken gives line d ls stack = refl
step_taken schedules line d ls stack = refl
step_taken waits line d ls stack = refl
step_taken asks line d ls stack = refl
step_taken (arms offset) line d ls stack = refl

steps_taken : (steps : List Step) (line d : ℕ) (ls : List Lexeme) (stack : Stack) → scan d (some_statements ∷ stack) (tokens_from line (steps_lexemes steps ls)) ≡ scan d (some_statements ∷ stack) (tokens_from (line_behind line steps) ls)
steps_taken [] line d ls stack = refl
steps_taken (s ∷ steps) line d ls stack = step_taken s line d (steps_lexemes steps ls) stack ∙ steps_taken steps (line + 1) d ls stack

bodies_taken : (i line : ℕ) (bodies : List Steps) (task : ℕ) → scan 0 [] (tokens_from line (each_of body_lexemes i bodies (isr_lexemes task []))) ≡ None
unfolding body_kind statement_word service_of object_service plain_service
bodies_taken i line [] task = refl
bodies_taken i line (steps ∷ bodies) task =
    let rest = a_mark CloseBrace ∷ a_line_end ∷ each_of body_lexemes (i + 1) bodies (isr_lexemes task []) in
    steps_taken steps.0 (line + 1 + 1) 2 (a_mark CloseBrace ∷ a_line_end ∷ steps_lexemes steps.1 rest) (some_statements ∷ [])
    ∙ steps_taken steps.1 (loop_end line steps + 1) 1 rest [] ∙ bodies_taken (i + 1) (body_end line steps + 1) bodies task

-- each `work` is within its range
step_works : (s : Step) (line : ℕ) (next : Statements) → wrong_works (step_then line s next) ≡ wrong_works next
step_works works line next = refl
step_works (activates task) line next = refl
step_works _ line next = refl

steps_work : (steps : List Step) (line close : ℕ) → wrong_works (steps_then line steps (closed close)) ≡ []
steps_work [] line close = refl
steps_work (s ∷ steps) line close = step_works s line (steps_then (line + 1) steps (closed close)) ∙ steps_work steps (line + 1) close

bodies_work : (i line : ℕ) (bodies : List Steps) (task : ℕ) → wrong_works_in (bodies_from i line bodies task) ≡ []
bodies_work i line [] task = refl
bodies_work i line (steps ∷ bodies) task =
    rw (steps_work steps.0 (line + 1 + 1) (loop_end line steps), steps_work steps.1 (loop_end line steps + 1) (body_end line steps))
    (bodies_work (i + 1) (body_end line steps + 1) bodies task)

pub code_has_tree : (bodies : List Steps) (task : ℕ) → HasCode (tokens_from 1 (code_lexemes bodies task)) (the_code bodies task)
code_has_tree bodies task = record {
  tree = has_tree (tokens_from 1 (code_lexemes bodies task)) (the_code bodies task) (bodies_are 0 1 bodies task) (bodies_taken 0 1 bodies task);
  works = bodies_work 0 1 bodies task;
}
