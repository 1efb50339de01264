-- Code without a fault can be linked.
use Rattle.std.proofs.Common.{◌≡◌, ℕ, ◌<◌, ◌≤◌, Bool, true, false, cond, List, [], ◌∷◌, ◌++◌, length, refl, arith}
use Rattle.std.specs.Prelude.{All, ◌&&◌, nat_le, IsTrue}
use Rattle.std.proofs.lemmas.{Bool.Decides.{nat_tests}, List.Elements.{All-nil, All-cons, All-head, All-tail}}
use Rattle.osek_values.proofs.Lists.{both_empty}
use Rattle.oil_lexer.specs.declared.token.Token.{Token}
use Rattle.task_code.specs.declared.{call.{Reference.{Reference}, Call.{Call}}, tree.Body.{Body}}
use Rattle.task_code.specs.declared.words.{Service.{Service}, PlainService.{PlainService, TheVariants.{TerminateTask, Schedule, GetTaskId, GetActiveApplicationMode, Lock}}, ObjectService.{ObjectService, TheVariants.{ActivateTask, ChainTask, GetResource, ReleaseResource, GetEvent, CancelAlarm, GetAlarm, GetTaskState}}, MaskService.{MaskService, TheVariants.{ClearEvent, WaitEvent}}, AlarmService.{AlarmService, TheVariants.{SetRelAlarm, SetAbsAlarm}}}
use Rattle.task_code.specs.{Services.{plain_call, object_call, mask_call, alarm_call}, Statements.{Statements, closed, work_then, if_then, if_else_then, while_then, call_then}}
use Rattle.task_code.specs.Fit.{HasCounts, NamesEvents, HasMasks, depth, IsFit}
use Rattle.task_code.specs.Grammar.{IsMask, last_event, more_events, IsCall, plain, object, mask, set_event, alarm, shutdown, IsStatements, no_more, a_work, an_if, an_if_else, a_while, AreBodies, no_body, a_body}
use Rattle.task_code.specs.Grammar as grammar
use Rattle.task_code.specs.Faults.{is_count, wrong_works, wrong_works_in}

-- masks, by the grammar

mask_length : {m : List Reference} {ts rest : List Token} → IsMask m ts rest → 1 ≤ length m
mask_length last_event = omega arith
mask_length (more_events more) = omega arith

plain_names : (s : PlainService) → NamesEvents (plain_call s)
plain_names TerminateTask = tt
plain_names Schedule = tt
plain_names GetTaskId = tt
plain_names GetActiveApplicationMode = tt
plain_names (Lock l) = tt

object_names : (s : ObjectService) (r : Reference) → NamesEvents (object_call s r)
object_names ActivateTask r = tt
object_names ChainTask r = tt
object_names GetResource r = tt
object_names ReleaseResource r = tt
object_names GetEvent r = tt
object_names CancelAlarm r = tt
object_names GetAlarm r = tt
object_names GetTaskState r = tt

mask_names : (s : MaskService) (m : List Reference) → 1 ≤ length m → NamesEvents (mask_call s m)
mask_names ClearEvent m h = h
mask_names WaitEvent m h = h

alarm_names : (s : AlarmService) (r : Reference) (x y : ℕ) → NamesEvents (alarm_call s r x y)
alarm_names SetRelAlarm r x y = tt
alarm_names SetAbsAlarm r x y = tt

names_events : {s : Service} {c : Call} {ts rest : List Token} → IsCall s c ts rest → NamesEvents c
names_events (plain {s = s}) = plain_names s
names_events (object {s = s}) = object_names s _
names_events (mask {s = s} m) = mask_names s _ (mask_length m)
names_events (set_event m) = mask_length m
names_events (alarm {s = s}) = alarm_names s _ _ _
names_events (shutdown e) = tt

has_masks : {s : Statements} {ts rest : List Token} → IsStatements s ts rest → HasMasks s
has_masks no_more = tt
has_masks (a_work e more) = has_masks more
has_masks (an_if e first next) = (has_masks first, has_masks next)
has_masks (an_if_else e first is second next) = (has_masks first, has_masks second, has_masks next)
has_masks (a_while e c body next) = (has_masks body, has_masks next)
has_masks (grammar.a_call e c next) = (names_events c, has_masks next)

-- counts, where no `work` is wrong

both_true : (a b : Bool) → a && b ≡ true → (a ≡ true) × (b ≡ true)
both_true true true e = (refl, refl)
both_true true false e = absurd cc
both_true false b e = absurd cc

pub count_range : (count : ℕ) → IsTrue (is_count count) → (1 ≤ count) × (count ≤ 65535)
count_range count is =
    let range = both_true (nat_le 1 count) (nat_le count 65535) is in
    let low = range.0 in
    let high = range.1 in
    (grind (arith, nat_tests), grind (arith, nat_tests))

one_count : (count line : ℕ) (next : List ℕ) (b : Bool) → is_count count ≡ b → cond b next (line ∷ next) ≡ [] → IsTrue (is_count count) × (next ≡ [])
one_count count line next true is e = (is, e)
one_count count line next false is e = absurd cc

has_counts : (s : Statements) → wrong_works s ≡ [] → HasCounts s
has_counts (closed line) e = tt
has_counts (work_then line count next) e =
    let (right, none) = one_count count line (wrong_works next) (is_count count) refl e in
    (right, has_counts next none)
has_counts (if_then line branch next) e =
    let parts = both_empty (wrong_works branch) (wrong_works next) e in
    (has_counts branch parts.0, has_counts next parts.1)
has_counts (if_else_then line branch otherwise next) e =
    let parts = both_empty (wrong_works branch) (wrong_works otherwise ++ wrong_works next) e in
    let others = both_empty (wrong_works otherwise) (wrong_works next) parts.1 in
    (has_counts branch parts.0, has_counts otherwise others.0, has_counts next others.1)
has_counts (while_then line condition body next) e =
    let parts = both_empty (wrong_works body) (wrong_works next) e in
    (has_counts body parts.0, has_counts next parts.1)
has_counts (call_then line call next) e = has_counts next e

-- all of it

abbrev IsShallow : Body → Type 0
IsShallow b = depth b.statements < 32

pub are_fit : (bodies : List Body) (tokens : List Token) → AreBodies bodies tokens → wrong_works_in bodies ≡ [] → All (λ (b : Body). depth b.statements < 32) bodies → All IsFit bodies
are_fit [] tokens no_body e shallow = All-nil IsFit
are_fit (b ∷ bodies) tokens (a_body {a = a} {b = rest} is statements more) e shallow =
    let parts = both_empty (wrong_works b.statements) (wrong_works_in bodies) e in
    All-cons IsFit b bodies (record { counts = has_counts b.statements parts.0; masks = has_masks statements; depth = All-head IsShallow b bodies shallow }) (are_fit bodies rest more parts.1 (All-tail IsShallow b bodies shallow))
