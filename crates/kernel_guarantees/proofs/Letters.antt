-- The moves of one step in the task state model.
use Rattle.std.proofs.Common.{◌≡◌, ℕ, ◌+◌, ◌≤◌, Bool, true, false, length, refl, sym, subst, ap, ◌∙◌, inl, inr, arith}
use Rattle.std.proofs.lemmas.{Bool.{cases_lt, eq-eqb, false≢true}, List.{get_or_past}}
use Rattle.osek_values.specs.declared.{event.Event.{Event}, numbers.{BlockNo.{BlockNo}, TaskNo.{TaskNo}}, status.Letter.{Letter, TheVariants.{S, Y, R, W}}}
use Rattle.osek_values.specs.Numbers.{task_no}
use Rattle.osek_standard.specs.declared.{app.App.{App}, state.{State.{State}, Processor.{Processor}}, task_state.{Standing.{Standing}, TaskState.{TaskState}, Activity.{Activity, TheVariants.{Suspended, Live, Waiting}}}}
use Rattle.osek_standard.specs.{Apps.{is_extended, the_task}, TaskStates.{is_live_activity, suspended}, States.{is_that_task, letter_in, letter_of, task_of, task_state}, Kernel.{step}, Well.{IsActivityOf, Well}}
use Rattle.osek_standard.specs.declared.state.Processor.TheVariants as processor
use Rattle.osek_standard.proofs.Callers.{task_level_of}
use Rattle.kernel_guarantees.specs.TaskModel.{MayBecome, MayMove}
use Rattle.kernel_guarantees.proofs.{TaskMoves.{step_leaves}, Serving.{either_by}}

from_running : (l : Letter) → MayMove R l
from_running S = tt
from_running Y = tt
from_running R = tt
from_running W = tt

module _ (app : App) (t : ℕ) (q : Processor) where
  abbrev current_now : Bool
  current_now = is_that_task (task_of q) t

  from_suspended : (a : Activity) → MayBecome app t Suspended a → MayMove S (letter_in q t a)
  from_suspended Suspended h = tt
  from_suspended (Live x) h = either_by (MayMove S) current_now R Y (λ _. tt) (λ _. tt)
  from_suspended (Waiting b) (inl e) = absurd (cc (e))
  from_suspended (Waiting b) (inr h) = h

  from_waiting : (b : BlockNo) (a : Activity) → MayBecome app t (Waiting b) a → MayMove W (letter_in q t a)
  from_waiting b Suspended (inl e) = absurd (cc (e))
  from_waiting b Suspended (inr h) = h
  from_waiting b (Live x) h = either_by (MayMove W) current_now R Y (λ _. tt) (λ _. tt)
  from_waiting b (Waiting c) h = tt

  from_ready : (x : Activity) (a : Activity) → is_live_activity x ≡ true → MayBecome app t x a → MayMove Y (letter_in q t a)
  from_ready Suspended a live h = absurd (false≢true live)
  from_ready (Live y) Suspended live h = h
  from_ready (Live y) (Live z) live h = either_by (MayMove Y) current_now R Y (λ _. tt) (λ _. tt)
  from_ready (Live y) (Waiting b) live h = h
  from_ready (Waiting b) a live h = absurd (false≢true live)

module _ (app : App) (s : State) (w : Well app s) where
  pub step_moves : (e : Event) (t : ℕ) → MayMove (letter_of s.processor t (task_state s t)) (letter_of (step app s e).state.processor t (task_state (step app s e).state t))
  step_moves e t = by (task_state s t).activity refl where
    r : State
    r = (step app s e).state

    becomes : (s.processor ≡ processor.Running (task_no t) → ⊥) → MayBecome app t (task_state s t).activity (task_state r t).activity
    becomes beside = step_leaves app s (task_no t) beside e w

    not_live : (a : Activity) → (task_state s t).activity ≡ a → is_live_activity a ≡ false → s.processor ≡ processor.Running (task_no t) → ⊥
    not_live a is dead runs = let live : is_live_activity (task_state s t).activity ≡ true = (task_level_of app s (task_no t) w runs).running.1 in false≢true (sym dead ∙ ap is_live_activity (sym is) ∙ live)

    by : (a : Activity) → (task_state s t).activity ≡ a → MayMove (letter_in s.processor t (task_state s t).activity) (letter_in r.processor t (task_state r t).activity)
    by Suspended is = subst (λ (a : Activity). MayMove (letter_in s.processor t a) (letter_in r.processor t (task_state r t).activity)) (sym is)
        (from_suspended app t r.processor (task_state r t).activity (subst (λ (a : Activity). MayBecome app t a (task_state r t).activity) is (becomes (not_live Suspended is refl))))
    by (Waiting b) is = subst (λ (a : Activity). MayMove (letter_in s.processor t a) (letter_in r.processor t (task_state r t).activity)) (sym is)
        (from_waiting app t r.processor b (task_state r t).activity (subst (λ (a : Activity). MayBecome app t a (task_state r t).activity) is (becomes (not_live (Waiting b) is refl))))
    by (Live x) is = subst (λ (a : Activity). MayMove (letter_in s.processor t a) (letter_in r.processor t (task_state r t).activity)) (sym is)
        (either_by (λ (l : Letter). MayMove l (letter_in r.processor t (task_state r t).activity)) (is_that_task (task_of s.processor) t) R Y
        (λ _. from_running (letter_in r.processor t (task_state r t).activity))
        (λ ready. from_ready app t r.processor (Live x) (task_state r t).activity refl (subst (λ (a : Activity). MayBecome app t a (task_state r t).activity) is
        (becomes (λ runs. false≢true (sym ready ∙ ap (λ (p : Processor). is_that_task (task_of p) t) runs ∙ eq-eqb t t refl))))))

  -- an extended task alone waits
  pub waits_extended : (t : ℕ) (b : BlockNo) → (task_state s t).activity ≡ Waiting b → is_extended app t ≡ true
  waits_extended t b e = elim (cases_lt t (length app.tasks)) [
    | inl known ↦ (subst (IsActivityOf app t) e (w.tasks t known).activity).extended
    | inr past ↦ absurd (let none : task_state s t ≡ suspended = get_or_past s.tasks t suspended (subst (λ (n : ℕ). n ≤ t) (sym w.tasks_len) past) in
        cc (e, ap (λ (x : TaskState). x.activity) none))
  ]

  -- no more activations than ACTIVATION says
  pub few_activations : (t : ℕ) (x : Standing) → (task_state s t).activity ≡ Live x → x.further + 1 ≤ (the_task app t).activation
  few_activations t x e = elim (cases_lt t (length app.tasks)) [
    | inl known ↦ (let right = (subst (IsActivityOf app t) e (w.tasks t known).activity).further in omega (arith, right))
    | inr past ↦ absurd (let none : task_state s t ≡ suspended = get_or_past s.tasks t suspended (subst (λ (n : ℕ). n ≤ t) (sym w.tasks_len) past) in
        cc (e, ap (λ (x : TaskState). x.activity) none))
  ]

  -- a task that waits isn't running
  pub waits_beside : (u : TaskNo) (b : BlockNo) → (task_state s u.0).activity ≡ Waiting b → s.processor ≡ processor.Running u → ⊥
  waits_beside u b e runs = let live : is_live_activity (task_state s u.0).activity ≡ true = (task_level_of app s u w runs).running.1 in false≢true (sym (ap is_live_activity e) ∙ live)
