-- What others make of a task, in the words of the task state model.
use Rattle.std.proofs.Common.{◌≡◌, ℕ, Bool, true, List, [], refl, ap, inl, inr}
use Rattle.std.proofs.lemmas.Bool.{false≢true}
use Rattle.osek_values.specs.declared.{event.Event.{Event}, numbers.{ResNo.{ResNo}, TaskNo.{TaskNo}}}
use Rattle.osek_standard.specs.declared.{app.App.{App}, state.State.{State}}
use Rattle.osek_standard.specs.declared.task_state.{TaskState.{TaskState}, Place.{Place}, Activity.{Activity, TheVariants.{Suspended, Live, Waiting}}}
use Rattle.osek_standard.specs.{States.{task_state}, Internal.{inside_as}, Services.{activated_by, released_from, waits_in}, Kernel.{step}, Dispatch.{instruction}, Well.{IsActive, Well}}
use Rattle.osek_standard.specs.declared.state.Processor.TheVariants as processor
use Rattle.kernel_guarantees.specs.TaskModel.{IsStandingAs, MayBecome}
use Rattle.kernel_guarantees.proofs.Others.{IsByOthers, instruction_leaves, step_by_others}

module _ (app : App) where
  stays_as : (t : ℕ) (a : Activity) → MayBecome app t a a
  stays_as t Suspended = inl refl
  stays_as t (Live x) = (refl, refl)
  stays_as t (Waiting b) = inl refl

  activated_as : (t : ℕ) (x : TaskState) (a : Activity) → x.activity ≡ a → MayBecome app t a (activated_by app t x a).activity
  activated_as t x Suspended e = inr (refl, refl)
  activated_as t x (Live y) e = (refl, refl)
  activated_as t x (Waiting b) e = inl e

  released_as : (t m : ℕ) (a : Activity) → waits_in app a m ≡ true → MayBecome app t a (released_from app a)
  released_as t m Suspended e = absurd (false≢true e)
  released_as t m (Live y) e = absurd (false≢true e)
  released_as t m (Waiting b) e = inr (refl, refl)

  stands_inside : (p : Place) (h : List ResNo) (b : Bool) (a : Activity) → IsStandingAs p h a → IsStandingAs p h (inside_as b a)
  stands_inside p h b Suspended k = k
  stands_inside p h b (Live x) k = k
  stands_inside p h b (Waiting c) k = k

  becomes_inside : (t : ℕ) (b : Bool) (a c : Activity) → MayBecome app t a c → MayBecome app t a (inside_as b c)
  becomes_inside t b Suspended c (inl e) = inl (ap (inside_as b) e)
  becomes_inside t b Suspended c (inr h) = inr (stands_inside _ [] b c h)
  becomes_inside t b (Live x) c h = stands_inside x.at x.held b c h
  becomes_inside t b (Waiting d) c (inl e) = inl (ap (inside_as b) e)
  becomes_inside t b (Waiting d) c (inr h) = inr (stands_inside _ [] b c h)

  moves_by_others : IsByOthers app (λ t x y. MayBecome app t x.activity y.activity)
  moves_by_others = record {
    stays = λ t x. stays_as t x.activity;
    activates = λ t x. activated_as t x x.activity refl;
    wakes = λ t m x waits. released_as t m x.activity waits;
    sets = λ t m x. stays_as t x.activity;
    insides = λ t b x y h. becomes_inside t b x.activity y.activity h;
  }

  pub step_leaves : (s : State) (u : TaskNo) → (s.processor ≡ processor.Running u → ⊥) → (e : Event) → Well app s → MayBecome app u.0 (task_state s u.0).activity (task_state (step app s e).state u.0).activity
  step_leaves s u beside e w = step_by_others app (λ t x y. MayBecome app t x.activity y.activity) moves_by_others s u beside e w

  pub instruction_stands : (s : State) (u : TaskNo) → (s.processor ≡ processor.Running u → ⊥) → (choice : Bool) → Well app s → IsActive s.processor
      → MayBecome app u.0 (task_state s u.0).activity (task_state (instruction app s choice).state u.0).activity
  instruction_stands s u beside choice w active = instruction_leaves app (λ t x y. MayBecome app t x.activity y.activity) moves_by_others s u beside choice w active
