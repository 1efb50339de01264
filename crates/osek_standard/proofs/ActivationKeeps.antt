-- An activation keeps a state well-formed.
use Rattle.std.proofs.{Common.{◌≡◌, ℕ, ◌+◌, ◌<◌, true, length, refl, inl, inr, arith, false}, lemmas.Bool.{cases_Bool, leb-false}}
use Rattle.osek_values.specs.declared.numbers.BlockNo.{BlockNo}
use Rattle.osek_standard.specs.declared.{app.App.{App}, state.State.{State}, task_state.{TaskState.{TaskState}, Activity.{Activity, TheVariants.{Suspended, Live, Waiting}}}}
use Rattle.osek_standard.specs.{Apps.{the_task, no_task}, TaskStates.{is_live, is_live_activity}, States.{task_state, task_of}}
use Rattle.osek_standard.specs.{Services.{activate_task, activated_state, is_full, activated, activated_by, is_full_by, live_at}, Well.{Well, IsActivityOf, IsOwn, IsTaskState}}
use Rattle.osek_standard.specs.declared.state.Processor.TheVariants as processor
use Rattle.osek_standard.proofs.{WellLaws.{owner_of, own_block, offset_0}, LineLaws.{due_activated}, StackLaws.{no_stack}, Keeps.{live_at_processor, with_place_keeps}}

-- a task takes one activation at least
pub some_activation : (app : App) (t : ℕ) → t < length app.tasks → 0 < (the_task app t).activation
some_activation app t known = omega (arith, (app.valid.activations t no_task known).0)

-- Live at a block of its own, with nothing held
pub standing_anew : (app : App) (t n : ℕ) (b : BlockNo) → t < length app.tasks → IsOwn app t b.0 → n < (the_task app t).activation → IsActivityOf app t (live_at b n)
standing_anew app t n b known own few = record { own = own; offset = offset_0 app _ (own_block app t b.0 known own).operands; stack = no_stack app; further = few }

pub first_own : (app : App) (t : ℕ) → t < length app.tasks → IsOwn app t (the_task app t).first.0
first_own app t known = (omega arith, omega (arith, (owner_of app t known).some))

-- an activated task is in a right state
pub activated_is_right : (app : App) (t : ℕ) → t < length app.tasks → IsTaskState app t (activated_state app t)
activated_is_right app t known = record { activity = standing_anew app t 0 (the_task app t).first known (first_own app t known) (some_activation app t known); events = refl }

activation_is_right : (app : App) (t : ℕ) (x : TaskState) (a : Activity) → t < length app.tasks → IsTaskState app t x → IsActivityOf app t a
    → is_full_by (the_task app t).activation a ≡ false → IsTaskState app t (activated_by app t x a)
activation_is_right app t x Suspended known right h room = activated_is_right app t known
activation_is_right app t x (Live y) known right h room = record {
  activity = record { own = h.own; offset = h.offset; stack = h.stack; further = leb-false (the_task app t).activation (y.further + 1) room };
  events = right.events;
}
activation_is_right app t x (Waiting b) known right h room = right

activation_is_live : (app : App) (t : ℕ) (x : TaskState) (a : Activity) → x.activity ≡ a → is_live_activity a ≡ true → is_live (activated_by app t x a) ≡ true
activation_is_live app t x Suspended e live = refl
activation_is_live app t x (Live y) e live = refl
activation_is_live app t x (Waiting b) e live = absurd (cc)

-- an activation keeps a state well-formed, where there is room for it
pub activated_keeps : (app : App) (s : State) (t : ℕ) → Well app s → t < length app.tasks → is_full app s t ≡ false → Well app (activated app s t)
activated_keeps app s t w known room =
    let x = task_state s t in
    let right = w.tasks t known in
    with_place_keeps app s t (activated_by app t x x.activity) w known (activation_is_right app t x x.activity known right right.activity room)
    (activation_is_live app t x x.activity refl) (due_activated app (task_of s.processor) t (the_task app t).activation x x.activity (live_at_processor app s w t) room)

pub activate_keeps : (app : App) (s : State) (t : ℕ) → Well app s → t < length app.tasks → Well app (activate_task app s t).state
unfolding activate_task
activate_keeps app s t w known = elim (cases_Bool (is_full app s t)) [
  | inl e ↦ (rw e w)
  | inr e ↦ (rw e (activated_keeps app s t w known e))
]
