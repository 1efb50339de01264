-- ActivateTask is served by its three cases.
use Rattle.std.proofs.Common.{◌≡◌, ℕ, ◌+◌, ◌<◌, ◌≤◌, Bool, true, false, nat_lt, [], ◌∷◌, ◌++◌, length, refl, sym, ap, subst, ◌∙◌, arith, inl, inr, ⊎_elim}
use Rattle.std.proofs.lemmas.Bool.{le-leb, ltb-false}
use Rattle.osek_values.specs.Numbers.{task_no}
use Rattle.std.specs.Prelude.{if◌then◌else◌}
use Rattle.osek_values.specs.declared.status.Ask.TheVariants as ask
use Rattle.osek_values.specs.declared.status.Status.TheVariants as status
use Rattle.osek_standard.specs.declared.{app.App.{App}, state.State.{State}, task_state.{TaskState.{TaskState}, Activity.{Activity}}}
use Rattle.osek_standard.specs.declared.task_state.Activity.TheVariants as activity
use Rattle.osek_standard.specs.{TaskStates.{is_live, is_suspended, is_suspended_activity, is_live_activity}, States.{task_state, with_task}, Line.{last_in_line}}
use Rattle.osek_standard.specs.Services.{Answer, activate_task, activated, activated_by, activated_state, is_full, is_full_by, refused, accepted}
use Rattle.flow_model.specs.declared.test.Test.TheVariants as test
use Rattle.flow_model.specs.{Cases.{condition}, Changes.{activating, activating_more}, Tests.{PassesAll}}
use Rattle.abstract_state.specs.Components.{abstract_of}
use Rattle.flow_model.proofs.{Activations.{activated_parts, more_parts, more_place}, LinesAfter.{line_with_last, line_with_more}}
use Rattle.flow_services.specs.declared.occasion.Queued.TheVariants as queued
use Rattle.flow_services.specs.{Occasions.{ServiceCase, refused_case, accepted_case}, Services.{activations, most_activations}}
use Rattle.flow_services.proofs.{Seeing.{Sees, off_there, full_there, room_there, activation_passes}, Serving.{Serves, IsServed, keeps_serves, stays_in_line, stays_with, two_served, three_served}}

suspended_or_live : (a : Activity) → is_suspended_activity a ≡ true → is_live_activity a ≡ true → ⊥
suspended_or_live activity.Suspended e l = cc
suspended_or_live (activity.Live x) e l = cc
suspended_or_live (activity.Waiting b) e l = cc

not_live : (a : Activity) → is_suspended_activity a ≡ true → is_live_activity a ≡ false
not_live activity.Suspended e = refl
not_live (activity.Live x) e = absurd (cc)
not_live (activity.Waiting b) e = absurd (cc)

-- a suspended task takes an activation, and what else takes one is Live
pub idle_has_room : (n : ℕ) (a : Activity) → is_suspended_activity a ≡ true → is_full_by n a ≡ false
idle_has_room n activity.Suspended e = refl
idle_has_room n (activity.Live x) e = absurd (cc)
idle_has_room n (activity.Waiting b) e = absurd (cc)

pub live_by_room : (n : ℕ) (a : Activity) → is_suspended_activity a ≡ false → is_full_by n a ≡ false → is_live_activity a ≡ true
live_by_room n activity.Suspended e room = absurd (cc)
live_by_room n (activity.Live x) e room = refl
live_by_room n (activity.Waiting b) e room = absurd (cc)

-- a task that takes a single activation has never room for a further one
no_room_for_one : (n : ℕ) (a : Activity) → n ≤ 1 → (is_suspended_activity a ≡ false) × (is_full_by n a ≡ false) → ⊥
no_room_for_one n activity.Suspended few takes = let on = takes.0 in cc
no_room_for_one n (activity.Live x) few takes = let full = le-leb n (x.further + 1) (omega (arith, few)) in let room = takes.1 in cc
no_room_for_one n (activity.Waiting b) few takes = let room = takes.1 in cc

-- a suspended task begins
module _ (app : App) (t : ℕ) where
  begun_by : (x : TaskState) (a : Activity) → is_suspended_activity a ≡ true → activated_by app t x a ≡ activated_state app t
  begun_by x activity.Suspended e = refl
  begun_by x (activity.Live y) e = absurd (cc)
  begun_by x (activity.Waiting b) e = absurd (cc)

  pub activated_is : (m : State) → is_suspended (task_state m t) ≡ true → activated app m t ≡ last_in_line (with_task m t (activated_state app t)) t
  activated_is m e = ap (λ (x : TaskState). last_in_line (with_task m t x) t) (begun_by (task_state m t) (task_state m t).activity e)

module _ (app : App) (s m : State) (t : ℕ) (known : t < length app.tasks) (sees : Sees app s m) where
  abbrev most : ℕ
  most = most_activations app t

  abbrev full : ServiceCase
  full = refused_case (condition t (test.Full most) ∷ []) status.Limit

  abbrev free : ServiceCase
  free = accepted_case (condition t test.Suspended ∷ []) (activating app t) (queued.Last (task_no t))

  abbrev more : ServiceCase
  more = accepted_case (condition t (test.Room most) ∷ []) (activating_more t) queued.Further

  here : t < length m.tasks
  here = let long = sees.size in omega (arith, long, known)

  abbrev answered : Bool → Answer
  answered b = if b then refused m status.Limit else accepted (activated app m t) ask.Maybe

  answers : (b : Bool) → is_full app m t ≡ b → activate_task app m t ≡ answered b
  unfolding activate_task
  answers b e = ap answered e

  full_serves : is_full app m t ≡ true → Serves app m full (activate_task app m t)
  full_serves e = subst (Serves app m full) (sym (answers true e)) (keeps_serves app m _ _ _)

  begun_serves : is_suspended (task_state m t) ≡ true → Serves app m free (accepted (last_in_line (with_task m t (activated_state app t)) t) ask.Maybe)
  begun_serves e = record {
    parts = λ c lt. activated_parts app m t here known c lt;
    status = refl;
    ask = refl;
    stays = stays_in_line m (with_task m t (activated_state app t)) (m.line ++ task_no t ∷ []) (stays_with m t (activated_state app t) here (λ l. absurd (suspended_or_live (task_state m t).activity e l)));
    line = line_with_last m (last_in_line (with_task m t (activated_state app t)) t) (task_no t) refl (sees.absent t (not_live (task_state m t).activity e));
  }

  free_serves : is_suspended (task_state m t) ≡ true → Serves app m free (activate_task app m t)
  free_serves e = subst (Serves app m free)
      (sym (answers false (idle_has_room most (task_state m t).activity e) ∙ ap (λ (r : State). accepted r ask.Maybe) (activated_is app t m e))) (begun_serves e)

  more_serves : (is_suspended (task_state m t) ≡ false) × (is_full app m t ≡ false) → Serves app m more (activate_task app m t)
  more_serves takes =
      let x = task_state m t in
      let y : TaskState = activated_by app t x x.activity in
      let live : is_live (task_state m t) ≡ true = live_by_room most x.activity takes.0 takes.1 in
      subst (Serves app m more) (sym (answers false takes.1)) (record {
        parts = λ c lt. more_parts app m t here known live takes.1 c lt;
        status = refl;
        ask = refl;
        stays = stays_in_line m (with_task m t y) (m.line ++ task_no t ∷ []) (stays_with m t y here (λ l. more_place app t x x.activity l));
        line = line_with_more m (activated app m t) (task_no t) refl (λ waits. sees.placed t live waits);
      })

  by_full : PassesAll app full.conditions (abstract_of app s) → Serves app m full (activate_task app m t)
  by_full passing = full_serves (full_there app s m t known sees most passing)

  by_free : PassesAll app free.conditions (abstract_of app s) → Serves app m free (activate_task app m t)
  by_free passing = free_serves (off_there app s m t known sees passing)

  served_by : (b : Bool) → nat_lt 1 most ≡ b → IsServed app s m (full ∷ free ∷ (if b then more ∷ [] else [])) (activate_task app m t)
  served_by true e = three_served app s m full free more (activate_task app m t) by_full by_free
      (λ passing. more_serves (room_there app s m t known sees most passing))
      (activation_passes app s t most known)
  served_by false e = two_served app s m full free (activate_task app m t) by_full by_free
      (⊎_elim inl (⊎_elim inr (λ passing. absurd (no_room_for_one most (task_state m t).activity (ltb-false 1 most e) (room_there app s m t known sees most passing))))
      (activation_passes app s t most known))

  pub activation_served : IsServed app s m (activations app t) (activate_task app m t)
  activation_served = served_by (nat_lt 1 most) refl
