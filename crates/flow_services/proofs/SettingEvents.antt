-- SetEvent is served by its cases.
use Rattle.std.proofs.Common.{◌≡◌, ℕ, ◌+◌, ◌<◌, ◌-◌, Bool, true, false, not, [], ◌∷◌, ◌++◌, length, refl, sym, ap, subst, ◌∙◌, inl, inr, ◌⊎◌, arith, Some, None, IsTrue}
use Rattle.std.specs.{Prelude.{if◌then◌else◌, is_some, slice_index_or}, declared.option.Option.{Option}}
use Rattle.std.proofs.lemmas.{Bool.{cases_Bool, le-ltb, not-true}, List.FromFn.{get_or-map-range_with_len}}
use Rattle.osek_values.specs.{Numbers.{mask, task_no, block_no}, declared.numbers.BlockNo.{BlockNo}}
use Rattle.osek_values.specs.declared.status.Ask.TheVariants as ask
use Rattle.osek_values.specs.declared.status.Status.TheVariants as status
use Rattle.osek_values.specs.Bits.{has_bit}
use Rattle.osek_standard.specs.declared.{app.App.{App}, state.State.{State}, task_state.{TaskState.{TaskState}, Activity.{Activity}}}
use Rattle.osek_standard.specs.declared.task_state.Activity.TheVariants as activity
use Rattle.osek_standard.specs.{Apps.{the_task, the_block, is_extended}, TaskStates.{is_suspended, is_live_activity}, States.{task_state, with_task}, Line.{places}}
use Rattle.osek_standard.specs.Services.{set_event, refused, accepted, waits_in, waits_for, woken, with_events, events_set, released_from}
use Rattle.osek_standard.specs.Well.{Well, IsOwn, IsWaitingAt, IsActivityOf}
use Rattle.abstract_state.specs.{declared.value.PartValue.TheVariants.{OfTask}, Components.{component_at, component_count, abstract_of, value_in}}
use Rattle.abstract_state.proofs.ComponentLaws.{task_counted}
use Rattle.flow_model.specs.declared.test.Test.TheVariants as test
use Rattle.flow_model.specs.declared.change.Update.TheVariants as update
use Rattle.flow_model.specs.declared.release.Releases.{Releases}
use Rattle.flow_model.specs.{Values.{next_behind, waits_at, released_to, released as released_value}, Cases.{condition}, Tests.{passes, PassesAll}}
use Rattle.flow_model.proofs.{ChangeLaws.{passes_each, each_passes, passes_one, one_passes, passes_both, passes_left}, BitsOf.{bit_within, bit_set}, Activations.{line_part}}
use Rattle.flow_model.proofs.{LinesAfter.{line_stays, line_with_last}, Writes.{events_written, update_written}}
use Rattle.flow_services.specs.Occasions.{ServiceCase, refused_case}
use Rattle.flow_services.specs.Services.{awaits, own_block, release_at, releases, own_among, not_awaiting, waking, event_settings}
use Rattle.flow_services.proofs.Seeing.{Sees, waiting_block, waits_there, task_value, tests_not_suspended, off_there, on_there, off_passes}
use Rattle.flow_services.proofs.Serving.{Serves, IsServed, keeps_serves, always_served, three_served, stays_with, stays_in_line}

-- a task waits for an event where its block awaits it
waits_by : (app : App) (a : Activity) (e : ℕ) → waits_in app a e ≡ true → (b : BlockNo) × (waiting_block a ≡ Some b)
waits_by app activity.Suspended e h = absurd (cc)
waits_by app (activity.Live x) e h = absurd (cc)
waits_by app (activity.Waiting b) e h = (b, refl)

not_live_there : (a : Activity) (b : BlockNo) → waiting_block a ≡ Some b → is_live_activity a ≡ true → ⊥
not_live_there activity.Suspended b e l = cc
not_live_there (activity.Live x) b e l = cc
not_live_there (activity.Waiting c) b e l = cc

waiting_not_live : (a : Activity) (b : BlockNo) → waiting_block a ≡ Some b → is_live_activity a ≡ false
waiting_not_live activity.Suspended b e = refl
waiting_not_live (activity.Live x) b e = absurd (cc)
waiting_not_live (activity.Waiting c) b e = refl

not_suspended_there : (x : TaskState) (b : BlockNo) → waiting_block x.activity ≡ Some b → is_suspended x ≡ false
not_suspended_there x b e = by x.activity e
  where
    by : (a : Activity) → waiting_block a ≡ Some b → is_suspended (record x { activity = a }) ≡ false
    by activity.Suspended e = absurd (cc)
    by (activity.Live y) e = refl
    by (activity.Waiting c) e = refl

-- who waits at the same block waits for the same
abbrev awaits_where : (app : App) (e : ℕ) → Option BlockNo → Bool
awaits_where app e None = false
awaits_where app e (Some b) = awaits app e b

waits_where : (app : App) (a : Activity) (e : ℕ) → waits_in app a e ≡ awaits_where app e (waiting_block a)
waits_where app activity.Suspended e = refl
waits_where app (activity.Live x) e = refl
waits_where app (activity.Waiting b) e = refl

some_if : {X : Type 0} (f : Bool) (x : X) → is_some (if f then Some x else None) ≡ f
some_if true x = refl
some_if false x = refl

-- where a task waits is one of its blocks
abbrev OwnsWait : App → ℕ → Activity → Type 0
OwnsWait app t a = (b : BlockNo) → waiting_block a ≡ Some b → IsOwn app t b.0

module _ (app : App) (events t : ℕ) where
  abbrev there : Releases
  there = releases app events t

  -- what stands at a block of the task
  behind_own : (b : BlockNo) → IsOwn app t b.0 → next_behind there b ≡ release_at app events b
  behind_own b own =
      let first : ℕ = (the_task app t).first.0 in
      let place : first + (b.0 - first) ≡ b.0 = omega (arith, own.0) in
      ap (λ (f : Bool). if f then None else slice_index_or there.next (b.0 - first) None) (le-ltb b.0 first own.0)
      ∙ get_or-map-range_with_len (λ (k : ℕ). release_at app events (own_block app t k)) 0 (the_task app t).count (b.0 - first) (b.0 - first) None (omega (arith, own.0, own.1)) (omega arith)
      ∙ ap (λ (n : ℕ). release_at app events (block_no n)) place

  waits_value : (a : Activity) → OwnsWait app t a → waits_at there (value_in a) ≡ waits_in app a events
  waits_value activity.Suspended own = refl
  waits_value (activity.Live x) own = refl
  waits_value (activity.Waiting b) own = ap is_some (behind_own b (own b refl)) ∙ some_if (awaits app events b) (the_block app b.0).next

  pub releases_value : (a : Activity) → OwnsWait app t a → waits_in app a events ≡ true → released_value there (value_in a) ≡ value_in (released_from app a)
  releases_value activity.Suspended own waits = refl
  releases_value (activity.Live x) own waits = refl
  releases_value (activity.Waiting b) own waits =
      ap (released_to b) (behind_own b (own b refl) ∙ ap (λ (f : Bool). if f then Some (the_block app b.0).next else None) waits)

module _ (app : App) (m : State) (t e : ℕ) (known : t < length app.tasks) (here : t < length m.tasks) where
  abbrev bits : ℕ
  bits = own_among app t e

  within : (k : ℕ) → has_bit bits k ≡ true → has_bit (the_task app t).own.0 k ≡ true
  within k h = bit_within e (the_task app t).own.0 k h

  -- SetEvent in each case
  access : is_extended app t ≡ false → set_event app m t e ≡ refused m status.Access
  unfolding set_event
  access x = rw x refl

  state : is_extended app t ≡ true → is_suspended (task_state m t) ≡ true → set_event app m t e ≡ refused m status.State
  unfolding set_event
  state x y = rw (x, y) refl

  released : is_extended app t ≡ true → is_suspended (task_state m t) ≡ false → waits_for app m t e ≡ true → set_event app m t e ≡ accepted (woken app m t e) ask.Maybe
  unfolding set_event
  released x y z = rw (x, y, z) refl

  set : is_extended app t ≡ true → is_suspended (task_state m t) ≡ false → waits_for app m t e ≡ false → set_event app m t e ≡ accepted (with_events m t (events_set app m t e)) ask.No
  unfolding set_event
  set x y z = rw (x, y, z) refl

  events_serve : (r : Releases) → Serves app m (not_awaiting app t bits r) (accepted (with_events m t (events_set app m t e)) ask.No)
  events_serve r = record {
    parts = λ c lt. events_written app t bits true known within m (record (task_state m t) { events = mask (events_set app m t e) }) here (λ k below own. bit_set (task_state m t).events.0 bits k) c lt refl;
    status = refl;
    ask = refl;
    stays = stays_with m t (record (task_state m t) { events = mask (events_set app m t e) }) here (λ l. refl);
    line = line_stays m (with_events m t (events_set app m t e)) refl;
  }

  abbrev released_state : TaskState
  released_state = record { activity = released_from app (task_state m t).activity; events = mask (events_set app m t e) }

  woken_serves : (r : Releases) (b : BlockNo) → waiting_block (task_state m t).activity ≡ Some b → released_value r (value_in (task_state m t).activity) ≡ value_in (released_from app (task_state m t).activity) → places m t ≡ 0 →
      Serves app m (waking app t bits r) (accepted (woken app m t e) ask.Maybe)
  woken_serves r b at becomes absent = record {
    parts = λ c lt.
        line_part (with_task m t released_state) (m.line ++ task_no t ∷ []) (component_at app c)
        ∙ update_written app t bits true known within m released_state here (λ k below own. bit_set (task_state m t).events.0 bits k) c lt (update.Release r) (ap OfTask becomes);
    status = refl;
    ask = refl;
    stays = stays_in_line m (with_task m t released_state) (m.line ++ task_no t ∷ []) (stays_with m t released_state here (λ l. absurd (not_live_there (task_state m t).activity b at l)));
    line = line_with_last m (record (with_task m t released_state) { line = m.line ++ task_no t ∷ [] }) (task_no t) refl absent;
  }

module _ (app : App) (s m : State) (well : Well app s) (t e : ℕ) (known : t < length app.tasks) (sees : Sees app s m) where
  abbrev own : ℕ
  own = own_among app t e

  abbrev all : Releases
  all = releases app own t

  abbrev gone : ServiceCase
  gone = refused_case (condition t test.Suspended ∷ []) status.State

  abbrev stays : ServiceCase
  stays = not_awaiting app t own all

  abbrev wakes : ServiceCase
  wakes = waking app t own all

  here : t < length m.tasks
  here = let long = sees.size in omega (arith, long, known)

  counted : t < component_count app
  counted = task_counted app t known

  abbrev P : ServiceCase → Type 0
  P x = PassesAll app x.conditions (abstract_of app s)

  abbrev S : ServiceCase → Type 0
  S x = Serves app m x (set_event app m t e)

  owns_before : OwnsWait app t (task_state s t).activity
  owns_before b at =
      let waits : IsWaitingAt app t b.0 = subst (IsActivityOf app t) (waits_there (task_state s t).activity b at) (well.tasks t known).activity in
      waits.own

  owns : OwnsWait app t (task_state m t).activity
  owns b at = owns_before b (sym (sees.waiting t) ∙ at)

  -- what it waits for is as before
  waits_kept : waits_for app m t e ≡ waits_in app (task_state s t).activity own
  waits_kept = waits_where app (task_state m t).activity own ∙ ap (awaits_where app own) (sees.waiting t) ∙ sym (waits_where app (task_state s t).activity own)

  tests_waits : passes (test.WaitsAt all) (abstract_of app s t) ≡ waits_in app (task_state s t).activity own
  tests_waits = ap (passes (test.WaitsAt all)) (task_value app s t known) ∙ waits_value app own t (task_state s t).activity owns_before

  tests_waits_not : passes (test.WaitsNotAt all) (abstract_of app s t) ≡ not (waits_in app (task_state s t).activity own)
  tests_waits_not = ap (passes (test.WaitsNotAt all)) (task_value app s t known) ∙ ap not (waits_value app own t (task_state s t).activity owns_before)

  module _ (extended : is_extended app t ≡ true) where
    gone_serves : P gone → S gone
    gone_serves passing = subst (Serves app m gone) (sym (state app m t e known here extended (off_there app s m t known sees passing))) (keeps_serves app m _ _ _)

    stays_serve : P stays → S stays
    stays_serve passing =
        let awake = on_there app s m t known sees (passes_left app (abstract_of app s) (condition t test.NotSuspended ∷ []) (condition t (test.WaitsNotAt all) ∷ []) passing) in
        let elsewhere : IsTrue (passes (test.WaitsNotAt all) (abstract_of app s t)) = each_passes app (abstract_of app s) stays.conditions passing (condition t (test.WaitsNotAt all)) (inr (inl refl)) counted in
        let no : waits_for app m t e ≡ false = waits_kept ∙ not-true (waits_in app (task_state s t).activity own) (sym tests_waits_not ∙ elsewhere) in
        subst (Serves app m stays) (sym (set app m t e known here extended awake no)) (events_serve app m t e known here all)

    wakes_serve : P wakes → S wakes
    wakes_serve passing =
        let x = task_state m t in
        let does : waits_for app m t e ≡ true = waits_kept ∙ sym tests_waits ∙ one_passes app (abstract_of app s) (condition t (test.WaitsAt all)) passing counted in
        let at = waits_by app x.activity own does in
        subst (Serves app m wakes) (sym (released app m t e known here extended (not_suspended_there x at.0 at.1) does))
        (woken_serves app m t e known here all at.0 at.1 (releases_value app own t x.activity owns does) (sees.absent t (waiting_not_live x.activity at.0 at.1)))

    one_of_them : P gone ⊎ (P stays ⊎ P wakes)
    one_of_them = elim (cases_Bool (is_suspended (task_state s t))) [
      | inl off ↦ inl (off_passes app s t known off)
      | inr on ↦ elim (cases_Bool (waits_in app (task_state s t).activity own)) [
        | inl does ↦ inr (inr (passes_one app (abstract_of app s) (condition t (test.WaitsAt all)) (tests_waits ∙ does)))
        | inr doesnt ↦ inr (inl (passes_both app (abstract_of app s) (condition t test.NotSuspended ∷ []) (condition t (test.WaitsNotAt all) ∷ [])
            (passes_one app (abstract_of app s) (condition t test.NotSuspended) (tests_not_suspended app s t known ∙ ap not on))
            (passes_one app (abstract_of app s) (condition t (test.WaitsNotAt all)) (tests_waits_not ∙ ap not doesnt))))
      ]
    ]

    served : IsServed app s m (gone ∷ stays ∷ wakes ∷ []) (set_event app m t e)
    served = three_served app s m gone stays wakes (set_event app m t e) gone_serves stays_serve wakes_serve one_of_them

  pub setting_served : IsServed app s m (event_settings app t e) (set_event app m t e)
  setting_served = elim (cases_Bool (is_extended app t)) [
    | inl extended ↦ (rw extended (served extended))
    | inr basic ↦ (rw basic (always_served app s m (refused_case [] status.Access) (set_event app m t e) (passes_each app (abstract_of app s) [] (λ x none. absurd none))
        (subst (Serves app m (refused_case [] status.Access)) (sym (access app m t e known here basic)) (keeps_serves app m _ _ _))))
  ]
