-- Each deed keeps the tasks stacked that are underway.
use Rattle.std.proofs.Common.{◌≡◌, ◌≢◌, ℕ, ◌+◌, ◌<◌, Bool, true, false, cond, ◌&&◌, not, [], ◌∷◌, ◌++◌, length, refl, sym, ap, ◌∙◌, arith, nat_eq, Some, None}
use Rattle.std.proofs.lemmas.Bool.{eq-eqb, false≢true, ne_eqb}
use Rattle.std.specs.{Prelude.{⊤}, declared.option.Option.{Option}}
use Rattle.osek_values.specs.declared.{numbers.{SourceNo.{SourceNo}, TaskNo.{TaskNo}}, status.Ask.{Ask}}
use Rattle.osek_values.specs.{Numbers.{task_no}, Line.{place_in_line}}
use Rattle.osek_values.specs.declared.status.Ask.TheVariants as ask
use Rattle.oil_system.specs.declared.objects.Schedule.{Schedule, TheVariants.{Non, Full}}
use Rattle.osek_standard.specs.declared.{app.App.{App}, state.{State.{State}, Processor.{Processor}, Caller.{Caller, TheVariants.{Nobody, Task, Routine}}}}
use Rattle.osek_standard.specs.declared.task_state.{TaskState.{TaskState}, Place.{Place}, Activity.{Activity, TheVariants.{Suspended, Live, Waiting}}}
use Rattle.osek_standard.specs.{Apps.{is_extended, the_task}, TaskStates.{is_live, is_live_activity}, States.{caller, is_that_task, task_of, task_state, with_source, with_task}}
use Rattle.osek_standard.specs.{Internal.{occupied}, Line.{last_in_line, places, places_due, turn}, Priority.{base_priority, highest}, Well.{Well}}
use Rattle.osek_standard.specs.Services.{activated, activated_by, activated_state, count_up, ended, ended_by, is_full, is_full_by, left, own_events, released_from, waits_for, waits_in, woken}
use Rattle.osek_standard.specs.Effects.{asked_over, halted_by, moved_by, returned_to}
use Rattle.osek_standard.specs.declared.state.Processor.TheVariants as processor
use Rattle.osek_standard.specs.declared.state.Source.TheVariants as source
use Rattle.osek_standard.proofs.{Callers.{task_level_of}, TaskServiceKeeps.{ended_keeps}}
use Rattle.osek_standard.specs.declared.block.Kind.{Kind}
use Rattle.kernel_guarantees.specs.Underway.{IsStacked, is_begun, is_current}
use Rattle.kernel_guarantees.proofs.{CurrentChanges.{current_changes}, Deeds.{AreDeeds, asked_of}, Joining.{joining_keeps, leaving_keeps}, Lines.{place_kept}, Lookups.{put_task}}
use Rattle.kernel_guarantees.proofs.{Regrouping.{IsAlike, alike, events_keep, first_keeps, processor_keeps, regrouped}, Serving.{either_by}}

-- a Live task that isn't current has a place, and one that isn't Live has none
pub has_place : (app : App) (s : State) → Well app s → (u : ℕ) → is_live (task_state s u) ≡ true → is_current s u ≡ false → 0 < places s u
has_place app s w u live ready = by (task_state s u).activity refl where
  by : (a : Activity) → (task_state s u).activity ≡ a → 0 < places s u
  by Suspended e = absurd (false≢true (sym (ap is_live_activity e) ∙ live))
  by (Live x) e =
      let due : places s u ≡ x.further + 1 = w.line u ∙ ap (places_due (task_of s.processor) u) e ∙ ap (λ (b : Bool). cond b x.further (x.further + 1)) ready in
      omega (arith, due)
  by (Waiting b) e = absurd (false≢true (sym (ap is_live_activity e) ∙ live))

-- where nothing is held and the task stands at its first instruction, or is extended
at_first : (extended same : Bool) → same ≡ true → (not extended && not (same && true)) ≡ false
at_first true same e = refl
at_first false true e = refl
at_first false false e = absurd (false≢true e)

pub of_extended : (extended first : Bool) → extended ≡ true → (not extended && not first) ≡ false
of_extended true first e = refl
of_extended false first e = absurd (false≢true e)

module _ (app : App) where
  pub activated_fresh : (t : ℕ) → is_begun app t (activated_state app t) ≡ false
  activated_fresh t = at_first (is_extended app t) (nat_eq (the_task app t).first.0 (the_task app t).first.0) (eq-eqb (the_task app t).first.0 (the_task app t).first.0 refl)

  pub ended_fresh : (t : ℕ) (x : TaskState) (a : Activity) → is_begun app t (record x { activity = ended_by app t a }) ≡ false
  ended_fresh t x Suspended = refl
  ended_fresh t x (Live y) = either_by (λ (a : Activity). is_begun app t (record x { activity = a }) ≡ false) (nat_eq y.further 0) _ _ (λ _. refl) (λ _. activated_fresh t)
  ended_fresh t x (Waiting b) = refl

  module _ (s : State) (w : Well app s) (stacked : IsStacked app s) (t : ℕ) (known : t < length app.tasks) where
    here : t < length s.tasks
    here = omega (arith, known, w.tasks_len)

    -- one more activation, of a task that isn't Live and of one that is
    activation_by : (a : Activity) → (task_state s t).activity ≡ a → is_full_by (the_task app t).activation a ≡ false → IsStacked app (last_in_line (with_task s t (activated_by app t (task_state s t) a)) t)
    activation_by Suspended e room =
        joining_keeps app s stacked t (activated_state app t) here (activated_fresh t) (λ u live ready. has_place app s w u live ready) (w.line t ∙ ap (places_due (task_of s.processor) t) e)
    activation_by (Live y) e room =
        let x = task_state s t in
        let z : TaskState = record x { activity = Live (record y { further = y.further + 1 }) } in
        let same : IsAlike app t x z = record {
          live = sym (ap is_live_activity e);
          begun = sym (ap (λ (a : Activity). is_begun app t (record x { activity = a })) e);
          priority = sym (ap (λ (a : Activity). highest app (base_priority app t) (occupied app t (record x { activity = a }))) e);
        } in
        let turns : (u : ℕ) → is_live (task_state s u) ≡ true → is_current s u ≡ false → turn (last_in_line (with_task s t z) t) u ≡ turn s u
        = λ u live ready. ap (λ (b : Bool). cond b 0 (1 + place_in_line (s.line ++ task_no t ∷ []) u)) ready
        ∙ ap (λ (n : ℕ). 1 + n) (place_kept (task_no t) s.line u (has_place app s w u live ready))
        ∙ sym (ap (λ (b : Bool). cond b 0 (1 + place_in_line s.line u)) ready) in
        regrouped app s stacked (last_in_line (with_task s t z) t) (λ u. put_task s t z (λ v n. IsAlike app v (task_state s v) n) same (λ v. alike app v (task_state s v)) u)
        (λ u. refl) (λ a b la ra lb rb h. omega (arith, h, turns a la ra, turns b lb rb))
    activation_by (Waiting b) e room = absurd (false≢true (sym room))

    activation_keeps : is_full app s t ≡ false → IsStacked app (activated app s t)
    activation_keeps room = activation_by (task_state s t).activity refl room

    -- a task is released from waiting
    waking_by : (e : ℕ) (a : Activity) → (task_state s t).activity ≡ a → is_extended app t ≡ true → waits_in app a (own_events app s t e) ≡ true
        → (x : TaskState) → x.activity ≡ released_from app a → IsStacked app (last_in_line (with_task s t x) t)
    waking_by e Suspended same ext waits x is = absurd (false≢true waits)
    waking_by e (Live y) same ext waits x is = absurd (false≢true waits)
    waking_by e (Waiting b) same ext waits x is =
        let fresh : is_begun app t x ≡ false = ap (λ (a : Activity). is_begun app t (record x { activity = a })) is ∙ of_extended (is_extended app t) _ ext in
        joining_keeps app s stacked t x here fresh (λ u live ready. has_place app s w u live ready) (w.line t ∙ ap (places_due (task_of s.processor) t) same)

    waking_keeps : (e : ℕ) → is_extended app t ≡ true → waits_for app s t e ≡ true → IsStacked app (woken app s t e)
    waking_keeps e ext waits = waking_by e (task_state s t).activity refl ext waits _ refl

-- who asks to leave has left
abbrev pub LeavesIdle : Processor → Ask → Type 0
LeavesIdle p ask.No = ⊤
LeavesIdle p ask.Maybe = ⊤
LeavesIdle p ask.Left = p ≡ processor.Idle
LeavesIdle p ask.Free = p ≡ processor.Idle

over_leaves : (x : Schedule) (p : Processor) → LeavesIdle p (asked_over x)
over_leaves Full p = tt
over_leaves Non p = tt

asked_leaves : (app : App) (c : Caller) (p : Processor) → LeavesIdle p (asked_of app c)
asked_leaves app Nobody p = tt
asked_leaves app (Routine k) p = tt
asked_leaves app (Task t) p = over_leaves (the_task app t.0).schedule p

module _ (app : App) where
  abbrev pub StackedWith : State → Ask → Type 0
  StackedWith r a = IsStacked app r × LeavesIdle r.processor a

  module _ (s : State) (stacked : IsStacked app s) where
    mine : (c : TaskNo) → s.processor ≡ processor.Running c → is_current s c.0 ≡ true
    mine c e = ap (λ (p : Processor). is_that_task (task_of p) c.0) e ∙ eq-eqb c.0 c.0 refl

    alone : (c : TaskNo) → s.processor ≡ processor.Running c → (u : ℕ) → u ≢ c.0 → is_current s u ≡ false
    alone c e u other = ap (λ (p : Processor). is_that_task (task_of p) u) e ∙ ne_eqb c.0 u (λ f. other (sym f))

    at_running : (c : TaskNo) (y : TaskState) → s.processor ≡ processor.Running c → IsStacked app (with_task s c.0 y)
    at_running c y e = current_changes app s stacked c.0 (mine c e) y

    leaving : (c : TaskNo) (y : TaskState) → Well app s → s.processor ≡ processor.Running c → is_begun app c.0 y ≡ false → IsStacked app (left (with_task s c.0 y))
    leaving c y w e fresh =
        let h = task_level_of app s c w e in
        leaving_keeps app s stacked c.0 y (omega (arith, h.running.0, w.tasks_len)) fresh (mine c e) (alone c e)

    ending : (c : TaskNo) → Well app s → s.processor ≡ processor.Running c → IsStacked app (left (ended app s c.0))
    ending c w e = leaving c _ w e (ended_fresh app c.0 (task_state s c.0) (task_state s c.0).activity)

    pub moving : (to : Place) (p : Processor) → s.processor ≡ p → IsStacked app (moved_by s p to)
    moving to processor.Halted e = stacked
    moving to processor.Idle e = stacked
    moving to (processor.Running t) e = at_running t _ e
    moving to (processor.Interrupted k over) e = record { apart = stacked.apart; below = stacked.below; ahead = stacked.ahead }

    returning : (k : SourceNo) (over : Option TaskNo) (o : Option SourceNo) → task_of s.processor ≡ over
        → StackedWith (returned_to app (with_source s k.0 source.Out) over o).state (returned_to app (with_source s k.0 source.Out) over o).ask
    returning k None None e = let h = processor_keeps app s stacked processor.Idle (sym e) in (record { apart = h.apart; below = h.below; ahead = h.ahead }, refl)
    returning k (Some t) None e =
        let h = processor_keeps app s stacked (processor.Running t) (sym e) in (record { apart = h.apart; below = h.below; ahead = h.ahead }, over_leaves (the_task app t.0).schedule (processor.Running t))
    returning k over (Some j) e = let h = processor_keeps app s stacked (processor.Interrupted j over) (sym e) in (record { apart = h.apart; below = h.below; ahead = h.ahead }, tt)

    halting : (p : Processor) → s.processor ≡ p → IsStacked app (halted_by s p)
    halting processor.Halted e = stacked
    halting processor.Idle e = processor_keeps app s stacked processor.Halted (sym (ap task_of e))
    halting (processor.Running t) e = first_keeps app s stacked (Some t) processor.Halted (ap task_of e) refl
    halting (processor.Interrupted k None) e = let h = first_keeps app s stacked None processor.Halted (ap task_of e) refl in record { apart = h.apart; below = h.below; ahead = h.ahead }
    halting (processor.Interrupted k (Some t)) e = let h = first_keeps app s stacked (Some t) processor.Halted (ap task_of e) refl in record { apart = h.apart; below = h.below; ahead = h.ahead }

  counting : (m : State) (c : ℕ) → IsStacked app m → IsStacked app (count_up app m c)
  unfolding count_up
  counting m c h = record { apart = h.apart; below = h.below; ahead = h.ahead }

  pub stacked_deeds : (k : Kind) → AreDeeds app k (IsStacked app) StackedWith
  stacked_deeds kind_of = record {
    counts = λ m c h up. counting m c h;
    arms = λ m a x h sets. record { apart = h.apart; below = h.below; ahead = h.ahead };
    rests = λ m w h. (h, tt);
    takes = λ m c r w h e free low. (at_running m h c _ e, tt);
    gives = λ m c n w h e goes. (at_running m h c _ e, over_leaves (the_task app c.0).schedule _);
    routine_takes = λ m l r w h e free low. (record { apart = h.apart; below = h.below; ahead = h.ahead }, tt);
    routine_gives = λ m l n w h e. (record { apart = h.apart; below = h.below; ahead = h.ahead }, tt);
    activates = λ m t w h known room goes. (activation_keeps app m w h t known room, asked_leaves app (caller m.processor) _);
    wakes = λ m t e w h known ext waits goes. (waking_keeps app m w h t known e ext waits, asked_leaves app (caller m.processor) _);
    sets = λ m t e w h known waits sent. (events_keep app m h t _, tt);
    clears = λ m c e w h r goes. (at_running m h c _ r, tt);
    ends = λ m c w h e goes. (ending m h c w e, refl);
    chains = λ m c t w h e known room goes chained. (activation_keeps app (left (ended app m c.0)) (ended_keeps app m c w e) (ending m h c w e) t known room, refl);
    waits = λ m c w h e ext none goes. (leaving m h c _ w e refl, refl);
    lets_out = λ m c w h e none goes. (at_running m h c _ e, tt);
    returns = λ m l over o w h e f goes. returning m h l over o (ap task_of e);
    halts = λ m w h goes. (halting m h m.processor refl, tt);
  }
