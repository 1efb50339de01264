-- Each deed and the outcome after it leave who runs at best, and the processor idle only where no task is ready.
use Rattle.std.proofs.Common.{◌≡◌, ℕ, ◌<◌, ◌≤◌, Bool, true, false, nat_lt, List, [], ◌∷◌, ◌++◌, length, refl, sym, subst, ap, ◌∙◌, inl, inr, arith, Some, None, get_or-set_other}
use Rattle.std.proofs.lemmas.Bool.{cases_eq, Decides.{nat_tests}, false≢true}
use Rattle.std.specs.{Prelude.{if◌then◌else◌, is_some, max}, List.{cons_option, fold}, declared.option.Option.{Option}}
use Rattle.osek_values.specs.declared.{numbers.{ModeNo.{ModeNo}, ResNo.{ResNo}, SourceNo.{SourceNo}, TaskNo.{TaskNo}}, status.Ask.{Ask}, event.Event.{Event}}
use Rattle.osek_values.specs.Numbers.{mask}
use Rattle.osek_values.specs.declared.status.Ask.TheVariants as ask
use Rattle.oil_system.specs.declared.objects.Schedule.{Schedule, TheVariants.{Non, Full}}
use Rattle.osek_standard.specs.declared.{app.App.{App}, state.{State.{State}, Processor.{Processor}, Caller.{Caller, TheVariants.{Nobody, Task, Routine}}}}
use Rattle.osek_standard.specs.declared.task_state.{TaskState.{TaskState}, Place.{Place}, Activity.{Activity, TheVariants.{Suspended, Live, Waiting}}}
use Rattle.osek_standard.specs.{Apps.{is_extended, the_task}, TaskStates.{held, held_in, is_live, suspended}, States.{caller, task_of, task_state, with_processor, with_source, with_task}}
use Rattle.osek_standard.specs.{Internal.{internal_of, inside_as, kept, kept_by, occupied, put_inside, with_inside}, Line.{first_in_line, last_in_line, out_of_line}, Priority.{IsBest, base_priority, best, ceiling, current_priority, highest}}
use Rattle.osek_standard.specs.Services.{activated_by, count_up, events_set, own_events, released_from, waits_in, with_events, with_held, with_stack}
use Rattle.osek_standard.specs.{Effects.{asked_over, effect, halted_by, moved_by, returned_to, standing_at}, Kernel.{initial, start, step}, Well.{IsActive, Well}, Arrivals.{arrival, entered, takes_none, takes_none_by}}
use Rattle.osek_standard.specs.Dispatch.{Outcome, dispatched, if_above, if_any, instruction, outcome_by, preempted_by, settled}
use Rattle.osek_standard.specs.declared.state.Processor.TheVariants as processor
use Rattle.osek_standard.specs.declared.state.Source.TheVariants as source
use Rattle.osek_standard.proofs.{ArrivalLaws.{arrival_is}, Callers.{moved_processor}, Greatest.{greatest_from}, PriorityLaws.{best_is, none_live}}
use Rattle.osek_standard.specs.declared.block.Kind.{Kind}
use Rattle.kernel_guarantees.specs.Scheduling.{kind_at}
use Rattle.kernel_guarantees.specs.{Reached.{IsReached}, Scheduling.{IsSettled}, Underway.{is_begun, is_underway}}
use Rattle.kernel_guarantees.proofs.{Deeds.{AreDeeds, asked_of}, Effecting.{effect_does}, Lookups.{put_task}, Reaching.{reached_has, step_goes}, Regrouping.{IsAlike, alike}}
use Rattle.kernel_guarantees.proofs.{Serving.{either_by, running}, StackedDeeds.{activated_fresh, of_extended}, StackedSteps.{not_live}}

-- more resources don't lower a priority
module _ (app : App) where
  fold_higher : (m n : ℕ) (xs : List ResNo) → m ≤ n → fold (λ p r. max p (ceiling app r.0)) m xs ≤ fold (λ p r. max p (ceiling app r.0)) n xs
  fold_higher m n [] h = h
  fold_higher m n (x ∷ xs) h = fold_higher (max m (ceiling app x.0)) (max n (ceiling app x.0)) xs (omega (arith, h))

  fold_longer : (n : ℕ) (xs ys : List ResNo) → fold (λ p r. max p (ceiling app r.0)) n xs ≤ fold (λ p r. max p (ceiling app r.0)) n (xs ++ ys)
  fold_longer n [] ys = greatest_from (λ (r : ResNo). ceiling app r.0) n ys
  fold_longer n (x ∷ xs) ys = fold_longer (max n (ceiling app x.0)) xs ys

  highest_taken : (p : ℕ) (o : Option ResNo) (xs ys : List ResNo) → highest app p (cons_option o xs) ≤ highest app p (cons_option o (xs ++ ys))
  unfolding highest
  highest_taken p None xs ys = fold_longer p xs ys
  highest_taken p (Some q) xs ys = fold_longer (max p (ceiling app q.0)) xs ys

  highest_inside : (p : ℕ) (o : Option ResNo) (inside : Bool) (xs : List ResNo) → highest app p (cons_option (if inside then o else None) xs) ≤ highest app p (cons_option (if is_some o then o else None) xs)
  unfolding highest
  highest_inside p None true xs = omega arith
  highest_inside p None false xs = omega arith
  highest_inside p (Some q) true xs = omega arith
  highest_inside p (Some q) false xs = fold_higher p (max p (ceiling app q.0)) xs (omega arith)

  -- a task that is activated or released hasn't begun thereby
  pub activation_begins_none : (t : ℕ) (x : TaskState) (a : Activity) → x.activity ≡ a → is_begun app t x ≡ false → is_begun app t (activated_by app t x a) ≡ false
  activation_begins_none t x Suspended e h = activated_fresh app t
  activation_begins_none t x (Live y) e h = ap (λ (b : Activity). is_begun app t (record x { activity = b })) (sym e) ∙ h
  activation_begins_none t x (Waiting b) e h = h

  release_begins_none : (t m : ℕ) (x y : TaskState) (a : Activity) → x.activity ≡ a → is_extended app t ≡ true → waits_in app a m ≡ true → y.activity ≡ released_from app a → is_begun app t y ≡ false
  release_begins_none t m x y Suspended e ext h is = absurd (false≢true h)
  release_begins_none t m x y (Live z) e ext h is = absurd (false≢true h)
  release_begins_none t m x y (Waiting b) e ext h is = ap (λ (a : Activity). is_begun app t (record y { activity = a })) is ∙ of_extended (is_extended app t) _ ext

  -- what a state is to be before each outcome
  abbrev pub SettledWith : State → Ask → Type 0
  SettledWith r ask.No = IsSettled app r
  SettledWith r ask.Maybe = (c : TaskNo) × (r.processor ≡ processor.Running c)
  SettledWith r ask.Left = r.processor ≡ processor.Idle
  SettledWith r ask.Free = r.processor ≡ processor.Idle

  settled_halted : (r : State) → r.processor ≡ processor.Halted → IsSettled app r
  settled_halted r e = record { idle = λ f. absurd (cc (e, f)); at_best = λ c f. absurd (cc (e, f)); bare = λ f g. absurd (g e) }

  settled_non : (r : State) (c : TaskNo) → r.processor ≡ processor.Running c → (the_task app c.0).schedule ≡ Non → IsSettled app r
  settled_non r c e non = record {
    idle = λ f. absurd (cc (e, f));
    at_best = λ d f full. absurd (cc (e, f, non, full));
    bare = λ f g. absurd (cc (ap task_of e, f));
  }

  asked_running : (r : State) (c : TaskNo) → r.processor ≡ processor.Running c → SettledWith r (asked_over (the_task app c.0).schedule)
  asked_running r c e = by (the_task app c.0).schedule refl where
    by : (x : Schedule) → (the_task app c.0).schedule ≡ x → SettledWith r (asked_over x)
    by Full f = (c, e)
    by Non f = settled_non r c e f

  module _ (s : State) (h : IsSettled app s) where
    -- the running task gets no less
    module _ (c : TaskNo) (y : TaskState) (e : s.processor ≡ processor.Running c) (up : current_priority app s c.0 ≤ highest app (base_priority app c.0) (occupied app c.0 y)) where
      abbrev raised : State
      raised = with_task s c.0 y

      risen : current_priority app s c.0 ≤ current_priority app raised c.0
      risen = put_task s c.0 y (λ v z. v ≡ c.0 → current_priority app s c.0 ≤ highest app (base_priority app v) (occupied app v z))
          (λ _. up) (λ v same. omega (arith, ap (λ (n : ℕ). current_priority app s n) same)) c.0 refl

      stays_above : (d : TaskNo) → s.processor ≡ processor.Running d → (the_task app d.0).schedule ≡ Full → (u : ℕ) → is_live (task_state raised u) ≡ true
          → current_priority app raised u ≤ current_priority app raised d.0
      stays_above d f full u live =
          let same : c ≡ d = cc (e, f) in
          subst (λ (n : TaskNo). current_priority app raised u ≤ current_priority app raised n.0) same (elim (cases_eq u c.0) [
            | inl is ↦ omega (arith, ap (λ (n : ℕ). current_priority app raised n) is)
            | inr other ↦ (let task : task_state raised u ≡ task_state s u = get_or-set_other s.tasks c.0 u y suspended other in
                let low = h.at_best d f full u (subst (λ (z : TaskState). is_live z ≡ true) task live) in
                let was : current_priority app raised u ≡ current_priority app s u = ap (λ (z : TaskState). highest app (base_priority app u) (occupied app u z)) task in
                omega (arith, low, was, risen, ap (λ (n : TaskNo). current_priority app s n.0) same))
          ])

      raised_settles : IsSettled app raised
      raised_settles = record { idle = λ f. absurd (cc (e, f)); at_best = stays_above; bare = λ f g. absurd (cc (e, f)) }

    -- tasks that are alike
    alike_settles : (r : State) → r.processor ≡ s.processor → ((u : ℕ) → IsAlike app u (task_state s u) (task_state r u)) → IsSettled app r
    alike_settles r same each = record {
      idle = λ f u. (each u).live ∙ h.idle (sym same ∙ f) u;
      at_best = λ d f full u live. let low = h.at_best d (sym same ∙ f) full u (sym (each u).live ∙ live) in omega (arith, low, (each u).priority, (each d.0).priority);
      bare = λ f g u. (each u).begun ∙ h.bare (ap task_of (sym same) ∙ f) (λ k. g (same ∙ k)) u;
    }

    -- a task that goes last in the line, while no task has the processor
    joined_settles : (t : ℕ) (y : TaskState) (k : SourceNo) (over : Option TaskNo) → s.processor ≡ processor.Interrupted k over
        → (is_underway app s t ≡ false → is_begun app t y ≡ false) → IsSettled app (last_in_line (with_task s t y) t)
    joined_settles t y k over e fresh = record {
      idle = λ f. absurd (cc (e, f));
      at_best = λ d f. absurd (cc (e, f));
      bare = λ f g u. put_task s t y (λ v z. is_begun app v z ≡ false) (fresh (h.bare f g t)) (h.bare f g) u;
    }

    joins_by : (t : ℕ) (y : TaskState) → IsActive s.processor → (is_underway app s t ≡ false → is_begun app t y ≡ false) → (p : Processor) → s.processor ≡ p
        → SettledWith (last_in_line (with_task s t y) t) (asked_of app (caller p))
    joins_by t y active fresh processor.Halted e = absurd (subst IsActive e active)
    joins_by t y active fresh processor.Idle e = absurd (subst IsActive e active)
    joins_by t y active fresh (processor.Running c) e = asked_running (last_in_line (with_task s t y) t) c e
    joins_by t y active fresh (processor.Interrupted k over) e = joined_settles t y k over e fresh

    taking : (c : TaskNo) (xs : List ResNo) → s.processor ≡ processor.Running c → IsSettled app (with_held s c.0 (held (task_state s c.0) ++ xs))
    taking c xs e = raised_settles c _ e (of (task_state s c.0) (task_state s c.0).activity) where
      of : (x : TaskState) (a : Activity) → highest app (base_priority app c.0) (occupied app c.0 (record x { activity = a }))
          ≤ highest app (base_priority app c.0) (occupied app c.0 (record x { activity = with_stack a (held_in a ++ xs) }))
      of x Suspended = omega arith
      of x (Live y) = highest_taken (base_priority app c.0) (if y.inside then internal_of app c.0 else None) y.held xs
      of x (Waiting b) = omega arith

    keeping : (p : Processor) → s.processor ≡ p → IsSettled app (kept_by app s p)
    keeping processor.Halted e = h
    keeping processor.Idle e = h
    keeping (processor.Running c) e = raised_settles c _ e (of (task_state s c.0) (task_state s c.0).activity) where
      of : (x : TaskState) (a : Activity) → highest app (base_priority app c.0) (occupied app c.0 (record x { activity = a }))
          ≤ highest app (base_priority app c.0) (occupied app c.0 (record x { activity = inside_as (is_some (internal_of app c.0)) a }))
      of x Suspended = omega arith
      of x (Live y) = highest_inside (base_priority app c.0) (internal_of app c.0) y.inside y.held
      of x (Waiting b) = omega arith
    keeping (processor.Interrupted k over) e = h

    moving_settles : (to : Place) (p : Processor) → s.processor ≡ p → IsSettled app (moved_by s p to)
    moving_settles to processor.Halted e = h
    moving_settles to processor.Idle e = h
    moving_settles to (processor.Running c) e = raised_settles c _ e (of (task_state s c.0) (task_state s c.0).activity) where
      of : (x : TaskState) (a : Activity) → highest app (base_priority app c.0) (occupied app c.0 (record x { activity = a }))
          ≤ highest app (base_priority app c.0) (occupied app c.0 (record x { activity = standing_at a to }))
      of x Suspended = omega arith
      of x (Live y) = omega arith
      of x (Waiting b) = omega arith
    moving_settles to (processor.Interrupted k over) e = record { idle = h.idle; at_best = h.at_best; bare = h.bare }

    returning_settles : (k : SourceNo) (over : Option TaskNo) (o : Option SourceNo) → s.processor ≡ processor.Interrupted k over
        → SettledWith (returned_to app (with_source s k.0 source.Out) over o).state (returned_to app (with_source s k.0 source.Out) over o).ask
    returning_settles k None None e = refl
    returning_settles k (Some t) None e = asked_running (with_processor (with_source s k.0 source.Out) (processor.Running t)) t refl
    returning_settles k over (Some j) e = record {
      idle = λ f. absurd (cc (f));
      at_best = λ d f. absurd (cc (f));
      bare = λ f g u. h.bare (ap task_of e ∙ f) (λ i. cc (e, i)) u;
    }

  halting_settles : (s : State) (p : Processor) → IsActive p → IsSettled app (halted_by s p)
  halting_settles s processor.Halted active = absurd active
  halting_settles s processor.Idle active = absurd active
  halting_settles s (processor.Running t) active = settled_halted _ refl
  halting_settles s (processor.Interrupted k over) active = settled_halted _ refl

  counting_settles : (m : State) (c : ℕ) → IsSettled app m → IsSettled app (count_up app m c)
  unfolding count_up
  counting_settles m c h = record { idle = h.idle; at_best = h.at_best; bare = h.bare }

  counting_active : (m : State) (c : ℕ) → IsActive m.processor → IsActive (count_up app m c).processor
  unfolding count_up
  counting_active m c h = h

  abbrev pub IsGoing : State → Type 0
  IsGoing m = IsSettled app m × IsActive m.processor

  abbrev same_events : (m : State) (t e u : ℕ) → IsAlike app u (task_state m u) (task_state (with_events m t e) u)
  same_events m t e u = put_task m t _ (λ v y. IsAlike app v (task_state m v) y) (record { live = refl; begun = refl; priority = refl }) (λ v. alike app v (task_state m v)) u

  pub settled_deeds : (k : Kind) → AreDeeds app k IsGoing SettledWith
  settled_deeds kind_of = record {
    counts = λ m c h up. (counting_settles m c h.0, counting_active m c h.1);
    arms = λ m a x h sets. (record { idle = h.0.idle; at_best = h.0.at_best; bare = h.0.bare }, h.1);
    rests = λ m w h. h.0;
    takes = λ m c r w h e free low. taking m h.0 c (r ∷ []) e;
    gives = λ m c n w h e goes. asked_running _ c e;
    routine_takes = λ m l r w h e free low. record { idle = h.0.idle; at_best = h.0.at_best; bare = h.0.bare };
    routine_gives = λ m l n w h e. record { idle = h.0.idle; at_best = h.0.at_best; bare = h.0.bare };
    activates = λ m t w h known room goes. joins_by m h.0 t _ h.1 (activation_begins_none t (task_state m t) (task_state m t).activity refl) m.processor refl;
    wakes = λ m t e w h known ext waits goes. joins_by m h.0 t _ h.1 (λ _. release_begins_none t (own_events app m t e) (task_state m t) (record { activity = released_from app (task_state m t).activity; events = mask (events_set app m t e) })
        (task_state m t).activity refl ext waits refl) m.processor refl;
    sets = λ m t e w h known waits sent. alike_settles m h.0 _ refl (same_events m t _);
    clears = λ m c e w h r goes. alike_settles m h.0 _ refl (same_events m c.0 _);
    ends = λ m c w h e goes. refl;
    chains = λ m c t w h e known room goes chained. refl;
    waits = λ m c w h e ext none goes. refl;
    lets_out = λ m c w h e none goes. (c, e);
    returns = λ m l over o w h e f goes. returning_settles m h.0 l over o e;
    halts = λ m w h goes. halting_settles m m.processor h.1;
  }

  -- the best task gets the processor
  module _ (s : State) (x : TaskNo) (top : IsBest app s x.0) where
    abbrev given : State
    given = with_inside s x.0 (is_some (internal_of app x.0))

    inside_higher : (y : TaskState) (a : Activity) → highest app (base_priority app x.0) (occupied app x.0 (record y { activity = a }))
        ≤ highest app (base_priority app x.0) (occupied app x.0 (record y { activity = inside_as (is_some (internal_of app x.0)) a }))
    inside_higher y Suspended = omega arith
    inside_higher y (Live z) = highest_inside (base_priority app x.0) (internal_of app x.0) z.inside z.held
    inside_higher y (Waiting b) = omega arith

    given_higher : current_priority app s x.0 ≤ current_priority app given x.0
    given_higher = put_task s x.0 _ (λ v z. v ≡ x.0 → current_priority app s x.0 ≤ highest app (base_priority app v) (occupied app v z))
        (λ _. inside_higher (task_state s x.0) (task_state s x.0).activity) (λ v same. omega (arith, ap (λ (n : ℕ). current_priority app s n) same)) x.0 refl

    below_winner : (u : ℕ) → is_live (task_state given u) ≡ true → current_priority app given u ≤ current_priority app given x.0
    below_winner u live = elim (cases_eq u x.0) [
      | inl is ↦ omega (arith, ap (λ (n : ℕ). current_priority app given n) is)
      | inr other ↦ (let task : task_state given u ≡ task_state s u = get_or-set_other s.tasks x.0 u _ suspended other in
          let was : current_priority app given u ≡ current_priority app s u = ap (λ (z : TaskState). highest app (base_priority app u) (occupied app u z)) task in
          elim (top.others u (subst (λ (z : TaskState). is_live z ≡ true) task live) other) [
            | inl low ↦ omega (arith, low, was, given_higher)
            | inr tie ↦ omega (arith, tie.0, was, given_higher)
          ])
    ]

    winner_by : (o : Option TaskNo) → IsSettled app (with_processor (put_inside app (out_of_line (first_in_line s o) (Some x)) (Some x)) (processor.Running x))
    winner_by None = record {
      idle = λ f. absurd (cc (f));
      at_best = λ d f full u live. let same : x ≡ d = cc (f) in subst (λ (n : TaskNo). current_priority app given u ≤ current_priority app given n.0) same (below_winner u live);
      bare = λ f g. absurd (cc (f));
    }
    winner_by (Some c) = record {
      idle = λ f. absurd (cc (f));
      at_best = λ d f full u live. let same : x ≡ d = cc (f) in subst (λ (n : TaskNo). current_priority app given u ≤ current_priority app given n.0) same (below_winner u live);
      bare = λ f g. absurd (cc (f));
    }

  module _ (s : State) where
    -- or none, where none is Live
    idle_by : (o : Option TaskNo) → ((t : ℕ) → is_live (task_state s t) ≡ false) → IsSettled app (with_processor (put_inside app (out_of_line (first_in_line s o) None) None) processor.Idle)
    idle_by None none = record { idle = λ f. none; at_best = λ d f. absurd (cc (f)); bare = λ f g t. not_live app t (task_state s t) (none t) }
    idle_by (Some c) none = record { idle = λ f. none; at_best = λ d f. absurd (cc (f)); bare = λ f g t. not_live app t (task_state s t) (none t) }

    left_settles : (o : Option TaskNo) → best app s ≡ o → IsSettled app (dispatched app s o)
    left_settles None e = idle_by (task_of s.processor) (none_live app s e)
    left_settles (Some x) e = winner_by s x (best_is app s x e) (task_of s.processor)

    free_settles : (o : Option TaskNo) → best app s ≡ o → s.processor ≡ processor.Idle → IsSettled app (settled app s (if_any o))
    free_settles None e idle =
        let none = none_live app s e in
        keeping s (record { idle = λ f. none; at_best = λ d f. absurd (cc (idle, f)); bare = λ f g t. not_live app t (task_state s t) (none t) }) s.processor refl
    free_settles (Some x) e idle = left_settles (Some x) e

    kept_at_best : (c : TaskNo) → s.processor ≡ processor.Running c → ((u : ℕ) → is_live (task_state s u) ≡ true → current_priority app s u ≤ current_priority app s c.0) → IsSettled app (kept app s)
    kept_at_best c e top = keeping s (record {
      idle = λ f. absurd (cc (e, f));
      at_best = λ d f full u live. let same : c ≡ d = cc (e, f) in subst (λ (n : TaskNo). current_priority app s u ≤ current_priority app s n.0) same (top u live);
      bare = λ f g. absurd (cc (ap task_of e, f));
    }) s.processor refl

    above_settles : (c : TaskNo) (o : Option TaskNo) → s.processor ≡ processor.Running c → best app s ≡ o → IsSettled app (settled app s (if_above app s c o))
    above_settles c None e f = kept_at_best c e (λ u live. absurd (false≢true (sym (none_live app s f u) ∙ live)))
    above_settles c (Some x) e f = either_by (λ (o : Outcome). IsSettled app (settled app s o)) (nat_lt (current_priority app s c.0) (current_priority app s x.0)) _ _
        (λ _. left_settles (Some x) f) (λ not_above. kept_at_best c e (at_most (best_is app s x f) not_above)) where
          at_most : IsBest app s x.0 → nat_lt (current_priority app s c.0) (current_priority app s x.0) ≡ false → (u : ℕ) → is_live (task_state s u) ≡ true
              → current_priority app s u ≤ current_priority app s c.0
          at_most top not_above u live =
              let low : current_priority app s x.0 ≤ current_priority app s c.0 = grind (arith, nat_tests) in
              elim (cases_eq u x.0) [
                | inl is ↦ omega (arith, low, ap (λ (n : ℕ). current_priority app s n) is)
                | inr other ↦ elim (top.others u live other) [ inl less ↦ omega (arith, low, less) | inr tie ↦ omega (arith, low, tie.0) ]
              ]

    preempted_settles : (c : TaskNo) → s.processor ≡ processor.Running c → (d : Caller) → caller s.processor ≡ d → IsSettled app (settled app s (preempted_by app s d))
    preempted_settles c e Nobody f = absurd (cc (ap caller e, f))
    preempted_settles c e (Routine k) f = absurd (cc (ap caller e, f))
    preempted_settles c e (Task d) f = above_settles d (best app s) (running s d f) refl

    outcome_settles : (a : Ask) → SettledWith s a → IsSettled app (settled app s (outcome_by app s a))
    outcome_settles ask.No h = keeping s h s.processor refl
    outcome_settles ask.Maybe h = preempted_settles h.0 h.1 (caller s.processor) refl
    outcome_settles ask.Left h = left_settles (best app s) refl
    outcome_settles ask.Free h = free_settles (best app s) refl h

  moving_active : (s : State) (to : Place) (p : Processor) → IsActive s.processor → IsActive (moved_by s p to).processor
  moving_active s to p active = subst IsActive (sym (moved_processor s to p)) active

  -- a routine begins over the task that runs or is interrupted
  entered_settles : (s : State) (k : SourceNo) → IsSettled app s → arrival app s ≡ Some k → IsSettled app (entered app s k)
  entered_settles s k h a = let allowed : takes_none app s ≡ false = (arrival_is app s k a).allowed in record {
    idle = λ f. absurd (cc (f));
    at_best = λ d f. absurd (cc (f));
    bare = λ f g u. h.bare f (λ e. false≢true (sym allowed ∙ ap (takes_none_by app s) e)) u;
  }

  instruction_settles : (s : State) (choice : Bool) → Well app s → IsActive s.processor → IsSettled app s → IsSettled app (instruction app s choice).state
  unfolding instruction
  instruction_settles s choice w active h =
      let e = effect app s choice in
      let does = effect_does app IsGoing SettledWith s (settled_deeds (kind_at app s)) w active (h, active) (λ to. (moving_settles s h to s.processor refl, moving_active s to s.processor active)) choice in
      outcome_settles e.state e.ask does

  step_settles : (s : State) (e : Event) → Well app s → IsSettled app s → IsSettled app (step app s e).state
  step_settles s e w h = step_goes app (IsSettled app) (λ n k g. record { idle = g.idle; at_best = g.at_best; bare = g.bare }) (λ n k v g a. entered_settles n k g a)
      (λ n choice v active g. instruction_settles n choice v active g) s e w h

  start_settles : (mode : ModeNo) → mode.0 < length app.modes → IsSettled app (start app mode).state
  unfolding start
  start_settles mode known = let s = initial app mode in free_settles s (best app s) refl refl

  pub reached_is_settled : (s : State) → IsReached app s → IsSettled app s
  reached_is_settled s r = reached_has app (IsSettled app) start_settles step_settles s r
