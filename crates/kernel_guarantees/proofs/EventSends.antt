-- By which instructions the events of a task come and go, and by which it is released from waiting.
use Rattle.std.proofs.Common.{◌≡◌, ◌⊎◌, ℕ, Bool, true, refl, sym, subst, ap, ◌∙◌, inl, inr, arith, Some, None}
use Rattle.std.proofs.lemmas.Bool.{false≢true}
use Rattle.std.proofs.lemmas.Nat.Bits.{bit_at-lt, bit_at-zero, bit_at_and, bit_at_or, bit_at_xor}
use Rattle.std.specs.{Prelude.{bit_and, bit_or, bit_xor}, Int.{bit_at}, declared.option.Option.{Option}}
use Rattle.osek_values.specs.declared.{mask.Mask.{Mask}, numbers.{BlockNo.{BlockNo}, SourceNo.{SourceNo}, TaskNo.{TaskNo}}}
use Rattle.osek_values.specs.Numbers.{mask, task_no}
use Rattle.osek_standard.specs.declared.{app.App.{App}, block.Kind.{Kind}, state.{State.{State}, Processor.{Processor}}}
use Rattle.osek_standard.specs.declared.task_state.{TaskState.{TaskState}, Place.{Place}, Activity.{Activity, TheVariants.{Suspended, Live, Waiting}}}
use Rattle.osek_standard.specs.{Apps.{awaited, the_block, the_task}, TaskStates.{is_live_activity}, States.{task_of, task_state, with_processor, with_source, with_task}}
use Rattle.osek_standard.specs.{Internal.{inside_as, kept_by, put_inside, with_inside}, Line.{first_in_line, out_of_line}}
use Rattle.osek_standard.specs.Services.{activated_by, count_up, ended, ended_by, events_set, left, own_events, released_from, share, waits_for, waits_in, with_events}
use Rattle.osek_standard.specs.{Effects.{effect, halted_by, moved_by, returned_to, standing_at, task_at}, Well.{IsActive, Well}}
use Rattle.osek_standard.specs.Dispatch.{Outcome, Keep, To, instruction, outcome_of, processor_for, settled}
use Rattle.osek_standard.specs.declared.state.Processor.TheVariants as processor
use Rattle.osek_standard.specs.declared.state.Source.TheVariants as source
use Rattle.osek_standard.proofs.{Callers.{moved_processor, task_level_of}}
use Rattle.kernel_guarantees.specs.{Instructions.{may_activate, may_clear, may_set}, Scheduling.{kind_at}}
use Rattle.kernel_guarantees.proofs.{Deeds.{AreDeeds}, Effecting.{effect_does}, Lookups.{put_task}}

-- the same events, and it waits where it waited
pub record KeepsEvents (x y : TaskState) : Type 0 where
  pub events : y.events ≡ x.events
  pub waiting : (b : BlockNo) → x.activity ≡ Waiting b → y.activity ≡ Waiting b

place_keeps : (to : Place) (x : TaskState) → KeepsEvents x (task_at x to)
place_keeps to x = record { events = refl; waiting = λ b e. ap (λ (a : Activity). standing_at a to) e }

pub not_live : (b : BlockNo) (a : Activity) → a ≡ Waiting b → is_live_activity a ≡ true → ⊥
not_live b a e live = false≢true (sym (ap is_live_activity e) ∙ live)

pub inside_live : (b : Bool) (a : Activity) → is_live_activity (inside_as b a) ≡ true → is_live_activity a ≡ true
inside_live b Suspended e = e
inside_live b (Live x) e = refl
inside_live b (Waiting c) e = e

-- one bit of what is set and of what is cleared
set_bit : (a own m i : ℕ) → bit_at a i ≡ 0 → bit_at (bit_or a (bit_and m own)) i ≡ 1 → bit_at m i ≡ 1
set_bit a own m i e f = omega (arith, e, f, bit_at_or a (bit_and m own) i, bit_at_and m own i, bit_at-lt m i, bit_at-lt own i)

stays_bit : (a m i : ℕ) → bit_at a i ≡ 1 → bit_at (bit_or a m) i ≡ 0 → ⊥
stays_bit a m i e f = omega (arith, e, f, bit_at_or a m i)

clear_none : (a m i : ℕ) → bit_at a i ≡ 0 → bit_at (bit_xor a (bit_and a m)) i ≡ 1 → ⊥
clear_none a m i e f = omega (arith, e, f, bit_at_xor a (bit_and a m) i, bit_at_and a m i)

clear_bit : (a m i : ℕ) → bit_at a i ≡ 1 → bit_at (bit_xor a (bit_and a m)) i ≡ 0 → bit_at m i ≡ 1
clear_bit a m i e f = omega (arith, e, f, bit_at_xor a (bit_and a m) i, bit_at_and a m i, bit_at-lt m i)

module _ (app : App) (s : State) (u : ℕ) where
  abbrev did : Kind
  did = kind_at app s

  abbrev x : TaskState
  x = task_state s u

  -- how the events came and went, and by what it was released
  pub record IsSent (y : TaskState) : Type 0 where
    pub comes : (i : ℕ) → bit_at x.events.0 i ≡ 0 → bit_at y.events.0 i ≡ 1 → (m : ℕ) × (may_set app did u m ≡ true) × (bit_at m i ≡ 1)
    pub goes : (i : ℕ) → bit_at x.events.0 i ≡ 1 → bit_at y.events.0 i ≡ 0
        → ((m : ℕ) × (s.processor ≡ processor.Running (task_no u)) × (may_clear did m ≡ true) × (bit_at m i ≡ 1)) ⊎ (may_activate app did u ≡ true)
    pub released : (b : BlockNo) → x.activity ≡ Waiting b → is_live_activity y.activity ≡ true
        → (m : ℕ) × (may_set app did u m ≡ true) × (share (awaited (the_block app b.0).kind) (own_events app s u m) ≡ true)

  as_kept : (y : TaskState) → KeepsEvents x y → IsSent y
  as_kept y k = record {
    comes = λ i e f. absurd (omega (arith, e, f, ap (λ (m : Mask). bit_at m.0 i) k.events));
    goes = λ i e f. absurd (omega (arith, e, f, ap (λ (m : Mask). bit_at m.0 i) k.events));
    released = λ b e live. absurd (not_live b y.activity (k.waiting b e) live);
  }

  abbrev Unsent : State → Type 0
  Unsent m = (m.processor ≡ s.processor) × KeepsEvents x (task_state m u)

  abbrev Has : State → Type 0
  Has r = IsSent (task_state r u)

  put : (m : State) (t : ℕ) (y : TaskState) → KeepsEvents x (task_state m u) → (t ≡ u → IsSent y) → Has (with_task m t y)
  put m t y k here = put_task m t y (λ v z. v ≡ u → IsSent z) here (λ v e. as_kept (task_state m v) (subst (λ (n : ℕ). KeepsEvents x (task_state m n)) (sym e) k)) u refl

  -- who runs doesn't wait
  runs_live : (m : State) (c : TaskNo) → Well app m → Unsent m → m.processor ≡ processor.Running c → c.0 ≡ u → (b : BlockNo) → x.activity ≡ Waiting b → ⊥
  runs_live m c w q e same b waits = not_live b (task_state m u).activity (q.1.waiting b waits) (subst (λ (n : ℕ). is_live_activity (task_state m n).activity ≡ true) same (task_level_of app m c w e).running.1)

  caller_changes : (m : State) (c : TaskNo) (y : TaskState) → Well app m → Unsent m → m.processor ≡ processor.Running c → y.events ≡ (task_state m c.0).events → Has (with_task m c.0 y)
  caller_changes m c y w q e events = put m c.0 y q.1 (λ same. as_kept y (record {
    events = events ∙ ap (λ (n : ℕ). (task_state m n).events) same ∙ q.1.events;
    waiting = λ b waits. absurd (runs_live m c w q e same b waits);
  }))

  counting : (m : State) (c : ℕ) → Unsent m → Unsent (count_up app m c)
  unfolding count_up
  counting m c q = q

  returning : (m : State) (l : SourceNo) (over : Option TaskNo) (o : Option SourceNo) → Has m → Has (returned_to app (with_source m l.0 source.Out) over o).state
  returning m l None None h = h
  returning m l (Some t) None h = h
  returning m l over (Some j) h = h

  halting : (m : State) (p : Processor) → Has m → Has (halted_by m p)
  halting m processor.Halted h = h
  halting m processor.Idle h = h
  halting m (processor.Running t) h = h
  halting m (processor.Interrupted k None) h = h
  halting m (processor.Interrupted k (Some t)) h = h

  pub moving : (to : Place) (p : Processor) → KeepsEvents x (task_state (moved_by s p to) u)
  moving to processor.Halted = record { events = refl; waiting = λ b e. e }
  moving to processor.Idle = record { events = refl; waiting = λ b e. e }
  moving to (processor.Running c) = put_task s c.0 _ (λ v z. v ≡ u → KeepsEvents x z)
      (λ e. subst (λ (n : ℕ). KeepsEvents (task_state s n) (task_at (task_state s c.0) to)) e (place_keeps to (task_state s c.0)))
      (λ v e. subst (λ (n : ℕ). KeepsEvents x (task_state s n)) (sym e) (record { events = refl; waiting = λ b f. f })) u refl
  moving to (processor.Interrupted k over) = record { events = refl; waiting = λ b e. e }

  -- a task that is activated, where it doesn't wait
  activated_sent : (y : TaskState) (a : Activity) → y.activity ≡ a → y.events ≡ x.events → ((b : BlockNo) → x.activity ≡ Waiting b → y.activity ≡ Waiting b) → may_activate app did u ≡ true → IsSent (activated_by app u y a)
  activated_sent y Suspended e same waits goes = record {
    comes = λ i f g. absurd (omega (arith, g, bit_at-zero i));
    goes = λ i f g. inr goes;
    released = λ b f live. absurd (let g = waits b f in cc (e, g));
  }
  activated_sent y (Live z) e same waits goes = record {
    comes = λ i f g. absurd (omega (arith, f, g, ap (λ (m : Mask). bit_at m.0 i) same));
    goes = λ i f g. inr goes;
    released = λ b f live. absurd (let g = waits b f in cc (e, g));
  }
  activated_sent y (Waiting b) e same waits goes = as_kept y (record { events = same; waiting = waits })

  activating : (m : State) (t : ℕ) → KeepsEvents x (task_state m u) → may_activate app did t ≡ true → Has (with_task m t (activated_by app t (task_state m t) (task_state m t).activity))
  activating m t k goes = put m t _ k (λ same. subst (λ (n : ℕ). IsSent (activated_by app n (task_state m n) (task_state m n).activity)) (sym same)
      (activated_sent (task_state m u) (task_state m u).activity refl k.events k.waiting (subst (λ (n : ℕ). may_activate app did n ≡ true) same goes)))

  -- events m are set of its own
  module _ (y : TaskState) (e : ℕ) (k : KeepsEvents x y) (goes : may_set app did u e ≡ true) where
    abbrev sent : Mask
    sent = mask (bit_or y.events.0 (own_events app s u e))

    comes_sent : (i : ℕ) → bit_at x.events.0 i ≡ 0 → bit_at sent.0 i ≡ 1 → (m : ℕ) × (may_set app did u m ≡ true) × (bit_at m i ≡ 1)
    comes_sent i f g = (e, goes, set_bit y.events.0 (the_task app u).own.0 e i (ap (λ (m : Mask). bit_at m.0 i) k.events ∙ f) g)

    goes_sent : (i : ℕ) → bit_at x.events.0 i ≡ 1 → bit_at sent.0 i ≡ 0 → ⊥
    goes_sent i f g = stays_bit y.events.0 (own_events app s u e) i (ap (λ (m : Mask). bit_at m.0 i) k.events ∙ f) g

    set_sent : IsSent (record y { events = sent })
    set_sent = record { comes = comes_sent; goes = λ i f g. absurd (goes_sent i f g); released = λ b f live. absurd (not_live b y.activity (k.waiting b f) live) }

    woken_sent : waits_in app y.activity (own_events app s u e) ≡ true → IsSent (record { activity = released_from app y.activity; events = sent })
    woken_sent waits = record {
      comes = comes_sent;
      goes = λ i f g. absurd (goes_sent i f g);
      released = λ b f live. (e, goes, sym (ap (λ (a : Activity). waits_in app a (own_events app s u e)) (k.waiting b f)) ∙ waits);
    }

  setting : (m : State) (t e : ℕ) → KeepsEvents x (task_state m u) → may_set app did t e ≡ true → Has (with_events m t (events_set app m t e))
  setting m t e k goes = put m t _ k (λ same. subst (λ (n : ℕ). IsSent (record (task_state m n) { events = mask (events_set app m n e) })) (sym same)
      (set_sent (task_state m u) e k (subst (λ (n : ℕ). may_set app did n e ≡ true) same goes)))

  waking : (m : State) (t e : ℕ) → KeepsEvents x (task_state m u) → waits_for app m t e ≡ true → may_set app did t e ≡ true
      → Has (with_task m t (record { activity = released_from app (task_state m t).activity; events = mask (events_set app m t e) }))
  waking m t e k waits goes = put m t _ k (λ same. subst (λ (n : ℕ). IsSent (record { activity = released_from app (task_state m n).activity; events = mask (events_set app m n e) })) (sym same)
      (woken_sent (task_state m u) e k (subst (λ (n : ℕ). may_set app did n e ≡ true) same goes) (subst (λ (n : ℕ). waits_for app m n e ≡ true) same waits)))

  clearing : (m : State) (c : TaskNo) (e : ℕ) → Well app m → Unsent m → m.processor ≡ processor.Running c → may_clear did e ≡ true
      → Has (with_events m c.0 (bit_xor (task_state m c.0).events.0 (bit_and (task_state m c.0).events.0 e)))
  clearing m c e w q r goes = put m c.0 _ q.1 (λ same.
      let is : (task_state m c.0).events ≡ x.events = ap (λ (n : ℕ). (task_state m n).events) same ∙ q.1.events in
      record {
        comes = λ i f g. absurd (clear_none (task_state m c.0).events.0 e i (ap (λ (m : Mask). bit_at m.0 i) is ∙ f) g);
        goes = λ i f g. inl (e, sym q.0 ∙ r ∙ ap (λ (n : ℕ). processor.Running (task_no n)) same, goes, clear_bit (task_state m c.0).events.0 e i (ap (λ (m : Mask). bit_at m.0 i) is ∙ f) g);
        released = λ b f live. absurd (runs_live m c w q r same b f);
      })

  ending : (m : State) (c : TaskNo) → Well app m → Unsent m → m.processor ≡ processor.Running c → KeepsEvents x (task_state (left (ended app m c.0)) u)
  ending m c w q e = put_task m c.0 (record (task_state m c.0) { activity = ended_by app c.0 (task_state m c.0).activity }) (λ v z. v ≡ u → KeepsEvents x z)
      (λ same. record { events = ap (λ (n : ℕ). (task_state m n).events) same ∙ q.1.events; waiting = λ b f. absurd (runs_live m c w q e same b f) })
      (λ v same. subst (λ (n : ℕ). KeepsEvents x (task_state m n)) (sym same) q.1) u refl

  sent_deeds : AreDeeds app did Unsent (λ r a. Has r)
  sent_deeds = record {
    counts = λ m c q up. counting m c q;
    arms = λ m a y q sets. q;
    rests = λ m w q. as_kept (task_state m u) q.1;
    takes = λ m c r w q e free low. caller_changes m c _ w q e refl;
    gives = λ m c n w q e goes. caller_changes m c _ w q e refl;
    routine_takes = λ m l r w q e free low. as_kept (task_state m u) q.1;
    routine_gives = λ m l n w q e. as_kept (task_state m u) q.1;
    activates = λ m t w q known room goes. activating m t q.1 goes;
    wakes = λ m t e w q known ext waits goes. waking m t e q.1 waits goes;
    sets = λ m t e w q known waits goes. setting m t e q.1 goes;
    clears = λ m c e w q r goes. clearing m c e w q r goes;
    ends = λ m c w q e goes. caller_changes m c _ w q e refl;
    chains = λ m c t w q e known room goes chained. activating (left (ended app m c.0)) t (ending m c w q e) chained;
    waits = λ m c w q e ext none goes. caller_changes m c _ w q e refl;
    lets_out = λ m c w q e none goes. caller_changes m c _ w q e refl;
    returns = λ m l over o w q e f goes. returning m l over o (as_kept (task_state m u) q.1);
    halts = λ m w q goes. halting m m.processor (as_kept (task_state m u) q.1);
  }

  inside_sent : (b : Bool) (y : TaskState) → IsSent y → IsSent (record y { activity = inside_as b y.activity })
  inside_sent b y h = record { comes = h.comes; goes = h.goes; released = λ d f live. h.released d f (inside_live b y.activity live) }

  gets_inside : (r : State) (t : ℕ) (b : Bool) → Has r → Has (with_inside r t b)
  gets_inside r t b h = put_task r t _ (λ v z. v ≡ u → IsSent z) (λ e. inside_sent b (task_state r t) (subst (λ (n : ℕ). IsSent (task_state r n)) (sym e) h))
      (λ v e. subst (λ (n : ℕ). IsSent (task_state r n)) (sym e) h) u refl

  keeping : (r : State) (p : Processor) → Has r → Has (kept_by app r p)
  keeping r processor.Halted h = h
  keeping r processor.Idle h = h
  keeping r (processor.Running t) h = gets_inside r t.0 _ h
  keeping r (processor.Interrupted k over) h = h

  dispatching : (r : State) (c o : Option TaskNo) → Has r → Has (with_processor (put_inside app (out_of_line (first_in_line r c) o) o) (processor_for o))
  dispatching r None None h = h
  dispatching r (Some d) None h = h
  dispatching r None (Some t) h = gets_inside r t.0 _ h
  dispatching r (Some d) (Some t) h = gets_inside r t.0 _ h

  settling : (r : State) (o : Outcome) → Has r → Has (settled app r o)
  settling r Keep h = keeping r r.processor h
  settling r (To o) h = dispatching r (task_of r.processor) o h

  pub unsent : KeepsEvents x x
  unsent = record { events = refl; waiting = λ b e. e }

  pub instruction_sends : (choice : Bool) → Well app s → IsActive s.processor → Has (instruction app s choice).state
  unfolding instruction
  instruction_sends choice w active =
      let e = effect app s choice in
      settling e.state (outcome_of app e) (effect_does app Unsent (λ r a. Has r) s sent_deeds w active (refl, unsent) (λ to. (moved_processor s to s.processor, moving to s.processor)) choice)
