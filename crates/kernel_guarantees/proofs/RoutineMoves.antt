-- What one instruction makes of the routines: none begins, and the one at the processor goes on or ends.
use Rattle.std.proofs.Common.{◌≡◌, ◌⊎◌, ℕ, Bool, true, refl, sym, subst, ap, ◌∙◌, inl, inr, Some, None}
use Rattle.std.proofs.lemmas.Bool.{false≢true}
use Rattle.std.specs.{Prelude.{⊤}, declared.option.Option.{Option}}
use Rattle.osek_values.specs.declared.{numbers.{SourceNo.{SourceNo}, TaskNo.{TaskNo}}, status.Ask.{Ask}}
use Rattle.osek_values.specs.declared.status.Ask.TheVariants as ask
use Rattle.osek_standard.specs.declared.{app.App.{App}, state.{State.{State}, Source.{Source}, Processor.{Processor}}, task_state.Place.{Place}}
use Rattle.osek_standard.specs.{Apps.{is_routine_end}, States.{caller, is_in, source_state, task_of, with_processor, with_source}, Internal.{kept_by, put_inside}, Line.{first_in_line, out_of_line}, Services.{count_up}}
use Rattle.osek_standard.specs.{Effects.{effect, halted_by, moved_by, returned_to, source_at}, Well.{IsActive, Well}}
use Rattle.osek_standard.specs.Dispatch.{Outcome, Keep, To, instruction, outcome_by, outcome_of, processor_for, settled}
use Rattle.osek_standard.specs.declared.state.Processor.TheVariants as processor
use Rattle.osek_standard.specs.declared.state.Source.TheVariants as source
use Rattle.osek_standard.proofs.Callers.{moved_processor}
use Rattle.kernel_guarantees.specs.{Nesting.{IsIn}, Scheduling.{is_shutdown, kind_at}}
use Rattle.kernel_guarantees.proofs.{Deeds.{AreDeeds, asked_of}, Effecting.{effect_does}, Nesting.{place_in_source, stack_in}, Lookups.{each_is_out, put_out, put_source}}

-- the processor, where a routine has it, is over this task or over none
abbrev pub IsOver : Option TaskNo → Processor → Type 0
IsOver over processor.Halted = ⊤
IsOver over processor.Idle = ⊤
IsOver over (processor.Running t) = ⊤
IsOver over (processor.Interrupted k o) = o ≡ over

module _ (app : App) (s : State) where
  -- those that are in were so
  abbrev LessIn : State → Type 0
  LessIn r = (l : ℕ) → IsIn r l → IsIn s l

  set_source : (m : State) (k : ℕ) (x : Source) → (is_in x ≡ true → IsIn m k) → LessIn m → LessIn (with_source m k x)
  set_source m k x began q l h = q l (put_source m k x (λ v y. is_in y ≡ true → IsIn m v) began (λ v g. g) l h)

  counting : (m : State) (c : ℕ) → LessIn m → LessIn (count_up app m c)
  unfolding count_up
  counting m c q = q

  returning : (m : State) (k : SourceNo) (over : Option TaskNo) (o : Option SourceNo) → LessIn m → LessIn (returned_to app (with_source m k.0 source.Out) over o).state
  returning m k None None q = set_source m k.0 source.Out (λ h. absurd (false≢true h)) q
  returning m k (Some t) None q = set_source m k.0 source.Out (λ h. absurd (false≢true h)) q
  returning m k over (Some j) q = set_source m k.0 source.Out (λ h. absurd (false≢true h)) q

  halting : (m : State) (p : Processor) → LessIn m → LessIn (halted_by m p)
  halting m processor.Halted q = q
  halting m processor.Idle q = q
  halting m (processor.Running t) q = q
  halting m (processor.Interrupted k None) q = λ l h. absurd (false≢true (subst (λ (x : Source). is_in x ≡ true) (each_is_out m l) h))
  halting m (processor.Interrupted k (Some t)) q = λ l h. absurd (false≢true (subst (λ (x : Source). is_in x ≡ true) (each_is_out (first_in_line m (Some t)) l) h))

  moving : (to : Place) (p : Processor) → LessIn (moved_by s p to)
  moving to processor.Halted l h = h
  moving to processor.Idle l h = h
  moving to (processor.Running t) l h = h
  moving to (processor.Interrupted k over) l h = set_source s k.0 (source_at (source_state s k.0) to) (place_in_source app to (source_state s k.0)) (λ v g. g) l h

  less_deeds : AreDeeds app (kind_at app s) LessIn (λ r a. LessIn r)
  less_deeds = record {
    counts = λ m c q up. counting m c q;
    arms = λ m a x q sets. q;
    rests = λ m w q. q;
    takes = λ m c r w q e free low. q;
    gives = λ m c n w q e goes. q;
    routine_takes = λ m k r w q e free low. set_source m k.0 _ (stack_in app _ (source_state m k.0)) q;
    routine_gives = λ m k n w q e. set_source m k.0 _ (stack_in app _ (source_state m k.0)) q;
    activates = λ m t w q known room goes. q;
    wakes = λ m t e w q known ext waits goes. q;
    sets = λ m t e w q known waits sent. q;
    clears = λ m c e w q r goes. q;
    ends = λ m c w q e goes. q;
    chains = λ m c t w q e known room goes chained. q;
    waits = λ m c w q e ext none goes. q;
    lets_out = λ m c w q e none goes. q;
    returns = λ m k over o w q e f goes. returning m k over o q;
    halts = λ m w q off. halting m m.processor q;
  }

  keeping : (r : State) (p : Processor) → LessIn r → LessIn (kept_by app r p)
  keeping r processor.Halted q = q
  keeping r processor.Idle q = q
  keeping r (processor.Running t) q = q
  keeping r (processor.Interrupted l over) q = q

  dispatching : (r : State) (c o : Option TaskNo) → LessIn r → LessIn (with_processor (put_inside app (out_of_line (first_in_line r c) o) o) (processor_for o))
  dispatching r None None q = q
  dispatching r (Some d) None q = q
  dispatching r None (Some t) q = q
  dispatching r (Some d) (Some t) q = q

  settling : (r : State) (o : Outcome) → LessIn r → LessIn (settled app r o)
  settling r Keep q = keeping r r.processor q
  settling r (To o) q = dispatching r (task_of r.processor) o q

  -- no instruction begins a routine
  pub begins_none : (choice : Bool) → Well app s → IsActive s.processor → LessIn (instruction app s choice).state
  unfolding instruction
  begins_none choice w active =
      let e = effect app s choice in
      settling e.state (outcome_of app e) (effect_does app LessIn (λ r a. LessIn r) s less_deeds w active (λ l h. h) (λ to. moving to s.processor) choice)

-- an instruction of the routine k: it keeps the processor, or it is out
module _ (app : App) (s : State) (k : SourceNo) (over : Option TaskNo) (is : s.processor ≡ processor.Interrupted k over) where
  abbrev AsBefore : State → Type 0
  AsBefore m = m.processor ≡ processor.Interrupted k over

  abbrev IsAtEnd : Type 0
  IsAtEnd = (is_routine_end (kind_at app s) ≡ true) ⊎ (is_shutdown (kind_at app s) ≡ true)

  abbrev Ended : State → Type 0
  Ended r = (source_state r k.0 ≡ source.Out) × IsOver over r.processor × IsAtEnd

  abbrev GoesOn : State → Ask → Type 0
  GoesOn r a = (AsBefore r × (a ≡ ask.No)) ⊎ Ended r

  goes_on : (r : State) → AsBefore r → GoesOn r ask.No
  goes_on r q = inl (q, refl)

  no_task : (m : State) (c : TaskNo) → AsBefore m → m.processor ≡ processor.Running c → ⊥
  no_task m c q e = cc (q, e)

  asks : (m : State) → AsBefore m → asked_of app (caller m.processor) ≡ ask.No
  asks m q = ap (λ (p : Processor). asked_of app (caller p)) q

  counting_on : (m : State) (c : ℕ) → AsBefore m → AsBefore (count_up app m c)
  unfolding count_up
  counting_on m c q = q

  returning_ends : (m : State) (l : SourceNo) (o : Option TaskNo) (n : Option SourceNo) → l ≡ k → o ≡ over → IsAtEnd → Ended (returned_to app (with_source m l.0 source.Out) o n).state
  returning_ends m l None None e f at = (subst (λ (j : SourceNo). source_state (with_source m j.0 source.Out) k.0 ≡ source.Out) (sym e) (put_out m k.0), tt, at)
  returning_ends m l (Some t) None e f at = (subst (λ (j : SourceNo). source_state (with_source m j.0 source.Out) k.0 ≡ source.Out) (sym e) (put_out m k.0), tt, at)
  returning_ends m l o (Some j) e f at = (subst (λ (i : SourceNo). source_state (with_source m i.0 source.Out) k.0 ≡ source.Out) (sym e) (put_out m k.0), f, at)

  halting_ends : (m : State) (p : Processor) → p ≡ processor.Interrupted k over → IsAtEnd → Ended (halted_by m p)
  halting_ends m processor.Halted e at = absurd (cc (e))
  halting_ends m processor.Idle e at = absurd (cc (e))
  halting_ends m (processor.Running t) e at = absurd (cc (e))
  halting_ends m (processor.Interrupted l None) e at = (each_is_out m k.0, tt, at)
  halting_ends m (processor.Interrupted l (Some t)) e at = (each_is_out (first_in_line m (Some t)) k.0, tt, at)

  ending_deeds : AreDeeds app (kind_at app s) AsBefore GoesOn
  ending_deeds = record {
    counts = λ m c q up. counting_on m c q;
    arms = λ m a x q sets. q;
    rests = λ m w q. goes_on m q;
    takes = λ m c r w q e free low. absurd (no_task m c q e);
    gives = λ m c n w q e goes. absurd (no_task m c q e);
    routine_takes = λ m l r w q e free low. inl (q, refl);
    routine_gives = λ m l n w q e. inl (q, refl);
    activates = λ m t w q known room goes. inl (q, asks m q);
    wakes = λ m t e w q known ext waits goes. inl (q, asks m q);
    sets = λ m t e w q known waits sent. inl (q, refl);
    clears = λ m c e w q r goes. absurd (no_task m c q r);
    ends = λ m c w q e goes. absurd (no_task m c q e);
    chains = λ m c t w q e known room goes chained. absurd (no_task m c q e);
    waits = λ m c w q e ext none goes. absurd (no_task m c q e);
    lets_out = λ m c w q e none goes. absurd (no_task m c q e);
    returns = λ m l o n w q e f goes. inr (returning_ends m l o n (cc (q, e)) (cc (q, e)) (inl goes));
    halts = λ m w q off. inr (halting_ends m m.processor q (inr off));
  }

  kept_so : (r : State) (p : Processor) → r.processor ≡ p → Ended r → Ended (kept_by app r p)
  kept_so r processor.Halted e q = q
  kept_so r processor.Idle e q = q
  kept_so r (processor.Running t) e q = q
  kept_so r (processor.Interrupted l o) e q = q

  dispatched_so : (r : State) (c o : Option TaskNo) → Ended r → Ended (with_processor (put_inside app (out_of_line (first_in_line r c) o) o) (processor_for o))
  dispatched_so r None None q = (q.0, tt, q.2)
  dispatched_so r (Some d) None q = (q.0, tt, q.2)
  dispatched_so r None (Some t) q = (q.0, tt, q.2)
  dispatched_so r (Some d) (Some t) q = (q.0, tt, q.2)

  still_at : (r : State) (p : Processor) → AsBefore r → AsBefore (kept_by app r p)
  still_at r processor.Halted q = q
  still_at r processor.Idle q = q
  still_at r (processor.Running t) q = q
  still_at r (processor.Interrupted l o) q = q

  settled_so : (r : State) (o : Outcome) → Ended r → Ended (settled app r o)
  settled_so r Keep q = kept_so r r.processor refl q
  settled_so r (To o) q = dispatched_so r (task_of r.processor) o q

  concluding : (r : State) (a : Ask) → GoesOn r a → AsBefore (settled app r (outcome_by app r a)) ⊎ Ended (settled app r (outcome_by app r a))
  concluding r a (inl q) = inl (subst (λ (b : Ask). AsBefore (settled app r (outcome_by app r b))) (sym q.1) (still_at r r.processor q.0))
  concluding r a (inr q) = inr (settled_so r (outcome_by app r a) q)

  pub keeps_or_ends : (choice : Bool) → Well app s → AsBefore (instruction app s choice).state ⊎ Ended (instruction app s choice).state
  unfolding instruction
  keeps_or_ends choice w =
      let e = effect app s choice in
      concluding e.state e.ask (effect_does app AsBefore GoesOn s ending_deeds w (subst IsActive (sym is) tt) is (λ to. moved_processor s to s.processor ∙ is) choice)
