-- After ShutdownOS nothing changes but latches; and a latch stays until its routine begins.
use Rattle.std.proofs.Common.{◌≡◌, ◌⊎◌, ℕ, Bool, true, false, List, refl, sym, subst, ap, ◌∙◌, inl, inr, Some, None, length, slice_index_or, get_or-set_other, get_or-set_same}
use Rattle.std.proofs.lemmas.{Bool.{cases_eq, cases_lt}, List.{set_past}}
use Rattle.std.specs.declared.option.Option.{Option}
use Rattle.osek_values.specs.declared.{event.Event.{Event, TheVariants.{Run, Irq, Tick}}, numbers.{SourceNo.{SourceNo}, TaskNo.{TaskNo}}}
use Rattle.osek_values.specs.Numbers.{source_no}
use Rattle.osek_standard.specs.declared.{app.App.{App}, state.{State.{State}, Processor.{Processor}}, task_state.Place.{Place}}
use Rattle.osek_standard.specs.{States.{is_latched, task_of, with_latch, with_processor, with_source}, Internal.{kept_by, put_inside}, Line.{first_in_line, out_of_line}, Services.{count_up}, Arrivals.{arrival, entered}}
use Rattle.osek_standard.specs.{Effects.{effect, halted_by, moved_by, returned_to}, Kernel.{run_by, step}, Well.{IsActive, Well}}
use Rattle.osek_standard.specs.Dispatch.{Outcome, Keep, To, instruction, outcome_of, processor_for, settled, silent}
use Rattle.osek_standard.specs.declared.state.Processor.TheVariants as processor
use Rattle.osek_standard.specs.declared.state.Source.TheVariants as source
use Rattle.kernel_guarantees.specs.Scheduling.{kind_at}
use Rattle.kernel_guarantees.proofs.{Deeds.{AreDeeds}, Effecting.{effect_does}, Reaching.{step_has}}

module _ (app : App) (s : State) where
  -- where the kernel halted
  pub halted_stays : s.processor ≡ processor.Halted → (e : Event) → (latches : List Bool) × (step app s e ≡ silent (record s { latched = latches }))
  halted_stays halted (Run choice) = (s.latched, subst (λ (p : Processor). run_by (λ m. m) app s (instruction app s choice) p ≡ silent s) (sym halted) refl)
  halted_stays halted (Irq i) = (_, refl)
  halted_stays halted (Tick c) = (_, refl)

  abbrev LatchedAsBefore : State → Type 0
  LatchedAsBefore r = r.latched ≡ s.latched

  counting : (m : State) (c : ℕ) → LatchedAsBefore m → LatchedAsBefore (count_up app m c)
  unfolding count_up
  counting m c q = q

  returning : (m : State) (k : SourceNo) (over : Option TaskNo) (o : Option SourceNo) → LatchedAsBefore m → LatchedAsBefore (returned_to app (with_source m k.0 source.Out) over o).state
  returning m k None None q = q
  returning m k (Some t) None q = q
  returning m k over (Some j) q = q

  halting : (m : State) (p : Processor) → LatchedAsBefore m → LatchedAsBefore (halted_by m p)
  halting m processor.Halted q = q
  halting m processor.Idle q = q
  halting m (processor.Running t) q = q
  halting m (processor.Interrupted k None) q = q
  halting m (processor.Interrupted k (Some t)) q = q

  moving : (to : Place) (p : Processor) → LatchedAsBefore (moved_by s p to)
  moving to processor.Halted = refl
  moving to processor.Idle = refl
  moving to (processor.Running t) = refl
  moving to (processor.Interrupted k over) = refl

  latch_deeds : AreDeeds app (kind_at app s) LatchedAsBefore (λ r a. LatchedAsBefore r)
  latch_deeds = record {
    counts = λ m c q up. counting m c q;
    arms = λ m a x q sets. q;
    rests = λ m w q. q;
    takes = λ m c r w q e free low. q;
    gives = λ m c n w q e goes. q;
    routine_takes = λ m l r w q e free low. q;
    routine_gives = λ m l n w q e. q;
    activates = λ m t w q known room goes. q;
    wakes = λ m t e w q known ext waits goes. q;
    sets = λ m t e w q known waits sent. q;
    clears = λ m c e w q r goes. q;
    ends = λ m c w q e goes. q;
    chains = λ m c t w q e known room goes chained. q;
    waits = λ m c w q e ext none goes. q;
    lets_out = λ m c w q e none goes. q;
    returns = λ m l over o w q e f goes. returning m l over o q;
    halts = λ m w q off. halting m m.processor q;
  }

  keeping : (r : State) (p : Processor) → LatchedAsBefore r → LatchedAsBefore (kept_by app r p)
  keeping r processor.Halted q = q
  keeping r processor.Idle q = q
  keeping r (processor.Running t) q = q
  keeping r (processor.Interrupted k over) q = q

  dispatching : (r : State) (c o : Option TaskNo) → LatchedAsBefore r → LatchedAsBefore (with_processor (put_inside app (out_of_line (first_in_line r c) o) o) (processor_for o))
  dispatching r None None q = q
  dispatching r (Some d) None q = q
  dispatching r None (Some t) q = q
  dispatching r (Some d) (Some t) q = q

  settling : (r : State) (o : Outcome) → LatchedAsBefore r → LatchedAsBefore (settled app r o)
  settling r Keep q = keeping r r.processor q
  settling r (To o) q = dispatching r (task_of r.processor) o q

  instruction_leaves : (choice : Bool) → Well app s → IsActive s.processor → LatchedAsBefore (instruction app s choice).state
  unfolding instruction
  instruction_leaves choice w active =
      let e = effect app s choice in
      settling e.state (outcome_of app e) (effect_does app LatchedAsBefore (λ r a. LatchedAsBefore r) s latch_deeds w active refl (λ to. moving to s.processor) choice)

  -- a latch stays, or its routine begins
  module _ (w : Well app s) (k : ℕ) (came : is_latched s k ≡ true) where
    abbrev StaysOr : State → Type 0
    StaysOr r = (is_latched r k ≡ true) ⊎ (arrival app s ≡ Some (source_no k))

    same_latch : (r : State) → LatchedAsBefore r → StaysOr r
    same_latch r q = inl (subst (λ (xs : List Bool). slice_index_or xs k false ≡ true) (sym q) came)

    latched_too : (l : ℕ) → is_latched (with_latch s l true) k ≡ true
    latched_too l = elim (cases_lt l (length s.latched)) [
      | inl known ↦ elim (cases_eq k l) [
        | inl same ↦ subst (λ (n : ℕ). is_latched (with_latch s l true) n ≡ true) (sym same) (get_or-set_same s.latched l true false known)
        | inr other ↦ get_or-set_other s.latched l k true false other ∙ came
      ]
      | inr past ↦ subst (λ (xs : List Bool). slice_index_or xs k false ≡ true) (sym (set_past s.latched l true past)) came
    ]

    begins_or_stays : (l : SourceNo) → arrival app s ≡ Some l → StaysOr (entered app s l)
    begins_or_stays l a = elim (cases_eq k l.0) [
      | inl same ↦ inr (a ∙ ap (λ (n : ℕ). Some (source_no n)) (sym same))
      | inr other ↦ inl (get_or-set_other s.latched l.0 k false false other ∙ came)
    ]

    pub latch_stays : (e : Event) → StaysOr (step app s e).state
    latch_stays e = step_has app s StaysOr (inl came) (λ l. inl (latched_too l)) begins_or_stays (λ choice active. same_latch (instruction app s choice).state (instruction_leaves choice w active)) e
