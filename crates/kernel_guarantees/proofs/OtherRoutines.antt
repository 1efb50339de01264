-- What one step makes of a routine that is interrupted.
use Rattle.std.proofs.Common.{◌≡◌, ◌≢◌, ◌⊎◌, ℕ, Bool, refl, sym, subst, ap, ◌∙◌, inl, inr, arith, Some, None, get_or-set_other}
use Rattle.std.proofs.lemmas.Bool.{cases_eq}
use Rattle.std.specs.declared.option.Option.{Option}
use Rattle.osek_values.specs.declared.{event.Event.{Event}, numbers.{SourceNo.{SourceNo}, TaskNo.{TaskNo}}, status.Ask.{Ask}}
use Rattle.osek_values.specs.Numbers.{source_no}
use Rattle.osek_values.specs.declared.status.Ask.TheVariants as ask
use Rattle.osek_standard.specs.declared.{app.App.{App}, state.{State.{State}, Source.{Source}, Processor.{Processor}, Caller.{TheVariants.{Routine}}}, task_state.Place.{Place}}
use Rattle.osek_standard.specs.{States.{caller, source_state, task_of, with_processor, with_source}, Internal.{kept_by, put_inside}, Line.{first_in_line, out_of_line}, Services.{count_up}, Arrivals.{arrival, begun, entered}}
use Rattle.osek_standard.specs.{Effects.{effect, halted_by, moved_by, returned_to}, Kernel.{step}, Well.{IsActive, Well}, Apps.{source_priority}}
use Rattle.osek_standard.specs.Dispatch.{Outcome, Keep, To, instruction, outcome_by, processor_for, settled}
use Rattle.osek_standard.specs.declared.state.Processor.TheVariants as processor
use Rattle.osek_standard.specs.declared.state.Source.TheVariants as source
use Rattle.osek_standard.proofs.{ArrivalLaws.{arrival_is}, Callers.{IsAtProcessor, at_processor, moved_processor}}
use Rattle.kernel_guarantees.specs.{Nesting.{IsIn}, Scheduling.{kind_at}}
use Rattle.kernel_guarantees.proofs.{Deeds.{AreDeeds}, Effecting.{effect_does}, Nesting.{own_in_level, routine_in_level}, Reaching.{step_has}}

module _ (app : App) (s : State) (k : SourceNo) (beside : (over : Option TaskNo) → s.processor ≡ processor.Interrupted k over → ⊥) (inside : IsIn s k.0) where
  abbrev Same : State → Type 0
  Same m = source_state m k.0 ≡ source_state s k.0

  abbrev Unmoved : State → Type 0
  Unmoved m = (m.processor ≡ s.processor) × Same m

  -- it is as it was, unless the kernel halts
  abbrev SameOr : State → Ask → Type 0
  SameOr r a = Same r ⊎ ((r.processor ≡ processor.Halted) × (a ≡ ask.No))

  other_routine : (m : State) (l : SourceNo) (over : Option TaskNo) → m.processor ≡ s.processor → m.processor ≡ processor.Interrupted l over → k.0 ≢ l.0
  other_routine m l over same e f = beside over (sym same ∙ e ∙ ap (λ (n : ℕ). processor.Interrupted (source_no n) over) (sym f))

  beside_source : (m : State) (l : SourceNo) (over : Option TaskNo) (x : Source) → Unmoved m → m.processor ≡ processor.Interrupted l over → Same (with_source m l.0 x)
  beside_source m l over x q e = get_or-set_other m.sources l.0 k.0 x source.Out (other_routine m l over q.0 e) ∙ q.1

  by_caller : (m : State) (l : SourceNo) (x : Source) → Unmoved m → caller m.processor ≡ Routine l → Same (with_source m l.0 x)
  by_caller m l x q e = let at : IsAtProcessor m (Routine l) = subst (IsAtProcessor m) e (at_processor m) in beside_source m l at.0 x q at.1

  counting : (m : State) (c : ℕ) → Unmoved m → Unmoved (count_up app m c)
  unfolding count_up
  counting m c q = q

  returning : (m : State) (l : SourceNo) (over : Option TaskNo) (o : Option SourceNo) → Same (with_source m l.0 source.Out) → Same (returned_to app (with_source m l.0 source.Out) over o).state
  returning m l None None q = q
  returning m l (Some t) None q = q
  returning m l over (Some j) q = q

  halting : (m : State) (p : Processor) → m.processor ≡ p → Same m → SameOr (halted_by m p) ask.No
  halting m processor.Halted e q = inl q
  halting m processor.Idle e q = inr (refl, refl)
  halting m (processor.Running t) e q = inr (refl, refl)
  halting m (processor.Interrupted l over) e q = inr (refl, refl)

  moving : (to : Place) (p : Processor) → s.processor ≡ p → Same (moved_by s p to)
  moving to processor.Halted e = refl
  moving to processor.Idle e = refl
  moving to (processor.Running t) e = refl
  moving to (processor.Interrupted l over) e = beside_source s l over _ (refl, refl) e

  routine_deeds : AreDeeds app (kind_at app s) Unmoved SameOr
  routine_deeds = record {
    counts = λ m c q up. counting m c q;
    arms = λ m a x q sets. q;
    rests = λ m w q. inl q.1;
    takes = λ m c r w q e free low. inl q.1;
    gives = λ m c n w q e goes. inl q.1;
    routine_takes = λ m l r w q e free low. inl (by_caller m l _ q e);
    routine_gives = λ m l n w q e. inl (by_caller m l _ q e);
    activates = λ m t w q known room goes. inl q.1;
    wakes = λ m t e w q known ext waits goes. inl q.1;
    sets = λ m t e w q known waits sent. inl q.1;
    clears = λ m c e w q r goes. inl q.1;
    ends = λ m c w q e goes. inl q.1;
    chains = λ m c t w q e known room goes chained. inl q.1;
    waits = λ m c w q e ext none goes. inl q.1;
    lets_out = λ m c w q e none goes. inl q.1;
    returns = λ m l over o w q e f goes. inl (returning m l over o (beside_source m l over source.Out q e));
    halts = λ m w q off. halting m m.processor refl q.1;
  }

  abbrev StaysOrHalts : State → Type 0
  StaysOrHalts r = Same r ⊎ (r.processor ≡ processor.Halted)

  keeping : (r : State) (p : Processor) → Same r → Same (kept_by app r p)
  keeping r processor.Halted q = q
  keeping r processor.Idle q = q
  keeping r (processor.Running t) q = q
  keeping r (processor.Interrupted l over) q = q

  halted_kept : (r : State) (p : Processor) → r.processor ≡ processor.Halted → (kept_by app r p).processor ≡ processor.Halted
  halted_kept r processor.Halted e = e
  halted_kept r processor.Idle e = e
  halted_kept r (processor.Running t) e = e
  halted_kept r (processor.Interrupted l over) e = e

  dispatching : (r : State) (c o : Option TaskNo) → Same r → Same (with_processor (put_inside app (out_of_line (first_in_line r c) o) o) (processor_for o))
  dispatching r None None q = q
  dispatching r (Some d) None q = q
  dispatching r None (Some t) q = q
  dispatching r (Some d) (Some t) q = q

  settling : (r : State) (o : Outcome) → Same r → Same (settled app r o)
  settling r Keep q = keeping r r.processor q
  settling r (To o) q = dispatching r (task_of r.processor) o q

  concluding : (r : State) (a : Ask) → SameOr r a → StaysOrHalts (settled app r (outcome_by app r a))
  concluding r a (inl q) = inl (settling r (outcome_by app r a) q)
  concluding r a (inr h) = inr (subst (λ (b : Ask). (settled app r (outcome_by app r b)).processor ≡ processor.Halted) (sym h.1) (halted_kept r r.processor h.0))

  pub instruction_leaves : (choice : Bool) → Well app s → IsActive s.processor → StaysOrHalts (instruction app s choice).state
  unfolding instruction
  instruction_leaves choice w active =
      let e = effect app s choice in
      concluding e.state e.ask (effect_does app Unmoved SameOr s routine_deeds w active (refl, refl) (λ to. (moved_processor s to s.processor, moving to s.processor refl)) choice)

  -- a routine that is in doesn't begin anew
  begins : (l : SourceNo) → arrival app s ≡ Some l → Same (entered app s l)
  begins l a = elim (cases_eq k.0 l.0) [
    | inl same ↦ absurd (let above = (arrival_is app s l a).above in
        let own = own_in_level app k.0 (source_state s k.0) inside in
        let low = routine_in_level app s k.0 inside in
        omega (arith, above, own, low, ap (source_priority app) same))
    | inr other ↦ get_or-set_other s.sources l.0 k.0 (source.In (begun app l.0)) source.Out other
  ]

  pub stays_or_halts : (e : Event) → Well app s → StaysOrHalts (step app s e).state
  stays_or_halts e w = step_has app s StaysOrHalts (inl refl) (λ l. inl refl) (λ l a. inl (begins l a)) (λ choice active. instruction_leaves choice w active) e
