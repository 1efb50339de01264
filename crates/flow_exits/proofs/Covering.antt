-- The exits of a point are where its steps end, and each is one of some step.
use Rattle.std.proofs.Common.{◌≡◌, ℕ, Bool, List, [], map, IsTrue, refl, sym, ap, subst, ◌∙◌, inl, inr, arith, Some, None}
use Rattle.std.specs.{declared.option.Option.{Option}}
use Rattle.std.proofs.lemmas.Bool.{cases_Bool}
use Rattle.osek_values.specs.{declared.{event.Event.{Event, TheVariants.{Run, Irq, Tick}}, numbers.{TaskNo.{TaskNo}, BlockNo.{BlockNo}, SourceNo.{SourceNo}}, status.Status.{Status}}, Numbers.{source_no, task_no}}
use Rattle.osek_standard.specs.declared.{app.App.{App}, state.State.{State}, point.Point.{Point}}
use Rattle.osek_standard.specs.declared.point.Point.TheVariants as point
use Rattle.osek_standard.specs.{Apps.{the_block}, Points.{point_of, IsPoint}, Dispatch.{Outcome, outcome}, Effects.{effect}}
use Rattle.osek_standard.specs.{Outcomes.{Mark, Silent, Arrived, Did, shows, IsInstruction}, Well.{Well, IsActive}}
use Rattle.abstract_state.specs.{declared.{value.PartValue.{PartValue}, table.PlainEntry.{PlainEntry}}, Components.{abstract_of}, Concrete.{HasParts}, Tables.{set_at, is_member}}
use Rattle.abstract_state.proofs.MarkLaws.{shown_instruction, shown_arrival}
use Rattle.flow_model.specs.{declared.{case.{Decision.{Decision}, EffectCase.{EffectCase}}, rule.Rule.{Rule}}, Effects.{AreIn, AreAllAllowed, IsAt, IsKnownStay, HasEffect}}
use Rattle.flow_model.specs.{Rules.{mark_by, mark_of}, Runners.{IsNobodys}, Tests.{value_after, values_after}}
use Rattle.flow_model.proofs.{Instructions.{instruction_by, shown_so}, Standing.{active_there, active_within}}
use Rattle.flow_exits.specs.{Deciding.{HasValues, IsKernelDecision}, Arrivals.{arrival_rule, may_begin_over, MayBegin, IsArrivalRule, AreArrivals}}
use Rattle.flow_exits.proofs.Arriving.{idle_arrivals, routine_arrivals, task_arrivals, arrival_covered, arrival_shown}
use Rattle.flow_exits.specs.{declared.exit.Exit.{Exit}, Exits.{exit_mark, IsBySome, CoverSteps, CoverInstructions, IsExact, AreExact}}
use Rattle.flow_exits.specs.Leaving.{HasDecided, IsOfEffects, IsArrivalExit, AreExits}
use Rattle.abstract_state.specs.Choices.{IsFirstIfThere}
use Rattle.flow_exits.proofs.Steps.{changed, some_decision, kernel_decision, instruction_ends, winner}

exit_marks : (x : Exit) (d : Decision) (status : Option Status) → x.decision ≡ Some d → x.status ≡ status → exit_mark x ≡ mark_by (Some d) status
exit_marks x d status decides is = ap (λ (o : Option Decision). mark_by o x.status) decides ∙ ap (mark_by (Some d)) is

-- ---- routines that begin

-- rules of all routines that may begin at the point
record HasArrivals (app : App) (p : Point) : Type 0 where
  rules : List Rule
  are : AreArrivals app p rules

module _ (app : App) where
  none_begin : (p : Point) → ((over : Option TaskNo) (running : Option SourceNo) (k : ℕ) → MayBegin app p over running k → ⊥) → HasArrivals app p
  none_begin p never = record {
    rules = [];
    are = record { each = λ rule m. absurd (omega (arith, m.1)); some = λ k over running lt may. absurd (never over running k may) };
  }

  begin_over : (p : Point) (over : Option TaskNo) (running : Option SourceNo) → AreArrivals app p (map (arrival_rule app over running) (may_begin_over app over running)) → HasArrivals app p
  begin_over p over running are = record { rules = map (arrival_rule app over running) (may_begin_over app over running); are = are }

  locked_task : (b : BlockNo) (over : Option TaskNo) (running : Option SourceNo) (k : ℕ) → IsTrue (the_block app b.0).locked → MayBegin app (point.Task b) over running k → ⊥
  locked_task b None running k locked may = may
  locked_task b (Some t) None k locked may = (let free = may.free in cc)
  locked_task b (Some t) (Some j) k locked may = may

  locked_routine : (b : BlockNo) (under over : Option TaskNo) (running : Option SourceNo) (k : ℕ) → IsTrue (the_block app b.0).locked → MayBegin app (point.Routine b under) over running k → ⊥
  locked_routine b under over None k locked may = may
  locked_routine b under over (Some j) k locked may = (let free = may.free in cc)

  has_arrivals : (p : Point) → IsPoint app p → HasArrivals app p
  has_arrivals point.Halted is = none_begin point.Halted (λ over running k may. may)
  has_arrivals point.Idle is = begin_over point.Idle None None (idle_arrivals app)
  has_arrivals (point.Task b) is = elim (cases_Bool (the_block app b.0).locked) [
    | inl locked ↦ none_begin (point.Task b) (λ over running k may. locked_task b over running k locked may)
    | inr free ↦ begin_over (point.Task b) (Some (task_no is.task)) None (task_arrivals app b (task_no is.task) free is.known is.own)
  ]
  has_arrivals (point.Routine b over) is = elim (cases_Bool (the_block app b.0).locked) [
    | inl locked ↦ none_begin (point.Routine b over) (λ o running k may. locked_routine b over o running k locked may)
    | inr free ↦ begin_over (point.Routine b over) over (Some (source_no is.source)) (routine_arrivals app b over (source_no is.source) free is.known is.own)
  ]

module _ (app : App) (p : Point) (entry : PlainEntry) (exits : List Exit) (is : IsPoint app p) (h : AreExits app p entry exits) where
  -- an exit without a decision shows what the rule of an arrival does, and neither notes a status
  arrival_marks : (rule : Rule) → IsArrivalRule app p rule → (x : Exit) → x.decision ≡ None → mark_of rule ≡ exit_mark x
  arrival_marks rule r x none = ap mark_of r.is ∙ sym (ap (λ (o : Option Decision). mark_by o x.status) none)

  arrival_notes : (rule : Rule) → IsArrivalRule app p rule → rule.status ≡ None
  arrival_notes rule r = ap (λ (x : Rule). x.status) r.is

  -- a state in which a routine begins steps by the routine's exit
  arrival_taken : (s : State) (choice : Bool) → IsAt app p entry s → shows app s (Run choice) ≡ Arrived → IsBySome app exits s (Run choice)
  arrival_taken s choice at e =
      let k = shown_arrival app s (Run choice) e in
      let a = has_arrivals app p is in
      let m = arrival_covered app s at.well at.regular p a.rules (Run choice) a.are at.point k.source k.arrives choice refl in
      let r = a.are.each m.rule m.listed in
      let found = h.arrivals m.rule r (abstract_of app s) at.within m.matches.passes in
      let exit : Exit = found.exit in
      record {
        exit = exit;
        listed = found.listed;
        by = record {
          target = m.matches.target ∙ sym found.target;
          within = λ c lt. subst (λ (v : PartValue). IsTrue (is_member (set_at exit.entry c) v)) (sym (m.matches.parts c lt)) (found.within c lt);
          shows = m.matches.shows ∙ arrival_marks m.rule r exit found.decision;
          status = m.matches.status ∙ arrival_notes m.rule r ∙ sym found.status;
        };
      }

  -- ---- instructions

  -- the effect of an instruction, what is decided after it, and the exit for that
  record HasExit (s : State) (choice : Bool) : Type 0 where
    case : EffectCase
    stays : IsKnownStay app case.leaving.stay
    has : HasEffect app case s choice
    decision : Decision
    does : IsKernelDecision app case.leaving (effect app s choice) (values_after case.changes (abstract_of app s)) decision
    found : HasDecided app case.leaving exits decision (values_after case.changes (abstract_of app s))

  has_exit : (s : State) (choice : Bool) → IsAt app p entry s → IsActive s.processor → HasExit s choice
  has_exit s choice at active =
      let x = h.covering s choice at active in
      let d = some_decision app s choice at.well x.case x.effect in
      record { case = x.case; stays = h.stays x.case x.listed; has = x.effect; decision = d.0; does = d.1; found = h.decisions x.case x.listed (abstract_of app s) d.0 at.within x.effect.passes d.1.decides }

  instruction_taken : (s : State) (e : Event) (o : Outcome) (x : Option Status) → IsAt app p entry s → IsInstruction app s e o x → shows app s e ≡ Did o x → IsBySome app exits s e
  instruction_taken s e o x at i shown =
      let k = has_exit s i.choice at i.active in
      let value : ℕ → PartValue = values_after k.case.changes (abstract_of app s) in
      let same = changed app s i.choice at.well k.case k.has in
      let exit : Exit = k.found.exit in
      let r = instruction_ends app s i.choice at.well k.case k.has value same k.decision k.does k.stays e i.steps at.regular
      (shown ∙ ap (λ (d : Outcome). Did d x) (sym i.does) ∙ ap (Did (outcome app s i.choice)) (sym i.status)) in
      record {
        exit = exit;
        listed = k.found.listed;
        by = record {
          target = r.target ∙ sym k.found.target;
          within = λ c lt. subst (λ (v : PartValue). IsTrue (is_member (set_at exit.entry c) v)) (sym (r.parts c lt)) (k.found.within c lt);
          shows = r.shows ∙ sym (exit_marks exit k.decision k.case.leaving.status k.found.decision k.found.status);
          status = r.status ∙ sym k.found.status;
        };
      }

  by_mark : (s : State) (choice : Bool) → IsAt app p entry s → (shows app s (Run choice) ≡ Silent → ⊥) → (m : Mark) → shows app s (Run choice) ≡ m → IsBySome app exits s (Run choice)
  by_mark s choice at loud Silent e = absurd (loud e)
  by_mark s choice at loud Arrived e = arrival_taken s choice at e
  by_mark s choice at loud (Did o x) e = instruction_taken s (Run choice) o x at (shown_instruction app s (Run choice) o x e) e

  -- each step that shows something is by an exit
  pub exits_cover : CoverSteps app p entry exits
  exits_cover s (Run choice) at loud = by_mark s choice at loud (shows app s (Run choice)) refl
  exits_cover s (Irq k) at loud = absurd (loud refl)
  exits_cover s (Tick c) at loud = absurd (loud refl)

  -- each instruction is an exit's
  pub exits_foresee : CoverInstructions app p entry exits
  exits_foresee s choice at active =
      let k = has_exit s choice at active in
      record {
        exit = k.found.exit;
        listed = k.found.listed;
        decision = k.decision;
        decides = k.found.decision;
        outcome = k.does.outcome;
        status = k.has.status ∙ sym k.found.status;
      }

  -- ---- and each exit is one of some step

  active_at : (q : Point) → (IsNobodys q → ⊥) → (s : State) → Well app s → point_of s ≡ q → IsActive s.processor
  active_at point.Halted busy s w e = absurd (busy tt)
  active_at point.Idle busy s w e = absurd (busy tt)
  active_at (point.Task b) busy s w e = active_there app s b w e
  active_at (point.Routine b over) busy s w e = active_within app s b over w e

  at_values : (s : State) (value : ℕ → PartValue) → HasParts app p value s → AreIn app entry value → IsAt app p entry s
  at_values s value has within = record {
    well = has.well;
    regular = has.regular;
    point = has.point;
    within = λ c lt. subst (λ (v : PartValue). IsTrue (is_member (set_at entry c) v)) (sym (has.parts c lt)) (within c lt);
  }

  module _ (allowed : AreAllAllowed app p entry) where
    arrival_exact : (x : Exit) → IsArrivalExit app p entry x → IsExact app p entry x
    arrival_exact x a = record {
      filled = a.filled;
      shown = λ value within.
          (let k = a.comes value within in
          let y = arrival_shown app p a.rule k.before is (λ c lt. allowed c (k.before c) lt (k.within c lt)) a.arrival k.passes in
          record {
            from = y.from;
            event = y.event;
            at = at_values y.from k.before y.has k.within;
            target = y.matches.target ∙ sym a.target;
            parts = λ c lt. y.matches.parts c lt ∙ ap (value_after a.rule.changes c) (y.has.parts c lt) ∙ k.becomes c lt;
            shows = y.matches.shows ∙ arrival_marks a.rule a.arrival x a.decision;
            status = y.matches.status ∙ arrival_notes a.rule a.arrival ∙ sym a.status;
          });
    }

    effect_exact : (x : Exit) → IsOfEffects app h.effects entry x → IsExact app p entry x
    effect_exact x o = record {
      filled = o.filled;
      shown = λ value within.
          (let k = o.comes value within in
          let m = k.made in
          let y = h.exact allowed k.effect m.before (winner o.decision) k.listed m.within m.passes in
          let s : State = y.from in
          let active : IsActive s.processor = active_at p (h.active k.effect k.listed) s y.has.well y.has.point in
          let same : HasValues app (effect app s y.choice).state k.after
          = λ c lt. sym (y.effect.parts c lt ∙ ap (value_after k.effect.changes c) (y.has.parts c lt) ∙ m.becomes c lt) in
          let does : IsKernelDecision app k.effect.leaving (effect app s y.choice) k.after o.decision
          = kernel_decision app s y.choice y.has.well k.effect y.effect k.after same o.decision k.decides (λ w e. subst (λ (t : ℕ). IsFirstIfThere t s) (ap winner e) y.first) in
          let r = instruction_ends app s y.choice y.has.well k.effect y.effect k.after same o.decision does (h.stays k.effect k.listed) (Run y.choice)
          (instruction_by app s y.choice active y.alone) y.has.regular (shown_so app s y.choice active y.alone) in
          record {
            from = s;
            event = Run y.choice;
            at = at_values s m.before y.has m.within;
            target = r.target ∙ sym k.target;
            parts = λ c lt. r.parts c lt ∙ k.settles c lt;
            shows = r.shows ∙ sym (exit_marks x o.decision k.effect.leaving.status o.decides k.status);
            status = r.status ∙ sym k.status;
          });
    }

    pub exits_shown : AreExact app p entry exits
    exits_shown x m = elim (h.each x m) [
      | inl a ↦ arrival_exact x a
      | inr o ↦ effect_exact x o
    ]
