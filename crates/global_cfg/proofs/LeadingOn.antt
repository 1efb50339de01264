-- A step is an edge exactly where control flow leads on.
use Rattle.std.proofs.Common.{◌≡◌, ◌≢◌, ◌⊎◌, true, not, refl, sym, ap, subst, ◌∙◌, inl, inr, Some, None}
use Rattle.std.specs.{Prelude.{◌==◌}, declared.option.Option.{Option}}
use Rattle.std.proofs.lemmas.Bool.{cases_eq, eq-eqb, ne_eqb, or_left, or_right}
use Rattle.osek_values.specs.{Numbers.{task_no}, declared.{event.Event.{Event}, numbers.TaskNo.{TaskNo}, status.Status.{Status}}}
use Rattle.osek_standard.specs.declared.{app.App.{App}, state.State.{State}}
use Rattle.osek_standard.specs.declared.state.Processor.TheVariants as processor
use Rattle.osek_standard.specs.declared.point.Point.{Point}
use Rattle.osek_standard.specs.declared.point.Point.TheVariants as point
use Rattle.osek_standard.specs.{States.{here}, Points.{point_at, point_of, point_number, IsPoint}, Effects.{effect}, Dispatch.{To, Stepped}, Kernel.{step}}
use Rattle.osek_standard.specs.{Outcomes.{Silent, Did, shows}, Well.{Well}}
use Rattle.osek_standard.proofs.{OwnerLaws.{own_once}, PointLaws.{one_number}, StepKeeps.{step_keeps}}
use Rattle.abstract_state.specs.{declared.table.PlainEntry.{PlainEntry}, Edges.{IsAnew}}
use Rattle.abstract_state.proofs.{AlikeLaws.{alike_point}, AllowedLaws.{well_point}, MarkLaws.{shown_instruction, shown_silent}}
use Rattle.flow_model.specs.declared.case.Decision.{Decision}
use Rattle.flow_model.specs.declared.case.Decision.TheVariants as decision
use Rattle.flow_model.specs.{Effects.{IsAt}, Rules.{mark_by}}
use Rattle.flow_model.proofs.{Instructions.{state_after}, Standing.{stands_at}}
use Rattle.global_cfg.specs.Targets.{dispatches, leads}

-- the task that is dispatched
dispatched_task : (d : Option Decision) → dispatches d ≡ true → (t : TaskNo) × (d ≡ Some (decision.To (Some t)))
dispatched_task None e = absurd (cc)
dispatched_task (Some decision.Keep) e = absurd (cc)
dispatched_task (Some (decision.To None)) e = absurd (cc)
dispatched_task (Some (decision.To (Some t))) e = (t, refl)

shows_dispatch : (d : Option Decision) (x y : Option Status) (t : TaskNo) → mark_by d x ≡ Did (To (Some t)) y → dispatches d ≡ true
shows_dispatch None x y t e = absurd (cc)
shows_dispatch (Some decision.Keep) x y t e = absurd (cc)
shows_dispatch (Some (decision.To None)) x y t e = absurd (cc)
shows_dispatch (Some (decision.To (Some u))) x y t e = refl

module _ (app : App) (p : Point) (entry : PlainEntry) (s : State) (e : Event) (at : IsAt app p entry s) where
  abbrev next : State
  next = (step app s e).state

  pub next_well : Well app next
  next_well = step_keeps app s e at.well

  here_point : IsPoint app p
  here_point = subst (IsPoint app) at.point (well_point app s at.well)

  -- a step that shows nothing stays where it is, and dispatches no task
  pub stays_silent : (q : Point) → point_of next ≡ q → (p ≢ q) ⊎ IsAnew app s e → shows app s e ≡ Silent → ⊥
  stays_silent q ends (inl other) silent = other (sym at.point ∙ alike_point s next (shown_silent app s e silent) ∙ ends)
  stays_silent q ends (inr anew) silent = let shown = anew.dispatched in cc

  -- a task that is dispatched has the processor
  dispatched_runs : (t : TaskNo) (x : Option Status) → shows app s e ≡ Did (To (Some t)) x → next.processor ≡ processor.Running t
  dispatched_runs t x shown =
      let i = shown_instruction app s e (To (Some t)) x shown in
      ap (λ (n : Stepped). n.state.processor) i.steps ∙ ap (λ (u : State). u.processor) (state_after app s i.choice (effect app s i.choice) (To (Some t)) refl i.does)

  -- where it stands at the same point, it is the one that ran there
  ran_there : (t : TaskNo) (x : Option Status) → shows app s e ≡ Did (To (Some t)) x → point_of next ≡ p → IsAnew app s e
  ran_there t x shown same =
      let b = (here next).block in
      let runs : next.processor ≡ processor.Running t = dispatched_runs t x shown in
      let there : point_of next ≡ point.Task b = ap (point_at b) runs in
      let before = stands_at app s b at.well (at.point ∙ sym same ∙ there) in
      let after = stands_at app next b next_well there in
      let one : before.0.0 ≡ after.0.0 = own_once app before.0.0 after.0.0 b.0 before.1.runs.has.0 after.1.runs.has.0 before.1.runs.own after.1.runs.own in
      let now : after.0 ≡ t = (let has : next.processor ≡ processor.Running after.0 = after.1.runs.runs in cc) in
      record {
        task = t;
        status = x;
        runs = before.1.runs.runs ∙ ap processor.Running (ap task_no one ∙ now);
        dispatched = shown;
      }

  -- it ends at this target, after this decision
  module _ (target : Point) (decided : Option Decision) (noted : Option Status) (ends : point_of next ≡ target) (shown : shows app s e ≡ mark_by decided noted) where
    pub target_point : IsPoint app target
    target_point = subst (IsPoint app) ends (well_point app next next_well)

    -- a step by which control flow leads on is an edge
    pub moves_on : leads target decided p ≡ true → (p ≢ target) ⊎ IsAnew app s e
    moves_on on = elim (cases_eq (point_number target) (point_number p)) [
      | inl same ↦
          (let equal : (point_number target == point_number p) ≡ true = eq-eqb (point_number target) (point_number p) same in
          let d : dispatches decided ≡ true = rw equal at on in
          let t = dispatched_task decided d in
          let did = shown ∙ ap (λ (x : Option Decision). mark_by x noted) t.1 in
          inr (ran_there t.0 noted did (ends ∙ one_number app target p target_point here_point same)))
      | inr other ↦ inl (λ same. other (ap point_number (sym same)))
    ]

    -- and there is no other
    pub leads_where_it_moves : (p ≢ target) ⊎ IsAnew app s e → leads target decided p ≡ true
    leads_where_it_moves (inl other) =
        or_left (not (point_number target == point_number p)) (dispatches decided) (ap not (ne_eqb (point_number target) (point_number p) (λ same. other (sym (one_number app target p target_point here_point same)))))
    leads_where_it_moves (inr anew) = or_right (not (point_number target == point_number p)) (dispatches decided) (shows_dispatch decided noted anew.status anew.task (sym shown ∙ anew.dispatched))
