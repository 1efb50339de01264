-- What the step of an instruction is, by values after its effect with which the scheduler decides.
use Rattle.std.proofs.Common.{◌≡◌, ℕ, ◌<◌, ◌&&◌, Bool, true, false, length, refl, sym, ap, ◌∙◌, inl, inr, Some, None}
use Rattle.std.specs.Prelude.{if◌then◌else◌, is_some}
use Rattle.std.proofs.lemmas.Bool.{cases_Bool, false≢true}
use Rattle.osek_values.specs.declared.{event.Event.{Event}, numbers.TaskNo.{TaskNo}}
use Rattle.osek_standard.specs.{declared.{app.App.{App}, state.State.{State}, task_state.Activity.{Activity}, point.Point.{Point}}, Points.{point_of}, Dispatch.{Outcome, Stepped, instruction, outcome, settled}}
use Rattle.osek_standard.specs.{States.{is_that_task, task_state}, Internal.{internal_of}, Effects.{Effect, effect}, Kernel.{step}, Outcomes.{Did, shows}, Well.{Well}}
use Rattle.osek_standard.proofs.{EffectKeeps.{effect_keeps}, FlagLaws.{effect_flags}, InsideLaws.{IsNamed}}
use Rattle.abstract_state.specs.declared.value.{Component.{Component}, Val.{Val}, PartValue.{PartValue, TheVariants.{OfTask}}}
use Rattle.abstract_state.specs.declared.value.Component.TheVariants as component
use Rattle.abstract_state.specs.Components.{component_count, component_at, component_number, abstract_of, part_of, value_in, IsComponent}
use Rattle.abstract_state.specs.{Choices.{IsFirstIfThere}, Regular.{IsRegular}, Settling.{inside_val_if, runner_after, settled_part_of}}
use Rattle.abstract_state.proofs.{AlikeLaws.{inside_in, inside_of_value}, ComponentLaws.{component_known, component_numbered}, SettledParts.{flag_same, settled_part}}
use Rattle.flow_model.specs.{declared.case.{Decision.{Decision}, EffectCase.{EffectCase}}, Effects.{stay_point, IsKnownStay, HasEffect}, Rules.{mark_by}}
use Rattle.flow_model.specs.{Scheduling.{Decides, end_point, goes_inside, has_it_after, outcome_of_decision, settled_value, settled_values}, Tests.{updated, values_after}}
use Rattle.flow_model.specs.declared.case.Decision.TheVariants as decision
use Rattle.flow_model.specs.declared.change.Update.TheVariants as update
use Rattle.flow_exits.specs.Deciding.{HasValues, IsKernelDecision}
use Rattle.flow_exits.proofs.{KernelDecides.{decided_so, some_decided}, Staying.{runner_stays, stays_point}}

-- who gets the processor
abbrev pub winner : Decision → ℕ
winner decision.Keep = 0
winner (decision.To None) = 0
winner (decision.To (Some w)) = w.0

-- a task that gets or keeps the processor comes in where it names an INTERNAL resource, and else is outside already
brought_in : (has named : Bool) (v : Val) → (inside_in v ≡ true → named ≡ true) → OfTask (inside_val_if has named v) ≡ (if has && named then updated update.Inside (OfTask v) else OfTask v)
brought_in true true v h = refl
brought_in true false v h = ap OfTask (flag_same true false v (λ here. elim (cases_Bool (inside_in v)) [ inl e ↦ absurd (false≢true (h e)) | inr e ↦ e ]))
brought_in false named v h = refl

-- what is no task's stays
untouched : (goes : Bool) (v : PartValue) → updated update.Inside v ≡ v → v ≡ (if goes then updated update.Inside v else v)
untouched true v same = sym same
untouched false v same = refl

-- The step ends where the decision says, with these values.
pub record Ends (app : App) (x : EffectCase) (d : Decision) (value : ℕ → PartValue) (s : State) (e : Event) : Type 0 where
  pub target : point_of (step app s e).state ≡ end_point app value (stay_point x.leaving.stay value) d
  pub parts : (c : ℕ) → c < component_count app → abstract_of app (step app s e).state c ≡ settled_values app x.leaving.stay d value c
  pub shows : shows app s e ≡ mark_by (Some d) x.leaving.status
  pub status : (step app s e).notes.status ≡ x.leaving.status

module _ (app : App) (s : State) (choice : Bool) (well : Well app s) (x : EffectCase) (h : HasEffect app x s choice) where
  abbrev after : Effect
  after = effect app s choice

  kept : Well app after.state
  kept = effect_keeps app s well choice

  -- the values that the changes make are those after the effect
  pub changed : HasValues app after.state (values_after x.changes (abstract_of app s))
  changed c lt = sym (h.parts c lt)

  -- with them something is decided, which the kernel does
  pub some_decision : (d : Decision) × IsKernelDecision app x.leaving after (values_after x.changes (abstract_of app s)) d
  some_decision = some_decided app s after kept x.leaving h.asks h.line (values_after x.changes (abstract_of app s)) changed

  -- and whatever is decided the kernel does, where who gets the processor comes first
  pub kernel_decision : (value : ℕ → PartValue) → HasValues app after.state value → (d : Decision) → Decides app value x.leaving d → ((w : TaskNo) → d ≡ decision.To (Some w) → IsFirstIfThere w.0 s) → IsKernelDecision app x.leaving after value d
  kernel_decision value same d decides first = decided_so app s after kept x.leaving h.asks h.line value same d decides first

  -- who is inside after the effect was so before it
  named_after : IsRegular app s → IsNamed app after.state
  named_after regular t e = regular.inside.named t ((effect_flags app s choice).lower t e)

  -- what an outcome makes of the components after the effect
  module _ (regular : IsRegular app s) (d : Decision) (c : ℕ) (lt : c < component_count app) where
    runner_is : (e : Decision) (t : ℕ) → t < length app.tasks → is_that_task (runner_after after.state (outcome_of_decision e)) t ≡ has_it_after app x.leaving.stay e t
    runner_is decision.Keep t known = runner_stays app t known after.state kept x.leaving.stay h.point
    runner_is (decision.To o) t known = refl

    settled_by : (k : Component) → component_at app c ≡ k → IsComponent app k → settled_part_of app after.state (outcome_of_decision d) k ≡ settled_value app x.leaving.stay d c (part_of after.state k)
    settled_by (component.Task t) at is =
        let a : Activity = (task_state after.state t.0).activity in
        let number : t.0 ≡ c = ap (component_number app) (sym at) ∙ component_numbered app c lt in
        ap (λ (b : Bool). OfTask (inside_val_if b (is_some (internal_of app t.0)) (value_in a))) (runner_is d t.0 is)
        ∙ brought_in (has_it_after app x.leaving.stay d t.0) (is_some (internal_of app t.0)) (value_in a) (λ f. named_after regular t.0 (inside_of_value a ∙ f))
        ∙ ap (λ (u : ℕ). settled_value app x.leaving.stay d u (OfTask (value_in a))) number
    settled_by (component.Event t j) at is = untouched (goes_inside app x.leaving.stay d c) (part_of after.state (component.Event t j)) refl
    settled_by (component.Alarm a) at is = untouched (goes_inside app x.leaving.stay d c) (part_of after.state (component.Alarm a)) refl
    settled_by (component.Source k) at is = untouched (goes_inside app x.leaving.stay d c) (part_of after.state (component.Source k)) refl

    settled_there : abstract_of app (settled app after.state (outcome_of_decision d)) c ≡ settled_value app x.leaving.stay d c (abstract_of app after.state c)
    settled_there = settled_part app after.state (outcome_of_decision d) (component_at app c) ∙ settled_by (component_at app c) refl (component_known app c lt)

  module _ (value : ℕ → PartValue) (same : HasValues app after.state value) (d : Decision) (does : IsKernelDecision app x.leaving after value d) where
    module _ (known : IsKnownStay app x.leaving.stay) (e : Event) (steps : step app s e ≡ instruction app s choice) where
      stepped : (step app s e).state ≡ settled app after.state (outcome_of_decision d)
      unfolding instruction
      stepped = ap (λ (n : Stepped). n.state) steps ∙ ap (settled app after.state) does.outcome

      noted : (step app s e).notes.status ≡ after.notes.status
      unfolding instruction
      noted = ap (λ (n : Stepped). n.notes.status) steps

      pub instruction_ends : IsRegular app s → shows app s e ≡ Did (outcome app s choice) after.notes.status → Ends app x d value s e
      instruction_ends regular shown = record {
        target = ap point_of stepped ∙ does.point ∙ ap (λ (p : Point). end_point app value p d) (stays_point app after.state x.leaving.stay value known same h.point);
        parts = λ c lt. ap (λ (r : State). abstract_of app r c) stepped ∙ settled_there regular d c lt ∙ ap (settled_value app x.leaving.stay d c) (sym (same c lt));
        shows = shown ∙ ap (λ (o : Outcome). Did o after.notes.status) does.outcome ∙ ap (Did (outcome_of_decision d)) h.status;
        status = noted ∙ h.status;
      }
