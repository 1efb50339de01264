-- Each step of an image leads from a state with the right tasks inside INTERNAL resources to one: whatever outcome a form
-- gives, who keeps the processor is inside again, and who gets it gets in.
use Rattle.std.proofs.Common.{◌≡◌, ◌+◌, ◌<◌, Bool, true, false, length, refl, sym, ◌∙◌, ap, subst, arith, None, Some, IfSome, option_map}
use Rattle.std.proofs.lemmas.Bool.{eqb-true, false≢true}
use Rattle.std.specs.{Prelude.{is_some, if◌then◌else◌}, declared.option.Option.{Option}}
use Rattle.osek_values.specs.declared.{event.Event.{Event, TheVariants.{Run, Irq, Tick}}, numbers.{SourceNo.{SourceNo}, TaskNo.{TaskNo}}, status.Ask.{Ask}}
use Rattle.osek_values.specs.declared.status.Ask.TheVariants as ask
use Rattle.osek_standard.specs.declared.{app.App.{App}, state.{State.{State}, Processor.{Processor}}}
use Rattle.osek_standard.specs.{TaskStates.{is_inside, is_live}, Effects.{effect}}
use Rattle.osek_standard.specs.{Internal.{IsInside, internal_of, kept_by, put_inside, with_inside}}
use Rattle.osek_standard.specs.{States.{here, is_interrupted, is_that_task, task_of, task_state, with_latch, with_processor}, Line.{first_in_line, out_of_line}}
use Rattle.osek_standard.specs.{Well.{HasProcessor, Well}}
use Rattle.osek_standard.specs.{Arrivals.{arrival, entered}, Dispatch.{Outcome, Keep, To, Stepped, concluded, instruction, outcome_of, processor_for, silent}}
use Rattle.osek_standard.specs.{Kernel.{entered_or, run_by}}
use Rattle.osek_standard.specs.declared.state.Processor.TheVariants as processor
use Rattle.osek_standard.proofs.{EffectKeeps.{effect_keeps}, FlagLaws.{effect_flags, interrupted_task}, InsideLaws.{IsNamed, IsRightOver, as_put, instruction_inside}}
use Rattle.osek_standard.proofs.{Keeps.{current_of, task_after}, PriorityLaws.{live_known}}
use Rattle.image_model.specs.{declared.{site.{Form.{Form}, Site.{Site}}, image.Image.{Image}}}
use Rattle.image_model.specs.{ImageStep.{formed_at, formed_by, image_step, instructed, kept_by as kept_at, site_at, stays}, Statuses.{allows_status}}
use Rattle.image_model.specs.declared.site.Form.TheVariants as form

module _ (app : App) (s : State) (w : Well app s) (named : IsNamed app s) where
  -- a task that gets its INTERNAL resource, where it names one
  put_in : (t : TaskNo) (p : Processor) → HasProcessor app s t → task_of p ≡ Some t → IsInside app (with_processor (with_inside s t.0 (is_some (internal_of app t.0))) p)
  put_in t p h mine =
      let there : t.0 < length s.tasks = omega (arith, h.0, w.tasks_len) in
      let a = (task_state s t.0).activity in
      record {
        named = task_after s t.0 _ there (λ u y. is_inside y ≡ true → is_some (internal_of app u) ≡ true) (λ e. sym (as_put (is_some (internal_of app t.0)) a h.1) ∙ e) (λ u _ e. named u e);
        current = λ u e.
            task_after s t.0 _ there (λ v y. is_that_task (Some t) v ≡ true → is_inside y ≡ is_some (internal_of app v)) (λ _. as_put (is_some (internal_of app t.0)) a h.1)
            (λ v other f. absurd (other (sym (eqb-true t.0 v f)))) u (subst (λ (o : Option TaskNo). is_that_task o u ≡ true) mine e);
      }

  kept_in : (p : Processor) → s.processor ≡ p → IsRightOver app s → IsInside app (kept_by app s p)
  kept_in processor.Halted e right = record { named = named; current = λ t f. absurd (false≢true (subst (λ (q : Processor). is_that_task (task_of q) t ≡ true) e f)) }
  kept_in processor.Idle e right = record { named = named; current = λ t f. absurd (false≢true (subst (λ (q : Processor). is_that_task (task_of q) t ≡ true) e f)) }
  kept_in (processor.Running t) e right =
      let h = subst (λ (q : Processor). IfSome (task_of q) (HasProcessor app s)) e (current_of app s s.processor w.processor) in
      let as_is = put_in t s.processor h (ap task_of e) in
      record { named = as_is.named; current = as_is.current }
  kept_in (processor.Interrupted k over) e right = record {
    named = named;
    current = λ t f. right t (subst (λ (q : Processor). is_that_task (interrupted_task q) t ≡ true) (sym e) (subst (λ (q : Processor). is_that_task (task_of q) t ≡ true) e f));
  }

  -- who had the processor goes first in the line, whoever gets it
  given_in : (c o : Option TaskNo) → IfSome o (HasProcessor app s) → IsInside app (with_processor (put_inside app (out_of_line (first_in_line s c) o) o) (processor_for o))
  given_in None None h = record { named = named; current = λ t f. absurd (false≢true f) }
  given_in (Some u) None h = record { named = named; current = λ t f. absurd (false≢true f) }
  given_in None (Some t) h = let i = put_in t (processor.Running t) h refl in record { named = i.named; current = i.current }
  given_in (Some u) (Some t) h = let i = put_in t (processor.Running t) h refl in record { named = i.named; current = i.current }

-- what an outcome of a form is
stays_only : (a : Ask) (o : Outcome) → kept_at a ≡ Some o → o ≡ Keep
stays_only ask.No o e = cc
stays_only ask.Maybe o e = cc
stays_only ask.Left o e = absurd (cc)
stays_only ask.Free o e = cc

to_none_only : (b : Bool) (o : Outcome) → (if b then None else Some (To None)) ≡ Some o → o ≡ To None
to_none_only true o e = absurd (cc)
to_none_only false o e = cc

to_live_only : (b c : Bool) (t : TaskNo) (o : Outcome) → (if b then None else if c then Some (To (Some t)) else None) ≡ Some o → (c ≡ true) × (o ≡ To (Some t))
to_live_only true c t o e = absurd (cc)
to_live_only false true t o e = (refl, cc)
to_live_only false false t o e = absurd (cc)

module _ (app : App) (s : State) (choice : Bool) (w : Well app s) (inside : IsInside app s) where
  abbrev IsRight : Outcome → Type 0
  IsRight o = IsInside app (concluded app (effect app s choice) o).state

  named : IsNamed app (effect app s choice).state
  named t f = inside.named t ((effect_flags app s choice).lower t f)

  over : IsRightOver app (effect app s choice).state
  over t f = let k = (effect_flags app s choice).over t f in k.0 ∙ inside.current t k.1

  kernels : IsInside app (instruction app s choice).state → IsRight (outcome_of app (effect app s choice))
  unfolding instruction
  kernels h = h

  as_kernel : IsRight (outcome_of app (effect app s choice))
  as_kernel = kernels (instruction_inside app s choice w inside)

  keeps : IsRight Keep
  keeps = kept_in app (effect app s choice).state (effect_keeps app s w choice) named (effect app s choice).state.processor refl over

  gives : (o : Option TaskNo) → IfSome o (HasProcessor app (effect app s choice).state) → IsRight (To o)
  gives o h = given_in app (effect app s choice).state (effect_keeps app s w choice) named (task_of (effect app s choice).state.processor) o h

  may_have : (t : TaskNo) → is_live (task_state (effect app s choice).state t.0) ≡ true → HasProcessor app (effect app s choice).state t
  may_have t live = (omega (arith, live_known (effect app s choice).state t.0 live, (effect_keeps app s w choice).tasks_len), live)

  by_form : (f : Form) (o : Outcome) → formed_by app (effect app s choice) f ≡ Some o → IsRight o
  by_form form.Never o e = absurd (cc)
  by_form form.Stay o e = subst IsRight (sym (stays_only (effect app s choice).ask o e)) keeps
  by_form (form.Direct None) o e = subst IsRight (sym (to_none_only (stays (effect app s choice).ask) o e)) (gives None tt)
  by_form (form.Direct (Some t)) o e =
      let d = to_live_only (is_interrupted (effect app s choice).state.processor) (is_live (task_state (effect app s choice).state t.0)) t o e in
      subst IsRight (sym d.1) (gives (Some t) (may_have t d.0))
  by_form form.General o e = let same : o ≡ outcome_of app (effect app s choice) = cc in subst IsRight (sym same) as_kernel

  allowed_by : (b : Bool) (f : Form) (o : Outcome) → (if b then formed_by app (effect app s choice) f else None) ≡ Some o → IsRight o
  allowed_by true f o e = by_form f o e
  allowed_by false f o e = absurd (cc)

  by_site : (x : Option Site) (o : Outcome) → formed_at app (effect app s choice) x ≡ Some o → IsRight o
  by_site None o e = let same : o ≡ outcome_of app (effect app s choice) = cc in subst IsRight (sym same) as_kernel
  by_site (Some x) o e = allowed_by (allows_status x.known (effect app s choice).notes.status) x.form o e

  by_outcome : (x : Option Outcome) (r : Stepped) → ((o : Outcome) → x ≡ Some o → IsRight o) → option_map (concluded app (effect app s choice)) x ≡ Some r → IsInside app r.state
  by_outcome None r h e = absurd (cc)
  by_outcome (Some o) r h e = let same : concluded app (effect app s choice) o ≡ r = cc in subst (λ (n : Stepped). IsInside app n.state) same (h o refl)

module _ (i : Image) (s : State) (w : Well i.app s) (inside : IsInside i.app s) where
  instructed_right : (choice : Bool) (r : Stepped) → instructed i s choice ≡ Some r → IsInside i.app r.state
  unfolding instructed
  instructed_right choice r e =
      by_outcome i.app s choice w inside (formed_at i.app (effect i.app s choice) (site_at i (here s).block.0)) r (by_site i.app s choice w inside (site_at i (here s).block.0)) e

  silently : (n r : Stepped) → IsInside i.app n.state → Some n ≡ Some r → IsInside i.app r.state
  silently n r h e = let same : n ≡ r = cc in subst (λ (m : Stepped). IsInside i.app m.state) same h

  enters : (d : Option Stepped) (o : Option SourceNo) (r : Stepped) → (d ≡ Some r → IsInside i.app r.state) → entered_or Some i.app s d o ≡ Some r → IsInside i.app r.state
  enters d None r h e = h e
  enters d (Some k) r h e = silently (silent (entered i.app s k)) r (record { named = inside.named; current = inside.current }) e

  runs : (choice : Bool) (r : Stepped) (p : Processor) → run_by Some i.app s (instructed i s choice) p ≡ Some r → IsInside i.app r.state
  runs choice r processor.Halted e = silently (silent s) r inside e
  runs choice r processor.Idle e = enters (Some (silent s)) (arrival i.app s) r (silently (silent s) r inside) e
  runs choice r (processor.Running t) e = enters (instructed i s choice) (arrival i.app s) r (instructed_right choice r) e
  runs choice r (processor.Interrupted k o) e = enters (instructed i s choice) (arrival i.app s) r (instructed_right choice r) e

  pub step_is_right : (event : Event) (r : Stepped) → image_step i s event ≡ Some r → IsInside i.app r.state
  step_is_right (Run choice) r e = runs choice r s.processor e
  step_is_right (Irq k) r e = silently (silent (with_latch s (length i.app.counters + k.0) true)) r (record { named = inside.named; current = inside.current }) e
  step_is_right (Tick c) r e = silently (silent (with_latch s c.0 true)) r (record { named = inside.named; current = inside.current }) e
