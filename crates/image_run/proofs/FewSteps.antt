-- A step changes the task that runs or is interrupted before it, the one that its instruction names, and the one that runs or
-- is interrupted after it, and no other.
use Rattle.std.proofs.Common.{◌≡◌, ℕ, Bool, List, false, refl, sym, ◌∙◌, ap, subst, arith, Some, None, option_map, get_or-set_other, slice_index_or}
use Rattle.std.proofs.lemmas.Bool.Decides.{nat_tests}
use Rattle.std.specs.declared.option.Option.{Option}
use Rattle.osek_values.specs.declared.{event.Event.{Event, TheVariants.{Run, Irq, Tick}}, numbers.{SourceNo.{SourceNo}, TaskNo.{TaskNo}}}
use Rattle.osek_standard.specs.declared.{app.App.{App}, state.{State.{State}, Processor.{Processor}}, task_state.TaskState.{TaskState}}
use Rattle.osek_standard.specs.{TaskStates.{suspended}, States.{here, is_that_task, task_of, task_state}, Internal.{kept_by, put_inside}, Line.{first_in_line, out_of_line}}
use Rattle.osek_standard.specs.{Arrivals.{arrival, entered}, Effects.{effect}, Kernel.{entered_or, run_by}, Well.{IsActive}}
use Rattle.osek_standard.specs.Dispatch.{Outcome, Keep, To, Stepped, concluded, processor_for, settled, silent}
use Rattle.osek_standard.specs.declared.state.Processor.TheVariants as processor
use Rattle.generic_kernel.specs.Changes.{named_here}
use Rattle.generic_kernel.proofs.TaskLaws.{effect_changes_own}
use Rattle.image_model.specs.{declared.image.Image.{Image}, ImageStep.{formed_at, image_step, instructed, site_at}}
use Rattle.image_run.specs.Quiet.{ChangesFew}

-- an outcome changes the task that runs or is interrupted after it
module _ (app : App) (s : State) (t : ℕ) where
  kept_processor : (p : Processor) → (kept_by app s p).processor ≡ s.processor
  kept_processor processor.Halted = refl
  kept_processor processor.Idle = refl
  kept_processor (processor.Running u) = refl
  kept_processor (processor.Interrupted k over) = refl

  kept_leaves : (p : Processor) → is_that_task (task_of p) t ≡ false → task_state (kept_by app s p) t ≡ task_state s t
  kept_leaves processor.Halted n = refl
  kept_leaves processor.Idle n = refl
  kept_leaves (processor.Running u) n = get_or-set_other s.tasks u.0 t _ suspended (grind (arith, nat_tests))
  kept_leaves (processor.Interrupted k over) n = refl

  who_gets_it : (x : Option TaskNo) → task_of (processor_for x) ≡ x
  who_gets_it None = refl
  who_gets_it (Some u) = refl

  given_leaves : (c x : Option TaskNo) → is_that_task x t ≡ false → task_state (put_inside app (out_of_line (first_in_line s c) x) x) t ≡ task_state s t
  given_leaves None None n = refl
  given_leaves (Some u) None n = refl
  given_leaves None (Some u) n = get_or-set_other s.tasks u.0 t _ suspended (grind (arith, nat_tests))
  given_leaves (Some c) (Some u) n = get_or-set_other s.tasks u.0 t _ suspended (grind (arith, nat_tests))

  settled_leaves : (o : Outcome) → is_that_task (task_of (settled app s o).processor) t ≡ false → task_state (settled app s o) t ≡ task_state s t
  settled_leaves Keep n = kept_leaves s.processor (ap (λ (p : Processor). is_that_task (task_of p) t) (sym (kept_processor s.processor)) ∙ n)
  settled_leaves (To x) n = given_leaves (task_of s.processor) x (ap (λ (y : Option TaskNo). is_that_task y t) (sym (who_gets_it x)) ∙ n)

module _ (i : Image) (s : State) where
  by_outcome : (choice : Bool) (r : Stepped) (x : Option Outcome) → option_map (concluded i.app (effect i.app s choice)) x ≡ Some r → ChangesFew (named_here i.app s) s r.state
  by_outcome choice r None e = absurd (cc)
  by_outcome choice r (Some o) e =
      let q = (effect i.app s choice).state in
      let is : concluded i.app (effect i.app s choice) o ≡ r = cc in
      subst (λ (n : Stepped). ChangesFew (named_here i.app s) s n.state) is
      (λ t own named current. settled_leaves i.app q t o current ∙ effect_changes_own i.app s choice t own named)

  instructed_few : (choice : Bool) (r : Stepped) → instructed i s choice ≡ Some r → ChangesFew (named_here i.app s) s r.state
  unfolding instructed
  instructed_few choice r e = by_outcome choice r (formed_at i.app (effect i.app s choice) (site_at i (here s).block.0)) e

  module _ (x : Option TaskNo) (named : IsActive s.processor → x ≡ named_here i.app s) where
    -- a state with the same tasks
    changes_none : (n r : Stepped) → n.state.tasks ≡ s.tasks → Some n ≡ Some r → ChangesFew x s r.state
    changes_none n r same e =
        let is : n ≡ r = cc in
        subst (λ (m : Stepped). ChangesFew x s m.state) is (λ t own other current. ap (λ (l : List TaskState). slice_index_or l t suspended) same)

    enters : (d : Option Stepped) (o : Option SourceNo) (r : Stepped) → (d ≡ Some r → ChangesFew x s r.state) → entered_or Some i.app s d o ≡ Some r → ChangesFew x s r.state
    enters d None r h e = h e
    enters d (Some k) r h e = changes_none (silent (entered i.app s k)) r refl e

    instructs : (choice : Bool) (r : Stepped) → IsActive s.processor → instructed i s choice ≡ Some r → ChangesFew x s r.state
    instructs choice r active e = subst (λ (y : Option TaskNo). ChangesFew y s r.state) (sym (named active)) (instructed_few choice r e)

    runs : (choice : Bool) (r : Stepped) (p : Processor) → s.processor ≡ p → run_by Some i.app s (instructed i s choice) p ≡ Some r → ChangesFew x s r.state
    runs choice r processor.Halted at e = changes_none (silent s) r refl e
    runs choice r processor.Idle at e = enters (Some (silent s)) (arrival i.app s) r (changes_none (silent s) r refl) e
    runs choice r (processor.Running t) at e = enters (instructed i s choice) (arrival i.app s) r (instructs choice r (subst IsActive (sym at) tt)) e
    runs choice r (processor.Interrupted k over) at e = enters (instructed i s choice) (arrival i.app s) r (instructs choice r (subst IsActive (sym at) tt)) e

    pub changes_few : (e : Event) (r : Stepped) → image_step i s e ≡ Some r → ChangesFew x s r.state
    changes_few (Run choice) r e = runs choice r s.processor refl e
    changes_few (Irq k) r e = changes_none _ r refl e
    changes_few (Tick c) r e = changes_none _ r refl e
