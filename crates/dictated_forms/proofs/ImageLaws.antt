-- An image whose sites have the forms that a table dictates, and know no more of their statuses, runs as the kernel.
use Rattle.std.proofs.Common.{◌≡◌, ◌⊎◌, ℕ, ◌<◌, Bool, true, false, List, length, get_or, Option, Some, None, refl, sym, ap, subst, inl, inr, ◌∙◌}
use Rattle.std.specs.Prelude.{option_map, if◌then◌else◌, nat_lt, All}
use Rattle.std.proofs.lemmas.{Bool.{cases_lt, eq-eqb}, List.{get_or_past}}
use Rattle.osek_values.specs.declared.status.{Status.{Status}, Ask.{Ask}}
use Rattle.osek_values.specs.declared.status.Ask.TheVariants as ask
use Rattle.osek_values.specs.declared.{event.Event.{Event}, numbers.{ModeNo.{ModeNo}, TaskNo.{TaskNo}}}
use Rattle.osek_standard.specs.{declared.{app.App.{App}, state.{State.{State}, Source.{Source}, Processor.{Processor}, Caller.{Caller, TheVariants.{Nobody, Task, Routine}}}}, TaskStates.{is_live}}
use Rattle.osek_standard.specs.{States.{here, task_state, source_state, is_interrupted, caller}, Priority.{best, current_priority}, Effects.{effect}}
use Rattle.osek_standard.specs.{Dispatch.{Outcome, Keep, To, outcome, outcome_by, if_any, if_above, preempted_by, concluded, instruction}, Kernel.{step}, Well.{AreOut, IsActive, IsProcessor, IsRunningAt}}
use Rattle.osek_standard.specs.declared.state.Source.TheVariants as source
use Rattle.osek_standard.specs.declared.state.Processor.TheVariants as processor
use Rattle.osek_standard.proofs.{PriorityLaws.{best_is_live}, AskLaws.{effect_may}, EffectKeeps.{effect_keeps}}
use Rattle.image_model.specs.declared.site.{Form.{Form}, Known.{Known}, Site.{Site}}
use Rattle.image_model.specs.declared.site.Form.TheVariants as form
use Rattle.image_model.specs.declared.site.Known.TheVariants as known
use Rattle.image_model.specs.declared.image.{Image.{Image}, Version.{Version}}
use Rattle.image_model.specs.declared.image.Version.TheVariants as version
use Rattle.image_model.specs.{Statuses.{status_number, allows_status}, Versions.{IsUnknown, SaysNothing, FitsAlone}}
use Rattle.image_model.specs.{ImageStep.{stays, kept_by, formed_at, formed_by, site_at, instructed, image_step}, Laws.{IsKernelsRun}}
use Rattle.image_model.proofs.KernelRuns.{runs_as_kernel as runs_inside, same_step as step_inside}
use Rattle.abstract_state.specs.Tables.{Sets, In, Inductive}
use Rattle.dictated_forms.specs.Forms.{Occurs, FormOf, Noted, KnownOf, FormFits, KnownFits, Fits, HasDictatedForms, HasDictatedStatuses, KnowsAtMost}

keep_or_some : (b : Bool) (t : TaskNo) → (if b then To (Some t) else Keep) ≡ To None → ⊥
keep_or_some true t e = cc
keep_or_some false t e = cc

chosen : (b : Bool) (t u : TaskNo) → (if b then To (Some u) else Keep) ≡ To (Some t) → u ≡ t
chosen true t u e = cc
chosen false t u e = absurd (cc)

module _ (app : App) (s : State) where
  above_none : (c : TaskNo) (o : Option TaskNo) → if_above app s c o ≡ To None → ⊥
  above_none c None e = cc
  above_none c (Some t) e = keep_or_some (nat_lt (current_priority app s c.0) (current_priority app s t.0)) t e

  preempted_none : (c : Caller) → preempted_by app s c ≡ To None → ⊥
  preempted_none Nobody e = cc
  preempted_none (Routine k) e = cc
  preempted_none (Task c) e = above_none c (best app s) e

  above_some : (c t : TaskNo) (o : Option TaskNo) → if_above app s c o ≡ To (Some t) → o ≡ Some t
  above_some c t None e = absurd (cc)
  above_some c t (Some u) e = ap (λ (x : TaskNo). Some x) (chosen (nat_lt (current_priority app s c.0) (current_priority app s u.0)) t u e)

  preempted_some : (c : Caller) (t : TaskNo) → preempted_by app s c ≡ To (Some t) → best app s ≡ Some t
  preempted_some Nobody t e = absurd (cc)
  preempted_some (Routine k) t e = absurd (cc)
  preempted_some (Task c) t e = above_some c t (best app s) e

  any_some : (o : Option TaskNo) (t : TaskNo) → if_any o ≡ To (Some t) → o ≡ Some t
  any_some None t e = absurd (cc)
  any_some (Some u) t e = cc

  -- what is dispatched is the best task
  dispatched_best : (a : Ask) (t : TaskNo) → outcome_by app s a ≡ To (Some t) → best app s ≡ Some t
  dispatched_best ask.No t e = absurd (cc)
  dispatched_best ask.Maybe t e = preempted_some (caller s.processor) t e
  dispatched_best ask.Left t e = cc
  dispatched_best ask.Free t e = any_some (best app s) t e

  kept_right : (a : Ask) → outcome_by app s a ≡ Keep → kept_by a ≡ Some Keep
  kept_right ask.No e = refl
  kept_right ask.Maybe e = refl
  kept_right ask.Left e = absurd (cc)
  kept_right ask.Free e = refl

  none_right : (a : Ask) → outcome_by app s a ≡ To None → (if stays a then None else Some (To None)) ≡ Some (To None)
  none_right ask.No e = absurd (cc)
  none_right ask.Maybe e = absurd (preempted_none (caller s.processor) e)
  none_right ask.Left e = refl
  none_right ask.Free e = refl

  live_right : (over b : Bool) (t : TaskNo) → over ≡ false → b ≡ true → (if over then None else if b then Some (To (Some t)) else None) ≡ Some (To (Some t))
  live_right over b t e f = rw (e, f) refl

  never_dispatched : (a : Ask) (o : Option TaskNo) → a ≡ ask.No → outcome_by app s a ≡ To o → ⊥
  never_dispatched a o e f = let kept : outcome_by app s a ≡ Keep = ap (outcome_by app s) e in absurd (cc (kept, f))

none_runs : (app : App) (k : ℕ) (x : Source) → IsRunningAt app k x → x ≡ source.Out → ⊥
none_runs app k x h e = let never : IsRunningAt app k source.Out = subst (IsRunningAt app k) e h in never

-- where no routine is in, none has the processor
none_interrupts : (app : App) (r : State) (q : Processor) → IsProcessor app r q → AreOut app r → is_interrupted q ≡ false
none_interrupts app r processor.Halted h out = refl
none_interrupts app r processor.Idle h out = refl
none_interrupts app r (processor.Running t) h out = refl
none_interrupts app r (processor.Interrupted k over) h out = absurd (none_runs app k.0 (source_state r k.0) h.runs (out k.0))

allows_itself : (x : Option Status) → allows_status (known.Always x) x ≡ true
allows_itself None = refl
allows_itself (Some x) = eq-eqb (status_number x) (status_number x) refl

said_at : (sites : List (Option Site)) (b : ℕ) → All SaysNothing sites → SaysNothing (get_or sites b None)
said_at sites b all =
    elim (cases_lt b (length sites)) [
      | inl lt ↦ all b None lt
      | inr le ↦ subst SaysNothing (sym (get_or_past sites b None le)) tt
    ]

any_by : (x k : Known) → IsUnknown x → x ≡ k → k ≡ known.Any
any_by known.Any k h e = sym e
any_by (known.Always y) k h e = absurd h

unknown_at : (x : Option Site) (k : Known) → SaysNothing x → option_map (λ (y : Site). y.known) x ≡ Some k → k ≡ known.Any
unknown_at None k h e = absurd (cc)
unknown_at (Some x) k h e = (let is : x.known ≡ k = cc in any_by x.known k h is)

module _ (i : Image) (table : Sets) (s : State) (choice : Bool) (inside : In i.app table s) (active : IsActive s.processor) where
  occurs_here : Occurs i.app table (here s).block.0 (outcome i.app s choice)
  occurs_here = record { from = s; choice = choice; inside = inside; active = active; stands = refl; is = refl }

  -- a task is dispatched where no routine goes on
  at_task_level : (t : TaskNo) → outcome i.app s choice ≡ To (Some t) → is_interrupted (effect i.app s choice).state.processor ≡ false
  at_task_level t is =
      let x = effect i.app s choice in
      elim (effect_may i.app s inside.well choice) [
        | inl none ↦ absurd (never_dispatched i.app x.state x.ask (Some t) none is)
        | inr out ↦ none_interrupts i.app x.state x.state.processor (effect_keeps i.app s inside.well choice).processor out
      ]

  formed_right : (f : Form) → FormOf i.app table (here s).block.0 f → formed_by i.app (effect i.app s choice) f ≡ Some (outcome i.app s choice)
  formed_right form.Never h = absurd (h (outcome i.app s choice) occurs_here)
  formed_right form.Stay h =
      let is : outcome i.app s choice ≡ Keep = h.alone (outcome i.app s choice) occurs_here in
      kept_right i.app (effect i.app s choice).state (effect i.app s choice).ask is ∙ ap (λ (o : Outcome). Some o) (sym is)
  formed_right (form.Direct None) h =
      let is : outcome i.app s choice ≡ To None = h.alone (outcome i.app s choice) occurs_here in
      none_right i.app (effect i.app s choice).state (effect i.app s choice).ask is ∙ ap (λ (o : Outcome). Some o) (sym is)
  formed_right (form.Direct (Some t)) h =
      let is : outcome i.app s choice ≡ To (Some t) = h.alone (outcome i.app s choice) occurs_here in
      let x = effect i.app s choice in
      let live = (best_is_live i.app x.state t (dispatched_best i.app x.state x.ask t is)).0 in
      live_right i.app s (is_interrupted x.state.processor) (is_live (task_state x.state t.0)) t (at_task_level t is) live ∙ ap (λ (o : Outcome). Some o) (sym is)
  formed_right form.General h = refl

  noted_here : Noted i.app table (here s).block.0 (effect i.app s choice).notes.status
  noted_here = record { from = s; choice = choice; inside = inside; active = active; stands = refl; is = refl }

  allowed : (k : Known) → (k ≡ known.Any) ⊎ KnownOf i.app table (here s).block.0 k → allows_status k (effect i.app s choice).notes.status ≡ true
  allowed known.Any h = refl
  allowed (known.Always x) (inl e) = absurd (cc)
  allowed (known.Always x) (inr h) =
      let is : (effect i.app s choice).notes.status ≡ x = h.alone (effect i.app s choice).notes.status noted_here in
      subst (λ (y : Option Status). allows_status (known.Always x) y ≡ true) (sym is) (allows_itself x)

  formed_fits : (f : Form) → FormFits i.app table (here s).block.0 f → formed_by i.app (effect i.app s choice) f ≡ Some (outcome i.app s choice)
  formed_fits f (inl none) = absurd (none (outcome i.app s choice) occurs_here)
  formed_fits f (inr (inl general)) = ap (formed_by i.app (effect i.app s choice)) general
  formed_fits f (inr (inr dictated)) = formed_right f dictated

  known_fits : (k : Known) → KnownFits i.app table (here s).block.0 k → allows_status k (effect i.app s choice).notes.status ≡ true
  known_fits k (inl none) = absurd (none (outcome i.app s choice) occurs_here)
  known_fits k (inr most) = allowed k most

  formed_at_fits : Fits table i → (x : Option Site) → site_at i (here s).block.0 ≡ x → formed_at i.app (effect i.app s choice) x ≡ Some (outcome i.app s choice)
  formed_at_fits fits None is = refl
  formed_at_fits fits (Some x) is =
      let e = effect i.app s choice in
      let allows = known_fits x.known (fits.statuses (here s).block.0 x.known (ap (option_map (λ (y : Site). y.known)) is)) in
      ap (λ (b : Bool). if b then formed_by i.app e x.form else None) allows
      ∙ formed_fits x.form (fits.forms (here s).block.0 x.form (ap (option_map (λ (y : Site). y.form)) is))

  same_instruction : Fits table i → instructed i s choice ≡ Some (instruction i.app s choice)
  unfolding instructed instruction
  same_instruction fits = ap (option_map (concluded i.app (effect i.app s choice))) (formed_at_fits fits (site_at i (here s).block.0) refl)

module _ (i : Image) (table : Sets) where
  -- from a state in the table, a step of an image that fits is the kernel's
  pub fitting_step : Fits table i → (s : State) (e : Event) → In i.app table s → image_step i s e ≡ Some (step i.app s e)
  fitting_step fits s e h = step_inside i (In i.app table) (λ s choice h active. same_instruction i table s choice h active fits) s e h

  -- in each mode over each list of events, its trace is the kernel's
  pub fitting_run : Fits table i → Inductive i.app table → (mode : ModeNo) (es : List Event) → mode.0 < length i.app.modes → IsKernelsRun i mode es
  fitting_run fits ind mode es there =
      runs_inside i (In i.app table) (λ s choice h active. same_instruction i table s choice h active fits) ind.step mode es (ind.start mode there)

  -- an image with dictated forms fits
  pub dictated_fit : HasDictatedForms table i → KnowsAtMost table i → Fits table i
  dictated_fit forms known = record { forms = λ b f is. inr (inr (forms b f is)); statuses = λ b k is. inr (known b k is) }

  pub same_step : (s : State) (e : Event) → HasDictatedForms table i → KnowsAtMost table i → In i.app table s → image_step i s e ≡ Some (step i.app s e)
  same_step s e forms known = fitting_step (dictated_fit forms known) s e

  pub runs_as_kernel : (mode : ModeNo) (es : List Event) → Inductive i.app table → HasDictatedForms table i → KnowsAtMost table i → mode.0 < length i.app.modes → IsKernelsRun i mode es
  runs_as_kernel mode es ind forms known = fitting_run (dictated_fit forms known) ind mode es

  -- statuses that a table dictates are known at most
  pub dictated_statuses : HasDictatedStatuses table i → KnowsAtMost table i
  dictated_statuses known b k is = inr (known b k is)

  -- nothing is known in an image of version 1
  pub statuses_of_version_1 : i.version ≡ version.One → KnowsAtMost table i
  statuses_of_version_1 one b k is = inl (unknown_at (site_at i b) k (said_at i.sites b (subst (λ (v : Version). FitsAlone v i.app i.sites) one i.its_version).unknown) is)
