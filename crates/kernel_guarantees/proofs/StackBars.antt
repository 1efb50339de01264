-- A task that holds a resource is refused what would end it, let it wait or give the processor up.
use Rattle.std.proofs.Common.{◌≡◌, ℕ, Bool, true, false, List, [], refl, sym, ◌∙◌, ap, subst, Some}
use Rattle.std.proofs.lemmas.Bool.{false≢true}
use Rattle.osek_values.specs.declared.{numbers.{BlockNo.{BlockNo}, ResNo.{ResNo}, TaskNo.{TaskNo}}, status.Ask.{Ask}}
use Rattle.osek_values.specs.declared.status.Status.TheVariants as status
use Rattle.osek_values.specs.declared.status.Ask.TheVariants as ask
use Rattle.osek_standard.specs.declared.{app.App.{App}, block.Kind.{Kind}, state.{State.{State}, Caller.{Caller, TheVariants.{Task}}}}
use Rattle.osek_standard.specs.{Apps.{is_extended, the_block}, TaskStates.{held, holds}, States.{caller, here, task_state}}
use Rattle.osek_standard.specs.{Services.{Answer, chain_task, holds_some, schedule, terminate_task, wait_event}, Effects.{Effect, effect_at, goes_on_by, is_error}}
use Rattle.osek_standard.specs.{Dispatch.{instruction}, Well.{IsActive, Well}}
use Rattle.osek_standard.specs.declared.block.Kind.TheVariants as kind
use Rattle.osek_standard.specs.declared.state.Processor.TheVariants as processor
use Rattle.kernel_guarantees.specs.{Holding.{needs_none_held}, Instructions.{is_wait}, Resources.{Holds, OfTask}, Scheduling.{kind_at}}
use Rattle.kernel_guarantees.proofs.{Onward.{effect_is, onward}, StackCalls.{chain_barred, chain_none, schedule_barred, schedule_none, terminate_barred, terminate_none, wait_barred, wait_none}}
use Rattle.kernel_guarantees.proofs.{StackChanges.{onward_same}, StackServices.{some_of}}
use Rattle.kernel_guarantees.proofs.CallNames as call

-- whether the caller goes on or not, the answer is the same
pub went_status : (x : Ask) (next : BlockNo) (a : Answer) → (goes_on_by x next a).status ≡ a.status
went_status ask.No next a = refl
went_status ask.Maybe next a = refl
went_status ask.Left next a = refl
went_status ask.Free next a = refl

module _ (app : App) (s : State) (w : Well app s) (c : TaskNo) (runs : s.processor ≡ processor.Running c) where
  abbrev n : State
  n = onward app s

  abbrev next : BlockNo
  next = (the_block app (here s).block.0).next

  calls : Task c ≡ caller s.processor
  calls = sym (ap caller runs)

  active : IsActive s.processor
  active = subst IsActive (sym runs) tt

  as_held : held (task_state s c.0) ≡ held (task_state n c.0)
  as_held = sym (onward_same app s (OfTask c.0))

  abbrev IsBarred : Effect → Type 0
  IsBarred e = e.notes.status ≡ Some status.Resource

  abbrev FreesNone : Effect → Type 0
  FreesNone e = is_error e.notes.status ≡ false → held (task_state s c.0) ≡ []

  module _ (r : ℕ) (h : Holds s (OfTask c.0) r) where
    some : holds_some s c.0 ≡ true
    some = some_of (held (task_state s c.0)) r h

    some_onward : holds_some n c.0 ≡ true
    some_onward = some_of (held (task_state n c.0)) r (subst (λ (g : List ResNo). holds g r ≡ true) as_held h)

    barred_by : (choice : Bool) (k : Kind) → needs_none_held k ≡ true → (is_wait k ≡ true → is_extended app c.0 ≡ true) → IsBarred (effect_at app s choice (here s) (the_block app (here s).block.0) k)
    barred_by choice (kind.Call (call.Plain call.TerminateTask)) e f =
        subst (λ (d : Caller). (terminate_task app n d).status ≡ Some status.Resource) calls (terminate_barred app n c some_onward)
    barred_by choice (kind.Call (call.Plain call.Schedule)) e f = subst (λ (d : Caller). (schedule n d).status ≡ Some status.Resource) calls (schedule_barred app n c some_onward)
    barred_by choice (kind.Call (call.Task call.ChainTask t)) e f =
        subst (λ (d : Caller). (chain_task app n d t.0).status ≡ Some status.Resource) calls (chain_barred app n c some_onward t.0)
    barred_by choice (kind.Call (call.Mask call.WaitEvent m)) e f =
        let a : Answer = wait_event app s (caller s.processor) m.0 in
        went_status a.ask next a ∙ subst (λ (d : Caller). (wait_event app s d m.0).status ≡ Some status.Resource) calls (wait_barred app s c some m.0 (f refl))
    barred_by choice k e f = absurd (false≢true e)

    pub barred : (choice : Bool) → needs_none_held (kind_at app s) ≡ true → (is_wait (kind_at app s) ≡ true → is_extended app c.0 ≡ true) → (instruction app s choice).notes.status ≡ Some status.Resource
    unfolding instruction
    barred choice e f = subst IsBarred (sym (effect_is app s w active choice)) (barred_by choice (kind_at app s) e f)

  none_by : (choice : Bool) (k : Kind) → needs_none_held k ≡ true → FreesNone (effect_at app s choice (here s) (the_block app (here s).block.0) k)
  none_by choice (kind.Call (call.Plain call.TerminateTask)) e =
      subst (λ (d : Caller). is_error (terminate_task app n d).status ≡ false → held (task_state s c.0) ≡ []) calls (λ f. as_held ∙ terminate_none app n c f)
  none_by choice (kind.Call (call.Plain call.Schedule)) e =
      subst (λ (d : Caller). is_error (schedule n d).status ≡ false → held (task_state s c.0) ≡ []) calls (λ f. as_held ∙ schedule_none app n c f)
  none_by choice (kind.Call (call.Task call.ChainTask t)) e =
      subst (λ (d : Caller). is_error (chain_task app n d t.0).status ≡ false → held (task_state s c.0) ≡ []) calls (λ f. as_held ∙ chain_none app n c t.0 f)
  none_by choice (kind.Call (call.Mask call.WaitEvent m)) e =
      let a : Answer = wait_event app s (caller s.processor) m.0 in
      λ f. subst (λ (d : Caller). is_error (wait_event app s d m.0).status ≡ false → held (task_state s c.0) ≡ []) calls (λ g. wait_none app s c m.0 g) (ap is_error (sym (went_status a.ask next a)) ∙ f)
  none_by choice k e = absurd (false≢true e)

  pub frees_none : (choice : Bool) → needs_none_held (kind_at app s) ≡ true → is_error (instruction app s choice).notes.status ≡ false → held (task_state s c.0) ≡ []
  unfolding instruction
  frees_none choice e = subst FreesNone (sym (effect_is app s w active choice)) (none_by choice (kind_at app s) e)
