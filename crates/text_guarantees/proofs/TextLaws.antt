-- The laws of the application of two texts.
use Rattle.std.proofs.Common.{◌≡◌, ℕ, ◌≤◌, Bool, false, List, subst, sym, Some}
use Rattle.std.specs.declared.option.Option.{Option}
use Rattle.osek_values.specs.declared.numbers.{ResNo.{ResNo}, SourceNo.{SourceNo}, TaskNo.{TaskNo}}
use Rattle.osek_values.specs.declared.status.Status.TheVariants as status
use Rattle.oil_system.specs.declared.system.System.{System}
use Rattle.osek_standard.specs.declared.{app.App.{App}, call.{Call.TheVariants.{Resource}, ResourceService.TheVariants.{GetResource}}, state.{State.{State}, Processor.{Processor}}}
use Rattle.osek_standard.specs.declared.block.Kind.TheVariants as kind
use Rattle.osek_standard.specs.declared.state.Processor.TheVariants as processor
use Rattle.osek_standard.specs.{Apps.{the_block}, Effects.{effect}, Levels.{interrupt_ceiling, own_level}, Priority.{base_priority, ceiling}, States.{here, task_state}, TaskStates.{held, holds}, Well.{InOwner, IsActive, IsOfRoutine}}
use Rattle.osek_standard.proofs.MoveKeeps.{here_own}
use Rattle.front_end.{specs.Texts.{DeclaresSystem, GivesApp}, proofs.SomeAnswer.{declared_is_linkable}}
use Rattle.kernel_guarantees.specs.{Conditions.{IsGuarded}, Reached.{IsReached}, Resources.{Holds, IsAtGetResource, OfRoutine}}
use Rattle.kernel_guarantees.proofs.{Access.{access_is_given}, Nesting.{reached_is_nested}, RoutineAccess.{routine_access_is_given}, Settling.{reached_is_settled}, Reaching.{reached_is_well}, StackedSteps.{reached_is_stacked}}
use Rattle.text_guarantees.specs.Naming.{MayTake}
use Rattle.text_guarantees.proofs.{IsrCode.{routine_under}, QuietLocks.{quiet_locks}, TaskResources.{all_tops, groups, taken_under}}

module _ (oil code : List ℕ) (system : System) (app : App) (declares : DeclaresSystem oil system) (gives : GivesApp system code app) where
  pub guarded : IsGuarded app
  guarded = record {
    groups = groups declares.tree.objects system declares.has_system.is gives.code app gives.has_app;
    tops = all_tops declares.tree.objects system declares.has_system.is gives.code app gives.has_app;
    quiet_locks = quiet_locks system gives.code app gives.has_app;
  }

  pub task_reached : (t r : ℕ) → MayTake declares.tree.objects app t r → base_priority app t ≤ ceiling app r
  task_reached = taken_under declares.tree.objects system declares.has_system.is gives.code app gives.has_app

  pub routine_reached : (k b : ℕ) (r : ResNo) → IsOfRoutine app k b → (the_block app b).kind ≡ kind.Call (Resource GetResource r)
      → own_level app k ≤ interrupt_ceiling app r.0
  routine_reached = routine_under declares.tree system declares.has_system.is declares.has_system.no_fault
      (declared_is_linkable oil system declares) gives.code app gives.has_app

  module _ (s : State) (reached : IsReached app s) (r : ResNo) (choice : Bool) (calls : IsAtGetResource app s r) where
    pub task_is_given : (c : TaskNo) → s.processor ≡ processor.Running c → MayTake declares.tree.objects app c.0 r.0
        → holds (held (task_state s c.0)) r.0 ≡ false → (effect app s choice).notes.status ≡ Some status.Ok
    task_is_given c runs may free = access_is_given app s (reached_is_well app s reached) (reached_is_stacked app s reached) c r choice runs calls
        (task_reached c.0 r.0 may) free

    pub routine_is_given : (k : SourceNo) (over : Option TaskNo) → s.processor ≡ processor.Interrupted k over → (Holds s (OfRoutine k.0) r.0 → ⊥)
        → (effect app s choice).notes.status ≡ Some status.Ok
    routine_is_given k over runs free =
        let well = reached_is_well app s reached in
        let own : IsOfRoutine app k.0 (here s).block.0 = subst (λ (p : Processor). InOwner app p (here s).block.0) runs
        (here_own app s well (subst IsActive (sym runs) tt)) in
        routine_access_is_given app s well (reached_is_stacked app s reached) (reached_is_settled app s reached)
        (reached_is_nested app s reached) guarded.tops k over runs r calls
        (routine_reached k.0 (here s).block.0 r own calls) free choice
