-- Each state that a run comes to has all that is guaranteed.
use Rattle.std.proofs.{Common.{◌<◌, List, length, All}, lemmas.List.Elements.{All-weaker}}
use Rattle.osek_values.specs.declared.{event.Event.{Event}, numbers.ModeNo.{ModeNo}}
use Rattle.osek_standard.specs.{declared.{app.App.{App}, state.State.{State}}, Dispatch.{Stepped}, Kernel.{run}}
use Rattle.kernel_guarantees.specs.{Guarantees.{IsGuaranteed}, Reached.{IsReached}}
use Rattle.kernel_guarantees.proofs.{Access.{access_is_given, one_inside}, Awaiting.{reached_awaits}, HeldOnce.{reached_is_held_once}}
use Rattle.kernel_guarantees.proofs.{InsideFlags.{reached_is_inside}, Nesting.{reached_is_nested}, Reaching.{reached_is_well, run_is_reached}}
use Rattle.kernel_guarantees.proofs.{RoutineAccess.{routine_access_is_given}, Settling.{reached_is_settled}}
use Rattle.kernel_guarantees.proofs.{StackedSteps.{reached_is_stacked}, Unlocked.{reached_is_unlocked}}

module _ (app : App) where
  pub reached_is_guaranteed : (s : State) → IsReached app s → IsGuaranteed app s
  reached_is_guaranteed s r =
      let well = reached_is_well app s r in
      let stacked = reached_is_stacked app s r in
      let settled = reached_is_settled app s r in
      let nested = reached_is_nested app s r in
      record {
        reached = r;
        held_once = reached_is_held_once app s r;
        to_tasks = λ c q choice h. access_is_given app s well stacked c q choice h.runs h.calls h.under h.free;
        to_routines = λ tops k over q choice h. routine_access_is_given app s well stacked settled nested tops k over h.runs q h.calls h.under h.free choice;
        inside = reached_is_inside app s r;
        one_inside = λ groups t u q. one_inside app s well stacked groups t u q;
        stacked = stacked;
        settled = settled;
        nested = nested;
        unlocked = reached_is_unlocked app s r;
        waiting = reached_awaits app s r;
      }

  pub run_is_guaranteed : (mode : ModeNo) (events : List Event) → mode.0 < length app.modes → All (λ (x : Stepped). IsGuaranteed app x.state) (run app mode events)
  run_is_guaranteed mode events known =
      All-weaker (λ (x : Stepped). IsReached app x.state) (λ (x : Stepped). IsGuaranteed app x.state) (λ x r. reached_is_guaranteed x.state r) (run app mode events) (run_is_reached app mode events known)
