-- All exits of a point: those of arrivals, and then those of the instructions.
use Rattle.std.proofs.Common.{List, [], inl, inr}
use Rattle.osek_standard.specs.declared.{app.App.{App}, point.Point.{Point}}
use Rattle.osek_standard.specs.declared.point.Point.TheVariants as point
use Rattle.osek_standard.proofs.Members.{contained_among}
use Rattle.abstract_state.specs.declared.table.PlainEntry.{PlainEntry}
use Rattle.flow_model.specs.{declared.runner.Runner.{Runner}, Runners.{Executes, IsNobodys}}
use Rattle.numbered_sets.specs.Pools.{Values}
use Rattle.flow_exits.specs.Leaving.{AreExits}
use Rattle.point_exits.specs.{declared.group.ExitGroup.{ExitGroup}, Groups.{all_exits}, Leaving.{AddsArrivals, AddsInstructions}}
use Rattle.point_exits.proofs.{PassivePoints.{passive_by}, ArrivingGroups.{arrival_listed, still_arrives}}

pub executed : (app : App) (p : Point) (r : Runner) → Executes app p r → IsNobodys p → ⊥
executed app point.Halted r h n = h
executed app point.Idle r h n = h
executed app (point.Task b) r h n = n
executed app (point.Routine b over) r h n = n

module _ (app : App) (p : Point) (entry : PlainEntry) where
  -- nobody executes there
  pub passive_exits : IsNobodys p → (pool after : List Values) (now : List ExitGroup) → AddsArrivals app p entry pool [] after now → AreExits app p entry (all_exits after now)
  passive_exits nobody pool after now a = record {
    effects = [];
    active = λ x m. absurd (contained_among [] x m);
    stays = λ x m. absurd (contained_among [] x m);
    covering = λ s choice at active. absurd (passive_by s s.processor p at.point nobody active);
    exact = λ allowed x value t m. absurd (contained_among [] x m);
    each = λ x m. elim (a.added.each x m) [
      | inl none ↦ absurd (contained_among [] x none)
      | inr arrival ↦ inl arrival
    ];
    arrivals = λ rule r. a.added.some rule (arrival_listed app p a.rules a.are rule r);
    decisions = λ x m. absurd (contained_among [] x m);
  }

  -- a task or a routine executes there
  pub executing_exits : (r : Runner) → Executes app p r → (pool grown after : List Values) (mid now : List ExitGroup) →
      AddsArrivals app p entry pool [] grown mid → AddsInstructions app p entry grown mid after now → AreExits app p entry (all_exits after now)
  executing_exits r executes pool grown after mid now a i = record {
    effects = i.effects;
    active = λ x m nobody. executed app p r executes nobody;
    stays = i.stays;
    covering = i.covering;
    exact = i.exact;
    each = λ x m. elim (i.added.each x m) [
      | inl old ↦ elim (a.added.each x old) [
        | inl none ↦ absurd (contained_among [] x none)
        | inr arrival ↦ inl arrival
      ]
      | inr of ↦ inr of
    ];
    arrivals = λ rule r. still_arrives app rule entry (all_exits grown mid) (all_exits after now) i.added.kept (a.added.some rule (arrival_listed app p a.rules a.are rule r));
    decisions = i.added.some;
  }
