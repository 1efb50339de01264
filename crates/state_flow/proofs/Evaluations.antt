-- Rows that are evaluated, one after the other.
use Rattle.std.proofs.Common.{◌≡◌, ◌⊎◌, List, [], ◌∷◌, ◌++◌, subst, inl, inr, arith}
use Rattle.std.specs.Prelude.{Contains}
use Rattle.std.proofs.lemmas.List.Elements.{Contains-push, Contains-push_cases}
use Rattle.osek_standard.specs.{declared.{app.App.{App}, state.State.{State}}, Kernel.{step}}
use Rattle.osek_standard.proofs.Members.{among_left, among_right, among_cases, among_contained, contained_among}
use Rattle.abstract_state.specs.declared.table.{PlainEntry.{PlainEntry}, TableRow.{TableRow}}
use Rattle.state_flow.specs.declared.cells.Cell.{Cell}
use Rattle.state_flow.specs.{Reaching.{IsLed, StepsLeadTo, Leads}, Progress.{AreProperCells, AreJoined}, Numbering.{AreEvaluated}}
use Rattle.state_flow.proofs.JoinedRows.{joined_none, joined_then}

in_left : (a b : List TableRow) (row : TableRow) → Contains a row → Contains (a ++ b) row
in_left a b row h = among_contained (a ++ b) row (among_left row a b (contained_among a row h))

in_right : (a b : List TableRow) (row : TableRow) → Contains b row → Contains (a ++ b) row
in_right a b row h = among_contained (a ++ b) row (among_right row a b (contained_among b row h))

in_either : (a b : List TableRow) (row : TableRow) → Contains (a ++ b) row → Contains a row ⊎ Contains b row
in_either a b row h = elim (among_cases row a b (contained_among (a ++ b) row h)) [
  | inl first ↦ inl (among_contained a row first)
  | inr then ↦ inr (among_contained b row then)
]

module _ (app : App) where
  pub evaluated_none : (cells : List (Cell PlainEntry)) → AreProperCells app cells → AreEvaluated app [] cells cells
  evaluated_none cells proper_cells = record {
    ends = [];
    covers = λ row h. absurd (omega (arith, h.1));
    each = λ end h. absurd (omega (arith, h.1));
    joined = joined_none app cells proper_cells;
  }

  pub evaluated_one : (row : TableRow) (ends : List TableRow) (cells after : List (Cell PlainEntry)) → Leads app row.point row.entry ends → AreJoined app cells ends after → AreEvaluated app (row ∷ []) cells after
  evaluated_one row ends cells after leads joined = record {
    ends = ends;
    covers = λ other h. subst (λ (r : TableRow). StepsLeadTo app r ends) (row_is other h) leads.covers;
    each = λ end h. record { from = row; among = Contains-push [] row; reached = leads.each end h };
    joined = joined;
  }
    where
      row_is : (other : TableRow) → Contains (row ∷ []) other → row ≡ other
      row_is other h = elim (Contains-push_cases [] row other h) [ inl none ↦ absurd (omega (arith, none.1)) | inr same ↦ same ]

  led_left : (a b : List TableRow) (s : State) → IsLed app a s → IsLed app (a ++ b) s
  led_left a b s l = record { row = l.row; listed = in_left a b l.row l.listed; point = l.point; within = l.within }

  led_right : (a b : List TableRow) (s : State) → IsLed app b s → IsLed app (a ++ b) s
  led_right a b s l = record { row = l.row; listed = in_right a b l.row l.listed; point = l.point; within = l.within }

  pub evaluated_then : (a b : List TableRow) (cells now after : List (Cell PlainEntry)) → AreEvaluated app a cells now → AreEvaluated app b now after → AreEvaluated app (a ++ b) cells after
  evaluated_then a b cells now after x y = record {
    ends = x.ends ++ y.ends;
    covers = λ row h s e at shown. elim (in_either a b row h) [
      | inl first ↦ led_left x.ends y.ends (step app s e).state (x.covers row first s e at shown)
      | inr then ↦ led_right x.ends y.ends (step app s e).state (y.covers row then s e at shown)
    ];
    each = λ end h. elim (in_either x.ends y.ends end h) [
      | inl first ↦ (let r = x.each end first in record { from = r.from; among = in_left a b r.from r.among; reached = r.reached })
      | inr then ↦ (let r = y.each end then in record { from = r.from; among = in_right a b r.from r.among; reached = r.reached })
    ];
    joined = joined_then app cells now after x.ends y.ends x.joined y.joined;
  }
