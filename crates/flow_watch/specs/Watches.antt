-- A watch: what it keeps, and what seeing a point makes of it.
use Rattle.std.specs.{Prelude.{◌≡◌, ◌↔◌, ℕ, ◌+◌, Bool, true, false, ◌||◌, ◌&&◌, List, [], ◌∷◌, IsTrue, Contains, Some, None, refl}, List.{list_any}, Coded.{Coded, code_by, coded×, coded_list, coded_option, coded_ℕ}, declared.option.Option.{Option}}
use Rattle.osek_standard.specs.{declared.{app.App.{App}, point.Point.{Point}}, contracts.{app.App.{the_row as app_row}, point.Point.{the_row as point_row}}, Points.{point_number}}
use Rattle.abstract_state.specs.{declared.edge.FlowEdge.{FlowEdge}, contracts.edge.FlowEdge.{the_row as edge_row}, Edges.{flow_edge, Edge}}
use Rattle.abstract_state.specs.Tables.{Sets, same_point}
use Rattle.table_rows.specs.Order.{AscendBy}
use Rattle.global_cfg.specs.Edges.{AreAscending}
use Rattle.flow_watch.specs.{declared.alarm.Alarm.{Alarm}, contracts.alarm.Alarm.{the_row as alarm_row}}

-- the application, the points at which its table has an entry, the edges that the table dictates, how many points were seen, the
-- last of them, and the first alarm
pub record WatchState : Type 0 where
  pub app : App
  pub entries : List Point
  pub edges : List FlowEdge
  pub seen : ℕ
  pub last : Option Point
  pub alarm : Option Alarm

-- it is stored as these, one behind the other
abbrev pub watch_code : Coded WatchState
watch_code =
    code_by (App × (List Point × (List FlowEdge × (ℕ × (Option Point × Option Alarm)))))
    (coded× app_row.coded (coded× (coded_list point_row.coded) (coded× (coded_list edge_row.coded) (coded× coded_ℕ (coded× (coded_option point_row.coded) (coded_option alarm_row.coded))))))
    (λ w. (w.app, (w.entries, (w.edges, (w.seen, (w.last, w.alarm))))))
    (λ p. record { app = p.0; entries = p.1.0; edges = p.1.1.0; seen = p.1.1.1.0; last = p.1.1.1.1.0; alarm = p.1.1.1.1.1 }) (λ _. refl)

-- its points and its edges are in their order
pub record AreSorted (entries : List Point) (edges : List FlowEdge) : Type 0 where
  pub in_order : AscendBy point_number entries
  pub ascending : AreAscending edges

-- the edge leads from p to q
abbrev pub leads_to : Point → Point → FlowEdge → Bool
leads_to p q e = same_point p e.from && same_point q e.to

-- whether a point may come behind the last one
abbrev pub may_come : WatchState → Option Point → Point → Bool
may_come w None p = list_any (same_point p) w.entries
may_come w (Some q) p = same_point q p || list_any (leads_to q p) w.edges

abbrev pub with_point : WatchState → Point → Bool → WatchState
with_point w p true = record w { seen = w.seen + 1; last = Some p }
with_point w p false = record w { alarm = Some (record { place = w.seen; before = w.last; point = p }) }

abbrev pub seen_after : WatchState → Point → Option Alarm → WatchState
seen_after w p (Some a) = w
seen_after w p None = with_point w p (may_come w w.last p)

-- A point is seen: behind an alarm nothing changes.
abbrev pub seen_by : WatchState → Point → WatchState
seen_by w p = seen_after w p w.alarm

abbrev pub all_seen : WatchState → List Point → WatchState
all_seen w [] = w
all_seen w (p ∷ ps) = all_seen (seen_by w p) ps

-- The watch has the entries and the edges of a table of the application, and saw nothing.
pub record IsWatchOf (app : App) (table : Sets) (w : WatchState) : Type 0 where
  pub of : w.app ≡ app
  pub entries : (p : Point) → Contains w.entries p ↔ IsTrue (table.entry p)
  pub edges : (p q : Point) → Contains w.edges (flow_edge p q) ↔ Edge app table p q
  pub seen : w.seen ≡ 0
  pub last : w.last ≡ None
  pub alarm : w.alarm ≡ None
