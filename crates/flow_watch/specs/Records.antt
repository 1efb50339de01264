-- Records of points, and their first alarm over a table.
use Rattle.std.specs.{Prelude.{◌≡◌, ◌⊎◌, ⊤, List, [], ◌∷◌, ◌++◌, length, map, IsTrue, Some, None}, declared.option.Option.{Option}}
use Rattle.osek_values.specs.declared.{event.Event.{Event}, numbers.ModeNo.{ModeNo}}
use Rattle.osek_standard.specs.{declared.{app.App.{App}, point.Point.{Point}}, Dispatch.{Stepped}, Kernel.{run}, Points.{point_of}}
use Rattle.abstract_state.specs.{Edges.{Edge}, Tables.{Sets}}
use Rattle.flow_watch.specs.declared.alarm.Alarm.{Alarm}

-- the record of a run: the point after the start, and after each event
abbrev pub record_of : App → ModeNo → List Event → List Point
record_of app mode es = map (λ (x : Stepped). point_of x.state) (run app mode es)

-- the last of the points, or the one before all
abbrev pub last_of : Option Point → List Point → Option Point
last_of before [] = before
last_of before (p ∷ ps) = last_of (Some p) ps

module _ (app : App) (table : Sets) where
  -- a point may come first where the table has an entry, and behind another where it is the same or an edge leads to it
  abbrev pub MayCome : Option Point → Point → Type 0
  MayCome None p = IsTrue (table.entry p)
  MayCome (Some q) p = (p ≡ q) ⊎ Edge app table q p

  -- each point may come behind the one before it
  abbrev pub IsQuiet : Option Point → List Point → Type 0
  IsQuiet before [] = ⊤
  IsQuiet before (p ∷ ps) = MayCome before p × IsQuiet (Some p) ps

  -- The first alarm of a record: the points before its place are quiet, and its point may not come behind them.
  pub record IsFirstAlarm (points : List Point) (a : Alarm) : Type 0 where
    pub quiet : List Point
    pub later : List Point
    pub are : points ≡ quiet ++ a.point ∷ later
    pub place : a.place ≡ length quiet
    pub before : a.before ≡ last_of None quiet
    pub is_quiet : IsQuiet None quiet
    pub alarms : MayCome (last_of None quiet) a.point → ⊥

  -- the first alarm of a record, if it has one
  abbrev pub IsAlarmOf : List Point → Option Alarm → Type 0
  IsAlarmOf points None = IsQuiet None points
  IsAlarmOf points (Some a) = IsFirstAlarm points a
