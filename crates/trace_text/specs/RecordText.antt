-- What a record of points says up to its first fault, and the text of a list of points (this project's profile).
use Rattle.std.specs.{Prelude.{ℕ, nat_lt, List, [], ◌∷◌, ◌++◌, length, if◌then◌else◌, Some, None, Ok, Err}, List.{flat_map}, declared.{option.Option.{Option}, result.Result.{Result}}}
use Rattle.osek_values.specs.declared.limits.TheConstants.{MAX_RECORD}
use Rattle.osek_standard.specs.declared.{app.App.{App}, point.Point.{Point}}
use Rattle.trace_text.specs.{declared.fault.{PointFault.{PointFault, TheVariants.{G4}}, FaultyPoint.{FaultyPoint}}, EventText.{numbered_lines}, PointTexts.{point_text}, PointWords.{read_point_line}}

-- the points of a record up to its first fault, and that fault
pub record RecordReading : Type 0 where
  pub points : List Point
  pub fault : Option FaultyPoint

abbrev pub no_points : RecordReading
no_points = record { points = []; fault = None }

abbrev pub faulty_at : ℕ → PointFault → RecordReading
faulty_at n e = record { points = []; fault = Some (record { line = n; rule = e }) }

-- what line n says comes before what the rest says
abbrev pub with_point : ℕ → Result (Option Point) PointFault → RecordReading → RecordReading
with_point n (Ok None) rest = rest
with_point n (Ok (Some p)) rest = record { points = p ∷ rest.points; fault = rest.fault }
with_point n (Err e) rest = faulty_at n e

module _ (app : App) where
  abbrev pub read_points : List (ℕ × List ℕ) → RecordReading
  read_points [] = no_points
  read_points (line ∷ more) = with_point line.0 (read_point_line app line.1) (read_points more)

  -- What a record says. A record over MAX_RECORD bytes is faulty as a whole.
  abbrev pub read_record : List ℕ → RecordReading
  read_record text = if nat_lt MAX_RECORD (length text) then faulty_at 0 G4 else read_points (numbered_lines text)

  -- points as they are printed, each on a line of its own
  abbrev pub record_text : List Point → List ℕ
  record_text points = flat_map (λ p. point_text app p ++ 10 ∷ []) points
