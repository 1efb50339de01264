-- What a run of an image shows: its trace, or its points.
use Rattle.std.specs.Prelude.{ℕ, List, ◌++◌, length, map}
use Rattle.osek_values.specs.declared.{event.Event.{Event}, numbers.ModeNo.{ModeNo}}
use Rattle.osek_standard.specs.{declared.point.Point.{Point}, Dispatch.{Stepped}, Points.{point_of}}
use Rattle.image_model.specs.{declared.image.Image.{Image}, ImageTrace.{image_run, image_trace, trap_text}}
use Rattle.trace_text.specs.RecordText.{record_text}
use Rattle.command_runs.specs.declared.showing.Showing.{Showing}
use Rattle.command_runs.specs.declared.showing.Showing.TheVariants as showing

-- the points after the start and after each event
abbrev pub points_of : List Stepped → List Point
points_of steps = map (λ (x : Stepped). point_of x.state) steps

-- The record of an image in a mode under a list of events: the point after the start, and after each event; at a trap on event n it
-- ends with the line `trap n`.
unfoldable pub image_points : Image → ModeNo → List Event → List ℕ
image_points i mode es =
    let r = image_run i mode es in record_text i.app (points_of r.steps) ++ trap_text r.trapped (length r.steps)

abbrev pub shown_trace : Showing → Image → ModeNo → List Event → List ℕ
shown_trace showing.Trace i = image_trace i
shown_trace showing.Points i = image_points i
