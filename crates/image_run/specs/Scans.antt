-- Where a machine compares priorities.
use Rattle.std.specs.Prelude.{ℕ, length, Bool, Option, Some, None, if◌then◌else◌}
use Rattle.osek_values.specs.declared.event.Event.{Event}
use Rattle.osek_standard.specs.{declared.state.State.{State}, States.{here}}
use Rattle.generic_kernel.specs.Moves.{instruction_due}
use Rattle.image_model.specs.declared.site.Form.{Form}
use Rattle.image_model.specs.declared.site.Form.TheVariants as form
use Rattle.image_model.specs.{declared.image.Image.{Image}, ImageStep.{form_at}}
use Rattle.image_run.specs.Machines.{AtWork}

-- at a site of the general form at most one comparison for each task, and elsewhere none
abbrev pub scans_at : Option Form → ℕ → ℕ
scans_at None n = 0
scans_at (Some form.Never) n = 0
scans_at (Some form.Stay) n = 0
scans_at (Some (form.Direct t)) n = 0
scans_at (Some form.General) n = n

-- where an instruction is due
abbrev pub scans_due : Image → State → Option Bool → ℕ
scans_due i s None = 0
scans_due i s (Some choice) = scans_at (form_at i (here s).block.0) (length i.app.tasks)

abbrev pub most_scans : AtWork → Event → ℕ
most_scans m e = if m.trapped then 0 else scans_due m.image m.state (instruction_due m.image.app m.state e)
