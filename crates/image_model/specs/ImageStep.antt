-- One step of an image: as the kernel's, but at a site the form gives the outcome, or a trap, and another status than the
-- known one is a trap.
use Rattle.std.specs.Prelude.{ℕ, Bool, true, false, slice_index_or, Option, Some, None, option_map, if◌then◌else◌}
use Rattle.osek_values.specs.declared.{status.Ask.{Ask}, event.Event.{Event}}
use Rattle.osek_values.specs.declared.status.Ask.TheVariants as ask
use Rattle.osek_standard.specs.{declared.{app.App.{App}, state.State.{State}}, TaskStates.{is_live}, States.{task_state, here, is_interrupted}, Effects.{Effect, effect}}
use Rattle.osek_standard.specs.{Dispatch.{Outcome, Keep, To, outcome_of, Stepped, concluded}, Kernel.{step_with}}
use Rattle.image_model.specs.{declared.{site.{Form.{Form}, Known.{Known}, Site.{Site}}, image.Image.{Image}}, Statuses.{allows_status}}
use Rattle.image_model.specs.declared.site.Form.TheVariants as form

-- the site at a block, its form, and what is known of its status
abbrev pub site_at : Image → ℕ → Option Site
site_at i b = slice_index_or i.sites b None

abbrev pub form_at : Image → ℕ → Option Form
form_at i b = option_map (λ (x : Site). x.form) (site_at i b)

abbrev pub known_at : Image → ℕ → Option Known
known_at i b = option_map (λ (x : Site). x.known) (site_at i b)

-- the caller, or the task that a routine interrupted, is there and hasn't left
abbrev pub stays : Ask → Bool
stays ask.No = true
stays ask.Maybe = true
stays ask.Left = false
stays ask.Free = false

-- Stay: nothing is dispatched, and a caller that left is a trap
abbrev pub kept_by : Ask → Option Outcome
kept_by ask.No = Some Keep
kept_by ask.Maybe = Some Keep
kept_by ask.Left = None
kept_by ask.Free = Some Keep

-- The outcome that a form gives after the effect of the site's call. None is a trap. No task is dispatched past a routine
-- that goes on where another one ended.
abbrev pub formed_by : App → Effect → Form → Option Outcome
formed_by app e form.Never = None
formed_by app e form.Stay = kept_by e.ask
formed_by app e (form.Direct None) = if stays e.ask then None else Some (To None)
formed_by app e (form.Direct (Some t)) = if is_interrupted e.state.processor then None else if is_live (task_state e.state t.0) then Some (To (Some t)) else None
formed_by app e form.General = Some (outcome_of app e)

-- the outcome that a site gives
abbrev pub formed : App → Effect → Site → Option Outcome
formed app e x = if allows_status x.known e.notes.status then formed_by app e x.form else None

-- a block that is no site does as in the kernel
abbrev pub formed_at : App → Effect → Option Site → Option Outcome
formed_at app e None = Some (outcome_of app e)
formed_at app e (Some x) = formed app e x

-- One instruction of an image.
unfoldable pub instructed : Image → State → Bool → Option Stepped
instructed i s choice =
    let e = effect i.app s choice in
    option_map (concluded i.app e) (formed_at i.app e (site_at i (here s).block.0))

-- One step of an image. None is a trap.
abbrev pub image_step : Image → State → Event → Option Stepped
image_step i s e = step_with Some i.app s (instructed i s) e
