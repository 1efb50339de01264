-- The runs of an image, and their text.
use Rattle.std.specs.{Prelude.{◌≡◌, ℕ, Bool, true, false, List, [], ◌∷◌, ◌++◌, length, All, Option, Some, None, IfSome, if◌then◌else◌, codes}, Fmt.{decimal}}
use Rattle.osek_values.specs.declared.{event.Event.{Event}, numbers.ModeNo.{ModeNo}}
use Rattle.osek_standard.specs.{declared.state.State.{State}, Dispatch.{Stepped}, Kernel.{start}, TraceText.{lines_from}}
use Rattle.image_model.specs.{declared.{site.Site.{Site}, image.Image.{Image}}, Sites.{general}, ImageStep.{image_step}}

-- what a run did, and whether it ended with a trap
pub record Run : Type 0 where
  pub steps : List Stepped
  pub trapped : Bool

abbrev pub run_of : List Stepped → Bool → Run
run_of xs t = record { steps = xs; trapped = t }

abbrev pub and_then : Stepped → Run → Run
and_then x r = run_of (x ∷ r.steps) r.trapped

-- a step, and the rest of the run; nothing comes after a trap
abbrev pub after : Option Stepped → (State → Run) → Run
after None more = run_of [] true
after (Some x) more = and_then x (more x.state)

-- the run from a state on
abbrev pub image_steps : Image → State → List Event → Run
image_steps i s [] = run_of [] false
image_steps i s (e ∷ es) = after (image_step i s e) (λ t. image_steps i t es)

-- a run of an image: the kernel's start, and each event
unfoldable pub image_run : Image → ModeNo → List Event → Run
image_run i mode es = and_then (start i.app mode) (image_steps i (start i.app mode).state es)

-- the run traps
abbrev pub has_trap : Image → ModeNo → List Event → Bool
has_trap i mode es = (image_run i mode es).trapped

abbrev pub trap_line : ℕ → List ℕ
trap_line n = codes "trap " ++ decimal n ++ 10 ∷ []

-- the line of a trap, if there was one, behind n lines
abbrev pub trap_text : Bool → ℕ → List ℕ
trap_text trapped n = if trapped then trap_line n else []

-- The image's trace in a mode under a list of events: line 0 for the start, then a line for each event; at a trap on
-- event n it ends with the line `trap n`.
unfoldable pub image_trace : Image → ModeNo → List Event → List ℕ
image_trace i mode es =
    let r = image_run i mode es in lines_from i.app 0 r.steps ++ trap_text r.trapped (length r.steps)

-- each site has the general form, and nothing is known of its status
abbrev pub AreGeneral : List (Option Site) → Type 0
AreGeneral sites = All (λ (x : Option Site). IfSome x (λ s. s ≡ general)) sites
