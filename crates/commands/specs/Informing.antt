-- The answers of `info`, each with its cause and what it leaves.
use Rattle.std.specs.Prelude.{◌≡◌, ℕ, List, Result, Err}
use Rattle.flow_text.specs.Texts.{info_text}
use Rattle.command_runs.specs.Outside.{Outside}
use Rattle.commands.specs.Printing.{PrintAnswers}
use Rattle.command_runs.specs.{Replaying.{OfImage, ImageStops}, declared.stop.Stop.{Stop}}

-- `info` stops at the image and prints nothing, or prints its counts and its forms.
pub data InfoAnswers (before after : Outside) (image : List ℕ) : Result (Unit {0}) Stop → Type 0 where
  stops : (s : Stop) → ImageStops before.shelf after.shelf image s → after.out ≡ before.out → InfoAnswers before after image (Err s)
  tells : (r : Result (Unit {0}) Stop) → OfImage before.shelf.files image (λ i. PrintAnswers before after (info_text i) r) → InfoAnswers before after image r
