-- The application of the two texts, or why they give none.
use Rattle.std.specs.Prelude.{◌⊎◌, ℕ, List, Option}
use Rattle.osek_standard.specs.declared.app.App.{App}
use Rattle.oil_system.specs.declared.system.System.{System}
use Rattle.front_end.specs.{Texts.{DeclaresSystem, GivesApp}, Answers.{IsOilRefusal, IsCodeRefusal}}
use Rattle.osek_io.specs.Files.{Files}
use Rattle.command_runs.specs.{Inputs.{OfFile, InputStops}, Outside.{Told}}
use Rattle.command_runs.specs.declared.stop.Input.TheVariants as input
use Rattle.command_runs.specs.declared.stop.Stop.{Stop}
use Rattle.command_runs.specs.declared.stop.Stop.TheVariants as stop

-- of the system that the OIL text declares P is true
abbrev pub OfSystem : Option Files → (oil : List ℕ) → (System → Type 0) → Type 0
OfSystem files oil P = OfFile files oil (λ text. (s : System) × DeclaresSystem text s × P s)

-- of the application that both texts give P is true
abbrev pub OfApp : Option Files → (oil code : List ℕ) → (App → Type 0) → Type 0
OfApp files oil code P = OfSystem files oil (λ s. OfFile files code (λ text. (app : App) × GivesApp s text app × P app))

-- why no system was made
abbrev pub SystemStops : (before after : Told) → (oil : List ℕ) → Stop → Type 0
SystemStops before after oil = InputStops before after input.Oil oil stop.Refused IsOilRefusal

-- why a system's task code gives no application
abbrev pub CodeStops : (before after : Told) → System → (code : List ℕ) → Stop → Type 0
CodeStops before after s code = InputStops before after input.Code code stop.Refused (IsCodeRefusal s)

-- Why no application was made: the OIL text is read and judged before the task code.
abbrev pub CompileStops : (before after : Told) → (oil code : List ℕ) → Stop → Type 0
CompileStops before after oil code s = SystemStops before after oil s ⊎ OfSystem before.files oil (λ system. CodeStops before after system code s)
