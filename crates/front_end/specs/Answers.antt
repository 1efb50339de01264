-- What a text gives, or its first fault.
use Rattle.std.specs.Prelude.{◌≡◌, ℕ, List, Result, Ok, Err}
use Rattle.osek_values.specs.declared.refusal.Refusal.{Refusal}
use Rattle.osek_values.specs.declared.refusal.TextFile.TheVariants as file
use Rattle.osek_standard.specs.declared.app.App.{App}
use Rattle.oil_system.specs.declared.system.System.{System}
use Rattle.front_end.specs.Texts.{DeclaresSystem, IsOilFault, GivesApp, IsCodeFault}

abbrev pub IsOilRefusal : List ℕ → Refusal → Type 0
IsOilRefusal text r = (r.file ≡ file.Oil) × IsOilFault text r.rule r.line

abbrev pub IsCodeRefusal : System → List ℕ → Refusal → Type 0
IsCodeRefusal s text r = (r.file ≡ file.Code) × IsCodeFault s text r.rule r.line

-- the system that an OIL text declares, or its first fault
abbrev pub IsOilAnswer : Result System Refusal → List ℕ → Type 0
IsOilAnswer (Ok s) text = DeclaresSystem text s
IsOilAnswer (Err r) text = IsOilRefusal text r

-- the application that a task code text gives, or its first fault
abbrev pub IsCodeAnswer : Result App Refusal → System → List ℕ → Type 0
IsCodeAnswer (Ok app) s text = GivesApp s text app
IsCodeAnswer (Err r) s text = IsCodeRefusal s text r
