-- From texts that were loaded and judged to the answers of `build` and `trace`.
use Rattle.std.proofs.Common.{◌≡◌, List, ℕ, refl, sym, subst}
use Rattle.std.specs.declared.option.Option.{Option}
use Rattle.osek_standard.specs.declared.app.App.{App}
use Rattle.oil_system.specs.declared.system.System.{System}
use Rattle.front_end.specs.Texts.{DeclaresSystem, GivesApp}
use Rattle.osek_io.specs.Files.{Files}
use Rattle.commands.specs.Compiling.{OfSystem, OfApp}
use Rattle.command_runs.specs.Inputs.{OfFile}
use Rattle.command_runs.proofs.InputFiles.{of_map}

-- the system of the OIL text, and the application of both texts
pub of_system : (files : Option Files) (oil : List ℕ) (P : System → Type 0) (s : System) → OfFile files oil (λ b. DeclaresSystem b s) → P s → OfSystem files oil P
of_system files oil P s declares p = of_map files oil _ _ (λ b d. (s, d, p)) declares

pub of_app : (files : Option Files) (oil code : List ℕ) (s : System) (a : App) → OfFile files oil (λ b. DeclaresSystem b s) → OfFile files code (λ b. GivesApp s b a) → OfApp files oil code (λ app. app ≡ a)
of_app files oil code s a declares gives = of_system files oil _ s declares (of_map files code _ _ (λ b g. (a, g, refl)) gives)

-- what is true of that application
pub over_app : (files : Option Files) (oil code : List ℕ) (P : App → Type 0) (a : App) → P a → OfApp files oil code (λ app. app ≡ a) → OfApp files oil code P
over_app files oil code P a p h = of_map files oil _ _ (λ b s. (s.0, s.1, of_map files code _ _ (λ t g. (g.0, g.1, subst P (sym g.2) p)) s.2)) h
