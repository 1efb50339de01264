-- A mode that a name finds is one of the application's.
use Rattle.std.proofs.Common.{◌≡◌, ◌<◌, ℕ, List, length, ap, option_map, Some, None}
use Rattle.std.specs.{List.{position}, Str.{bytes_eq}, declared.option.Option.{Option}}
use Rattle.osek_values.specs.{Numbers.{mode_no}, declared.numbers.ModeNo.{ModeNo}}
use Rattle.osek_standard.specs.declared.app.App.{App}
use Rattle.osek_io.proofs.FirstOf.{position_at}
use Rattle.command_runs.specs.Running.{mode_named}

at_place : (place : Option ℕ) (m : ModeNo) → option_map mode_no place ≡ Some m → place ≡ Some m.0
at_place None m e = absurd cc
at_place (Some k) m e = let same : mode_no k ≡ m = cc in ap (λ (x : ModeNo). Some x.0) same

pub named_known : (app : App) (name : List ℕ) (m : ModeNo) → mode_named app name ≡ Some m → m.0 < length app.modes
named_known app name m e = (position_at (bytes_eq name) app.modes m.0 (at_place (position (bytes_eq name) app.modes) m e)).1
