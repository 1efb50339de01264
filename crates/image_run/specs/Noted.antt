-- What a step noted, told apart from a trap.
use Rattle.std.specs.{Prelude.{Bool, true, false, Some, None}, declared.option.Option.{Option}}
use Rattle.osek_values.specs.declared.{hooks.HookSet.{HookSet}, notes.Notes.{Notes}}

-- hooks alone
abbrev pub hooks_noted : HookSet → Notes
hooks_noted h = record { status = None; value = None; hooks = h }

-- the notes of a step, and none of a trap
abbrev pub noted_if : Bool → Notes → Option Notes
noted_if true n = Some n
noted_if false n = None
