-- The answer of a query as a status and a value.
use Rattle.std.specs.{Prelude.{ℕ, Ok, Err, Some, None}, declared.{option.Option.{Option}, result.Result.{Result}}}
use Rattle.osek_values.specs.declared.{mask.Mask.{Mask}, status.Status.{Status}}
use Rattle.osek_values.specs.declared.status.Status.TheVariants as status
use Rattle.osek_values.specs.declared.notes.Value.{Value}
use Rattle.osek_values.specs.declared.notes.Value.TheVariants as value

abbrev pub status_of : {X : Type 0} → Result X Status → Status
status_of (Ok x) = status.Ok
status_of (Err e) = e

abbrev pub mask_of : Result Mask Status → Option Value
mask_of (Ok m) = Some (value.Mask m)
mask_of (Err e) = None

abbrev pub number_of : Result ℕ Status → Option Value
number_of (Ok n) = Some (value.Number n)
number_of (Err e) = None
