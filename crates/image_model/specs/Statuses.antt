-- What an image knows of the status that the instruction at a site notes.
use Rattle.std.specs.Prelude.{ℕ, Bool, true, false, ◌==◌, Option, Some, None}
use Rattle.osek_values.specs.declared.status.Status.{Status}
use Rattle.osek_values.specs.declared.status.Status.TheVariants as status
use Rattle.image_model.specs.declared.site.Known.{Known}
use Rattle.image_model.specs.declared.site.Known.TheVariants as known

-- the number of a status, as ISO 17356-3 orders them
abbrev pub status_number : Status → ℕ
status_number status.Ok = 0
status_number status.Access = 1
status_number status.CallLevel = 2
status_number status.Id = 3
status_number status.Limit = 4
status_number status.NoFunc = 5
status_number status.Resource = 6
status_number status.State = 7
status_number status.Value = 8

-- Whether an instruction may note this status, or none. A known status is contradicted by another one alone, and 'none is
-- noted' by any.
abbrev pub allows_status : Known → Option Status → Bool
allows_status known.Any x = true
allows_status (known.Always None) None = true
allows_status (known.Always None) (Some y) = false
allows_status (known.Always (Some x)) None = true
allows_status (known.Always (Some x)) (Some y) = status_number x == status_number y
