-- The table of attributes: which stand where, and with which values (ISO 17356-6, standard objects; which attributes
-- the table holds, which are required, their ranges and their defaults are this project's profile).
use Rattle.std.specs.{Prelude.{ℕ, List, [], ◌∷◌, Bool, true, false, ◌&&◌, ◌||◌, if◌then◌else◌, nat_le, Option, Some, None, codes}, Str.{bytes_eq}}
use Rattle.oil_tree.specs.declared.tree.{Value.{Value, TheVariants.{Word, Numeric}}, Sign.TheVariants.{Bare}}
use Rattle.oil_model.specs.declared.table.{Scope.{Scope}, Presence.{Presence}, Entry.{Entry}}
use Rattle.oil_model.specs.declared.table.Scope.TheVariants as scope
use Rattle.oil_model.specs.declared.domain.Domain.{Domain}
use Rattle.oil_model.specs.declared.domain.Domain.TheVariants as domain
use Rattle.oil_model.specs.declared.table.Presence.TheVariants as presence

-- the scope of an object's own attributes, by its kind
abbrev pub scope_of : List ℕ → Option Scope
scope_of kind =
    if bytes_eq kind (codes "OS") then Some scope.Os
    else (if bytes_eq kind (codes "APPMODE") then Some scope.AppMode
    else (if bytes_eq kind (codes "TASK") then Some scope.Task
    else (if bytes_eq kind (codes "ISR") then Some scope.Isr
    else (if bytes_eq kind (codes "COUNTER") then Some scope.Counter
    else (if bytes_eq kind (codes "ALARM") then Some scope.Alarm
    else (if bytes_eq kind (codes "EVENT") then Some scope.Event
    else (if bytes_eq kind (codes "RESOURCE") then Some scope.Resource
    else None)))))))

-- a row of the table
pub record Row : Type 0 where
  pub name : List ℕ
  pub entry : Entry

abbrev pub required : List ℕ → Domain → Row
required n values = record { name = n; entry = record { domain = values; presence = presence.Required } }

abbrev pub optional : List ℕ → Domain → Row
optional n values = record { name = n; entry = record { domain = values; presence = presence.Optional } }

abbrev pub many : List ℕ → Domain → Row
many n values = record { name = n; entry = record { domain = values; presence = presence.Many } }

-- a number whose range the table leaves open
abbrev pub any_number : Domain
any_number = domain.Number 0 0xffff_ffff_ffff_ffff

-- the table: the attributes that are known in a scope
abbrev pub rows : Scope → List Row
rows scope.Os =
    optional (codes "STATUS") domain.Status
    ∷ (optional (codes "STARTUPHOOK") domain.Truth
    ∷ (optional (codes "ERRORHOOK") domain.Truth
    ∷ (optional (codes "SHUTDOWNHOOK") domain.Truth
    ∷ (optional (codes "PRETASKHOOK") domain.Truth
    ∷ (optional (codes "POSTTASKHOOK") domain.Truth
    ∷ (optional (codes "USERESSCHEDULER") domain.Truth
    ∷ []))))))
rows scope.AppMode = []
rows scope.Task =
    required (codes "PRIORITY") (domain.Number 0 65535)
    ∷ (optional (codes "SCHEDULE") domain.Schedule
    ∷ (optional (codes "ACTIVATION") any_number
    ∷ (optional (codes "AUTOSTART") domain.Truth
    ∷ (many (codes "RESOURCE") domain.ResourceName
    ∷ (many (codes "EVENT") domain.EventName
    ∷ [])))))
rows scope.Isr =
    required (codes "CATEGORY") any_number
    ∷ (optional (codes "PRIORITY") (domain.Number 0 255)
    ∷ (many (codes "RESOURCE") domain.ResourceName
    ∷ []))
rows scope.Counter =
    required (codes "MAXALLOWEDVALUE") (domain.Number 1 0xffff_ffff)
    ∷ (optional (codes "TICKSPERBASE") any_number
    ∷ (optional (codes "MINCYCLE") any_number
    ∷ []))
rows scope.Alarm =
    required (codes "COUNTER") domain.CounterName
    ∷ (required (codes "ACTION") domain.Action
    ∷ (optional (codes "AUTOSTART") domain.Truth
    ∷ []))
rows scope.Event = optional (codes "MASK") domain.EventMask ∷ []
rows scope.Resource = optional (codes "RESOURCEPROPERTY") domain.Property ∷ []
rows scope.TaskStart = many (codes "APPMODE") domain.ModeName ∷ []
rows scope.AlarmStart =
    required (codes "ALARMTIME") any_number
    ∷ (required (codes "CYCLETIME") any_number
    ∷ (many (codes "APPMODE") domain.ModeName
    ∷ []))
rows scope.Activation = required (codes "TASK") domain.TaskName ∷ []
rows scope.EventSetting =
    required (codes "TASK") domain.TaskName
    ∷ (required (codes "EVENT") domain.EventName
    ∷ [])

-- the scope of the attributes in an attribute, where the table has one; those in any other are passed over
abbrev pub inner_scope : Scope → List ℕ → Value → Option Scope
inner_scope scope.Task n (Word w) =
    if bytes_eq n (codes "AUTOSTART") && bytes_eq w (codes "TRUE") then Some scope.TaskStart else None
inner_scope scope.Alarm n (Word w) =
    if bytes_eq n (codes "AUTOSTART") && bytes_eq w (codes "TRUE") then Some scope.AlarmStart
    else (if bytes_eq n (codes "ACTION") && bytes_eq w (codes "ACTIVATETASK") then Some scope.Activation
    else (if bytes_eq n (codes "ACTION") && bytes_eq w (codes "SETEVENT") then Some scope.EventSetting
    else None))
inner_scope _ n value = None

-- what the table says of a name; a name that it doesn't have is passed over
abbrev pub entry_in : List ℕ → List Row → Option Entry
entry_in n [] = None
entry_in n (r ∷ rest) = if bytes_eq n r.name then Some r.entry else entry_in n rest

abbrev pub entry_of : Scope → List ℕ → Option Entry
entry_of scope n = entry_in n (rows scope)

-- whether the value is one of these. A number has no sign. The numbers that ACTIVATION and CATEGORY may have are judged
-- by rules of their own.
abbrev pub allows : Domain → Value → Bool
allows domain.Truth (Word w) = bytes_eq w (codes "TRUE") || bytes_eq w (codes "FALSE")
allows domain.Status (Word w) = bytes_eq w (codes "STANDARD") || bytes_eq w (codes "EXTENDED")
allows domain.Schedule (Word w) = bytes_eq w (codes "NON") || bytes_eq w (codes "FULL")
allows domain.Action (Word w) = bytes_eq w (codes "ACTIVATETASK") || (bytes_eq w (codes "SETEVENT") || bytes_eq w (codes "ALARMCALLBACK"))
allows domain.Property (Word w) = bytes_eq w (codes "STANDARD") || (bytes_eq w (codes "LINKED") || bytes_eq w (codes "INTERNAL"))
allows (domain.Number low high) (Numeric Bare v) = nat_le low v && nat_le v high
allows domain.EventMask (Word w) = bytes_eq w (codes "AUTO")
allows domain.EventMask (Numeric Bare v) = true
allows domain.TaskName (Word w) = true
allows domain.EventName (Word w) = true
allows domain.ResourceName (Word w) = true
allows domain.CounterName (Word w) = true
allows domain.ModeName (Word w) = true
allows _ _ = false

abbrev pub is_many : Presence → Bool
is_many presence.Many = true
is_many _ = false

abbrev pub is_required : Presence → Bool
is_required presence.Required = true
is_required _ = false
