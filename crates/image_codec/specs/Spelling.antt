-- The bytes of an image, of the format's versions 1 and 2: the fields in order, without gaps, numbers big-endian (this
-- project's profile).
use Rattle.std.specs.{Prelude.{ℕ, ◌+◌, Bool, List, [], ◌∷◌, ◌++◌, length, Option, Some, None, if◌then◌else◌}, List.{flat_map, zip}, Int.{to_be_bytes, w16, w32, w64}}
use Rattle.osek_values.specs.declared.{numbers.{BlockNo.{BlockNo}, ResNo.{ResNo}}, lock.Lock.{Lock}}
use Rattle.osek_values.specs.declared.lock.Lock.TheVariants as lock
use Rattle.oil_system.specs.declared.objects.{Alarm.{Alarm}, Resource.{Resource}, Schedule.{Schedule, TheVariants.{Non, Full}}, Action.{Action}}
use Rattle.oil_system.specs.declared.objects.Action.TheVariants as action
use Rattle.osek_standard.specs.declared.{app.App.{App}, objects.{Task.{Task}, Isr.{Isr}, Counter.{Counter}}, block.{Block.{Block}, Kind.{Kind}}}
use Rattle.osek_standard.specs.declared.call.{PlainService.{PlainService}, TaskService.{TaskService}, ResourceService.{ResourceService}, MaskService.{MaskService}, AlarmService.{AlarmService}, ArmService.{ArmService}}
use Rattle.osek_standard.specs.declared.block.Kind.TheVariants as kind
use Rattle.image_model.specs.CallNames as call
use Rattle.image_model.specs.declared.site.{Form.{Form}, Known.{Known}, Site.{Site}}
use Rattle.image_model.specs.declared.site.Form.TheVariants as form
use Rattle.image_model.specs.declared.site.Known.TheVariants as known
use Rattle.image_model.specs.declared.image.{Image.{Image}, Version.{Version}}
use Rattle.image_model.specs.declared.image.Version.TheVariants as version
use Rattle.image_model.specs.Statuses.{status_number}
use Rattle.image_fields.specs.Magic.{magic}

abbrev pub one : ℕ → List ℕ
one n = n ∷ []

abbrev pub two : ℕ → List ℕ
two n = to_be_bytes w16 n

abbrev pub four : ℕ → List ℕ
four n = to_be_bytes w32 n

abbrev pub eight : ℕ → List ℕ
eight n = to_be_bytes w64 n

-- a field that version 2 alone has
abbrev pub further : Version → List ℕ → List ℕ
further version.One bytes = []
further version.Two bytes = bytes

-- a length byte, and so many bytes
abbrev pub name_bytes : List ℕ → List ℕ
name_bytes name = one (length name) ++ name

-- an owner's blocks: the first, and how many
abbrev pub range_bytes : BlockNo → ℕ → List ℕ
range_bytes first count = two first.0 ++ two count

abbrev pub schedule_number : Schedule → ℕ
schedule_number Non = 0
schedule_number Full = 1

abbrev pub flag_number : Bool → ℕ
flag_number b = if b then 1 else 0

-- the number of an INTERNAL resource, ff where there is none
abbrev pub internal_number : Option ResNo → ℕ
internal_number None = 0xff
internal_number (Some r) = r.0

-- In version 2 a task has besides how many activations it takes at a time, and its INTERNAL resource;
abbrev pub task_bytes : Version → Task → List ℕ
task_bytes v x =
    name_bytes x.name ++ two x.priority ++ one (schedule_number x.schedule) ++ eight x.own.0 ++ one x.autostart
    ++ range_bytes x.first x.count ++ further v (one x.activation) ++ further v (one (internal_number x.internal))

-- an ISR has its priority;
abbrev pub isr_bytes : Version → Isr → List ℕ
isr_bytes v x = name_bytes x.name ++ range_bytes x.first x.count ++ further v (one x.priority)

abbrev pub counter_bytes : Counter → List ℕ
counter_bytes x = name_bytes x.name ++ four x.max ++ four x.min_cycle ++ range_bytes x.first x.count

abbrev pub action_bytes : Action → List ℕ
action_bytes (action.ActivateTask t) = one 0 ++ one t.0 ++ eight 0
action_bytes (action.SetEvent t m) = one 1 ++ one t.0 ++ eight m.0

abbrev pub alarm_bytes : Alarm → List ℕ
alarm_bytes x =
    name_bytes x.name ++ one x.counter.0 ++ action_bytes x.action ++ one x.autostart ++ four x.time ++ four x.cycle

-- and a resource its property, which is 1 for an INTERNAL one, and its ceiling for interrupts.
abbrev pub resource_bytes : Version → Resource → List ℕ
resource_bytes v x = name_bytes x.name ++ four x.ceiling ++ further v (one (flag_number x.internal)) ++ further v (two x.interrupt_ceiling)

abbrev pub lock_number : Lock → ℕ
lock_number lock.SuspendAll = 0
lock_number lock.ResumeAll = 1
lock_number lock.SuspendOs = 2
lock_number lock.ResumeOs = 3
lock_number lock.DisableAll = 4
lock_number lock.EnableAll = 5

abbrev pub plain_number : PlainService → ℕ
plain_number call.TerminateTask = 4
plain_number call.Schedule = 6
plain_number call.GetTaskId = 17
plain_number call.GetActiveApplicationMode = 19

abbrev pub task_service_number : TaskService → ℕ
task_service_number call.ActivateTask = 3
task_service_number call.ChainTask = 5
task_service_number call.GetEvent = 11
task_service_number call.GetTaskState = 18

abbrev pub resource_service_number : ResourceService → ℕ
resource_service_number call.GetResource = 7
resource_service_number call.ReleaseResource = 8

abbrev pub mask_service_number : MaskService → ℕ
mask_service_number call.ClearEvent = 10
mask_service_number call.WaitEvent = 12

abbrev pub alarm_service_number : AlarmService → ℕ
alarm_service_number call.CancelAlarm = 15
alarm_service_number call.GetAlarm = 16

abbrev pub arm_number : ArmService → ℕ
arm_number call.SetRelAlarm = 13
arm_number call.SetAbsAlarm = 14

abbrev pub kind_number : Kind → ℕ
kind_number (kind.Work n) = 0
kind_number (kind.Choice o) = 1
kind_number kind.Loop = 2
kind_number (kind.Call (call.Plain k)) = plain_number k
kind_number (kind.Call (call.Task k t)) = task_service_number k
kind_number (kind.Call (call.Resource k r)) = resource_service_number k
kind_number (kind.Call (call.SetEvent t m)) = 9
kind_number (kind.Call (call.Mask k m)) = mask_service_number k
kind_number (kind.Call (call.Alarm k a)) = alarm_service_number k
kind_number (kind.Call (call.Arm k a i c)) = arm_number k
kind_number (kind.Call call.ShutdownOs) = 20
kind_number (kind.Call (call.Lock l)) = 21
kind_number kind.TaskEnd = 22
kind_number kind.IsrEnd = 23
kind_number kind.CountUp = 24
kind_number (kind.Expire a) = 25

abbrev pub operand_bytes : Kind → List ℕ
operand_bytes (kind.Work n) = two n
operand_bytes (kind.Choice o) = []
operand_bytes kind.Loop = []
operand_bytes (kind.Call (call.Task k t)) = one t.0
operand_bytes (kind.Call (call.Plain k)) = []
operand_bytes (kind.Call (call.Resource k r)) = one r.0
operand_bytes (kind.Call (call.SetEvent t m)) = one t.0 ++ eight m.0
operand_bytes (kind.Call (call.Mask k m)) = eight m.0
operand_bytes (kind.Call (call.Arm k a i c)) = one a.0 ++ eight i ++ eight c
operand_bytes (kind.Call (call.Alarm k a)) = one a.0
operand_bytes (kind.Call (call.Lock l)) = one (lock_number l)
operand_bytes (kind.Call call.ShutdownOs) = []
operand_bytes kind.TaskEnd = []
operand_bytes kind.IsrEnd = []
operand_bytes kind.CountUp = []
operand_bytes (kind.Expire a) = one a.0

-- an end has no next, and a choice has two
abbrev pub way_bytes : Kind → BlockNo → List ℕ
way_bytes kind.TaskEnd next = []
way_bytes kind.IsrEnd next = []
way_bytes (kind.Choice other) next = two next.0 ++ two other.0
way_bytes _ next = two next.0

-- a form's two bytes, as one number
abbrev pub form_number : Form → ℕ
form_number form.Never = 0x0000
form_number form.Stay = 0x0100
form_number (form.Direct (Some t)) = 0x0200 + t.0
form_number (form.Direct None) = 0x02ff
form_number form.General = 0x0300

-- the number of a status, 9 where none is noted, ff where nothing is known
abbrev pub known_number : Known → ℕ
known_number known.Any = 0xff
known_number (known.Always None) = 9
known_number (known.Always (Some x)) = status_number x

-- version 2 alone has what is known of the status
abbrev pub site_bytes : Version → Option Site → List ℕ
site_bytes v None = []
site_bytes v (Some x) = two (form_number x.form) ++ further v (one (known_number x.known))

abbrev pub block_bytes : Version → Block × Option Site → List ℕ
block_bytes v x =
    one (kind_number x.0.kind) ++ one (flag_number x.0.locked) ++ four x.0.line ++ operand_bytes x.0.kind
    ++ way_bytes x.0.kind x.0.next ++ site_bytes v x.1

-- the hooks, how many entries each table has, and how many blocks there are
abbrev pub header_bytes : App → List ℕ
header_bytes a =
    one a.hooks.0 ++ one (length a.tasks) ++ one (length a.isrs) ++ one (length a.counters) ++ one (length a.alarms)
    ++ one (length a.resources) ++ one (length a.modes) ++ two (length a.blocks)

-- The one spelling of an image, in its version.
unfoldable pub spelling : Image → List ℕ
spelling i =
    magic i.version ++ header_bytes i.app ++ flat_map (task_bytes i.version) i.app.tasks
    ++ flat_map (isr_bytes i.version) i.app.isrs ++ flat_map counter_bytes i.app.counters
    ++ flat_map alarm_bytes i.app.alarms ++ flat_map (resource_bytes i.version) i.app.resources
    ++ flat_map name_bytes i.app.modes ++ flat_map (block_bytes i.version) (zip i.app.blocks i.sites)
