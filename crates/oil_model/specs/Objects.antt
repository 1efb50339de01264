-- What an object declares, of what the rules and the system both read.
use Rattle.std.specs.Prelude.{ℕ, ◌+◌, List, [], ◌∷◌, Bool, not, ◌&&◌, if◌then◌else◌, Option, Some, None, codes, find, filter, bit_or, bit_and, ◌==◌, ◌^◌, zero, suc, unwrap_or}
use Rattle.std.specs.{List.{list_any}, Str.{bytes_eq}}
use Rattle.oil_tree.specs.{declared.tree.{Attr.{Attr}, Object.{Object}, Value.{Value, TheVariants.{Numeric}}}, AttrLists.{attr_list}}
use Rattle.oil_model.specs.{declared.objects.Category.{Category, TheVariants.{One, Two}}, LookUp.{first_named, number, says, inner, line}}

abbrev pub is_kind : List ℕ → Object → Bool
is_kind kind o = bytes_eq o.kind kind

-- the objects of a kind, in order of declaration
abbrev pub objects_of : List ℕ → List Object → List Object
objects_of kind objects = filter (is_kind kind) objects

abbrev pub name_of : Object → List ℕ
name_of o = o.name

abbrev pub is_called : List ℕ → Object → Bool
is_called n o = bytes_eq o.name n

-- whether an object of the kind has the name
abbrev pub declares : List ℕ → List ℕ → List Object → Bool
declares kind n objects = list_any (is_called n) (objects_of kind objects)

abbrev pub attrs_of : Option Object → List Attr
attrs_of None = []
attrs_of (Some o) = attr_list o.attrs

-- the attributes of the first object of a name, and of the OS object
abbrev pub attrs_named : List ℕ → List Object → List Attr
attrs_named n objects = attrs_of (find (is_called n) objects)

abbrev pub os_attrs : List Object → List Attr
os_attrs objects = attrs_of (find (is_kind (codes "OS")) objects)

-- the line of an object's attribute of a name, or of its kind where it has none
abbrev pub line_at : List ℕ → Object → ℕ
line_at n o = line n (attr_list o.attrs) o.line

abbrev pub object_line : Object → ℕ
object_line o = o.line

-- OS, USERESSCHEDULER: whether the resource RES_SCHEDULER exists; it does unless this is FALSE
abbrev pub has_scheduler : List Object → Bool
has_scheduler objects = not (says (codes "USERESSCHEDULER") (codes "FALSE") (os_attrs objects))

-- APPMODE: every mode but OSDEFAULTAPPMODE, which exists whether it is declared or not
abbrev pub is_other_mode : Object → Bool
is_other_mode o = is_kind (codes "APPMODE") o && not (is_called (codes "OSDEFAULTAPPMODE") o)

-- RESOURCE: every resource but RES_SCHEDULER, where that exists; where it doesn't, one of its name is like the others
abbrev pub is_ordinary : Bool → Object → Bool
is_ordinary scheduler o = is_kind (codes "RESOURCE") o && not (scheduler && is_called (codes "RES_SCHEDULER") o)

-- ISR, CATEGORY
abbrev pub category_number : Category → ℕ
category_number One = 1
category_number Two = 2

abbrev pub is_isr : Category → Object → Bool
is_isr category o = is_kind (codes "ISR") o && (number (codes "CATEGORY") (attr_list o.attrs) 0 == category_number category)

-- TASK and ISR, PRIORITY; an ISR's is 0 where it is missing
abbrev pub priority : Object → ℕ
priority o = number (codes "PRIORITY") (attr_list o.attrs) 0

-- TASK, ACTIVATION
abbrev pub activation : Object → ℕ
activation o = number (codes "ACTIVATION") (attr_list o.attrs) 1

-- RESOURCE, RESOURCEPROPERTY: a resource that is INTERNAL
abbrev pub is_internal : Object → Bool
is_internal o = is_kind (codes "RESOURCE") o && says (codes "RESOURCEPROPERTY") (codes "INTERNAL") (attr_list o.attrs)

-- COUNTER, MAXALLOWEDVALUE and MINCYCLE
abbrev pub maximum : List Attr → ℕ
maximum attrs = number (codes "MAXALLOWEDVALUE") attrs 1

abbrev pub minimum : List Attr → ℕ
minimum attrs = number (codes "MINCYCLE") attrs 1

-- ALARM, ALARMTIME and CYCLETIME in its AUTOSTART
abbrev pub alarm_time : List Attr → ℕ
alarm_time start = number (codes "ALARMTIME") start 0

abbrev pub cycle_time : List Attr → ℕ
cycle_time start = number (codes "CYCLETIME") start 0

abbrev pub is_started : List Attr → Bool
is_started attrs = says (codes "AUTOSTART") (codes "TRUE") attrs

-- the attributes in AUTOSTART = TRUE
abbrev pub start : List Attr → List Attr
start attrs = if is_started attrs then inner (codes "AUTOSTART") attrs else []

-- EVENT, MASK: an explicit mask, if there is one
abbrev pub explicit_value : Value → Option ℕ
explicit_value (Numeric sign v) = Some v
explicit_value _ = None

abbrev pub explicit_at : Option Attr → Option ℕ
explicit_at None = None
explicit_at (Some a) = explicit_value a.value

abbrev pub explicit : Object → Option ℕ
explicit o = explicit_at (first_named (codes "MASK") (attr_list o.attrs))

-- the bits of all explicit masks, and of those that were used before
abbrev pub explicit_bits : ℕ → List Object → ℕ
explicit_bits used [] = used
explicit_bits used (e ∷ events) = explicit_bits (bit_or used (unwrap_or (explicit e) 0)) events

-- the lowest bit from bit k on, among n, that isn't used; 0 where none is left
unfoldable pub free_from : ℕ → ℕ → ℕ → ℕ
free_from used k zero = 0
free_from used k (suc n) = if bit_and used (2 ^ k) == 0 then 2 ^ k else free_from used (k + 1) n

abbrev pub free_bit : ℕ → ℕ
free_bit used = free_from used 0 64

-- the mask of an event: the explicit one, or the lowest bit that no explicit mask and no earlier AUTO event uses
abbrev pub mask_by : Option ℕ → ℕ → ℕ
mask_by (Some v) used = v
mask_by None used = free_bit used

abbrev pub mask_of : ℕ → Object → ℕ
mask_of used e = mask_by (explicit e) used

-- the bits that are used behind an event
abbrev pub used_after : ℕ → Object → ℕ
used_after used e = bit_or used (mask_of used e)
