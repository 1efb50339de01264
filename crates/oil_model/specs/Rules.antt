-- The rules on a tree: on which lines each is violated.
use Rattle.std.specs.Prelude.{ℕ, ◌-◌, List, [], ◌∷◌, ◌++◌, Bool, true, false, not, ◌&&◌, ◌||◌, if◌then◌else◌, nat_le, nat_lt, ◌==◌, Option, Some, None, codes, find, filter, map, drop, slice_get}
use Rattle.std.specs.{List.{list_any, flat_map}, Str.{bytes_eq}}
use Rattle.osek_values.specs.declared.limits.TheConstants.{MAX_TASKS, MAX_ACTIVATIONS, MAX_ISRS, MAX_COUNTERS, MAX_ALARMS, MAX_EVENTS, MAX_RESOURCES, MAX_MODES}
use Rattle.osek_values.specs.declared.refusal.OilRule.{OilRule, TheVariants.{O1, O2, O3, O4, O5, O6, O7, O9, O10, O11, O12, O13, O14, O15, O16, O17, O18}}
use Rattle.oil_tree.specs.declared.tree.{Attr.{Attr}, Object.{Object}, Tree.{Tree}, Value.{Value, TheVariants.{Word}}}
use Rattle.oil_model.specs.declared.{objects.Category.TheVariants.{Two}, table.{Scope.{Scope}, Entry.{Entry}}, domain.Domain.{Domain}}
use Rattle.oil_model.specs.declared.domain.Domain.TheVariants as domain
use Rattle.oil_model.specs.Table.{Row, scope_of, rows, entry_of, allows, is_many, is_required}
use Rattle.oil_tree.specs.AttrLists.{attr_list}
use Rattle.oil_model.specs.{Lists.{found_in}, LookUp.{is_named, has, named, number, says, line, word_of, word_at, word, attr_line}}
use Rattle.oil_model.specs.Objects.{objects_of, is_called, declares, attrs_named, line_at, object_line, has_scheduler, is_other_mode, is_ordinary, is_isr, activation, is_internal, maximum, minimum, alarm_time, cycle_time, start, explicit_bits, mask_of, used_after}

-- those that are the same as an earlier one
abbrev pub repeated : {X : Type 0} → (X → X → Bool) → List X → List X → List X
repeated same before [] = []
repeated same before (x ∷ xs) = (if list_any (same x) before then x ∷ [] else []) ++ repeated same (before ++ x ∷ []) xs

-- O1: the kind is none of the eight
abbrev pub is_unknown_scope : Option Scope → Bool
is_unknown_scope None = true
is_unknown_scope (Some scope) = false

abbrev pub is_unknown : Object → Bool
is_unknown o = is_unknown_scope (scope_of o.kind)

abbrev pub unknown_kinds : List Object → List ℕ
unknown_kinds objects = map object_line (filter is_unknown objects)

-- O2: an earlier object of the kind has the name; the line of the later one's kind
abbrev pub kinds : List (List ℕ)
kinds = codes "OS" ∷ (codes "APPMODE" ∷ (codes "TASK" ∷ (codes "ISR" ∷ (codes "COUNTER" ∷ (codes "ALARM" ∷ (codes "EVENT" ∷ (codes "RESOURCE" ∷ [])))))))

abbrev pub has_same_name : Object → Object → Bool
has_same_name o earlier = is_called o.name earlier

abbrev pub repeated_names : List ℕ → List Object → List ℕ
repeated_names kind objects = map object_line (repeated has_same_name [] (objects_of kind objects))

abbrev pub all_repeated_names : List Object → List ℕ
all_repeated_names objects = flat_map (λ (kind : List ℕ). repeated_names kind objects) kinds

-- O3: no OS, on the line of CPU; or each OS but the first
abbrev pub os_lines : ℕ → List Object → List ℕ
os_lines cpu [] = cpu ∷ []
os_lines cpu (o ∷ others) = map object_line others

-- O4: a required attribute isn't there
abbrev pub is_missing : List Attr → Row → Bool
is_missing attrs r = is_required r.entry.presence && not (has r.name attrs)

abbrev pub lacks : Scope → List Attr → Bool
lacks scope attrs = list_any (is_missing attrs) (rows scope)

abbrev pub missing_in : Scope → ℕ → List Attr → List ℕ
missing_in scope line attrs = if lacks scope attrs then line ∷ [] else []

-- O5: an attribute that may stand once stands once more
abbrev pub doubles_of : List Attr → Row → List ℕ
doubles_of attrs r = if is_many r.entry.presence then [] else map attr_line (drop 1 (named r.name attrs))

abbrev pub doubles_in : Scope → ℕ → List Attr → List ℕ
doubles_in scope line attrs = flat_map (doubles_of attrs) (rows scope)

-- O6: the table knows the name, and doesn't allow the value
abbrev pub forbids : Option Entry → Value → Bool
forbids None value = false
forbids (Some entry) value = not (allows entry.domain value)

abbrev pub is_wrong : Scope → Attr → Bool
is_wrong scope a = forbids (entry_of scope a.name) a.value

abbrev pub wrong_in : Scope → ℕ → List Attr → List ℕ
wrong_in scope line attrs = map attr_line (filter (is_wrong scope) attrs)

-- O7: nothing of the needed kind has the name. RES_SCHEDULER, where it exists, and OSDEFAULTAPPMODE need no declaration.
abbrev pub is_declared : List Object → Domain → List ℕ → Bool
is_declared objects domain.TaskName n = declares (codes "TASK") n objects
is_declared objects domain.EventName n = declares (codes "EVENT") n objects
is_declared objects domain.CounterName n = declares (codes "COUNTER") n objects
is_declared objects domain.ResourceName n = declares (codes "RESOURCE") n objects || (has_scheduler objects && bytes_eq n (codes "RES_SCHEDULER"))
is_declared objects domain.ModeName n = declares (codes "APPMODE") n objects || bytes_eq n (codes "OSDEFAULTAPPMODE")
is_declared objects _ n = true

abbrev pub names_nothing : List Object → Option Entry → Value → Bool
names_nothing objects (Some entry) (Word n) = not (is_declared objects entry.domain n)
names_nothing objects _ _ = false

abbrev pub is_dangling : List Object → Scope → Attr → Bool
is_dangling objects scope a = names_nothing objects (entry_of scope a.name) a.value

abbrev pub dangling_in : List Object → Scope → ℕ → List Attr → List ℕ
dangling_in objects scope line attrs = map attr_line (filter (is_dangling objects scope) attrs)

-- O9: ACTIVATION is a number outside 1 to 255, or other than 1 on a task that names an EVENT
abbrev pub is_activation : Bool → ℕ → Bool
is_activation extended n = if extended then n == 1 else nat_le 1 n && nat_le n MAX_ACTIVATIONS

abbrev pub is_wrongly_activated : Object → Bool
is_wrongly_activated o = not (is_activation (has (codes "EVENT") (attr_list o.attrs)) (activation o))

abbrev pub wrong_activations : List Object → List ℕ
wrong_activations objects = map (line_at (codes "ACTIVATION")) (filter is_wrongly_activated (objects_of (codes "TASK") objects))

-- O10: RESOURCEPROPERTY is LINKED
abbrev pub is_linked : Object → Bool
is_linked o = says (codes "RESOURCEPROPERTY") (codes "LINKED") (attr_list o.attrs)

abbrev pub linked_resources : List Object → List ℕ
linked_resources objects = map (line_at (codes "RESOURCEPROPERTY")) (filter is_linked (objects_of (codes "RESOURCE") objects))

-- O11: ACTION is ALARMCALLBACK
abbrev pub is_callback : Object → Bool
is_callback o = says (codes "ACTION") (codes "ALARMCALLBACK") (attr_list o.attrs)

abbrev pub callbacks : List Object → List ℕ
callbacks objects = map (line_at (codes "ACTION")) (filter is_callback (objects_of (codes "ALARM") objects))

-- O12: MASK is 0, or no bit is left for AUTO; on the line of MASK, or of the kind where it is missing
abbrev pub empty_masks_from : ℕ → List Object → List ℕ
empty_masks_from used [] = []
empty_masks_from used (e ∷ events) =
    (if mask_of used e == 0 then line_at (codes "MASK") e ∷ [] else []) ++ empty_masks_from (used_after used e) events

abbrev pub empty_masks : List Object → List ℕ
empty_masks objects = empty_masks_from (explicit_bits 0 (objects_of (codes "EVENT") objects)) (objects_of (codes "EVENT") objects)

-- O13: the first object beyond the limit of its kind. RES_SCHEDULER, where it exists, takes one of the places of
-- resources, and OSDEFAULTAPPMODE one of the modes.
abbrev pub found_line : Option Object → List ℕ
found_line None = []
found_line (Some o) = o.line ∷ []

abbrev pub first_beyond : ℕ → List Object → List ℕ
first_beyond limit objects = found_line (slice_get objects limit)

abbrev pub resource_limit : Bool → ℕ
resource_limit scheduler = if scheduler then MAX_RESOURCES - 1 else MAX_RESOURCES

abbrev pub beyond_limits : List Object → List ℕ
beyond_limits objects =
    first_beyond MAX_TASKS (objects_of (codes "TASK") objects)
    ++ (first_beyond MAX_ISRS (filter (is_isr Two) objects)
    ++ (first_beyond MAX_COUNTERS (objects_of (codes "COUNTER") objects)
    ++ (first_beyond MAX_ALARMS (objects_of (codes "ALARM") objects)
    ++ (first_beyond MAX_EVENTS (objects_of (codes "EVENT") objects)
    ++ (first_beyond (resource_limit (has_scheduler objects)) (filter (is_ordinary (has_scheduler objects)) objects)
    ++ first_beyond (MAX_MODES - 1) (filter is_other_mode objects))))))

-- O14: MINCYCLE above MAXALLOWEDVALUE; ALARMTIME above MAXALLOWEDVALUE; CYCLETIME other than 0 and outside MINCYCLE to
-- MAXALLOWEDVALUE
abbrev pub is_reversed : Object → Bool
is_reversed o = nat_lt (maximum (attr_list o.attrs)) (minimum (attr_list o.attrs))

abbrev pub is_off_cycle : List Attr → ℕ → Bool
is_off_cycle counter cycle = not (cycle == 0) && (nat_lt cycle (minimum counter) || nat_lt (maximum counter) cycle)

-- of an alarm, whose AUTOSTART stands on a line, over the attributes of its counter
abbrev pub late_times_by : List Attr → ℕ → List Attr → List ℕ
late_times_by counter at start =
    (if nat_lt (maximum counter) (alarm_time start) then line (codes "ALARMTIME") start at ∷ [] else [])
    ++ (if is_off_cycle counter (cycle_time start) then line (codes "CYCLETIME") start at ∷ [] else [])

abbrev pub counter_of : List Object → Object → List Attr
counter_of objects o = attrs_named (word (codes "COUNTER") (attr_list o.attrs)) (objects_of (codes "COUNTER") objects)

abbrev pub late_times_of : List Object → Object → List ℕ
late_times_of objects o = late_times_by (counter_of objects o) (line_at (codes "AUTOSTART") o) (start (attr_list o.attrs))

abbrev pub late_times : List Object → List ℕ
late_times objects =
    map (line_at (codes "MINCYCLE")) (filter is_reversed (objects_of (codes "COUNTER") objects))
    ++ flat_map (late_times_of objects) (objects_of (codes "ALARM") objects)

-- O15: CATEGORY is a number other than 1 or 2
abbrev pub is_other_category : Object → Bool
is_other_category o = not (number (codes "CATEGORY") (attr_list o.attrs) 1 == 1) && not (number (codes "CATEGORY") (attr_list o.attrs) 1 == 2)

abbrev pub other_categories : List Object → List ℕ
other_categories objects = map (line_at (codes "CATEGORY")) (filter is_other_category (objects_of (codes "ISR") objects))

-- O16: a RESOURCE of a task names an INTERNAL resource other than the first that the task names
abbrev pub is_internal_name : List Object → List ℕ → Bool
is_internal_name objects n = list_any (is_called n) (filter is_internal objects)

abbrev pub names_internal : List Object → Attr → Bool
names_internal objects a = is_named (codes "RESOURCE") a && is_internal_name objects (word_of a.value)

abbrev pub first_internal : List Object → List Attr → List ℕ
first_internal objects attrs = word_at (find (names_internal objects) attrs)

abbrev pub names_another : List Object → List ℕ → Attr → Bool
names_another objects first a = names_internal objects a && not (bytes_eq (word_of a.value) first)

abbrev pub second_internals_of : List Object → Object → List ℕ
second_internals_of objects o = map attr_line (filter (names_another objects (first_internal objects (attr_list o.attrs))) (attr_list o.attrs))

abbrev pub second_internals : List Object → List ℕ
second_internals objects = flat_map (second_internals_of objects) (objects_of (codes "TASK") objects)

-- O17: RES_SCHEDULER is INTERNAL while it exists
abbrev pub is_internal_scheduler : Object → Bool
is_internal_scheduler o = is_internal o && is_called (codes "RES_SCHEDULER") o

abbrev pub internal_schedulers : List Object → List ℕ
internal_schedulers objects =
    if has_scheduler objects then map (line_at (codes "RESOURCEPROPERTY")) (filter is_internal_scheduler (objects_of (codes "RESOURCE") objects)) else []

-- O18: a RESOURCE of a category 2 ISR names an INTERNAL resource, or RES_SCHEDULER where that exists
abbrev pub is_barred_name : Bool → List Object → List ℕ → Bool
is_barred_name scheduler objects n = is_internal_name objects n || (scheduler && bytes_eq n (codes "RES_SCHEDULER"))

abbrev pub names_barred : Bool → List Object → Attr → Bool
names_barred scheduler objects a = is_named (codes "RESOURCE") a && is_barred_name scheduler objects (word_of a.value)

abbrev pub barred_resources_of : Bool → List Object → Object → List ℕ
barred_resources_of scheduler objects o = map attr_line (filter (names_barred scheduler objects) (attr_list o.attrs))

abbrev pub barred_resources : List Object → List ℕ
barred_resources objects = flat_map (barred_resources_of (has_scheduler objects) objects) (filter (is_isr Two) objects)

-- the lines on which a rule is violated
abbrev pub lines : OilRule → Tree → List ℕ
lines O1 t = unknown_kinds t.objects
lines O2 t = all_repeated_names t.objects
lines O3 t = os_lines t.line (objects_of (codes "OS") t.objects)
lines O4 t = found_in missing_in t.objects
lines O5 t = found_in doubles_in t.objects
lines O6 t = found_in wrong_in t.objects
lines O7 t = found_in (dangling_in t.objects) t.objects
lines O9 t = wrong_activations t.objects
lines O10 t = linked_resources t.objects
lines O11 t = callbacks t.objects
lines O12 t = empty_masks t.objects
lines O13 t = beyond_limits t.objects
lines O14 t = late_times t.objects
lines O15 t = other_categories t.objects
lines O16 t = second_internals t.objects
lines O17 t = internal_schedulers t.objects
lines O18 t = barred_resources t.objects
