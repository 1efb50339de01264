-- The system of a tree without a fault can be linked.
use Rattle.std.proofs.Common.{inl, inr, ◌≡◌, ℕ, suc, ◌+◌, ◌<◌, ◌≤◌, ◌^◌, List, [], ◌∷◌, ◌++◌, length, map, Bool, true, false, refl, sym, ap, ◌∙◌, subst, arith, rules, IsTrue}
use Rattle.std.specs.Prelude.{Option, Some, None, if◌then◌else◌, cond, not, ◌&&◌, ◌||◌, codes, filter, nat_le, nat_lt, ◌==◌, slice_index_or, bit_or, All}
use Rattle.std.specs.{List.{AllByRecursion, IsDistinct, list_any}, Str.{bytes_eq}}
use Rattle.std.proofs.lemmas.{Bool.Decides.{nat_tests}, Cmp.{nat_list_eq_equiv}, List.{append-nil, Elements.{All-from_recursion, recursion_from_All}}, Simd.{map-map}, Map.Keys.{IsDistinct-push, IsDistinct-cons, IsDistinct-head, IsDistinct-tail}}
use Rattle.osek_values.specs.{Names.{is_name, AreNames}, Numbers.{res_no}, declared.{numbers.ResNo.{ResNo}, refusal.OilRule.TheVariants.{O2, O4, O6, O7, O9, O11, O12, O13, O14}}}
use Rattle.osek_values.proofs.Lists.{each_append, each_map, none_distinct}
use Rattle.oil_system.specs.declared.{objects.{Alarm.{Alarm}, Resource.{Resource}}, system.{TaskObject.{TaskObject}, IsrObject.{IsrObject}, CounterObject.{CounterObject}, EventObject.{EventObject}}}
use Rattle.oil_model.specs.{declared.objects.Category.TheVariants.{One, Two}, Linkable.{no_counter_object, no_resource_object, is_cycle_of_object, IsActionAmong, IsAlarmAmong, IsInternalAmong, IsLinkable}}
use Rattle.oil_tree.specs.{AttrLists.{attr_list}, declared.tree.{Attr.{Attr}, Object.{Object}, Tree.{Tree}}}
use Rattle.oil_model.specs.declared.table.Scope.TheVariants as scope
use Rattle.oil_model.specs.{Table.{scope_of}, Lists.{found_of, found_in}, LookUp.{is_named, has, number, says, word_of, word, inner}}
use Rattle.oil_model.specs.Objects.{is_kind, is_called, objects_of, name_of, attrs_of, has_scheduler, is_other_mode, is_ordinary, is_isr, priority, activation, maximum, minimum, alarm_time, cycle_time, start, explicit_bits, mask_of, used_after, line_at, object_line}
use Rattle.oil_model.specs.Rules.{kinds, repeated, repeated_names, all_repeated_names, has_same_name, is_activation, wrong_activations, missing_in, wrong_in, dangling_in, is_callback, callbacks, empty_masks_from, empty_masks, beyond_limits, late_times, is_off_cycle, counter_of}
use Rattle.oil_model.specs.Faults.{HasNoFault}
use Rattle.oil_model.specs.Systems.{modes, events_from, events, mask_named, own_bits, internal_from, internal_by, first_of, internal, task, isr, counter, alarm, action_in, names_of, resource, scheduler, ceiling, ceiling_beside, top_ceiling, interrupt_ceiling, names_resource, resources, system_of}
use Rattle.oil_model.proofs.Clean.{no_line, left_empty, right_empty, map_empty, mark_empty, none_pass, each_empty, all_filtered, all_weaker, all_both, true_not_false}
use Rattle.oil_model.proofs.{Distinct.{distinct_from, distinct_kept, all_kept}, Facts.{true_or_false, own_found, kind_scope, priorities, isr_priorities, activated, in_activations, once, IsMaximum, maxima, minima, IsInTime, times}}
use Rattle.oil_model.proofs.{WithinLimits.{IsWithinLimits, within_limits, few_modes, few_resources, length-map}, Referring.{RefersToDeclared, IsSoundAlarm, sound_list, sound_alarm}}
use Rattle.oil_model.proofs.{Bits.{known_hooks, autostart_below, no_start, ceiling_small, interrupt_ceiling_small}, Numbers.{IsAt, at_number, not_zero, mask_some}}

unmapped : {X Y : Type 0} (f : X → Y) (P : Y → Type 0) (xs : List X) → AllByRecursion P (map f xs) → AllByRecursion (λ (x : X). P (f x)) xs
unmapped f P [] h = tt
unmapped f P (x ∷ xs) h = (h.0, unmapped f P xs h.1)

and_first : (a b : Bool) → (a && b) ≡ true → IsTrue a
and_first true b e = refl
and_first false b e = absurd (true_not_false (sym e))

and_second : (a b : Bool) → (a && b) ≡ true → b ≡ true
and_second true b e = e
and_second false b e = absurd (true_not_false (sym e))

not_true : (b : Bool) → not b ≡ true → b ≡ false
not_true true e = absurd (true_not_false (sym e))
not_true false e = refl

not_both : (a b : Bool) → a ≡ true → not (a && b) ≡ true → b ≡ false
not_both true b e h = not_true b h
not_both false b e h = absurd (true_not_false (sym e))

abbrev IsNamed : Object → Type 0
IsNamed o = IsTrue (is_name o.name)

-- the names of some objects, each a name and no two the same
are_names : (objects : List Object) → AllByRecursion IsNamed objects → IsDistinct bytes_eq (map name_of objects) → AreNames (map name_of objects)
are_names objects named distinct = record { each = All-from_recursion (λ (n : List ℕ). IsTrue (is_name n)) (map name_of objects) (each_map (λ (n : List ℕ). IsTrue (is_name n)) name_of objects named); distinct = distinct }

names_of_entries : {Y : Type 0} (f : Object → Y) (name : Y → List ℕ) (objects : List Object) → ((o : Object) → name (f o) ≡ o.name) → AreNames (map name_of objects) → AreNames (map name (map f objects))
names_of_entries {Y} f name objects same h = subst AreNames (sym (map-map name f objects ∙ (λ i. map (λ (o : Object). same o i) objects))) h

lookup_masks : (used : ℕ) (xs : List Object) → map (λ (e : EventObject). e.name) (events_from used xs) ≡ map name_of xs
lookup_masks used [] = refl
lookup_masks used (o ∷ xs) = ap (λ (ns : List (List ℕ)). o.name ∷ ns) (lookup_masks (used_after used o) xs)

all_masked : (used : ℕ) (xs : List Object) → empty_masks_from used xs ≡ [] → AllByRecursion (λ (e : EventObject). 0 < e.mask.0) (events_from used xs)
all_masked used [] h = tt
all_masked used (o ∷ xs) h =
    let mark : List ℕ = if mask_of used o == 0 then line_at (codes "MASK") o ∷ [] else [] in
    (not_zero (mask_of used o) (mark_empty (mask_of used o == 0) (line_at (codes "MASK") o) (left_empty mark (empty_masks_from (used_after used o) xs) h)), all_masked (used_after used o) xs (right_empty mark (empty_masks_from (used_after used o) xs) h))

module _ (objects : List Object) (named : AllByRecursion IsNamed objects) where
  -- an object passes both tests
  named_of : (p : Object → Bool) → AllByRecursion IsNamed (filter p objects)
  named_of p = all_filtered IsNamed IsNamed p objects (λ o t h. h) named

  distinct_names : (kind : List ℕ) → repeated_names kind objects ≡ [] → IsDistinct bytes_eq (map name_of (objects_of kind objects))
  distinct_names kind e = distinct_from name_of bytes_eq nat_list_eq_equiv [] (objects_of kind objects) (map_empty object_line (repeated has_same_name [] (objects_of kind objects)) e) (none_distinct bytes_eq)

  names_by_kind : (kind : List ℕ) → repeated_names kind objects ≡ [] → AreNames (map name_of (objects_of kind objects))
  names_by_kind kind e = are_names (objects_of kind objects) (named_of (is_kind kind)) (distinct_names kind e)

  names_by_test : (kind : List ℕ) (q : Object → Bool) → repeated_names kind objects ≡ [] → AreNames (map name_of (filter (λ (o : Object). is_kind kind o && q o) objects))
  names_by_test kind q e = are_names (filter (λ (o : Object). is_kind kind o && q o) objects) (named_of (λ (o : Object). is_kind kind o && q o)) (distinct_kept name_of bytes_eq (is_kind kind) q objects (distinct_names kind e))

  mode_names : repeated_names (codes "APPMODE") objects ≡ [] → AreNames (modes objects)
  mode_names e =
      let others = names_by_test (codes "APPMODE") (λ (o : Object). not (is_called (codes "OSDEFAULTAPPMODE") o)) e in
      let apart : AllByRecursion (λ (o : Object). bytes_eq (codes "OSDEFAULTAPPMODE") o.name ≡ false) (filter is_other_mode objects) = all_filtered (λ (o : Object). bytes_eq (codes "OSDEFAULTAPPMODE") o.name ≡ false) IsNamed is_other_mode objects (λ o t h. nat_list_eq_equiv.symm (codes "OSDEFAULTAPPMODE") o.name ∙ not_true (is_called (codes "OSDEFAULTAPPMODE") o) (and_second (is_kind (codes "APPMODE") o) (not (is_called (codes "OSDEFAULTAPPMODE") o)) t)) named in
      record {
        each = All-from_recursion (λ (n : List ℕ). IsTrue (is_name n)) (modes objects) (search rules, recursion_from_All (λ (n : List ℕ). IsTrue (is_name n)) (map name_of (filter is_other_mode objects)) others.each);
        distinct = IsDistinct-cons bytes_eq (codes "OSDEFAULTAPPMODE") (map name_of (filter is_other_mode objects)) (each_map (λ (n : List ℕ). bytes_eq (codes "OSDEFAULTAPPMODE") n ≡ false) name_of (filter is_other_mode objects) apart) others.distinct;
      }

abbrev resource_name : Resource → List ℕ
resource_name r = r.name

map-push : (xs : List Resource) (r : Resource) → map resource_name (xs ++ r ∷ []) ≡ map resource_name xs ++ r.name ∷ []
map-push [] r = refl
map-push (x ∷ xs) r = ap (λ (ns : List (List ℕ)). x.name ∷ ns) (map-push xs r)

all-push : (P : List ℕ → Type 0) (xs : List (List ℕ)) (n : List ℕ) → AllByRecursion P xs → P n → AllByRecursion P (xs ++ n ∷ [])
all-push P [] n h k = (k, tt)
all-push P (x ∷ xs) n h k = (h.0, all-push P xs n h.1 k)

none-any : (n : List ℕ) (names : List (List ℕ)) → AllByRecursion (λ (m : List ℕ). bytes_eq n m ≡ false) names → list_any (bytes_eq n) names ≡ false
none-any n [] h = refl
none-any n (m ∷ names) h = λ i. h.0 i || none-any n names h.1 i

with_scheduler : (exists : Bool) (tasks isrs others : List Object) → AllByRecursion IsNamed others → IsDistinct bytes_eq (map name_of others) → (exists ≡ true → list_any (bytes_eq (codes "RES_SCHEDULER")) (map name_of others) ≡ false) → AreNames (map resource_name (map (resource tasks isrs) others ++ (if exists then scheduler tasks ∷ [] else [])))
with_scheduler true tasks isrs others named distinct apart =
    let names : map resource_name (map (resource tasks isrs) others ++ scheduler tasks ∷ []) ≡ map name_of others ++ codes "RES_SCHEDULER" ∷ [] = map-push (map (resource tasks isrs) others) (scheduler tasks) ∙ (λ i. map-map resource_name (resource tasks isrs) others i ++ codes "RES_SCHEDULER" ∷ []) in
    subst AreNames (sym names) (record {
      each = All-from_recursion (λ (n : List ℕ). IsTrue (is_name n)) (map name_of others ++ codes "RES_SCHEDULER" ∷ []) (all-push (λ (n : List ℕ). IsTrue (is_name n)) (map name_of others) (codes "RES_SCHEDULER") (each_map (λ (n : List ℕ). IsTrue (is_name n)) name_of others named) (search rules));
      distinct = IsDistinct-push nat_list_eq_equiv (map name_of others) (codes "RES_SCHEDULER") distinct (apart refl);
    })
with_scheduler false tasks isrs others named distinct apart =
    let names : map resource_name (map (resource tasks isrs) others ++ []) ≡ map name_of others = ap (map resource_name) (append-nil (map (resource tasks isrs) others)) ∙ map-map resource_name (resource tasks isrs) others in
    subst AreNames (sym names) (are_names others named distinct)

scheduler_small : (exists : Bool) (tasks : List Object) → AllByRecursion (λ (o : Object). priority o ≤ 65535) tasks → AllByRecursion (λ (r : Resource). r.ceiling ≤ 131071) (if exists then scheduler tasks ∷ [] else [])
scheduler_small true tasks h = (let le = ceiling_small tasks h in omega (arith, le), tt)
scheduler_small false tasks h = tt

kept_small : (n : List ℕ) (tasks : List Object) → AllByRecursion (λ (o : Object). priority o ≤ 65535) tasks → ceiling n tasks ≤ 131071
kept_small n tasks h = ceiling_small (filter (names_resource n) tasks) (all_filtered (λ (o : Object). priority o ≤ 65535) (λ (o : Object). priority o ≤ 65535) (names_resource n) tasks (λ o t le. le) h)

beside_small : (none : Bool) (n : List ℕ) (tasks : List Object) → AllByRecursion (λ (o : Object). priority o ≤ 65535) tasks → (if none then ceiling n tasks else top_ceiling tasks) ≤ 131071
beside_small true n tasks h = kept_small n tasks h
beside_small false n tasks h = let le = ceiling_small tasks h in omega (arith, le)

ceilings_small : (exists : Bool) (tasks isrs others : List Object) → AllByRecursion (λ (o : Object). priority o ≤ 65535) tasks → AllByRecursion (λ (r : Resource). r.ceiling ≤ 131071) (map (resource tasks isrs) others ++ (if exists then scheduler tasks ∷ [] else []))
ceilings_small exists tasks isrs others h =
    each_append (λ (r : Resource). r.ceiling ≤ 131071) (map (resource tasks isrs) others) (if exists then scheduler tasks ∷ [] else [])
    (each_map (λ (r : Resource). r.ceiling ≤ 131071) (resource tasks isrs) others (each others))
    (scheduler_small exists tasks h)
  where
    each : (xs : List Object) → AllByRecursion (λ (o : Object). ceiling_beside (interrupt_ceiling o.name isrs) o.name tasks ≤ 131071) xs
    each [] = tt
    each (x ∷ xs) = (beside_small (interrupt_ceiling x.name isrs == 0) x.name tasks h, each xs)

interrupts_of_scheduler : (exists : Bool) (tasks : List Object) → AllByRecursion (λ (r : Resource). r.interrupt_ceiling ≤ 256) (if exists then scheduler tasks ∷ [] else [])
interrupts_of_scheduler true tasks = (omega arith, tt)
interrupts_of_scheduler false tasks = tt

interrupt_ceilings_small : (exists : Bool) (tasks isrs others : List Object) → AllByRecursion (λ (o : Object). priority o ≤ 255) isrs → AllByRecursion (λ (r : Resource). r.interrupt_ceiling ≤ 256) (map (resource tasks isrs) others ++ (if exists then scheduler tasks ∷ [] else []))
interrupt_ceilings_small exists tasks isrs others h =
    each_append (λ (r : Resource). r.interrupt_ceiling ≤ 256) (map (resource tasks isrs) others) (if exists then scheduler tasks ∷ [] else [])
    (each_map (λ (r : Resource). r.interrupt_ceiling ≤ 256) (resource tasks isrs) others (each others))
    (interrupts_of_scheduler exists tasks)
  where
    each : (xs : List Object) → AllByRecursion (λ (o : Object). interrupt_ceiling o.name isrs ≤ 256) xs
    each [] = tt
    each (x ∷ xs) = (interrupt_ceiling_small (filter (names_resource x.name) isrs) (all_filtered (λ (o : Object). priority o ≤ 255) (λ (o : Object). priority o ≤ 255) (names_resource x.name) isrs (λ o t le. le) h), each xs)

-- no name of one list is in the other
abbrev AreApart : List Object → List Object → Type 0
AreApart xs ys = AllByRecursion (λ (n : List ℕ). list_any (bytes_eq n) (map name_of ys) ≡ false) (map name_of xs)

one_more_apart : (x : Object) (xs ys : List Object) → AllByRecursion (λ (n : List ℕ). bytes_eq x.name n ≡ false) (map name_of xs) → AreApart xs ys → AreApart xs (x ∷ ys)
one_more_apart x [] ys h k = tt
one_more_apart x (z ∷ xs) ys h k = ((λ i. (nat_list_eq_equiv.symm z.name x.name ∙ h.0) i || k.0 i), one_more_apart x xs ys h.1 k.1)

isr_step : (isr two one : Bool) (x : Object) (xs ys zs : List Object) → (two ≡ true → one ≡ false) → IsDistinct bytes_eq (map name_of (cond isr (x ∷ xs) xs)) → ((P : List ℕ → Type 0) → AllByRecursion P (map name_of xs) → AllByRecursion P (map name_of ys)) → ((P : List ℕ → Type 0) → AllByRecursion P (map name_of xs) → AllByRecursion P (map name_of zs)) → (IsDistinct bytes_eq (map name_of xs) → AreApart ys zs) → AreApart (cond (isr && two) (x ∷ ys) ys) (cond (isr && one) (x ∷ zs) zs)
isr_step true true true x xs ys zs h d in_ys in_zs f = absurd (true_not_false (h refl))
isr_step true true false x xs ys zs h d in_ys in_zs f = (none-any x.name (map name_of zs) (in_zs (λ (n : List ℕ). bytes_eq x.name n ≡ false) (IsDistinct-head bytes_eq x.name (map name_of xs) d)), f (IsDistinct-tail bytes_eq x.name (map name_of xs) d))
isr_step true false true x xs ys zs h d in_ys in_zs f = one_more_apart x ys zs (in_ys (λ (n : List ℕ). bytes_eq x.name n ≡ false) (IsDistinct-head bytes_eq x.name (map name_of xs) d)) (f (IsDistinct-tail bytes_eq x.name (map name_of xs) d))
isr_step true false false x xs ys zs h d in_ys in_zs f = f (IsDistinct-tail bytes_eq x.name (map name_of xs) d)
isr_step false two one x xs ys zs h d in_ys in_zs f = f d

abbrev has_category : ℕ → Object → Bool
has_category c o = number (codes "CATEGORY") (attr_list o.attrs) 0 == c

two_not_one : (c : ℕ) → (c == 2) ≡ true → (c == 1) ≡ false
two_not_one c e = grind (arith, nat_tests)

isrs_apart : (xs : List Object) → IsDistinct bytes_eq (map name_of (objects_of (codes "ISR") xs)) → AreApart (filter (is_isr Two) xs) (filter (is_isr One) xs)
isrs_apart [] d = tt
isrs_apart (x ∷ xs) d =
    isr_step (is_kind (codes "ISR") x) (has_category 2 x) (has_category 1 x) x (objects_of (codes "ISR") xs) (filter (is_isr Two) xs) (filter (is_isr One) xs) (two_not_one (number (codes "CATEGORY") (attr_list x.attrs) 0)) d
    (λ P. all_kept name_of bytes_eq P (is_kind (codes "ISR")) (has_category 2) xs) (λ P. all_kept name_of bytes_eq P (is_kind (codes "ISR")) (has_category 1) xs) (isrs_apart xs)

each_of : {X : Type 0} {P : X → Type 0} → ((x : X) → P x) → (xs : List X) → AllByRecursion P xs
each_of f [] = tt
each_of f (x ∷ xs) = (f x, each_of f xs)

ordinary_apart : (objects : List Object) → AllByRecursion IsNamed objects → (exists : Bool) → exists ≡ true → list_any (bytes_eq (codes "RES_SCHEDULER")) (map name_of (filter (is_ordinary exists) objects)) ≡ false
ordinary_apart objects named exists e =
    none-any (codes "RES_SCHEDULER") (map name_of (filter (is_ordinary exists) objects))
    (each_map (λ (n : List ℕ). bytes_eq (codes "RES_SCHEDULER") n ≡ false) name_of (filter (is_ordinary exists) objects)
    (all_filtered (λ (o : Object). bytes_eq (codes "RES_SCHEDULER") o.name ≡ false) IsNamed (is_ordinary exists) objects
    (λ o t n. nat_list_eq_equiv.symm (codes "RES_SCHEDULER") o.name ∙ not_both exists (is_called (codes "RES_SCHEDULER") o) e (and_second (is_kind (codes "RESOURCE") o) (not (exists && is_called (codes "RES_SCHEDULER") o)) t))
    named))

cycle_allowed : (low high cycle : ℕ) → (not (cycle == 0) && (nat_lt cycle low || nat_lt high cycle)) ≡ false → IsTrue ((cycle == 0) || (nat_le low cycle && nat_le cycle high))
cycle_allowed low high cycle e = grind (arith, nat_tests)

module _ (objects : List Object) (limits : IsWithinLimits objects) where
  abbrev tasks_of : List Object
  tasks_of = objects_of (codes "TASK") objects

  abbrev counters_of : List Object
  counters_of = objects_of (codes "COUNTER") objects

  action_among : (sets : Bool) (attrs : List Attr) → empty_masks objects ≡ [] → RefersToDeclared objects sets attrs → IsActionAmong (length (map (task (modes objects) (events objects) (resources objects)) tasks_of)) (action_in (names_of (codes "TASK") objects) (events objects) sets attrs)
  action_among true attrs masks refers =
      let at = at_number (task (modes objects) (events objects) (resources objects)) (word (codes "TASK") attrs) tasks_of refers.task in
      let lt = at.below in
      let len = length-map (task (modes objects) (events objects) (resources objects)) tasks_of in
      (omega (arith, lt, len), mask_some (word (codes "EVENT") attrs) (explicit_bits 0 (objects_of (codes "EVENT") objects)) (objects_of (codes "EVENT") objects) masks (refers.event refl))
  action_among false attrs masks refers =
      let at = at_number (task (modes objects) (events objects) (resources objects)) (word (codes "TASK") attrs) tasks_of refers.task in
      let lt = at.below in
      let len = length-map (task (modes objects) (events objects) (resources objects)) tasks_of in
      omega (arith, lt, len)

  alarm_among : (o : Object) → empty_masks objects ≡ [] → IsSoundAlarm objects (attr_list o.attrs) → IsInTime (counter_of objects o) (attr_list o.attrs) → IsAlarmAmong (length (map (task (modes objects) (events objects) (resources objects)) tasks_of)) (map counter counters_of) (alarm (names_of (codes "COUNTER") objects) (names_of (codes "TASK") objects) (modes objects) (events objects) o)
  alarm_among o masks sound in_time =
      let attrs : List Attr = attr_list o.attrs in
      let at : IsAt counter (word (codes "COUNTER") attrs) counters_of = at_number counter (word (codes "COUNTER") attrs) counters_of sound.counter in
      let its : counter_of objects o ≡ attr_list at.object.attrs = ap attrs_of at.found in
      let lt = at.below in
      let len = length-map counter counters_of in
      let late : alarm_time (start attrs) ≤ maximum (attr_list at.object.attrs) = subst (λ (c : List Attr). alarm_time (start attrs) ≤ maximum c) its in_time.time in
      let off : is_off_cycle (attr_list at.object.attrs) (cycle_time (start attrs)) ≡ false = subst (λ (c : List Attr). is_off_cycle c (cycle_time (start attrs)) ≡ false) its in_time.cycle in
      let entry = sym (at.entry no_counter_object) in
      record {
        counter = omega (arith, lt, len);
        action = action_among (says (codes "ACTION") (codes "SETEVENT") attrs) (inner (codes "ACTION") attrs) masks sound.action;
        time = subst (λ (c : CounterObject). alarm_time (start attrs) ≤ c.max) entry late;
        cycle = subst (λ (c : CounterObject). IsTrue (is_cycle_of_object c (cycle_time (start attrs)))) entry (cycle_allowed (minimum (attr_list at.object.attrs)) (maximum (attr_list at.object.attrs)) (cycle_time (start attrs)) off);
      }

-- the activations of a task are allowed
abbrev IsActivated : Object → Type 0
IsActivated o = is_activation (has (codes "EVENT") (attr_list o.attrs)) (activation o) ≡ true

or_false : (a b : Bool) → (a || b) ≡ false → (a ≡ false) × (b ≡ false)
or_false true b e = absurd (true_not_false e)
or_false false b e = (refl, e)

-- a task that names no event has no event bits
no_own : (bits : ℕ) (found : List EventObject) (attrs : List Attr) → has (codes "EVENT") attrs ≡ false → own_bits bits found attrs ≡ bits
no_own bits found [] h = refl
no_own bits found (a ∷ attrs) h =
    let none = or_false (is_named (codes "EVENT") a) (has (codes "EVENT") attrs) h in
    (λ i. own_bits (if none.0 i then bit_or bits (mask_named (word_of a.value) found) else bits) found attrs) ∙ no_own bits found attrs none.1

extended_once : (found : List EventObject) (attrs : List Attr) (n : ℕ) → is_activation (has (codes "EVENT") attrs) n ≡ true → 0 < own_bits 0 found attrs → n ≡ 1
extended_once found attrs n h some =
    elim (true_or_false (has (codes "EVENT") attrs)) [
      | inl t ↦ once n (subst (λ (b : Bool). is_activation b n ≡ true) t h)
      | inr f ↦ let none = no_own 0 found attrs f in absurd (omega (arith, some, none))
    ]

-- the INTERNAL resource that a task names is one of the resources
module _ (resources : List Resource) where
  -- a list goes on from number k
  abbrev GoesOn : ℕ → List Resource → Type 0
  GoesOn k rs = (k + length rs ≡ length resources) × ((i : ℕ) → slice_index_or rs i no_resource_object ≡ slice_index_or resources (k + i) no_resource_object)

  found_or_later : (b : Bool) (k : ℕ) (later : Option ResNo) → (b ≡ true → IsInternalAmong resources (Some (res_no k))) → IsInternalAmong resources later → IsInternalAmong resources (if b then Some (res_no k) else later)
  found_or_later true k later h l = h refl
  found_or_later false k later h l = l

  from_among : (k : ℕ) (n : List ℕ) (rs : List Resource) → GoesOn k rs → IsInternalAmong resources (internal_from k n rs)
  from_among k n [] on = tt
  from_among k n (r ∷ rs) on =
      let count = on.0 in
      let at : r ≡ slice_index_or resources k no_resource_object = let same : k + 0 ≡ k = omega arith in on.1 0 ∙ ap (λ (j : ℕ). slice_index_or resources j no_resource_object) same in
      let rest : (i : ℕ) → slice_index_or rs i no_resource_object ≡ slice_index_or resources (k + 1 + i) no_resource_object = λ i. let same : k + suc i ≡ k + 1 + i = omega arith in on.1 (suc i) ∙ ap (λ (j : ℕ). slice_index_or resources j no_resource_object) same in
      found_or_later (r.internal && bytes_eq r.name n) k (internal_from (k + 1) n rs)
      (λ t. (omega (arith, count), subst (λ (x : Resource). IsTrue x.internal) at (and_first r.internal (bytes_eq r.name n) t)))
      (from_among (k + 1) n rs (omega (arith, count), rest))

  by_among : (a : Attr) → IsInternalAmong resources (internal_by resources a)
  by_among a = elim (true_or_false (is_named (codes "RESOURCE") a)) [
    | inl t ↦ subst (λ (b : Bool). IsInternalAmong resources (if b then internal_from 0 (word_of a.value) resources else None)) (sym t) (from_among 0 (word_of a.value) resources (omega arith, λ i. let same : i ≡ 0 + i = omega arith in ap (λ (j : ℕ). slice_index_or resources j no_resource_object) same))
    | inr f ↦ subst (λ (b : Bool). IsInternalAmong resources (if b then internal_from 0 (word_of a.value) resources else None)) (sym f) tt
  ]

  first_among : (o later : Option ResNo) → IsInternalAmong resources o → IsInternalAmong resources later → IsInternalAmong resources (first_of o later)
  first_among (Some r) later h l = h
  first_among None later h l = l

  internal_among : (attrs : List Attr) → IsInternalAmong resources (internal resources attrs)
  internal_among [] = tt
  internal_among (a ∷ attrs) = first_among (internal_by resources a) (internal resources attrs) (by_among a) (internal_among attrs)

eight : (objects : List Object) → all_repeated_names objects ≡ [] → AllByRecursion (λ (kind : List ℕ). repeated_names kind objects ≡ []) kinds
eight objects e = each_empty (λ (kind : List ℕ). repeated_names kind objects) kinds e

sound_alarms : (t : Tree) → HasNoFault t → AllByRecursion (λ (o : Object). IsSoundAlarm t.objects (attr_list o.attrs)) (objects_of (codes "ALARM") t.objects)
sound_alarms t h =
    let objects : List Object = t.objects in
    let missing = each_empty (found_of missing_in) objects (no_line (found_in missing_in objects) (h O4)) in
    let wrong = each_empty (found_of wrong_in) objects (no_line (found_in wrong_in objects) (h O6)) in
    let dangling = each_empty (found_of (dangling_in objects)) objects (no_line (found_in (dangling_in objects) objects) (h O7)) in
    let other = none_pass is_callback (objects_of (codes "ALARM") objects) (map_empty (line_at (codes "ACTION")) (filter is_callback (objects_of (codes "ALARM") objects)) (no_line (callbacks objects) (h O11))) in
    let found = all_filtered (λ (o : Object). (scope_of o.kind ≡ Some scope.Alarm) × ((found_of missing_in o ≡ []) × ((found_of wrong_in o ≡ []) × (found_of (dangling_in objects) o ≡ [])))) (λ (o : Object). (found_of missing_in o ≡ []) × ((found_of wrong_in o ≡ []) × (found_of (dangling_in objects) o ≡ []))) (is_kind (codes "ALARM")) objects (λ o k q. (kind_scope (codes "ALARM") o k, q)) (all_both _ _ objects missing (all_both _ _ objects wrong dangling)) in
    all_weaker (λ (o : Object). IsSoundAlarm objects (attr_list o.attrs)) (λ (o : Object). ((scope_of o.kind ≡ Some scope.Alarm) × ((found_of missing_in o ≡ []) × ((found_of wrong_in o ≡ []) × (found_of (dangling_in objects) o ≡ [])))) × (is_callback o ≡ false)) (objects_of (codes "ALARM") objects)
    (λ o q.
    let m = own_found missing_in scope.Alarm o q.0.0 q.0.1.0 in
    let w = own_found wrong_in scope.Alarm o q.0.0 q.0.1.1.0 in
    let d = own_found (dangling_in objects) scope.Alarm o q.0.0 q.0.1.1.1 in
    sound_alarm objects o.line (attr_list o.attrs) (sound_list objects scope.Alarm o.line (attr_list o.attrs) m.0 w.0 d.0) m.1 w.1 d.1 q.1)
    (all_both _ _ (objects_of (codes "ALARM") objects) found other)

pub linkable : (t : Tree) → All (λ (o : Object). IsTrue (is_name o.name)) t.objects → HasNoFault t → IsLinkable (system_of t.objects)
linkable t each h =
    let objects : List Object = t.objects in
    let named : AllByRecursion IsNamed objects = recursion_from_All IsNamed objects each in
    let same = eight objects (no_line (all_repeated_names objects) (h O2)) in
    let wrong : found_in wrong_in objects ≡ [] = no_line (found_in wrong_in objects) (h O6) in
    let late : late_times objects ≡ [] = no_line (late_times objects) (h O14) in
    let masks : empty_masks objects ≡ [] = no_line (empty_masks objects) (h O12) in
    let room : beyond_limits objects ≡ [] = no_line (beyond_limits objects) (h O13) in
    let limits = within_limits objects room in
    let tasks : List Object = objects_of (codes "TASK") objects in
    let counters : List Object = objects_of (codes "COUNTER") objects in
    let alarms : List Object = objects_of (codes "ALARM") objects in
    let small = priorities objects wrong in
    let activations : AllByRecursion IsActivated tasks = activated objects (no_line (wrong_activations objects) (h O9)) in
    let some : 0 < length (modes objects) = omega arith in
    let the_alarm : Object → Alarm = alarm (names_of (codes "COUNTER") objects) (names_of (codes "TASK") objects) (modes objects) (events objects) in
    let the_task : Object → TaskObject = task (modes objects) (events objects) (resources objects) in
    let used : ℕ = explicit_bits 0 (objects_of (codes "EVENT") objects) in
    let len_tasks = length-map the_task tasks in
    let isrs : List Object = filter (is_isr Two) objects in
    let small_isrs = isr_priorities objects wrong in
    let len_isrs = length-map isr isrs in
    let len_counters = length-map counter counters in
    let len_alarms = length-map the_alarm alarms in
    let max_tasks = limits.tasks in
    let max_isrs = limits.isrs in
    let max_counters = limits.counters in
    let max_alarms = limits.alarms in
    let ordinary = names_by_test objects named (codes "RESOURCE") (λ (o : Object). not (has_scheduler objects && is_called (codes "RES_SCHEDULER") o)) same.1.1.1.1.1.1.1.0 in
    record {
      known_hooks = known_hooks objects;
      few_tasks = omega (arith, len_tasks, max_tasks);
      few_isrs = omega (arith, len_isrs, max_isrs);
      few_counters = omega (arith, len_counters, max_counters);
      few_alarms = omega (arith, len_alarms, max_alarms);
      few_resources = few_resources objects room;
      few_modes = few_modes objects room;
      some_mode = some;
      task_names = names_of_entries the_task (λ (x : TaskObject). x.name) tasks (λ o. refl) (names_by_kind objects named (codes "TASK") same.1.1.0);
      isr_names = names_of_entries isr (λ (x : IsrObject). x.name) isrs (λ o. refl) (names_by_test objects named (codes "ISR") (has_category 2) same.1.1.1.0);
      counter_names = names_of_entries counter (λ (x : CounterObject). x.name) counters (λ o. refl) (names_by_kind objects named (codes "COUNTER") same.1.1.1.1.0);
      alarm_names = names_of_entries the_alarm (λ (x : Alarm). x.name) alarms (λ o. refl) (names_by_kind objects named (codes "ALARM") same.1.1.1.1.1.0);
      resource_names = with_scheduler (has_scheduler objects) tasks isrs (filter (is_ordinary (has_scheduler objects)) objects) (named_of objects named (is_ordinary (has_scheduler objects))) ordinary.distinct (ordinary_apart objects named (has_scheduler objects));
      mode_names = mode_names objects named same.1.0;
      event_names = subst AreNames (sym (lookup_masks used (objects_of (codes "EVENT") objects))) (names_by_kind objects named (codes "EVENT") same.1.1.1.1.1.1.0);
      category_1_names = names_by_test objects named (codes "ISR") (has_category 1) same.1.1.1.0;
      isrs_apart = All-from_recursion _ _ (each_map (λ (x : IsrObject). list_any (bytes_eq x.name) (map name_of (filter (is_isr One) objects)) ≡ false) isr isrs (unmapped name_of (λ (n : List ℕ). list_any (bytes_eq n) (map name_of (filter (is_isr One) objects)) ≡ false) isrs (isrs_apart objects (distinct_names objects named (codes "ISR") same.1.1.1.0))));
      isr_priorities = All-from_recursion _ _ (each_map (λ (x : IsrObject). x.priority < 256) isr isrs (all_weaker (λ (o : Object). priority o < 256) (λ (o : Object). priority o ≤ 255) isrs (λ o q. omega (arith, q)) small_isrs));
      activations = All-from_recursion _ _ (each_map (λ (x : TaskObject). (1 ≤ x.activation) × (x.activation ≤ 255)) the_task tasks (all_weaker (λ (o : Object). (1 ≤ activation o) × (activation o ≤ 255)) IsActivated tasks (λ o q. in_activations (has (codes "EVENT") (attr_list o.attrs)) (activation o) q) activations));
      extended_once = All-from_recursion _ _ (each_map (λ (x : TaskObject). 0 < x.own.0 → x.activation ≡ 1) the_task tasks (all_weaker (λ (o : Object). 0 < own_bits 0 (events objects) (attr_list o.attrs) → activation o ≡ 1) IsActivated tasks (λ o q. extended_once (events objects) (attr_list o.attrs) (activation o) q) activations));
      internals = All-from_recursion _ _ (each_map (λ (x : TaskObject). IsInternalAmong (resources objects) x.internal) the_task tasks (each_of (λ (o : Object). internal_among (resources objects) (attr_list o.attrs)) tasks));
      task_starts = All-from_recursion _ _ (each_map (λ (x : TaskObject). x.autostart < 2 ^ length (modes objects)) the_task tasks (each_of (λ (o : Object). autostart_below (modes objects) (attr_list o.attrs) some) tasks));
      each_counter = All-from_recursion _ _ (each_map (λ (x : CounterObject). (1 ≤ x.max) × (x.min_cycle ≤ x.max)) counter counters (all_weaker (λ (o : Object). (1 ≤ maximum (attr_list o.attrs)) × (minimum (attr_list o.attrs) ≤ maximum (attr_list o.attrs))) (λ (o : Object). IsMaximum (attr_list o.attrs) × (minimum (attr_list o.attrs) ≤ maximum (attr_list o.attrs))) counters (λ o q. (q.0.0, q.1)) (all_both (λ (o : Object). IsMaximum (attr_list o.attrs)) (λ (o : Object). minimum (attr_list o.attrs) ≤ maximum (attr_list o.attrs)) counters (maxima objects wrong) (minima objects late))));
      each_alarm = All-from_recursion _ _ (each_map (IsAlarmAmong (length (map the_task tasks)) (map counter counters)) the_alarm alarms (all_weaker (λ (o : Object). IsAlarmAmong (length (map the_task tasks)) (map counter counters) (the_alarm o)) (λ (o : Object). IsSoundAlarm objects (attr_list o.attrs) × IsInTime (counter_of objects o) (attr_list o.attrs)) alarms (λ o q. alarm_among objects limits o masks q.0 q.1) (all_both (λ (o : Object). IsSoundAlarm objects (attr_list o.attrs)) (λ (o : Object). IsInTime (counter_of objects o) (attr_list o.attrs)) alarms (sound_alarms t h) (times objects late))));
      alarm_starts = All-from_recursion _ _ (each_map (λ (x : Alarm). x.autostart < 2 ^ length (modes objects)) the_alarm alarms (each_of (λ (o : Object). autostart_below (modes objects) (attr_list o.attrs) some) alarms));
      no_starts = All-from_recursion _ _ (each_map (λ (x : Alarm). x.autostart ≡ 0 → (x.time ≡ 0) × (x.cycle ≡ 0)) the_alarm alarms (each_of (λ (o : Object). no_start (modes objects) (attr_list o.attrs) some) alarms));
      ceilings = All-from_recursion _ _ (ceilings_small (has_scheduler objects) tasks isrs (filter (is_ordinary (has_scheduler objects)) objects) small);
      interrupt_ceilings = All-from_recursion _ _ (interrupt_ceilings_small (has_scheduler objects) tasks isrs (filter (is_ordinary (has_scheduler objects)) objects) small_isrs);
      each_event = All-from_recursion _ _ (all_masked used (objects_of (codes "EVENT") objects) masks);
    }
