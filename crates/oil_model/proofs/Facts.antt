-- What holds of the objects where the rules are kept.
use Rattle.std.proofs.Common.{◌≡◌, ℕ, ◌≤◌, ◌⊎◌, inl, inr, ⊎_elim, List, [], ◌∷◌, ◌++◌, map, Bool, true, false, refl, sym, ap, ◌∙◌, subst, arith}
use Rattle.std.specs.{Prelude.{Option, Some, filter, cond, not, ◌&&◌, nat_le, nat_lt, codes, find}, List.{flat_map, AllByRecursion}, Str.{bytes_eq}}
use Rattle.std.proofs.lemmas.{Bool.{and_parts}, Bool.Decides.{nat_tests}, Slice.Eq.{bytes_eq-Decides}}
use Rattle.oil_tree.specs.AttrLists.{attr_list}
use Rattle.oil_tree.specs.declared.tree.{Attr.{Attr}, Object.{Object}, Value.{Value, TheVariants.{Word, Quoted, Numeric}}, Sign.TheVariants.{Bare, Plus, Minus}}
use Rattle.oil_model.specs.declared.table.{Scope.{Scope}, Presence.{Presence, TheVariants.{Required, Optional}}, Entry.{Entry}}
use Rattle.oil_model.specs.declared.table.Scope.TheVariants as scope
use Rattle.oil_model.specs.{declared.{domain.Domain.TheVariants.{Number}, objects.Category.TheVariants.{Two}}, Table.{scope_of, entry_of}, Lists.{found_at, found_of, found_in, found_below}}
use Rattle.oil_model.specs.LookUp.{has, number, number_at, number_or, first_named, attr_line}
use Rattle.oil_model.specs.Objects.{is_kind, is_isr, objects_of, is_called, attrs_of, attrs_named, priority, activation, maximum, minimum, alarm_time, cycle_time, start, line_at}
use Rattle.oil_model.specs.Rules.{forbids, is_wrong, wrong_in, is_activation, is_wrongly_activated, wrong_activations, is_reversed, is_off_cycle, late_times_of, late_times, counter_of}
use Rattle.oil_model.proofs.Clean.{left_empty, right_empty, map_empty, mark_empty, none_pass, each_empty, all_filtered, all_weaker}

pub true_or_false : (b : Bool) → (b ≡ true) ⊎ (b ≡ false)
true_or_false true = inl refl
true_or_false false = inr refl

pub not_false : (b : Bool) → not b ≡ false → b ≡ true
not_false true e = refl
not_false false e = absurd cc

-- what is found in the lists of an object, by its scope
pub own_found : (found : Scope → ℕ → List Attr → List ℕ) (s : Scope) (o : Object) → scope_of o.kind ≡ Some s → found_of found o ≡ [] → (found s o.line (attr_list o.attrs) ≡ []) × AllByRecursion (λ (a : Attr). found_below found s a ≡ []) (attr_list o.attrs)
own_found found s o k e =
    let at : found s o.line (attr_list o.attrs) ++ flat_map (found_below found s) (attr_list o.attrs) ≡ [] = subst (λ (q : Option Scope). found_at found o q ≡ []) k e in
    (left_empty (found s o.line (attr_list o.attrs)) (flat_map (found_below found s) (attr_list o.attrs)) at, each_empty (found_below found s) (attr_list o.attrs) (right_empty (found s o.line (attr_list o.attrs)) (flat_map (found_below found s) (attr_list o.attrs)) at))

pub kind_scope : (kind : List ℕ) (o : Object) → is_kind kind o ≡ true → scope_of o.kind ≡ scope_of kind
kind_scope kind o t = ap scope_of ((bytes_eq-Decides o.kind kind).0 t)

-- no attribute of a list is wrong
abbrev pub NoneWrong : Scope → List Attr → Type 0
NoneWrong s attrs = AllByRecursion (λ (a : Attr). is_wrong s a ≡ false) attrs

pub none_wrong : (s : Scope) (line : ℕ) (attrs : List Attr) → wrong_in s line attrs ≡ [] → NoneWrong s attrs
none_wrong s line attrs e = none_pass (is_wrong s) attrs (map_empty attr_line (filter (is_wrong s) attrs) e)

-- the own attributes of the objects of a kind
pub none_wrong_of : (kind : List ℕ) (s : Scope) (objects : List Object) → scope_of kind ≡ Some s → found_in wrong_in objects ≡ [] → AllByRecursion (λ (o : Object). NoneWrong s (attr_list o.attrs)) (objects_of kind objects)
none_wrong_of kind s objects k e =
    all_filtered (λ (o : Object). NoneWrong s (attr_list o.attrs)) (λ (o : Object). found_of wrong_in o ≡ []) (is_kind kind) objects (λ o t h. none_wrong s o.line (attr_list o.attrs) (own_found wrong_in s o (kind_scope kind o t ∙ k) h).0) (each_empty (found_of wrong_in) objects e)

both_hold : (low high v : ℕ) → not (nat_le low v && nat_le v high) ≡ false → (low ≤ v) × (v ≤ high)
both_hold low high v e = (grind (arith, nat_tests), grind (arith, nat_tests))

in_range : (low high d : ℕ) (p : Presence) (value : Value) → low ≤ d → d ≤ high → forbids (Some (record { domain = Number low high; presence = p })) value ≡ false → (low ≤ number_or d value) × (number_or d value ≤ high)
in_range low high d p (Word w) le ge e = (le, ge)
in_range low high d p (Quoted t) le ge e = (le, ge)
in_range low high d p (Numeric Bare v) le ge e = both_hold low high v e
in_range low high d p (Numeric Plus v) le ge e = absurd cc
in_range low high d p (Numeric Minus v) le ge e = absurd cc

-- a number that the table bounds
pub number_in_range : (s : Scope) (n : List ℕ) (low high d : ℕ) (p : Presence) (attrs : List Attr) → entry_of s n ≡ Some (record { domain = Number low high; presence = p }) → low ≤ d → d ≤ high → NoneWrong s attrs → (low ≤ number n attrs d) × (number n attrs d ≤ high)
number_in_range s n low high d p [] e le ge h = (le, ge)
number_in_range s n low high d p (a ∷ attrs) e le ge h =
    ⊎_elim
    (λ t.
    let entry : entry_of s a.name ≡ Some (record { domain = Number low high; presence = p }) = ap (entry_of s) ((bytes_eq-Decides a.name n).0 t) ∙ e in
    let allowed : forbids (Some (record { domain = Number low high; presence = p })) a.value ≡ false = subst (λ (q : Option Entry). forbids q a.value ≡ false) entry h.0 in
    subst (λ (b : Bool). (low ≤ number_at d (cond b (Some a) (first_named n attrs))) × (number_at d (cond b (Some a) (first_named n attrs)) ≤ high)) (sym t) (in_range low high d p a.value le ge allowed))
    (λ f. subst (λ (b : Bool). (low ≤ number_at d (cond b (Some a) (first_named n attrs))) × (number_at d (cond b (Some a) (first_named n attrs)) ≤ high)) (sym f) (number_in_range s n low high d p attrs e le ge h.1))
    (true_or_false (bytes_eq a.name n))

pub priorities : (objects : List Object) → found_in wrong_in objects ≡ [] → AllByRecursion (λ (o : Object). priority o ≤ 65535) (objects_of (codes "TASK") objects)
priorities objects e =
    let none_below : 0 ≤ 0 = omega arith in
    let few : 0 ≤ 65535 = omega arith in
    all_weaker (λ (o : Object). priority o ≤ 65535) (λ (o : Object). NoneWrong scope.Task (attr_list o.attrs)) (objects_of (codes "TASK") objects) (λ o h. (number_in_range scope.Task (codes "PRIORITY") 0 65535 0 Required (attr_list o.attrs) refl none_below few h).1) (none_wrong_of (codes "TASK") scope.Task objects refl e)

-- of the category 2 ISRs
pub isr_priorities : (objects : List Object) → found_in wrong_in objects ≡ [] → AllByRecursion (λ (o : Object). priority o ≤ 255) (filter (is_isr Two) objects)
isr_priorities objects e =
    let none_below : 0 ≤ 0 = omega arith in
    let few : 0 ≤ 255 = omega arith in
    all_filtered (λ (o : Object). priority o ≤ 255) (λ (o : Object). found_of wrong_in o ≡ []) (is_isr Two) objects
    (λ o t h.
    let kind = (and_parts (is_kind (codes "ISR") o) _ t).0 in
    let own = none_wrong scope.Isr o.line (attr_list o.attrs) (own_found wrong_in scope.Isr o (kind_scope (codes "ISR") o kind) h).0 in
    (number_in_range scope.Isr (codes "PRIORITY") 0 255 0 Optional (attr_list o.attrs) refl none_below few own).1)
    (each_empty (found_of wrong_in) objects e)

-- how often a task is activated
pub activated : (objects : List Object) → wrong_activations objects ≡ [] → AllByRecursion (λ (o : Object). is_activation (has (codes "EVENT") (attr_list o.attrs)) (activation o) ≡ true) (objects_of (codes "TASK") objects)
activated objects e =
    all_weaker (λ (o : Object). is_activation (has (codes "EVENT") (attr_list o.attrs)) (activation o) ≡ true) (λ (o : Object). is_wrongly_activated o ≡ false) (objects_of (codes "TASK") objects) (λ o h. not_false _ h)
    (none_pass is_wrongly_activated (objects_of (codes "TASK") objects) (map_empty (line_at (codes "ACTIVATION")) (filter is_wrongly_activated (objects_of (codes "TASK") objects)) e))

pub in_activations : (extended : Bool) (n : ℕ) → is_activation extended n ≡ true → (1 ≤ n) × (n ≤ 255)
in_activations true n e = (grind (arith, nat_tests), grind (arith, nat_tests))
in_activations false n e = (grind (arith, nat_tests), grind (arith, nat_tests))

pub once : (n : ℕ) → is_activation true n ≡ true → n ≡ 1
once n e = grind (arith, nat_tests)

pub few_activations : (objects : List Object) → wrong_activations objects ≡ [] → AllByRecursion (λ (o : Object). activation o ≤ 255) (objects_of (codes "TASK") objects)
few_activations objects e =
    all_weaker (λ (o : Object). activation o ≤ 255) (λ (o : Object). is_activation (has (codes "EVENT") (attr_list o.attrs)) (activation o) ≡ true) (objects_of (codes "TASK") objects) (λ o h. (in_activations (has (codes "EVENT") (attr_list o.attrs)) (activation o) h).1) (activated objects e)

abbrev pub IsMaximum : List Attr → Type 0
IsMaximum attrs = (1 ≤ maximum attrs) × (maximum attrs ≤ 4294967295)

pub maxima : (objects : List Object) → found_in wrong_in objects ≡ [] → AllByRecursion (λ (o : Object). IsMaximum (attr_list o.attrs)) (objects_of (codes "COUNTER") objects)
maxima objects e =
    let low : 1 ≤ 1 = omega arith in
    let high : 1 ≤ 4294967295 = omega arith in
    all_weaker (λ (o : Object). IsMaximum (attr_list o.attrs)) (λ (o : Object). NoneWrong scope.Counter (attr_list o.attrs)) (objects_of (codes "COUNTER") objects) (λ o h. number_in_range scope.Counter (codes "MAXALLOWEDVALUE") 1 4294967295 1 Required (attr_list o.attrs) refl low high h) (none_wrong_of (codes "COUNTER") scope.Counter objects refl e)

-- MINCYCLE is at most MAXALLOWEDVALUE
pub minima : (objects : List Object) → late_times objects ≡ [] → AllByRecursion (λ (o : Object). minimum (attr_list o.attrs) ≤ maximum (attr_list o.attrs)) (objects_of (codes "COUNTER") objects)
minima objects e =
    let reversed = filter is_reversed (objects_of (codes "COUNTER") objects) in
    let none = map_empty (line_at (codes "MINCYCLE")) reversed (left_empty (map (line_at (codes "MINCYCLE")) reversed) (flat_map (late_times_of objects) (objects_of (codes "ALARM") objects)) e) in
    all_weaker (λ (o : Object). minimum (attr_list o.attrs) ≤ maximum (attr_list o.attrs)) (λ (o : Object). is_reversed o ≡ false) (objects_of (codes "COUNTER") objects) (λ o h. grind (arith, nat_tests)) (none_pass is_reversed (objects_of (codes "COUNTER") objects) none)

-- the times of an alarm are in the range of its counter
pub record IsInTime (counter attrs : List Attr) : Type 0 where
  pub time : alarm_time (start attrs) ≤ maximum counter
  pub cycle : is_off_cycle counter (cycle_time (start attrs)) ≡ false

pub times : (objects : List Object) → late_times objects ≡ [] → AllByRecursion (λ (o : Object). IsInTime (counter_of objects o) (attr_list o.attrs)) (objects_of (codes "ALARM") objects)
times objects e =
    let reversed = map (line_at (codes "MINCYCLE")) (filter is_reversed (objects_of (codes "COUNTER") objects)) in
    all_weaker (λ (o : Object). IsInTime (counter_of objects o) (attr_list o.attrs)) (λ (o : Object). late_times_of objects o ≡ []) (objects_of (codes "ALARM") objects)
    (λ o h.
    let not_late : nat_lt (maximum (counter_of objects o)) (alarm_time (start (attr_list o.attrs))) ≡ false = mark_empty _ _ (left_empty _ _ h) in
    record { time = grind (arith, nat_tests); cycle = mark_empty _ _ (right_empty _ _ h) })
    (each_empty (late_times_of objects) (objects_of (codes "ALARM") objects) (right_empty reversed (flat_map (late_times_of objects) (objects_of (codes "ALARM") objects)) e))

-- the counter of a name, where there is one
pub maximum_named : (n : List ℕ) (counters : List Object) → AllByRecursion (λ (o : Object). IsMaximum (attr_list o.attrs)) counters → maximum (attrs_named n counters) ≤ 4294967295
maximum_named n [] h = omega arith
maximum_named n (o ∷ counters) h =
    ⊎_elim
    (λ t. subst (λ (b : Bool). maximum (attrs_of (cond b (Some o) (find (is_called n) counters))) ≤ 4294967295) (sym t) h.0.1)
    (λ f. subst (λ (b : Bool). maximum (attrs_of (cond b (Some o) (find (is_called n) counters))) ≤ 4294967295) (sym f) (maximum_named n counters h.1))
    (true_or_false (is_called n o))

-- a cycle that is in range is small
pub cycle_small : (counter : List Attr) (cycle m : ℕ) → maximum counter ≤ m → is_off_cycle counter cycle ≡ false → cycle ≤ m
cycle_small counter cycle m le e = grind (arith, nat_tests)
