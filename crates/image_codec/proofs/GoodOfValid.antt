-- The parts of each image are good: what is spelled passes every test of reading.
use Rattle.std.proofs.Common.{◌≡◌, ℕ, zero, suc, ◌+◌, ◌^◌, ◌<◌, ◌≤◌, Bool, true, false, cond, ◌&&◌, ◌||◌, eqb, leb, ltb, List, [], ◌∷◌, ◌++◌, length, map, get_or, Option, Some, None, Ok}
use Rattle.std.proofs.Common.{Err, refl, sym, ap, subst, ◌∙◌, append_assoc, arith, inl, inr}
use Rattle.std.proofs.lemmas.Bool.{and_parts, and_from, or_cases, eqb-true, eq-eqb, ne_eqb, leb-true, le-leb, lt-ltb, not-true, not_from_false, true≢false}
use Rattle.std.proofs.lemmas.List.{append-nil, length-append, Elements.{All-get_or}, Sums.{list_all-from_AllPass}}
use Rattle.std.proofs.Math.Seq.{get_or-append_seam}
use Rattle.std.specs.{Prelude.{slice_index_or, nat_eq, not, All, IsTrue}, List.{list_any, list_all, zip, IsDistinct}}
use Rattle.osek_values.specs.{Names.{AreNames}, Numbers.{res_no}, declared.numbers.ResNo.{ResNo}}
use Rattle.osek_values.proofs.Lists.{any_of_map}
use Rattle.oil_system.specs.declared.objects.{Alarm.{Alarm}, Resource.{Resource}, Action.{Action}}
use Rattle.oil_system.specs.declared.objects.Action.TheVariants as action
use Rattle.osek_standard.specs.declared.{objects.{Task.{Task}, Isr.{Isr}, Counter.{Counter}}, app.App.{App}}
use Rattle.osek_standard.specs.Validity.{no_block, no_counter, no_resource, meet, owners, is_cycle_of, is_internal, IsAction, IsAlarm, IsOwner, IsValid, IsInternal}
use Rattle.osek_standard.specs.{Tables.{Tables as AppTables}, Versions.{NamesNone, TakesNone}}
use Rattle.osek_standard.specs.Apps.{tables, is_site_in}
use Rattle.image_model.specs.{declared.{site.Site.{Site}, image.{Image.{Image}, Version.{Version}}}, Sites.{IsSiteAt}, Versions.{FitsAlone, FitsVersion1Alone}}
use Rattle.image_model.specs.declared.image.Version.TheVariants as version
use Rattle.image_fields.specs.declared.{parts.{Header.{Header}, Range.{Range}, Tables.{Tables}}, fault.Fault.{Fault}}
use Rattle.image_codec.specs.{declared.parts.Parts.{Parts}, Spelling.{spelling, internal_number}}
use Rattle.image_fields.specs.TableReading.{is_priority, is_activation, is_internal_number, internal_of, is_other, is_property, is_isr_priority, is_interrupt_ceiling}
use Rattle.image_codec.specs.{Fits.{FitsTask, FitsAction, FitsBlock, FitsFormat}, ImageReading.{parts_at, all_at, parts_of}, Laws.{OneSpelling}}
use Rattle.image_fields.proofs.{Steps.{done_with, ok_is}, NameReading.{is_fresh}}
use Rattle.image_codec.proofs.FieldLaws.{GoodRange}
use Rattle.image_codec.proofs.TableLaws.{GoodTask, GoodIsr, GoodCounter, GoodAction, GoodAlarm, GoodResource, GoodMode, GoodTables, range_of, isr_range_of, counter_range_of}
use Rattle.image_codec.proofs.VersionLaws.{IsFurther, IsFurther16, IsProperty}
use Rattle.image_codec.proofs.{BlockLaws.{Entry, GoodBlock}, PartsLaws.{header_of, parts_law, GoodHeader, GoodParts, spelling_is, all_again}}
use Rattle.image_codec.proofs.{EachLaws.{each_of, here_of_all, here_distinct, here_fresh}, WholeTables.{tables_of_parts}, Places.{get_or-zip}}
use Rattle.image_fields.proofs.OwnerTests.{map_same}
use Rattle.image_fields.proofs.BlockLoop.{length-zip}
use Rattle.image_codec.proofs.{BlocksOfValid.{good_blank, good_filled, good_leads, FitsSite, good_site, says_its_own}, DecodeLaws.{image_ext}}

modes_fit : (m : ℕ) → m ≤ 8 → 2 ^ m ≤ 256
modes_fit zero le = omega arith
modes_fit (suc zero) le = omega arith
modes_fit (suc (suc zero)) le = omega arith
modes_fit (suc (suc (suc zero))) le = omega arith
modes_fit (suc (suc (suc (suc zero)))) le = omega arith
modes_fit (suc (suc (suc (suc (suc zero))))) le = omega arith
modes_fit (suc (suc (suc (suc (suc (suc zero)))))) le = omega arith
modes_fit (suc (suc (suc (suc (suc (suc (suc zero))))))) le = omega arith
modes_fit (suc (suc (suc (suc (suc (suc (suc (suc zero)))))))) le = omega arith
modes_fit (suc (suc (suc (suc (suc (suc (suc (suc (suc m))))))))) le = absurd (omega arith)

below_few : (limit n : ℕ) → limit ≤ 255 → n ≤ limit → (n < 256) × (ltb n (suc limit) ≡ true)
below_few limit n few le = (omega (arith, few, le), lt-ltb n (suc limit) (omega (arith, le)))

start_time_from : (c : Counter) (time : ℕ) (none : Bool) → (none ≡ true → time ≡ 0) → time ≤ c.max → cond none (eqb time 0) (leb time c.max) ≡ true
start_time_from c time true zeros le = eq-eqb time 0 (zeros refl)
start_time_from c time false zeros le = le-leb time c.max le

start_cycle_from : (c : Counter) (cycle : ℕ) (none : Bool) → (none ≡ true → cycle ≡ 0) → is_cycle_of c cycle ≡ true → cond none (eqb cycle 0) (is_cycle_of c cycle) ≡ true
start_cycle_from c cycle true zeros fits = eq-eqb cycle 0 (zeros refl)
start_cycle_from c cycle false zeros fits = fits

cycle_fits : (c : Counter) (cycle : ℕ) → c.max < 2 ^ 32 → is_cycle_of c cycle ≡ true → cycle < 2 ^ 32
cycle_fits c cycle small e =
    elim (or_cases (eqb cycle 0) (leb c.min_cycle cycle && leb cycle c.max) e) [
      | inl h ↦ let none = eqb-true cycle 0 h in omega (arith, none)
      | inr h ↦ let le = leb-true cycle c.max (and_parts (leb c.min_cycle cycle) (leb cycle c.max) h).1 in omega (arith, le, small)
    ]

good_action : (n : Header) (p : Parts) (x : Action) → n.tasks ≡ length p.tables.tasks → length p.tables.tasks ≤ 16 → IsAction (tables_of_parts p) x → FitsAction x → GoodAction n x
good_action n p (action.ActivateTask x) e few names fits = record { task_fits = omega (arith, few, names); task = lt-ltb x.0 n.tasks (omega (arith, names, e)); events_fit = omega arith; events = refl }
good_action n p (action.SetEvent x m) e few names fits = record { task_fits = omega (arith, few, names.0); task = lt-ltb x.0 n.tasks (omega (arith, names.0, e)); events_fit = fits; events = lt-ltb 0 m.0 names.1 }

good_range : (blocks first count : ℕ) (earlier : List (ℕ × ℕ)) (x : Range) → x.first.0 ≡ first → x.count ≡ count → 0 < count → first + count ≤ blocks → blocks ≤ 1056 → list_any (λ o. meet o (x.first.0, x.count)) earlier ≡ false → GoodRange blocks earlier x
good_range blocks first count earlier x is_first is_count some inside few apart = record {
  below = lt-ltb _ _ (omega (arith, is_first, some, inside));
  first_fits = omega (arith, is_first, some, inside, few);
  inside = and_from _ _ (lt-ltb 0 x.count (omega (arith, is_count, some))) (le-leb (x.first.0 + x.count) blocks (omega (arith, is_first, is_count, inside)));
  count_fits = omega (arith, is_count, inside, few);
  apart = not_from_false (list_any (λ o. meet o (x.first.0, x.count)) earlier) apart;
}

fits_site : (app : App) (is : Bool) (x : Option Site) → IsSiteAt app is x → FitsSite (length app.tasks) is x
fits_site app is None h = h
fits_site app is (Some s) h = h

-- ---- what version 2 alone has a place for

good_priority : (v : Version) (app : App) (sites : List (Option Site)) (e : List Task) (k : ℕ) → FitsAlone v app sites
    → (FitsVersion1Alone app sites → list_any (λ (x : Task). nat_eq x.priority k) e ≡ false) → is_priority v e k ≡ true
good_priority version.One app sites e k alone own = not_from_false _ (own alone)
good_priority version.Two app sites e k alone own = refl

good_further : (v : Version) (app : App) (sites : List (Option Site)) (value : ℕ) (test : ℕ → Bool) (k : ℕ) → FitsAlone v app sites
    → (FitsVersion1Alone app sites → k ≡ value) → k < 256 → test k ≡ true → IsFurther v value test k
good_further version.One app sites value test k alone is small passes = is alone
good_further version.Two app sites value test k alone is small passes = (small, passes)

good_further_16 : (v : Version) (app : App) (sites : List (Option Site)) (value : ℕ) (test : ℕ → Bool) (k : ℕ) → FitsAlone v app sites
    → (FitsVersion1Alone app sites → k ≡ value) → k < 2 ^ 16 → test k ≡ true → IsFurther16 v value test k
good_further_16 version.One app sites value test k alone is small passes = is alone
good_further_16 version.Two app sites value test k alone is small passes = (small, passes)

takes_none : (v : Version) (app : App) (sites : List (Option Site)) → FitsAlone v app sites → v ≡ version.One → All (λ (x : Isr). TakesNone (tables app) x.first.0 x.count) app.isrs
takes_none version.One app sites alone one = alone.tables.isr_resources
takes_none version.Two app sites alone one = absurd cc

good_property : (v : Version) (app : App) (sites : List (Option Site)) (tasks : List Task) (r : ℕ) (internal : Bool) → FitsAlone v app sites
    → (FitsVersion1Alone app sites → internal ≡ false) → is_property tasks r internal ≡ true → IsProperty v tasks r internal
good_property version.One app sites tasks r internal alone is passes = is alone
good_property version.Two app sites tasks r internal alone is passes = (tt, passes)

activation_from : (own n : ℕ) (none : Bool) → eqb own 0 ≡ none → 1 ≤ n → (0 < own → n ≡ 1) → cond none (ltb 0 n) (eqb n 1) ≡ true
activation_from own n true e some once = lt-ltb 0 n some
activation_from zero n false e some once = absurd cc
activation_from (suc own) n false e some once = eq-eqb n 1 (once (omega arith))

-- the number of an INTERNAL resource is a byte that passes its test, and stands for the resource
record IsNumbered (resources : List Resource) (o : Option ResNo) : Type 0 where
  pub small : internal_number o < 256
  pub passes : is_internal_number (length resources) (internal_number o) ≡ true
  pub again : internal_of (internal_number o) ≡ o

numbered : (t : AppTables) (o : Option ResNo) → length t.resources ≤ 8 → IsInternal t o → IsNumbered t.resources o
numbered t None few h = record { small = omega arith; passes = refl; again = refl }
numbered t (Some r) few h =
    let none : eqb r.0 0xff ≡ false = ne_eqb r.0 0xff (λ e. omega (arith, e, few, h.0)) in
    record {
      small = omega (arith, few, h.0);
      passes = ap (λ (b : Bool). b || ltb r.0 (length t.resources)) none ∙ lt-ltb r.0 (length t.resources) h.0;
      again = ap (λ (b : Bool). cond b None (Some (res_no r.0))) none;
    }

none_number : (o : Option ResNo) → NamesNone o → internal_number o ≡ 0xff
none_number None h = refl
none_number (Some r) h = absurd h

-- a resource that isn't INTERNAL is no task's INTERNAL one
none_other : (t : AppTables) (r : ℕ) (o : Option ResNo) → is_internal t.resources r ≡ false → IsInternal t o → is_other r o ≡ true
none_other t r None takable h = refl
none_other t r (Some m) takable h =
    not_from_false (eqb m.0 r) (ne_eqb m.0 r (λ e. true≢false (sym h.1 ∙ ap (is_internal t.resources) e ∙ takable)))

property_from : (tasks : List Task) (r : ℕ) (internal : Bool) → (internal ≡ false → list_all (λ (x : Task). is_other r x.internal) tasks ≡ true) → is_property tasks r internal ≡ true
property_from tasks r true h = refl
property_from tasks r false h = h refl

module _ (i : Image) (fits : FitsFormat i) where
  abbrev p : Parts
  p = parts_of i

  abbrev t : Tables
  t = p.tables

  abbrev n : Header
  n = header_of p

  abbrev v : IsValid (tables_of_parts p)
  v = i.app.valid

  abbrev ranges_t : List Task → List (ℕ × ℕ)
  ranges_t xs = map (λ (x : Task). (x.first.0, x.count)) xs

  abbrev ranges_i : List Isr → List (ℕ × ℕ)
  ranges_i xs = map (λ (x : Isr). (x.first.0, x.count)) xs

  abbrev ranges_c : List Counter → List (ℕ × ℕ)
  ranges_c xs = map (λ (x : Counter). (x.first.0, x.count)) xs

  good_header : GoodHeader n
  good_header = record {
    hooks = (omega (arith, v.known_hooks), lt-ltb _ _ v.known_hooks);
    tasks = below_few 16 _ (omega arith) v.few_tasks;
    isrs = below_few 8 _ (omega arith) v.few_isrs;
    counters = below_few 8 _ (omega arith) v.few_counters;
    alarms = below_few 16 _ (omega arith) v.few_alarms;
    resources = below_few 8 _ (omega arith) v.few_resources;
    modes = (omega (arith, v.few_modes), and_from _ _ (lt-ltb 0 _ v.some_mode) (le-leb _ 8 v.few_modes));
    blocks = (omega (arith, v.few_blocks), le-leb _ 1056 v.few_blocks);
  }

  byte_of_modes : (k : ℕ) → k < 2 ^ length t.modes → k < 256
  byte_of_modes k lt = let few = modes_fit (length t.modes) v.few_modes in omega (arith, lt, few)

  task_here : (e : List Task) (x : Task) (l : List Task) → e ++ x ∷ l ≡ t.tasks → GoodTask n e x
  task_here e x l same =
      let f = here_of_all FitsTask t.tasks e x l same fits.each_task in
      let starts = here_of_all (λ (y : Task). y.autostart < 2 ^ length t.modes) t.tasks e x l same v.task_starts in
      let o = here_of_all (λ (y : Task). IsOwner (tables_of_parts p) y.first.0 y.count) t.tasks e x l same v.each_task in
      let all : IsDistinct meet (([] ++ ranges_t t.tasks) ++ (ranges_i t.isrs ++ ranges_c t.counters)) = subst (IsDistinct meet) (append_assoc (ranges_t t.tasks) (ranges_i t.isrs) (ranges_c t.counters)) v.apart in
      let apart = here_distinct meet (λ (y : Task). (y.first.0, y.count)) [] (ranges_i t.isrs ++ ranges_c t.counters) t.tasks e x l same all in
      let earlier : owners e [] [] ≡ ranges_t e = append-nil (ranges_t e ++ []) ∙ append-nil (ranges_t e) in
      let own : FitsVersion1Alone i.app i.sites → list_any (λ (y : Task). nat_eq y.priority x.priority) e ≡ false = (λ alone.
      let priorities : IsDistinct nat_eq (([] ++ map (λ (y : Task). y.priority) t.tasks) ++ []) = subst (IsDistinct nat_eq) (sym (append-nil (map (λ (y : Task). y.priority) t.tasks))) alone.tables.priorities in
      sym (any_of_map (λ k. nat_eq k x.priority) (λ (y : Task). y.priority) e) ∙ here_distinct nat_eq (λ (y : Task). y.priority) [] [] t.tasks e x l same priorities) in
      let active = here_of_all (λ (y : Task). (1 ≤ y.activation) × (y.activation ≤ 255)) t.tasks e x l same v.activations in
      let once = here_of_all (λ (y : Task). 0 < y.own.0 → y.activation ≡ 1) t.tasks e x l same v.extended_once in
      let number : IsNumbered t.resources x.internal =
      numbered (tables_of_parts p) x.internal v.few_resources (here_of_all (λ (y : Task). IsInternal (tables_of_parts p) y.internal) t.tasks e x l same v.internals) in
      record {
        fresh = here_fresh (λ (y : Task). y.name) t.tasks e x l same v.task_names;
        priority_fits = f.priority;
        priority = good_priority i.version i.app i.sites e x.priority i.its_version own;
        own_fits = f.own;
        autostart_fits = byte_of_modes x.autostart starts;
        autostart = lt-ltb _ _ starts;
        code = good_range (length p.blocks) x.first.0 x.count (owners e [] []) (range_of x) refl refl o.some o.inside v.few_blocks (ap (list_any (λ k. meet k (x.first.0, x.count))) earlier ∙ apart);
        activation = good_further i.version i.app i.sites 1 (is_activation x.own.0) x.activation i.its_version
            (λ alone. here_of_all (λ (y : Task). y.activation ≡ 1) t.tasks e x l same alone.tables.activations)
            (omega (arith, active.1)) (activation_from x.own.0 x.activation (eqb x.own.0 0) refl active.0 once);
        internal = good_further i.version i.app i.sites 0xff (is_internal_number (length t.resources)) (internal_number x.internal) i.its_version
            (λ alone. none_number x.internal (here_of_all (λ (y : Task). NamesNone y.internal) t.tasks e x l same alone.tables.internals))
            number.small number.passes;
        internal_again = number.again;
      }

  isr_here : (e : List Isr) (x : Isr) (l : List Isr) → e ++ x ∷ l ≡ t.isrs → GoodIsr n t.tasks e x
  isr_here e x l same =
      let o = here_of_all (λ (y : Isr). IsOwner (tables_of_parts p) y.first.0 y.count) t.isrs e x l same v.each_isr in
      let apart = here_distinct meet (λ (y : Isr). (y.first.0, y.count)) (ranges_t t.tasks) (ranges_c t.counters) t.isrs e x l same v.apart in
      let earlier : owners t.tasks e [] ≡ ranges_t t.tasks ++ ranges_i e = append-nil (ranges_t t.tasks ++ ranges_i e) in
      record {
        fresh = here_fresh (λ (y : Isr). y.name) t.isrs e x l same v.isr_names;
        code = good_range (length p.blocks) x.first.0 x.count (owners t.tasks e []) (isr_range_of x) refl refl o.some o.inside v.few_blocks (ap (list_any (λ k. meet k (x.first.0, x.count))) earlier ∙ apart);
        priority = good_further i.version i.app i.sites 0 is_isr_priority x.priority i.its_version
            (λ alone. here_of_all (λ (y : Isr). y.priority ≡ 0) t.isrs e x l same alone.tables.isr_priorities)
            (here_of_all (λ (y : Isr). y.priority < 256) t.isrs e x l same v.isr_priorities) refl;
      }

  counter_here : (e : List Counter) (x : Counter) (l : List Counter) → e ++ x ∷ l ≡ t.counters → GoodCounter n t.tasks t.isrs e x
  counter_here e x l same =
      let o = here_of_all (λ (y : Counter). (1 ≤ y.max) × IsOwner (tables_of_parts p) y.first.0 y.count) t.counters e x l same v.each_counter in
      let small = here_of_all (λ (y : Counter). y.max < 2 ^ 32) t.counters e x l same fits.each_counter in
      let min = here_of_all (λ (y : Counter). y.min_cycle ≤ y.max) t.counters e x l same v.min_cycles in
      let all : IsDistinct meet (((ranges_t t.tasks ++ ranges_i t.isrs) ++ ranges_c t.counters) ++ []) = subst (IsDistinct meet) (sym (append-nil (owners t.tasks t.isrs t.counters))) v.apart in
      let apart = here_distinct meet (λ (y : Counter). (y.first.0, y.count)) (ranges_t t.tasks ++ ranges_i t.isrs) [] t.counters e x l same all in
      record {
        fresh = here_fresh (λ (y : Counter). y.name) t.counters e x l same v.counter_names;
        max_fits = small;
        max_some = lt-ltb 0 x.max o.0;
        min_fits = omega (arith, min, small);
        min_within = le-leb x.min_cycle x.max min;
        code = good_range (length p.blocks) x.first.0 x.count (owners t.tasks t.isrs e) (counter_range_of x) refl refl o.1.some o.1.inside v.few_blocks apart;
      }

  alarm_here : (e : List Alarm) (x : Alarm) (l : List Alarm) → e ++ x ∷ l ≡ t.alarms → GoodAlarm n t.counters e x
  alarm_here e x l same =
      let o = here_of_all (IsAlarm (tables_of_parts p)) t.alarms e x l same v.each_alarm in
      let starts = here_of_all (λ (y : Alarm). y.autostart < 2 ^ length t.modes) t.alarms e x l same v.alarm_starts in
      let none = here_of_all (λ (y : Alarm). y.autostart ≡ 0 → (y.time ≡ 0) × (y.cycle ≡ 0)) t.alarms e x l same v.no_starts in
      let acts = here_of_all (λ (y : Alarm). FitsAction y.action) t.alarms e x l same fits.each_alarm in
      let of = slice_index_or t.counters x.counter.0 no_counter in
      let small : of.max < 2 ^ 32 = All-get_or (λ (y : Counter). y.max < 2 ^ 32) t.counters x.counter.0 no_counter o.counter fits.each_counter in
      record {
        fresh = here_fresh (λ (y : Alarm). y.name) t.alarms e x l same v.alarm_names;
        counter_fits = omega (arith, o.counter, v.few_counters);
        counter = lt-ltb _ _ o.counter;
        acts = good_action n p x.action refl v.few_tasks o.action acts;
        autostart_fits = byte_of_modes x.autostart starts;
        autostart = lt-ltb _ _ starts;
        time_fits = omega (arith, o.time, small);
        time = start_time_from of x.time (eqb x.autostart 0) (λ h. (none (eqb-true x.autostart 0 h)).0) o.time;
        cycle_fits = cycle_fits of x.cycle small o.cycle;
        cycle = start_cycle_from of x.cycle (eqb x.autostart 0) (λ h. (none (eqb-true x.autostart 0 h)).1) o.cycle;
      }

  resource_here : (e : List Resource) (x : Resource) (l : List Resource) → e ++ x ∷ l ≡ t.resources → GoodResource i.version t.tasks e x
  resource_here e x l same =
      let c = here_of_all (λ (y : Resource). y.ceiling ≤ 131071) t.resources e x l same v.ceilings in
      let interrupts = here_of_all (λ (y : Resource). y.interrupt_ceiling ≤ 256) t.resources e x l same v.interrupt_ceilings in
      let here : is_internal t.resources (length e) ≡ x.internal = ap (λ (rs : List Resource). is_internal rs (length e)) (sym same) ∙ ap (λ (y : Resource). y.internal) (get_or-append_seam e x l no_resource) in
      let others : x.internal ≡ false → list_all (λ (y : Task). is_other (length e) y.internal) t.tasks ≡ true = (λ takable.
      list_all-from_AllPass (λ (y : Task). is_other (length e) y.internal) t.tasks
      (λ k d lt. none_other (tables_of_parts p) (length e) (get_or t.tasks k d).internal (here ∙ takable) (v.internals k d lt))) in
      record {
        fresh = here_fresh (λ (y : Resource). y.name) t.resources e x l same v.resource_names;
        ceiling_fits = omega (arith, c);
        ceiling = le-leb x.ceiling 131071 c;
        property = good_property i.version i.app i.sites t.tasks (length e) x.internal i.its_version
            (λ alone. not-true x.internal (here_of_all (λ (y : Resource). IsTrue (not y.internal)) t.resources e x l same alone.tables.properties))
            (property_from t.tasks (length e) x.internal others);
        interrupt_ceiling = good_further_16 i.version i.app i.sites 0 is_interrupt_ceiling x.interrupt_ceiling i.its_version
            (λ alone. here_of_all (λ (y : Resource). y.interrupt_ceiling ≡ 0) t.resources e x l same alone.tables.interrupt_ceilings)
            (omega (arith, interrupts)) (le-leb x.interrupt_ceiling 256 interrupts);
      }

  mode_here : (e : List (List ℕ)) (x : List ℕ) (l : List (List ℕ)) → e ++ x ∷ l ≡ t.modes → GoodMode e x
  mode_here e x l same =
      subst (λ ms. is_fresh ms x ≡ true) (map_same e) (here_fresh (λ (y : List ℕ). y) t.modes e x l same (subst AreNames (sym (map_same t.modes)) v.mode_names))

  good_tables : GoodTables n t
  good_tables = record {
    tasks = (refl, each_of (GoodTask n) t.tasks task_here);
    isrs = (refl, each_of (GoodIsr n t.tasks) t.isrs isr_here);
    counters = (refl, each_of (GoodCounter n t.tasks t.isrs) t.counters counter_here);
    alarms = (refl, each_of (GoodAlarm n t.counters) t.alarms alarm_here);
    resources = (refl, each_of (GoodResource i.version t.tasks) t.resources resource_here);
    modes = (refl, each_of GoodMode t.modes mode_here);
  }

  good_block : (b : ℕ) → b < length p.blocks → GoodBlock t (length p.blocks) b p.version (get_or p.blocks b no_block, get_or p.sites b None)
  good_block b lt =
      let f = All-get_or FitsBlock p.blocks b no_block lt fits.each_block in
      record {
        blank = good_blank p v b lt (takes_none i.version i.app i.sites i.its_version);
        line = f.line;
        filled = good_filled p v b lt f.kind;
        leads = good_leads p v b lt;
        site = good_site i.version (length t.tasks) (is_site_in t.tasks b (get_or p.blocks b no_block).kind) (get_or p.sites b None) v.few_tasks (fits_site i.app (is_site_in t.tasks b (get_or p.blocks b no_block).kind) (get_or p.sites b None) (i.valid.each b lt))
            (says_its_own i.version i.app i.sites b (omega (arith, lt, i.valid.count)) i.its_version);
      }

  same_lengths : length p.blocks ≡ length p.sites
  same_lengths = sym i.valid.count

  block_here : (e : List Entry) (y : Entry) (l : List Entry) → e ++ y ∷ l ≡ zip p.blocks p.sites → GoodBlock t (length p.blocks) (length e) p.version y
  block_here e y l same =
      let within : length e < length p.blocks = omega (arith, length-append e (y ∷ l), ap length same, length-zip p.blocks p.sites same_lengths) in
      let item : get_or (zip p.blocks p.sites) (length e) (no_block, None) ≡ y = ap (λ ys. get_or ys (length e) (no_block, None)) (sym same) ∙ get_or-append_seam e y l (no_block, None) in
      subst (GoodBlock t (length p.blocks) (length e) p.version) (sym (get_or-zip p.blocks p.sites (length e) no_block None same_lengths within) ∙ item) (good_block (length e) within)

  pub good_of_valid : GoodParts p
  good_of_valid = record {
    header = good_header;
    tables = good_tables;
    blocks = (length-zip p.blocks p.sites same_lengths, each_of (λ (e : List Entry). GoodBlock t (length p.blocks) (length e) p.version) (zip p.blocks p.sites) block_here);
    same = same_lengths;
  }

-- ---- what is spelled is read, and one spelling is of one image

pub read_again : (i : Image) → FitsFormat i → all_at (spelling i) ≡ Ok (parts_of i, [])
read_again i fits = ap all_at (spelling_is i) ∙ all_again (parts_of i) (good_of_valid i fits)

-- bytes that spell an image at their front
at_front : (i : Image) (x : List ℕ) → FitsFormat i → parts_at (spelling i ++ x) ≡ Ok (parts_of i, x)
at_front i x fits = ap (λ (s : List ℕ). parts_at (s ++ x)) (spelling_is i) ∙ parts_law.again (parts_of i) x (good_of_valid i fits)

pub one_spelling_holds : OneSpelling
one_spelling_holds i j x y fits_i fits_j e =
    let both : done_with (parts_of i, x) ≡ done_with (parts_of j, y) = sym (at_front i x fits_i) ∙ ap parts_at e ∙ at_front j y fits_j in
    let same : (parts_of i, x) ≡ (parts_of j, y) = ok_is (parts_of i, x) (parts_of j, y) both in
    (image_ext i j (ap (λ (q : Parts × List ℕ). q.0) same), ap (λ (q : Parts × List ℕ). q.1) same)

-- the image that was read is the one that is spelled so
pub only_image : (bytes : List ℕ) (j : Image) (rest : List ℕ) → all_at bytes ≡ Ok (parts_of j, rest) → (i : Image) → FitsFormat i → spelling i ≡ bytes → j ≡ i
only_image bytes j rest read i fits e =
    let both : done_with (parts_of j, rest) ≡ done_with (parts_of i, []) = sym read ∙ ap all_at (sym e) ∙ read_again i fits in
    image_ext j i (ap (λ (q : Parts × List ℕ). q.0) (ok_is (parts_of j, rest) (parts_of i, []) both))

apart_from_fault : {A : Type 0} (x : A) (f : Fault) → done_with x ≡ Err f → ⊥
apart_from_fault x f e = cc

-- bytes with a fault spell no image
pub no_image : (bytes : List ℕ) (f : Fault) → all_at bytes ≡ Err f → (i : Image) → FitsFormat i → spelling i ≡ bytes → ⊥
no_image bytes f read i fits e = apart_from_fault (parts_of i, []) f (sym (read_again i fits) ∙ ap all_at e ∙ read)
