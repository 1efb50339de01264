-- What was read is a valid application, with its sites.
use Rattle.std.proofs.Common.{◌≡◌, ℕ, suc, ◌+◌, ◌^◌, ◌<◌, ◌≤◌, Bool, true, false, cond, not, ◌&&◌, ◌||◌, eqb, leb, ltb, List, [], ◌++◌, length, map, get_or, Option, Some, None, All}
use Rattle.std.proofs.Common.{refl, sym, ap, subst, ◌∙◌, arith, inl, inr}
use Rattle.std.proofs.lemmas.{Bool.{and_parts, eqb-true, eq-eqb, ne_eqb, leb-true, ltb-true, not-true, or_cases, or_left, true≢false}, List.{append-nil, Sums.{AllPass-from_list_all}}}
use Rattle.std.specs.{Prelude.{slice_index_or, nat_eq, IsTrue}, List.{list_any, list_all, zip, IsDistinct}}
use Rattle.osek_values.specs.{Names.{AreNames}, Numbers.{res_no}, declared.numbers.ResNo.{ResNo}}
use Rattle.oil_system.specs.declared.objects.{Alarm.{Alarm}, Resource.{Resource}, Action.{Action}}
use Rattle.oil_system.specs.declared.objects.Action.TheVariants as action
use Rattle.osek_values.proofs.Lists.{any_of_map, none_distinct}
use Rattle.osek_standard.specs.declared.{objects.{Task.{Task}, Isr.{Isr}, Counter.{Counter}}, block.{Block.{Block}, Kind.{Kind}}, app.App.{App}}
use Rattle.osek_standard.specs.Validity.{no_block, no_counter, no_resource, meet, owners, is_cycle_of, is_internal, IsAction, IsAlarm, IsValid, IsInternal}
use Rattle.osek_standard.specs.{Versions.{FitsVersion1, NamesNone}, Apps.{tables, is_site, is_site_in}}
use Rattle.osek_standard.specs.declared.block.Kind.TheVariants as kind
use Rattle.image_model.specs.{declared.{site.{Form.{Form}, Known.{Known}, Site.{Site}}, image.Version.{Version}}, Versions.{IsUnknown, SaysNothing, FitsAlone}}
use Rattle.image_model.specs.Sites.{IsForm, IsSiteAt, AreSites}
use Rattle.image_model.specs.CallNames as call
use Rattle.image_model.specs.declared.site.Form.TheVariants as form
use Rattle.image_model.specs.declared.site.Known.TheVariants as known
use Rattle.image_model.specs.declared.image.Version.TheVariants as version
use Rattle.image_fields.specs.declared.parts.{Header.{Header}, Tables.{Tables}}
use Rattle.image_codec.specs.{declared.parts.Parts.{Parts}, Spelling.{form_number, internal_number}, Fits.{FitsTask, FitsAction, FitsKind, FitsParts}}
use Rattle.image_fields.specs.BlockReading.{form_of}
use Rattle.image_fields.specs.TableReading.{is_priority, is_activation, is_internal_number, internal_of, is_other, is_isr_priority, is_interrupt_ceiling}
use Rattle.image_fields.proofs.NameReading.{is_fresh}
use Rattle.image_codec.proofs.{FieldLaws.{is_inside}, TableLaws.{GoodTask, GoodIsr, GoodCounter, GoodAction, GoodAlarm, GoodResource, GoodMode}}
use Rattle.image_codec.proofs.KindLaws.{GoodOperands}
use Rattle.image_codec.proofs.VersionLaws.{IsFurther, IsFurther16, IsProperty}
use Rattle.image_codec.proofs.{FoundLaws.{first_choice}, SiteLaws.{GoodSite}, BlockLaws.{unwayed, GoodBlock}, PartsLaws.{header_of, GoodParts}}
use Rattle.image_codec.proofs.{EachLaws.{each_all, each_distinct, each_named, each_weaker}, WholeTables.{tables_of_parts}}
use Rattle.image_fields.proofs.OwnerTests.{map_same}
use Rattle.image_codec.proofs.Places.{each_at, get_or-zip}
use Rattle.image_fields.proofs.BlockLoop.{length-zip}
use Rattle.image_codec.proofs.BlocksOfGood.{block_owned, task_owner, task_code, isr_owner, isr_code, isr_takes_none, counter_owner, tick_code}

-- ---- forms

form_within : (tasks : ℕ) (f : Form) → form_of tasks (form_number f) ≡ Some f → IsForm tasks f
form_within tasks form.Never e = tt
form_within tasks form.Stay e = tt
form_within tasks (form.Direct None) e = tt
form_within tasks form.General e = tt
form_within tasks (form.Direct (Some x)) e =
    let n = 0x0200 + x.0 in
    elim (first_choice (eqb n 0x0000) form.Never _ (form.Direct (Some x)) e) [
      | inl h ↦ absurd (cc (h.1))
      | inr e1 ↦ elim (first_choice (eqb n 0x0100) form.Stay _ (form.Direct (Some x)) e1) [
        | inl h ↦ absurd (cc (h.1))
        | inr e2 ↦ elim (first_choice (eqb n 0x02ff) (form.Direct None) _ (form.Direct (Some x)) e2) [
          | inl h ↦ absurd (cc (h.1))
          | inr e3 ↦ elim (first_choice (eqb n 0x0300) form.General _ (form.Direct (Some x)) e3) [
            | inl h ↦ absurd (cc (h.1))
            | inr e4 ↦ elim (first_choice (leb 0x0200 n && ltb n (0x0200 + tasks)) _ None (form.Direct (Some x)) e4) [
              | inl h ↦ let below : n < 0x0200 + tasks = ltb-true _ _ (and_parts (leb 0x0200 n) (ltb n (0x0200 + tasks)) h.0).1 in omega (arith, below)
              | inr h ↦ absurd (cc (h))
            ]
          ]
        ]
      ]
    ]

site_of_good : (app : App) (v : Version) (is : Bool) (x : Option Site) → GoodSite v (length app.tasks) is x → IsSiteAt app is x
site_of_good app v is None good = ap not good
site_of_good app v is (Some s) good = (good.0, form_within (length app.tasks) s.form good.1.0.0)

-- version 1 says nothing of a status
unknown_by : (k : Known) → k ≡ known.Any → IsUnknown k
unknown_by k e = subst IsUnknown (sym e) tt

says_nothing : (tasks : ℕ) (is : Bool) (x : Option Site) → GoodSite version.One tasks is x → SaysNothing x
says_nothing tasks is None good = tt
says_nothing tasks is (Some s) good = unknown_by s.known good.1.1

alone_by : (v : Version) (app : App) (sites : List (Option Site)) → (v ≡ version.One → FitsVersion1 (tables app)) → (v ≡ version.One → All SaysNothing sites) → FitsAlone v app sites
alone_by version.One app sites h k = record { tables = h refl; unknown = k refl }
alone_by version.Two app sites h k = tt

-- ---- activations, and INTERNAL resources

activation_by : (n : ℕ) (none : Bool) → n < 256 → cond none (ltb 0 n) (eqb n 1) ≡ true → (1 ≤ n) × (n ≤ 255)
activation_by n true small e = let some = ltb-true 0 n e in (omega (arith, some), omega (arith, small))
activation_by n false small e = let one = eqb-true n 1 e in (omega (arith, one), omega (arith, one))

activation_range : (v : Version) (own n : ℕ) → IsFurther v 1 (is_activation own) n → (1 ≤ n) × (n ≤ 255)
activation_range version.One own n e = let once : n ≡ 1 = e in (omega (arith, once), omega (arith, once))
activation_range version.Two own n good = activation_by n (eqb own 0) good.0 good.1

activated_once : (v : Version) (own n : ℕ) → IsFurther v 1 (is_activation own) n → 0 < own → n ≡ 1
activated_once version.One own n e some = e
activated_once version.Two own n good some =
    let extended : eqb own 0 ≡ false = ne_eqb own 0 (λ e. omega (arith, e, some)) in
    eqb-true n 1 (sym (ap (λ (b : Bool). cond b (ltb 0 n) (eqb n 1)) extended) ∙ good.1)

-- a number that stands for a resource isn't that of none
not_none : (none : Bool) (r : ResNo) → cond none None (Some (res_no r.0)) ≡ Some r → none ≡ false
not_none true r e = absurd cc
not_none false r e = refl

names_none : (o : Option ResNo) → internal_of (internal_number o) ≡ o → internal_number o ≡ 0xff → NamesNone o
names_none None again e = tt
names_none (Some r) again e = true≢false (sym (eq-eqb r.0 0xff e) ∙ not_none (eqb r.0 0xff) r again)

module _ (tasks : List Task) (resources : List Resource) where
  -- the INTERNAL resource of a number that a task names is there, and is INTERNAL
  internal_by : (v : Version) (r : ResNo) → internal_of r.0 ≡ Some r → IsFurther v 0xff (is_internal_number (length resources)) r.0
      → (r.0 < length resources → IsProperty v tasks r.0 (is_internal resources r.0)) → (list_all (λ (x : Task). is_other r.0 x.internal) tasks ≡ true → ⊥)
      → (r.0 < length resources) × IsTrue (is_internal resources r.0)
  internal_by version.One r again e property named = absurd (true≢false (sym (eq-eqb r.0 0xff e) ∙ not_none (eqb r.0 0xff) r again))
  internal_by version.Two r again good property named =
      let some : eqb r.0 0xff ≡ false = not_none (eqb r.0 0xff) r again in
      let below : r.0 < length resources = ltb-true _ _ (sym (ap (λ (b : Bool). b || ltb r.0 (length resources)) some) ∙ good.1) in (
        below,
        elim (or_cases (is_internal resources r.0) (list_all (λ (x : Task). is_other r.0 x.internal) tasks) (property below).1) [
          | inl h ↦ h
          | inr h ↦ absurd (named h)
        ],
      )

-- ---- priorities of ISRs, and ceilings for interrupts

isr_priority_range : (v : Version) (n : ℕ) → IsFurther v 0 is_isr_priority n → n < 256
isr_priority_range version.One n e = let lowest : n ≡ 0 = e in omega (arith, lowest)
isr_priority_range version.Two n good = good.0

interrupt_ceiling_range : (v : Version) (n : ℕ) → IsFurther16 v 0 is_interrupt_ceiling n → n ≤ 256
interrupt_ceiling_range version.One n e = let none : n ≡ 0 = e in omega (arith, none)
interrupt_ceiling_range version.Two n good = leb-true n 256 good.1

-- ---- alarms

start_time_within : (c : Counter) (autostart time : ℕ) (none : Bool) → cond none (eqb time 0) (leb time c.max) ≡ true → time ≤ c.max
start_time_within c autostart time true e = omega (arith, eqb-true time 0 e)
start_time_within c autostart time false e = leb-true _ _ e

start_cycle_fits : (c : Counter) (cycle : ℕ) (none : Bool) → cond none (eqb cycle 0) (is_cycle_of c cycle) ≡ true → is_cycle_of c cycle ≡ true
start_cycle_fits c cycle true e = or_left (eqb cycle 0) _ e
start_cycle_fits c cycle false e = e

start_none : (none test : Bool) (n : ℕ) → none ≡ true → cond none (eqb n 0) test ≡ true → n ≡ 0
start_none true test n e h = eqb-true n 0 h
start_none false test n e h = absurd cc

fits_kind : (t : Tables) (b : ℕ) (k : Kind) → GoodOperands t b (unwayed k) → FitsKind k
fits_kind t b (kind.Work n) g = g.0
fits_kind t b (kind.Call (call.SetEvent x m)) g = g.1.0
fits_kind t b (kind.Call (call.Mask k m)) g = g.0
fits_kind t b (kind.Call (call.Arm k a i c)) g = (g.1.0, g.1.1)
fits_kind t b k g = tt

action_named : (n : Header) (p : Parts) (x : Action) → n.tasks ≡ length p.tables.tasks → GoodAction n x → IsAction (tables_of_parts p) x
action_named n p (action.ActivateTask x) e g = let below = ltb-true _ _ g.task in omega (arith, below, e)
action_named n p (action.SetEvent x m) e g = let below = ltb-true _ _ g.task in (omega (arith, below, e), ltb-true _ _ g.events)

action_fits : (n : Header) (x : Action) → GoodAction n x → FitsAction x
action_fits n (action.ActivateTask x) g = tt
action_fits n (action.SetEvent x m) g = g.events_fit

abbrev GoodCode : ℕ → ℕ → ℕ → Type 0
GoodCode blocks first count = is_inside blocks first count ≡ true

some_of : (blocks first count : ℕ) → GoodCode blocks first count → 0 < count
some_of blocks first count e = ltb-true _ _ (and_parts (ltb 0 count) (leb (first + count) blocks) e).0

inside_of : (blocks first count : ℕ) → GoodCode blocks first count → first + count ≤ blocks
inside_of blocks first count e = leb-true _ _ (and_parts (ltb 0 count) (leb (first + count) blocks) e).1

few_below : (limit n : ℕ) → ltb n (suc limit) ≡ true → n ≤ limit
few_below limit n e = let below = ltb-true n (suc limit) e in omega (arith, below)

module _ (p : Parts) (good : GoodParts p) where
  abbrev t : Tables
  t = p.tables

  abbrev n : Header
  n = header_of p

  abbrev blocks : List Block
  blocks = p.blocks

  block_fact : (b : ℕ) (d : Block) (e : Option Site) → b < length blocks → GoodBlock t (length blocks) b p.version (get_or blocks b d, get_or p.sites b e)
  block_fact b d e lt =
      subst (GoodBlock t (length blocks) b p.version) (get_or-zip blocks p.sites b d e good.same lt)
      (each_at (λ k. GoodBlock t (length blocks) k p.version) (zip blocks p.sites) good.blocks.1 b (d, e) (omega (arith, lt, length-zip blocks p.sites good.same)))

  tasks_inside : All (λ (x : Task). GoodCode (length blocks) x.first.0 x.count) t.tasks
  tasks_inside = each_all (GoodTask n) (λ (x : Task). GoodCode (length blocks) x.first.0 x.count) (λ e x g. g.code.inside) t.tasks good.tables.tasks.1

  isrs_inside : All (λ (x : Isr). GoodCode (length blocks) x.first.0 x.count) t.isrs
  isrs_inside = each_all (GoodIsr n t.tasks) (λ (x : Isr). GoodCode (length blocks) x.first.0 x.count) (λ e x g. g.code.inside) t.isrs good.tables.isrs.1

  counters_inside : All (λ (x : Counter). GoodCode (length blocks) x.first.0 x.count) t.counters
  counters_inside = each_all (GoodCounter n t.tasks t.isrs) (λ (x : Counter). GoodCode (length blocks) x.first.0 x.count) (λ e x g. g.code.inside) t.counters good.tables.counters.1

  abbrev ranges_t : List (ℕ × ℕ)
  ranges_t = map (λ (x : Task). (x.first.0, x.count)) t.tasks

  abbrev ranges_i : List (ℕ × ℕ)
  ranges_i = map (λ (x : Isr). (x.first.0, x.count)) t.isrs

  apart_t : IsDistinct meet ranges_t
  apart_t = each_distinct (GoodTask n) meet (λ (x : Task). (x.first.0, x.count)) []
      (λ e x g.
      let earlier = map (λ (y : Task). (y.first.0, y.count)) e in
      let same : owners e [] [] ≡ earlier = append-nil (earlier ++ []) ∙ append-nil earlier in
      ap (list_any (λ o. meet o (x.first.0, x.count))) (sym same) ∙ not-true _ g.code.apart)
      t.tasks (none_distinct meet) good.tables.tasks.1

  apart_i : IsDistinct meet (ranges_t ++ ranges_i)
  apart_i = each_distinct (GoodIsr n t.tasks) meet (λ (x : Isr). (x.first.0, x.count)) ranges_t
      (λ e x g.
      let earlier = ranges_t ++ map (λ (y : Isr). (y.first.0, y.count)) e in
      ap (list_any (λ o. meet o (x.first.0, x.count))) (sym (append-nil earlier)) ∙ not-true _ g.code.apart)
      t.isrs apart_t good.tables.isrs.1

  apart_c : IsDistinct meet (owners t.tasks t.isrs t.counters)
  apart_c = each_distinct (GoodCounter n t.tasks t.isrs) meet (λ (x : Counter). (x.first.0, x.count)) (ranges_t ++ ranges_i)
      (λ e x g. not-true _ g.code.apart) t.counters apart_i good.tables.counters.1

  alarm_is : (x : Alarm) (e : List Alarm) → GoodAlarm n t.counters e x → IsAlarm (tables_of_parts p) x
  alarm_is x e g = record {
    counter = ltb-true _ _ g.counter;
    action = action_named n p x.action refl g.acts;
    time = start_time_within (slice_index_or t.counters x.counter.0 no_counter) x.autostart x.time (eqb x.autostart 0) g.time;
    cycle = start_cycle_fits (slice_index_or t.counters x.counter.0 no_counter) x.cycle (eqb x.autostart 0) g.cycle;
  }

  -- what a task says of its INTERNAL resource
  abbrev SaysInternal : Option ResNo → Type 0
  SaysInternal o = IsFurther p.version 0xff (is_internal_number (length t.resources)) (internal_number o) × (internal_of (internal_number o) ≡ o)

  says_internal : All (λ (x : Task). SaysInternal x.internal) t.tasks
  says_internal = each_all (GoodTask n) (λ (x : Task). SaysInternal x.internal) (λ e x g. (g.internal, g.internal_again)) t.tasks good.tables.tasks.1

  has_property : (r : ℕ) → r < length t.resources → IsProperty p.version t.tasks r (is_internal t.resources r)
  has_property r lt =
      each_at (λ (k : ℕ) (x : Resource). IsProperty p.version t.tasks k x.internal) t.resources
      (each_weaker (GoodResource p.version t.tasks) (λ (e : List Resource) (x : Resource). IsProperty p.version t.tasks (length e) x.internal) (λ e x g. g.property) [] t.resources good.tables.resources.1) r no_resource lt

  internal_is : (k : ℕ) (d : Task) → k < length t.tasks → (o : Option ResNo) → (get_or t.tasks k d).internal ≡ o → IsInternal (tables_of_parts p) o
  internal_is k d lt None is = tt
  internal_is k d lt (Some r) is =
      let says : SaysInternal (Some r) = subst SaysInternal is (says_internal k d lt) in
      internal_by t.tasks t.resources p.version r says.1 says.0 (has_property r.0)
      (λ all. true≢false (sym (AllPass-from_list_all (λ (x : Task). is_other r.0 x.internal) t.tasks all k d lt) ∙ ap (is_other r.0) is ∙ ap not (eq-eqb r.0 r.0 refl)))

  pub valid_parts : IsValid (tables_of_parts p)
  valid_parts = record {
    known_hooks = ltb-true _ _ good.header.hooks.1;
    few_tasks = few_below 16 _ good.header.tasks.1;
    few_isrs = few_below 8 _ good.header.isrs.1;
    few_counters = few_below 8 _ good.header.counters.1;
    few_alarms = few_below 16 _ good.header.alarms.1;
    few_resources = few_below 8 _ good.header.resources.1;
    few_modes = leb-true _ _ (and_parts (ltb 0 (length t.modes)) (leb (length t.modes) 8) good.header.modes.1).1;
    some_mode = ltb-true _ _ (and_parts (ltb 0 (length t.modes)) (leb (length t.modes) 8) good.header.modes.1).0;
    few_blocks = leb-true _ _ good.header.blocks.1;
    task_names = each_named (GoodTask n) (λ (x : Task). x.name) (λ e x g. g.fresh) t.tasks good.tables.tasks.1;
    isr_names = each_named (GoodIsr n t.tasks) (λ (x : Isr). x.name) (λ e x g. g.fresh) t.isrs good.tables.isrs.1;
    counter_names = each_named (GoodCounter n t.tasks t.isrs) (λ (x : Counter). x.name) (λ e x g. g.fresh) t.counters good.tables.counters.1;
    alarm_names = each_named (GoodAlarm n t.counters) (λ (x : Alarm). x.name) (λ e x g. g.fresh) t.alarms good.tables.alarms.1;
    resource_names = each_named (GoodResource n.version t.tasks) (λ (x : Resource). x.name) (λ e x g. g.fresh) t.resources good.tables.resources.1;
    mode_names = subst AreNames (map_same t.modes)
        (each_named GoodMode (λ (x : List ℕ). x) (λ e x g. subst (λ ms. is_fresh ms x ≡ true) (sym (map_same e)) g) t.modes good.tables.modes.1);
    each_task = λ k d lt. let code = tasks_inside k d lt in task_owner p good.same block_fact k d lt (some_of _ _ _ code) (inside_of _ _ _ code);
    task_code = λ k d lt. let code = tasks_inside k d lt in task_code p good.same block_fact k d lt (inside_of _ _ _ code);
    task_starts = each_all (GoodTask n) (λ (x : Task). x.autostart < 2 ^ length t.modes) (λ e x g. ltb-true _ _ g.autostart) t.tasks good.tables.tasks.1;
    activations = each_all (GoodTask n) (λ (x : Task). (1 ≤ x.activation) × (x.activation ≤ 255)) (λ e x g. activation_range n.version x.own.0 x.activation g.activation) t.tasks good.tables.tasks.1;
    extended_once = each_all (GoodTask n) (λ (x : Task). 0 < x.own.0 → x.activation ≡ 1) (λ e x g. activated_once n.version x.own.0 x.activation g.activation) t.tasks good.tables.tasks.1;
    internals = λ k d lt. internal_is k d lt (get_or t.tasks k d).internal refl;
    each_isr = λ k d lt. let code = isrs_inside k d lt in isr_owner p good.same block_fact k d lt (some_of _ _ _ code) (inside_of _ _ _ code);
    isr_code = λ k d lt. let code = isrs_inside k d lt in isr_code p good.same block_fact k d lt (inside_of _ _ _ code);
    isr_priorities = each_all (GoodIsr n t.tasks) (λ (x : Isr). x.priority < 256) (λ e x g. isr_priority_range n.version x.priority g.priority) t.isrs good.tables.isrs.1;
    each_counter = λ k d lt.
        let code = counters_inside k d lt in (
          each_all (GoodCounter n t.tasks t.isrs) (λ (x : Counter). 1 ≤ x.max) (λ e x g. ltb-true _ _ g.max_some) t.counters good.tables.counters.1 k d lt,
          counter_owner p good.same block_fact k d lt (some_of _ _ _ code) (inside_of _ _ _ code),
        );
    min_cycles = each_all (GoodCounter n t.tasks t.isrs) (λ (x : Counter). x.min_cycle ≤ x.max) (λ e x g. leb-true _ _ g.min_within) t.counters good.tables.counters.1;
    tick_code = λ c lt. let code = counters_inside c no_counter lt in tick_code p good.same block_fact c no_counter lt (some_of _ _ _ code) (inside_of _ _ _ code);
    each_alarm = each_all (GoodAlarm n t.counters) (IsAlarm (tables_of_parts p)) (λ e x g. alarm_is x e g) t.alarms good.tables.alarms.1;
    alarm_starts = each_all (GoodAlarm n t.counters) (λ (x : Alarm). x.autostart < 2 ^ length t.modes) (λ e x g. ltb-true _ _ g.autostart) t.alarms good.tables.alarms.1;
    no_starts = each_all (GoodAlarm n t.counters) (λ (x : Alarm). x.autostart ≡ 0 → (x.time ≡ 0) × (x.cycle ≡ 0))
        (λ e x g none. (start_none (eqb x.autostart 0) _ x.time (eq-eqb x.autostart 0 none) g.time, start_none (eqb x.autostart 0) _ x.cycle (eq-eqb x.autostart 0 none) g.cycle)) t.alarms good.tables.alarms.1;
    ceilings = each_all (GoodResource n.version t.tasks) (λ (x : Resource). x.ceiling ≤ 131071) (λ e x g. leb-true _ _ g.ceiling) t.resources good.tables.resources.1;
    interrupt_ceilings = each_all (GoodResource n.version t.tasks) (λ (x : Resource). x.interrupt_ceiling ≤ 256) (λ e x g. interrupt_ceiling_range n.version x.interrupt_ceiling g.interrupt_ceiling) t.resources good.tables.resources.1;
    apart = apart_c;
    owned = block_owned p good.same block_fact;
  }

  version_1_parts : p.version ≡ version.One → FitsVersion1 (tables_of_parts p)
  version_1_parts one = record {
    priorities = each_distinct (GoodTask n) nat_eq (λ (x : Task). x.priority) []
        (λ e x g. any_of_map (λ k. nat_eq k x.priority) (λ (y : Task). y.priority) e ∙ not-true _ (subst (λ (v : Version). is_priority v e x.priority ≡ true) one g.priority)) t.tasks (none_distinct nat_eq) good.tables.tasks.1;
    activations = each_all (GoodTask n) (λ (x : Task). x.activation ≡ 1) (λ e x g. subst (λ (v : Version). IsFurther v 1 (is_activation x.own.0) x.activation) one g.activation) t.tasks good.tables.tasks.1;
    properties = each_all (GoodResource n.version t.tasks) (λ (x : Resource). IsTrue (not x.internal))
        (λ e x g. ap not (subst (λ (v : Version). IsProperty v t.tasks (length e) x.internal) one g.property)) t.resources good.tables.resources.1;
    internals = each_all (GoodTask n) (λ (x : Task). NamesNone x.internal)
        (λ e x g. names_none x.internal g.internal_again (subst (λ (v : Version). IsFurther v 0xff (is_internal_number (length t.resources)) (internal_number x.internal)) one g.internal)) t.tasks good.tables.tasks.1;
    isr_priorities = each_all (GoodIsr n t.tasks) (λ (x : Isr). x.priority ≡ 0) (λ e x g. subst (λ (v : Version). IsFurther v 0 is_isr_priority x.priority) one g.priority) t.isrs good.tables.isrs.1;
    isr_resources = λ k d lt. isr_takes_none p good.same block_fact k d lt one (inside_of _ _ _ (isrs_inside k d lt));
    interrupt_ceilings = each_all (GoodResource n.version t.tasks) (λ (x : Resource). x.interrupt_ceiling ≡ 0)
        (λ e x g. subst (λ (v : Version). IsFurther16 v 0 is_interrupt_ceiling x.interrupt_ceiling) one g.interrupt_ceiling) t.resources good.tables.resources.1;
  }

  pub alone_parts : (app : App) → tables app ≡ tables_of_parts p → FitsAlone p.version app p.sites
  alone_parts app same =
      alone_by p.version app p.sites (λ one. subst FitsVersion1 (sym same) (version_1_parts one)) (λ one b d lt.
      let below : b < length blocks = omega (arith, lt, good.same) in
      let is = is_site_in t.tasks b (get_or blocks b no_block).kind in
      says_nothing (length t.tasks) is (get_or p.sites b d)
      (subst (λ (v : Version). GoodSite v (length t.tasks) is (get_or p.sites b d)) one (block_fact b no_block d below).site))

  pub fits_parts : FitsParts t.tasks t.counters t.alarms blocks
  fits_parts = record {
    each_task = each_all (GoodTask n) FitsTask (λ e x g. record { priority = g.priority_fits; own = g.own_fits }) t.tasks good.tables.tasks.1;
    each_counter = each_all (GoodCounter n t.tasks t.isrs) (λ (x : Counter). x.max < 2 ^ 32) (λ e x g. g.max_fits) t.counters good.tables.counters.1;
    each_alarm = each_all (GoodAlarm n t.counters) (λ (x : Alarm). FitsAction x.action) (λ e x g. action_fits n x.action g.acts) t.alarms good.tables.alarms.1;
    each_block = λ b d lt. let f = block_fact b d None lt in record { line = f.line; kind = fits_kind t b (get_or blocks b d).kind f.filled.operands };
  }

  pub sites_parts : (app : App) → app.tasks ≡ t.tasks → app.blocks ≡ blocks → AreSites app p.sites
  sites_parts app same_tasks same_blocks = record {
    count = sym good.same ∙ ap length (sym same_blocks);
    each = λ b lt.
        let below : b < length blocks = omega (arith, lt, ap length same_blocks) in
        let f = (block_fact b no_block None below).site in
        let is : is_site app b ≡ is_site_in t.tasks b (get_or blocks b no_block).kind = ap (λ (xs : List Task). is_site_in xs b (get_or app.blocks b no_block).kind) same_tasks ∙ ap (λ (xs : List Block). is_site_in t.tasks b (get_or xs b no_block).kind) same_blocks in
        site_of_good app p.version (is_site app b) (get_or p.sites b None)
        (subst (λ (k : ℕ). GoodSite p.version k (is_site app b) (get_or p.sites b None)) (ap (λ (xs : List Task). length xs) (sym same_tasks))
        (subst (λ (e : Bool). GoodSite p.version (length t.tasks) e (get_or p.sites b None)) (sym is) f));
  }
