-- What is so of the blocks that were read: each is fit for whoever has it.
use Rattle.std.proofs.Common.{◌≡◌, ℕ, zero, suc, ◌+◌, ◌-◌, ◌<◌, ◌≤◌, Bool, true, false, ◌&&◌, eqb, leb, ltb, List, [], ◌∷◌, length, get_or, Option, None, refl, sym, ap, subst, ◌∙◌}
use Rattle.std.proofs.Common.{arith}
use Rattle.std.proofs.lemmas.{Bool.{and_parts, and_from, eqb-true, eq-eqb, leb-true, ltb-true}, List.Sums.{AllPass-from_list_all}}
use Rattle.std.specs.{Prelude.{slice_index_or, not}, List.{list_all, list_any}}
use Rattle.osek_standard.specs.declared.{objects.{Task.{Task}, Isr.{Isr}, Counter.{Counter}}, block.{Block.{Block}, Kind.{Kind}}}
use Rattle.osek_standard.specs.Validity.{no_block, IsAmong, is_within, owners, is_own_next, task_may, isr_may, due_of, tick_may, NamesEntries, IsOtherWay, IsOwner, IsTaskCode}
use Rattle.osek_standard.specs.{Validity.{IsIsrCode, IsTickCode}, Versions.{is_for_resource, TakesNone}}
use Rattle.osek_standard.specs.declared.block.Kind.TheVariants as kind
use Rattle.image_model.specs.declared.{site.Site.{Site}, image.Version.{Version}}
use Rattle.image_model.specs.declared.image.Version.TheVariants as version
use Rattle.image_model.specs.CallNames as call
use Rattle.image_fields.specs.declared.parts.Tables.{Tables}
use Rattle.image_codec.specs.declared.parts.Parts.{Parts}
use Rattle.image_fields.specs.BlockReading.{tick_order, where_has, task_range, isr_range, counter_range, isr_may_in, tasks_allow, isrs_allow, counter_allows, counters_allow, is_owned}
use Rattle.image_fields.specs.BlockReading.{is_due_in, is_due}
use Rattle.image_codec.proofs.{KindLaws.{GoodOperands}, BlockLaws.{unwayed, blank_of, GoodWay, LeadsWell, GoodBlock}, WholeTables.{tables_of_parts}}
use Rattle.image_codec.proofs.Places.{numbered_at, within_among, where_among}

pub same_within : {X : Type 0} (xs : List X) (i : ℕ) (d e : X) → i < length xs → get_or xs i d ≡ get_or xs i e
same_within [] i d e lt = absurd (omega arith)
same_within (x ∷ xs) zero d e lt = refl
same_within (x ∷ xs) (suc i) d e lt = same_within xs i d e (omega arith)

-- the tests of a kind don't look at its operands
pub task_may_blank : (last : Bool) (k : Kind) → task_may last (blank_of k) ≡ task_may last k
task_may_blank last (kind.Choice o) = refl
task_may_blank last k = refl

pub isr_may_blank : (last : Bool) (k : Kind) → isr_may last (blank_of k) ≡ isr_may last k
isr_may_blank last (kind.Choice o) = refl
isr_may_blank last k = refl

pub for_resource_blank : (k : Kind) → is_for_resource (blank_of k) ≡ is_for_resource k
for_resource_blank (kind.Call (call.Resource k r)) = refl
for_resource_blank k = refl

-- what stands in an ISR's code, and in version 1 takes no resource
in_isr_code : (v : Version) (last : Bool) (k : Kind) → isr_may_in v last k ≡ true → isr_may last k ≡ true
in_isr_code version.One last k e = (and_parts (not (is_for_resource k)) (isr_may last k) e).1
in_isr_code version.Two last k e = e

takes_none : (v : Version) (last : Bool) (k : Kind) → v ≡ version.One → isr_may_in v last k ≡ true → not (is_for_resource k) ≡ true
takes_none version.One last k one e = (and_parts (not (is_for_resource k)) (isr_may last k) e).0
takes_none version.Two last k one e = absurd cc

pub tick_order_blank : (n place : ℕ) (k : Kind) → tick_order n place (blank_of k) ≡ tick_order n place k
tick_order_blank n place (kind.Choice o) = refl
tick_order_blank n place k = refl

abbrev pub is_end : Kind → Bool
is_end kind.TaskEnd = true
is_end kind.IsrEnd = true
is_end _ = false

-- an alarm's place in a tick routine, or an end
pub tick_place : (n place : ℕ) (k : Kind) → tick_order n place k ≡ true → is_end k ≡ false → place ≤ n
tick_place n place kind.CountUp order e = omega (arith, eqb-true place 0 order)
tick_place n place (kind.Expire a) order e = leb-true _ _ (and_parts (ltb 0 place) (leb place n) order).1
tick_place n place kind.IsrEnd order e = absurd cc
tick_place n place k order e = absurd cc

tick_end : (n place : ℕ) (k : Kind) → tick_order n place k ≡ true → is_end k ≡ true → place ≡ n + 1
tick_end n place kind.CountUp order e = absurd cc
tick_end n place (kind.Expire a) order e = absurd cc
tick_end n place kind.IsrEnd order e = eqb-true place (n + 1) order
tick_end n place k order e = absurd cc

module _ (p : Parts) (b : ℕ) where
  names_entries : (k : Kind) → GoodOperands p.tables b (unwayed k) → NamesEntries (tables_of_parts p) k
  names_entries (kind.Work n) g = ltb-true _ _ g.1
  names_entries (kind.Choice o) g = tt
  names_entries kind.Loop g = tt
  names_entries (kind.Call (call.Task k x)) g = ltb-true _ _ g.1
  names_entries (kind.Call (call.Plain k)) g = tt
  names_entries (kind.Call (call.Resource k r)) g = (ltb-true _ _ g.0.1, g.1)
  names_entries (kind.Call (call.SetEvent x m)) g = (ltb-true _ _ g.0.1, ltb-true _ _ g.1.1)
  names_entries (kind.Call (call.Mask k m)) g = ltb-true _ _ g.1
  names_entries (kind.Call (call.Arm k a i c)) g = ltb-true _ _ g.0.1
  names_entries (kind.Call (call.Alarm k a)) g = ltb-true _ _ g.1
  names_entries (kind.Call (call.Lock l)) g = tt
  names_entries (kind.Call call.ShutdownOs) g = tt
  names_entries kind.TaskEnd g = tt
  names_entries kind.IsrEnd g = tt
  names_entries kind.CountUp g = tt
  names_entries (kind.Expire a) g = ltb-true _ _ g.0.1

  own_next : (k : Kind) (n : ℕ) → LeadsWell p.tables (length p.blocks) b k n → is_own_next b k n ≡ true
  own_next kind.TaskEnd n leads = eq-eqb n b leads
  own_next kind.IsrEnd n leads = eq-eqb n b leads
  own_next k n leads = refl

  module _ (first count : ℕ) (among : IsAmong b first count) where
    next_among : (k : Kind) (n : ℕ) → ((m : ℕ) → is_end k ≡ false → GoodWay p.tables (length p.blocks) b m → IsAmong m first count) → LeadsWell p.tables (length p.blocks) b k n → IsAmong n first count
    next_among kind.TaskEnd n way leads = subst (λ m. IsAmong m first count) (sym leads) among
    next_among kind.IsrEnd n way leads = subst (λ m. IsAmong m first count) (sym leads) among
    next_among (kind.Choice o) n way leads = way n refl leads.0
    next_among k n way leads = way n refl leads

    other_among : (k : Kind) (n : ℕ) → ((m : ℕ) → is_end k ≡ false → GoodWay p.tables (length p.blocks) b m → IsAmong m first count) → LeadsWell p.tables (length p.blocks) b k n → IsOtherWay (tables_of_parts p) first count k
    other_among (kind.Choice o) n way leads = way o.0 refl leads.1
    other_among k n way leads = tt

  -- what each way of a kind is, which isn't an end
  way_of : (k : Kind) (n : ℕ) → is_end k ≡ false → LeadsWell p.tables (length p.blocks) b k n → GoodWay p.tables (length p.blocks) b n
  way_of kind.TaskEnd n e leads = absurd cc
  way_of kind.IsrEnd n e leads = absurd cc
  way_of (kind.Choice o) n e leads = leads.0
  way_of k n e leads = leads

  tick_may_from : (due : List ℕ) (place : ℕ) (k : Kind) → ((a : ℕ) → is_due p.tables b a ≡ true → eqb (slice_index_or due (place - 1) 256) a ≡ true) → GoodOperands p.tables b (unwayed k) → tick_order (length due) place k ≡ true → tick_may due place k ≡ true
  tick_may_from due place kind.CountUp dues g order = order
  tick_may_from due place (kind.Expire a) dues g order = and_from (ltb 0 place) _ (and_parts (ltb 0 place) (leb place (length due)) order).0 (dues a.0 g.1)
  tick_may_from due place kind.IsrEnd dues g order = order
  tick_may_from due place k dues g order = absurd cc

module _ (p : Parts) (same : length p.blocks ≡ length p.sites)
    (fact : (b : ℕ) (d : Block) (e : Option Site) → b < length p.blocks → GoodBlock p.tables (length p.blocks) b p.version (get_or p.blocks b d, get_or p.sites b e)) where
  abbrev t : Tables
  t = p.tables

  abbrev blocks : List Block
  blocks = p.blocks

  abbrev kind_of : ℕ → Kind
  kind_of b = (get_or blocks b no_block).kind

  abbrev next_of : ℕ → ℕ
  next_of b = (get_or blocks b no_block).next.0

  abbrev the_fact : (b : ℕ) → b < length blocks → GoodBlock t (length blocks) b p.version (get_or blocks b no_block, get_or p.sites b None)
  the_fact b lt = fact b no_block None lt

  allowed_parts : (b : ℕ) → b < length blocks → (is_owned t b ≡ true) × (tasks_allow t b (blank_of (kind_of b)) ≡ true) × (isrs_allow t b p.version (blank_of (kind_of b)) ≡ true) × (counters_allow t b (blank_of (kind_of b)) ≡ true)
  allowed_parts b lt =
      let all = (the_fact b lt).blank.allowed in
      let k = blank_of (kind_of b) in
      let m = and_parts ((is_owned t b && tasks_allow t b k) && isrs_allow t b p.version k) (counters_allow t b k) all in
      let q = and_parts (is_owned t b && tasks_allow t b k) (isrs_allow t b p.version k) m.0 in
      let r = and_parts (is_owned t b) (tasks_allow t b k) q.0 in
      (r.0, r.1, q.1, m.1)

  pub block_owned : (b : ℕ) → b < length blocks → list_any (is_within b) (owners t.tasks t.isrs t.counters) ≡ true
  block_owned b lt = (allowed_parts b lt).0

  -- blocks of an owner whose ways stay in it
  owner_is : (first count : ℕ) → 0 < count → first + count ≤ length blocks → ((b : ℕ) → IsAmong b first count → (m : ℕ) → is_end (kind_of b) ≡ false → GoodWay t (length blocks) b m → IsAmong m first count)
      → IsOwner (tables_of_parts p) first count
  owner_is first count some inside ways = record {
    some = some;
    inside = inside;
    ends = λ b a. own_next p b (kind_of b) (next_of b) (the_fact b (omega (arith, a.1, inside))).leads;
    each = λ b none a.
        let lt : b < length blocks = omega (arith, a.1, inside) in
        let f = fact b none None lt in
        let alike : get_or blocks b none ≡ get_or blocks b no_block = same_within blocks b none no_block lt in
        let way : (m : ℕ) → is_end (get_or blocks b none).kind ≡ false → GoodWay t (length blocks) b m → IsAmong m first count =
        λ m e g. ways b a m (ap (λ (x : Block). is_end x.kind) (sym alike) ∙ e) g in
        record {
          operands = names_entries p b (get_or blocks b none).kind f.filled.operands;
          next = next_among p b first count a (get_or blocks b none).kind (get_or blocks b none).next.0 way f.leads;
          other = other_among p b first count a (get_or blocks b none).kind (get_or blocks b none).next.0 way f.leads;
        };
  }

  -- ---- tasks

  module _ (k : ℕ) (d : Task) (lt : k < length t.tasks) where
    abbrev x : Task
    x = get_or t.tasks k d

    task_ways : x.first.0 + x.count ≤ length blocks → (b : ℕ) → IsAmong b x.first.0 x.count → (m : ℕ) → is_end (kind_of b) ≡ false → GoodWay t (length blocks) b m → IsAmong m x.first.0 x.count
    task_ways inside b a m _ way =
        let stays_t = list_all (λ (y : Task). where_has b (task_range y) (is_within m (task_range y))) t.tasks in
        let stays_i = list_all (λ (y : Isr). where_has b (isr_range y) (is_within m (isr_range y))) t.isrs in
        let follows = list_all (λ (y : Counter). where_has b (counter_range y) (eqb m (b + 1))) t.counters in
        let p = and_parts (stays_t && stays_i) follows way.1 in
        let q = and_parts stays_t stays_i p.0 in
        within_among m x.first.0 x.count
        (where_among b x.first.0 x.count (is_within m (task_range x)) (AllPass-from_list_all (λ (y : Task). where_has b (task_range y) (is_within m (task_range y))) t.tasks q.0 k d lt) a)

    pub task_owner : 0 < x.count → x.first.0 + x.count ≤ length blocks → IsOwner (tables_of_parts p) x.first.0 x.count
    task_owner some inside = owner_is x.first.0 x.count some inside (task_ways inside)

    pub task_code : x.first.0 + x.count ≤ length blocks → IsTaskCode (tables_of_parts p) x.first.0 x.count
    task_code inside = record {
      each = λ b a.
          let below : b < length blocks = omega (arith, a.1, inside) in
          let allow = (allowed_parts b below).1 in
          let here = where_among b x.first.0 x.count (task_may (eqb (b + 1) (x.first.0 + x.count)) (blank_of (kind_of b))) (AllPass-from_list_all (λ (y : Task). where_has b (task_range y) (task_may (eqb (b + 1) (y.first.0 + y.count)) (blank_of (kind_of b)))) t.tasks allow k d lt) a in
          sym (task_may_blank (eqb (b + 1) (x.first.0 + x.count)) (kind_of b)) ∙ here;
    }

  -- ---- ISRs

  module _ (k : ℕ) (d : Isr) (lt : k < length t.isrs) where
    abbrev y : Isr
    y = get_or t.isrs k d

    isr_ways : y.first.0 + y.count ≤ length blocks → (b : ℕ) → IsAmong b y.first.0 y.count → (m : ℕ) → is_end (kind_of b) ≡ false → GoodWay t (length blocks) b m → IsAmong m y.first.0 y.count
    isr_ways inside b a m _ way =
        let stays_t = list_all (λ (z : Task). where_has b (task_range z) (is_within m (task_range z))) t.tasks in
        let stays_i = list_all (λ (z : Isr). where_has b (isr_range z) (is_within m (isr_range z))) t.isrs in
        let follows = list_all (λ (z : Counter). where_has b (counter_range z) (eqb m (b + 1))) t.counters in
        let p = and_parts (stays_t && stays_i) follows way.1 in
        let q = and_parts stays_t stays_i p.0 in
        within_among m y.first.0 y.count
        (where_among b y.first.0 y.count (is_within m (isr_range y)) (AllPass-from_list_all (λ (z : Isr). where_has b (isr_range z) (is_within m (isr_range z))) t.isrs q.1 k d lt) a)

    pub isr_owner : 0 < y.count → y.first.0 + y.count ≤ length blocks → IsOwner (tables_of_parts p) y.first.0 y.count
    isr_owner some inside = owner_is y.first.0 y.count some inside (isr_ways inside)

    -- what its blocks may be, in the version
    isr_allows : y.first.0 + y.count ≤ length blocks → (b : ℕ) → IsAmong b y.first.0 y.count → isr_may_in p.version (eqb (b + 1) (y.first.0 + y.count)) (blank_of (kind_of b)) ≡ true
    isr_allows inside b a =
        let below : b < length blocks = omega (arith, a.1, inside) in
        where_among b y.first.0 y.count (isr_may_in p.version (eqb (b + 1) (y.first.0 + y.count)) (blank_of (kind_of b)))
        (AllPass-from_list_all (λ (z : Isr). where_has b (isr_range z) (isr_may_in p.version (eqb (b + 1) (z.first.0 + z.count)) (blank_of (kind_of b)))) t.isrs (allowed_parts b below).2 k d lt) a

    pub isr_code : y.first.0 + y.count ≤ length blocks → IsIsrCode (tables_of_parts p) y.first.0 y.count
    isr_code inside = record {
      each = λ b a.
          let last = eqb (b + 1) (y.first.0 + y.count) in
          sym (isr_may_blank last (kind_of b)) ∙ in_isr_code p.version last (blank_of (kind_of b)) (isr_allows inside b a);
    }

    pub isr_takes_none : p.version ≡ version.One → y.first.0 + y.count ≤ length blocks → TakesNone (tables_of_parts p) y.first.0 y.count
    isr_takes_none one inside b a =
        ap not (sym (for_resource_blank (kind_of b))) ∙ takes_none p.version (eqb (b + 1) (y.first.0 + y.count)) (blank_of (kind_of b)) one (isr_allows inside b a)

  -- ---- counters

  module _ (c : ℕ) (d : Counter) (lt : c < length t.counters) where
    abbrev z : Counter
    z = get_or t.counters c d

    abbrev due : List ℕ
    due = due_of t.alarms c

    -- the size and the order of the tick routine
    ticks : (b : ℕ) → IsAmong b z.first.0 z.count → b < length blocks → (z.count ≡ length due + 2) × (tick_order (length due) (b - z.first.0) (kind_of b) ≡ true)
    ticks b a below =
        let allow = (allowed_parts b below).3 in
        let here = where_among b z.first.0 z.count _ (numbered_at (counter_allows t b (blank_of (kind_of b))) t.counters allow c d lt) a in
        let p = and_parts (eqb z.count (length due + 2)) (tick_order (length due) (b - z.first.0) (blank_of (kind_of b))) here in
        (eqb-true _ _ p.0, sym (tick_order_blank (length due) (b - z.first.0) (kind_of b)) ∙ p.1)

    follows_in : (b : ℕ) → IsAmong b z.first.0 z.count → (m : ℕ) → GoodWay t (length blocks) b m → m ≡ b + 1
    follows_in b a m way =
        let stays_t = list_all (λ (w : Task). where_has b (task_range w) (is_within m (task_range w))) t.tasks in
        let stays_i = list_all (λ (w : Isr). where_has b (isr_range w) (is_within m (isr_range w))) t.isrs in
        let follows = list_all (λ (w : Counter). where_has b (counter_range w) (eqb m (b + 1))) t.counters in
        let p = and_parts (stays_t && stays_i) follows way.1 in
        eqb-true m (b + 1) (where_among b z.first.0 z.count (eqb m (b + 1)) (AllPass-from_list_all (λ (w : Counter). where_has b (counter_range w) (eqb m (b + 1))) t.counters p.1 c d lt) a)

    counter_ways : z.first.0 + z.count ≤ length blocks → (b : ℕ) → IsAmong b z.first.0 z.count → (m : ℕ) → is_end (kind_of b) ≡ false → GoodWay t (length blocks) b m → IsAmong m z.first.0 z.count
    counter_ways inside b a m e way =
        let f = ticks b a (omega (arith, a.1, inside)) in
        let place = tick_place (length due) (b - z.first.0) (kind_of b) f.1 e in
        let next = follows_in b a m way in
        (omega (arith, a.0, next), omega (arith, a.0, next, place, f.0))

    pub counter_owner : 0 < z.count → z.first.0 + z.count ≤ length blocks → IsOwner (tables_of_parts p) z.first.0 z.count
    counter_owner some inside = owner_is z.first.0 z.count some inside (counter_ways inside)

    dues_in : (b : ℕ) → IsAmong b z.first.0 z.count → (a : ℕ) → is_due t b a ≡ true → eqb (slice_index_or due (b - z.first.0 - 1) 256) a ≡ true
    dues_in b among a is = where_among b z.first.0 z.count _ (numbered_at (is_due_in t.alarms b a) t.counters is c d lt) among

    tick_next : z.first.0 + z.count ≤ length blocks → (b : ℕ) → IsAmong b z.first.0 z.count → b + 1 < z.first.0 + z.count → (e : Bool) → is_end (kind_of b) ≡ e → next_of b ≡ b + 1
    tick_next inside b a more true e =
        let f = ticks b a (omega (arith, a.1, inside)) in
        let place = tick_end (length due) (b - z.first.0) (kind_of b) f.1 e in
        absurd (omega (arith, a.0, more, place, f.0))
    tick_next inside b a more false e =
        let below : b < length blocks = omega (arith, a.1, inside) in
        follows_in b a (next_of b) (way_of p b (kind_of b) (next_of b) e (the_fact b below).leads)

    pub tick_code : 0 < z.count → z.first.0 + z.count ≤ length blocks → IsTickCode (tables_of_parts p) due z.first.0 z.count
    tick_code some inside = record {
      size = (ticks z.first.0 (omega arith, omega (arith, some)) (omega (arith, some, inside))).0;
      each = λ b a.
          let below : b < length blocks = omega (arith, a.1, inside) in
          tick_may_from p b due (b - z.first.0) (kind_of b) (dues_in b a) (the_fact b below).filled.operands (ticks b a below).1;
      next = λ b a more. tick_next inside b a more (is_end (kind_of b)) refl;
    }
