-- The blocks of a valid application pass the tests of reading.
use Rattle.std.proofs.Common.{◌≡◌, ℕ, suc, ◌+◌, ◌-◌, ◌^◌, ◌<◌, ◌≤◌, Bool, true, false, not, ◌&&◌, eqb, leb, ltb, List, [], ◌∷◌, length, get_or, Option, Some, None, refl, sym, ap, subst, ◌∙◌, arith, inl, inr}
use Rattle.std.specs.{Prelude.{slice_index_or, slice_get, All, IsTrue, ⊤}, List.{list_any}}
use Rattle.std.proofs.lemmas.{Bool.{and_parts, and_from, or_cases, eqb-true, eq-eqb, ne_eqb, le-leb, ltb-true, lt-ltb, not-true, cases_lt}, List.{get_or_past}}
use Rattle.std.proofs.lemmas.List.Sums.{list_all-from_AllPass}
use Rattle.osek_standard.specs.declared.{app.App.{App}, objects.{Task.{Task}, Isr.{Isr}, Counter.{Counter}}, block.{Block.{Block}, Kind.{Kind}}}
use Rattle.osek_standard.specs.declared.block.Kind.TheVariants as kind
use Rattle.image_model.specs.CallNames as call
use Rattle.osek_standard.specs.Validity.{no_block, no_counter, no_task, no_isr, IsAmong, is_within, is_own_next, due_of, isr_may, tick_may, NamesEntries, IsOtherWay, IsBlock, IsOwner, IsTickCode, IsValid}
use Rattle.osek_standard.specs.Versions.{is_for_resource, TakesNone}
use Rattle.image_model.specs.declared.site.{Form.{Form}, Known.{Known}, Site.{Site}}
use Rattle.image_model.specs.declared.site.Form.TheVariants as form
use Rattle.image_model.specs.declared.site.Known.TheVariants as known
use Rattle.image_model.specs.declared.image.Version.{Version}
use Rattle.image_model.specs.declared.image.Version.TheVariants as version
use Rattle.image_model.specs.Versions.{IsUnknown, SaysNothing, FitsAlone}
use Rattle.image_fields.specs.declared.parts.Tables.{Tables}
use Rattle.image_codec.specs.declared.parts.Parts.{Parts}
use Rattle.image_model.specs.Sites.{IsForm}
use Rattle.image_codec.specs.{Spelling.{kind_number, form_number}, Fits.{FitsKind}}
use Rattle.image_fields.specs.BlockReading.{blank_kinds, tick_order, where_has, task_range, isr_range, counter_range, isr_may_in, tasks_allow, isrs_allow, counter_allows, counters_allow, is_owned, is_allowed, is_due_in, is_due, form_of}
use Rattle.image_codec.proofs.KindLaws.{other_of, GoodOperands, GoodNo, GoodBlank, GoodFilled}
use Rattle.image_codec.proofs.{BlockLaws.{unwayed, blank_of, listed_blank, number_unwayed, number_blank, GoodWay, LeadsWell}, SiteLaws.{GoodKnown, GoodSite}}
use Rattle.image_fields.proofs.OwnerTests.{any_of_owners}
use Rattle.image_codec.proofs.{WholeTables.{tables_of_parts}, Places.{all_numbered, among_within, within_among, among_where}}
use Rattle.image_codec.proofs.BlocksOfGood.{same_within, task_may_blank, isr_may_blank, for_resource_blank, tick_order_blank, is_end, tick_place}

-- ---- forms

form_again : (tasks : ℕ) (f : Form) → tasks ≤ 16 → IsForm tasks f → form_of tasks (form_number f) ≡ Some f
form_again tasks form.Never few fits = refl
form_again tasks form.Stay few fits = refl
form_again tasks (form.Direct None) few fits = refl
form_again tasks form.General few fits = refl
form_again tasks (form.Direct (Some x)) few fits =
    let n = 0x0200 + x.0 in
    let n0 : eqb n 0x0000 ≡ false = ne_eqb n 0x0000 (λ e. omega (arith, e)) in
    let n1 : eqb n 0x0100 ≡ false = ne_eqb n 0x0100 (λ e. omega (arith, e)) in
    let n2 : eqb n 0x02ff ≡ false = ne_eqb n 0x02ff (λ e. omega (arith, e, few, fits)) in
    let n3 : eqb n 0x0300 ≡ false = ne_eqb n 0x0300 (λ e. omega (arith, e, few, fits)) in
    let within : (leb 0x0200 n && ltb n (0x0200 + tasks)) ≡ true = and_from _ _ (le-leb 0x0200 n (omega arith)) (lt-ltb n (0x0200 + tasks) (omega (arith, fits))) in
    let back : n - 0x0200 ≡ x.0 = omega arith in
    rw (n0, n1, n2, n3, within, back) refl

form_small : (tasks : ℕ) (f : Form) → tasks ≤ 16 → IsForm tasks f → form_number f < 2 ^ 16
form_small tasks form.Never few fits = omega arith
form_small tasks form.Stay few fits = omega arith
form_small tasks (form.Direct None) few fits = omega arith
form_small tasks form.General few fits = omega arith
form_small tasks (form.Direct (Some x)) few fits = omega (arith, few, fits)

-- ---- kinds

blank_again : (k : Kind) → slice_get blank_kinds (kind_number (blank_of k)) ≡ Some (blank_of k)
blank_again k = ap (slice_get blank_kinds) (number_blank k) ∙ listed_blank k

other_unwayed : (k : Kind) → other_of (unwayed k) ≡ other_of (blank_of k)
other_unwayed (kind.Choice o) = refl
other_unwayed k = refl

-- the alarm of an Expire is one of a byte's numbers
abbrev HasByte : Kind → Type 0
HasByte (kind.Expire a) = a.0 < 256
HasByte _ = ⊤

order_of_may : (due : List ℕ) (place : ℕ) (k : Kind) → HasByte k → tick_may due place k ≡ true → tick_order (length due) place k ≡ true
order_of_may due place kind.CountUp small may = may
order_of_may due place (kind.Expire a) small may =
    let p = and_parts (ltb 0 place) (eqb (slice_index_or due (place - 1) 256) a.0) may in
    let some : 0 < place = ltb-true _ _ p.0 in
    elim (cases_lt (place - 1) (length due)) [
      | inl lt ↦ and_from (ltb 0 place) (leb place (length due)) p.0 (le-leb place (length due) (omega (arith, lt, some)))
      | inr le ↦
          let past : slice_index_or due (place - 1) 256 ≡ 256 = get_or_past due (place - 1) 256 le in
          let is : slice_index_or due (place - 1) 256 ≡ a.0 = eqb-true _ _ p.1 in
          absurd (omega (arith, past, is, small))
    ]
order_of_may due place kind.IsrEnd small may = may
order_of_may due place k small may = absurd cc

-- the alarm of an Expire is the one that is due, where a tick routine may have it
abbrev IsDueAt : List ℕ → ℕ → Kind → Type 0
IsDueAt due place (kind.Expire a) = eqb (slice_index_or due (place - 1) 256) a.0 ≡ true
IsDueAt due place _ = ⊤

due_of_may : (due : List ℕ) (place : ℕ) (k : Kind) → tick_may due place k ≡ true → IsDueAt due place k
due_of_may due place (kind.Expire a) may = (and_parts (ltb 0 place) (eqb (slice_index_or due (place - 1) 256) a.0) may).1
due_of_may due place k may = tt

good_no : (limit n : ℕ) → limit ≤ 16 → n < limit → GoodNo limit n
good_no limit n few lt = (omega (arith, few, lt), lt-ltb n limit lt)

abbrev IsDueHere : Tables → ℕ → Kind → Type 0
IsDueHere t b (kind.Expire a) = is_due t b a.0 ≡ true
IsDueHere t b _ = ⊤

module _ (p : Parts) (b : ℕ) (few_tasks : length p.tables.tasks ≤ 16) (few_alarms : length p.tables.alarms ≤ 16) (few_resources : length p.tables.resources ≤ 16) where
  -- the operands of a kind that names entries
  good_operands : (k : Kind) → NamesEntries (tables_of_parts p) k → FitsKind k → IsDueHere p.tables b k → GoodOperands p.tables b (unwayed k)
  good_operands (kind.Work n) names fits due = (fits, lt-ltb 0 n names)
  good_operands (kind.Choice o) names fits due = tt
  good_operands kind.Loop names fits due = tt
  good_operands (kind.Call (call.Task k x)) names fits due = good_no _ x.0 few_tasks names
  good_operands (kind.Call (call.Plain k)) names fits due = tt
  good_operands (kind.Call (call.Resource k r)) names fits due = (good_no _ r.0 few_resources names.0, names.1)
  good_operands (kind.Call (call.SetEvent x m)) names fits due = (good_no _ x.0 few_tasks names.0, (fits, lt-ltb 0 m.0 names.1))
  good_operands (kind.Call (call.Mask k m)) names fits due = (fits, lt-ltb 0 m.0 names)
  good_operands (kind.Call (call.Arm k a i c)) names fits due = (good_no _ a.0 few_alarms names, fits)
  good_operands (kind.Call (call.Alarm k a)) names fits due = good_no _ a.0 few_alarms names
  good_operands (kind.Call (call.Lock l)) names fits due = tt
  good_operands (kind.Call call.ShutdownOs) names fits due = tt
  good_operands kind.TaskEnd names fits due = tt
  good_operands kind.IsrEnd names fits due = tt
  good_operands kind.CountUp names fits due = tt
  good_operands (kind.Expire a) names fits due = (good_no _ a.0 few_alarms names, due)

  has_byte : (k : Kind) → NamesEntries (tables_of_parts p) k → HasByte k
  has_byte (kind.Expire a) names = omega (arith, few_alarms, names)
  has_byte k names = tt

  -- an Expire is due, if it is due in each counter whose routine has the block
  due_here : (k : Kind) → ((c : ℕ) (d : Counter) → c < length p.tables.counters → IsAmong b (get_or p.tables.counters c d).first.0 (get_or p.tables.counters c d).count → IsDueAt (due_of p.tables.alarms c) (b - (get_or p.tables.counters c d).first.0) k) → IsDueHere p.tables b k
  due_here (kind.Expire a) each = all_numbered (is_due_in p.tables.alarms b a.0) p.tables.counters (λ c d lt. among_where b (get_or p.tables.counters c d).first.0 (get_or p.tables.counters c d).count _ (each c d lt))
  due_here k each = tt

-- where a way of a kind leads, if it isn't an end
abbrev Ways : (ℕ → Type 0) → Kind → ℕ → Type 0
Ways P kind.TaskEnd n = ⊤
Ways P kind.IsrEnd n = ⊤
Ways P (kind.Choice o) n = P n × P o.0
Ways P _ n = P n

leads_from : (t : Tables) (blocks b : ℕ) (k : Kind) (n : ℕ) → is_own_next b k n ≡ true → Ways (GoodWay t blocks b) k n → LeadsWell t blocks b k n
leads_from t blocks b kind.TaskEnd n own ways = eqb-true n b own
leads_from t blocks b kind.IsrEnd n own ways = eqb-true n b own
leads_from t blocks b (kind.Choice o) n own ways = ways
leads_from t blocks b k n own ways = ways

ways_both : (P Q : ℕ → Type 0) (k : Kind) (n : ℕ) → Ways P k n → Ways Q k n → Ways (λ m. P m × Q m) k n
ways_both P Q kind.TaskEnd n p q = tt
ways_both P Q kind.IsrEnd n p q = tt
ways_both P Q (kind.Choice o) n p q = ((p.0, q.0), (p.1, q.1))
ways_both P Q k n p q = (p, q)

ways_weaker : (P Q : ℕ → Type 0) → ((m : ℕ) → P m → Q m) → (k : Kind) (n : ℕ) → Ways P k n → Ways Q k n
ways_weaker P Q f kind.TaskEnd n p = tt
ways_weaker P Q f kind.IsrEnd n p = tt
ways_weaker P Q f (kind.Choice o) n p = (f n p.0, f o.0 p.1)
ways_weaker P Q f k n p = f n p

-- a way for each of many
ways_all : {I : Type 0} (P : I → ℕ → Type 0) (k : Kind) (n : ℕ) → ((i : I) → Ways (P i) k n) → Ways (λ m. (i : I) → P i m) k n
ways_all P kind.TaskEnd n each = tt
ways_all P kind.IsrEnd n each = tt
ways_all P (kind.Choice o) n each = (λ i. (each i).0, λ i. (each i).1)
ways_all P k n each = each

ways_among : (p : Parts) (first count : ℕ) (k : Kind) (n : ℕ) → IsAmong n first count → IsOtherWay (tables_of_parts p) first count k → Ways (λ m. IsAmong m first count) k n
ways_among p first count kind.TaskEnd n next other = tt
ways_among p first count kind.IsrEnd n next other = tt
ways_among p first count (kind.Choice o) n next other = (next, other)
ways_among p first count k n next other = next

-- in a tick routine each way leads to the following block
ways_follow : (due : List ℕ) (place b : ℕ) (k : Kind) (n : ℕ) → tick_may due place k ≡ true → (is_end k ≡ false → n ≡ b + 1) → Ways (λ m. m ≡ b + 1) k n
ways_follow due place b kind.CountUp n may follows = follows refl
ways_follow due place b (kind.Expire a) n may follows = follows refl
ways_follow due place b kind.IsrEnd n may follows = tt
ways_follow due place b k n may follows = absurd cc

-- a kind that stands in an ISR's code stands there in version 2, and in version 1 where it takes no resource
isr_may_from : (v : Version) (last : Bool) (k : Kind) → (v ≡ version.One → not (is_for_resource k) ≡ true) → isr_may last k ≡ true → isr_may_in v last (blank_of k) ≡ true
isr_may_from version.One last k none may = and_from (not (is_for_resource (blank_of k))) (isr_may last (blank_of k)) (ap not (for_resource_blank k) ∙ none refl) (isr_may_blank last k ∙ may)
isr_may_from version.Two last k none may = isr_may_blank last k ∙ may

-- an entry that passes
found_at : {X : Type 0} (p : X → Bool) (xs : List X) → list_any p xs ≡ true → (k : ℕ) × (k < length xs) × ((d : X) → p (get_or xs k d) ≡ true)
found_at p [] e = absurd cc
found_at p (x ∷ xs) e =
    elim (or_cases (p x) (list_any p xs) e) [
      | inl h ↦ (0, omega arith, λ d. h)
      | inr h ↦ let f = found_at p xs h in (suc f.0, omega (arith, f.1), f.2)
    ]

module _ (p : Parts) (v : IsValid (tables_of_parts p)) where
  abbrev t : Tables
  t = p.tables

  abbrev blocks : List Block
  blocks = p.blocks

  abbrev kind_of : ℕ → Kind
  kind_of b = (get_or blocks b no_block).kind

  abbrev next_of : ℕ → ℕ
  next_of b = (get_or blocks b no_block).next.0

  -- an owner of the block
  record HasOwner (b : ℕ) : Type 0 where
    pub first : ℕ
    pub count : ℕ
    pub among : IsAmong b first count
    pub owner : IsOwner (tables_of_parts p) first count

  owner_of : (b : ℕ) → b < length blocks → HasOwner b
  owner_of b lt =
      let any = sym (any_of_owners (is_within b) t.tasks t.isrs t.counters) ∙ v.owned b lt in
      elim (or_cases (list_any (λ (x : Task). is_within b (x.first.0, x.count)) t.tasks) _ any) [
        | inl e ↦ let f = found_at (λ (x : Task). is_within b (x.first.0, x.count)) t.tasks e in
            let x = get_or t.tasks f.0 no_task in
            record { first = x.first.0; count = x.count; among = within_among b x.first.0 x.count (f.2 no_task); owner = v.each_task f.0 no_task f.1 }
        | inr e ↦ elim (or_cases (list_any (λ (x : Isr). is_within b (x.first.0, x.count)) t.isrs) _ e) [
          | inl g ↦ let f = found_at (λ (x : Isr). is_within b (x.first.0, x.count)) t.isrs g in
              let x = get_or t.isrs f.0 no_isr in
              record { first = x.first.0; count = x.count; among = within_among b x.first.0 x.count (f.2 no_isr); owner = v.each_isr f.0 no_isr f.1 }
          | inr g ↦ let f = found_at (λ (x : Counter). is_within b (x.first.0, x.count)) t.counters g in
              let x = get_or t.counters f.0 no_counter in
              record { first = x.first.0; count = x.count; among = within_among b x.first.0 x.count (f.2 no_counter); owner = (v.each_counter f.0 no_counter f.1).1 }
        ]
      ]

  module _ (b : ℕ) (lt : b < length blocks) where
    abbrev here : HasOwner b
    here = owner_of b lt

    abbrev its_block : IsBlock (tables_of_parts p) here.first here.count (get_or blocks b no_block)
    its_block = here.owner.each b no_block here.among

    names : NamesEntries (tables_of_parts p) (kind_of b)
    names = its_block.operands

    by_tasks : tasks_allow t b (blank_of (kind_of b)) ≡ true
    by_tasks = list_all-from_AllPass _ t.tasks (λ k d below.
        let x = get_or t.tasks k d in
        among_where b x.first.0 x.count _ (λ a. task_may_blank (eqb (b + 1) (x.first.0 + x.count)) (kind_of b) ∙ (v.task_code k d below).each b a))

    by_isrs : (p.version ≡ version.One → All (λ (x : Isr). TakesNone (tables_of_parts p) x.first.0 x.count) t.isrs) → isrs_allow t b p.version (blank_of (kind_of b)) ≡ true
    by_isrs none = list_all-from_AllPass _ t.isrs (λ k d below.
        let x = get_or t.isrs k d in
        among_where b x.first.0 x.count _ (λ a. isr_may_from p.version (eqb (b + 1) (x.first.0 + x.count)) (kind_of b) (λ one. none one k d below b a) ((v.isr_code k d below).each b a)))

    module _ (c : ℕ) (d : Counter) (below : c < length t.counters) where
      abbrev z : Counter
      z = get_or t.counters c d

      abbrev due : List ℕ
      due = due_of t.alarms c

      ticks : IsTickCode (tables_of_parts p) due z.first.0 z.count
      ticks = subst (λ (x : Counter). IsTickCode (tables_of_parts p) due x.first.0 x.count) (same_within t.counters c no_counter d below) (v.tick_code c below)

      order : IsAmong b z.first.0 z.count → tick_order (length due) (b - z.first.0) (kind_of b) ≡ true
      order a = order_of_may due (b - z.first.0) (kind_of b) (has_byte p b (v.few_tasks) (v.few_alarms) (omega (arith, v.few_resources)) (kind_of b) names) (ticks.each b a)

      by_counter : counter_allows t b (blank_of (kind_of b)) (c, z) ≡ true
      by_counter = among_where b z.first.0 z.count _ (λ a.
          and_from _ _ (eq-eqb z.count (length due + 2) ticks.size) (tick_order_blank (length due) (b - z.first.0) (kind_of b) ∙ order a))

      follows : IsAmong b z.first.0 z.count → Ways (λ m. m ≡ b + 1) (kind_of b) (next_of b)
      follows a = ways_follow due (b - z.first.0) b (kind_of b) (next_of b) (ticks.each b a) (λ e.
          let place = tick_place (length due) (b - z.first.0) (kind_of b) (order a) e in
          ticks.next b a (omega (arith, a.0, place, ticks.size)))

    allowed : (p.version ≡ version.One → All (λ (x : Isr). TakesNone (tables_of_parts p) x.first.0 x.count) t.isrs) → is_allowed t b p.version (blank_of (kind_of b)) ≡ true
    allowed none =
        let k = blank_of (kind_of b) in
        let counters : counters_allow t b k ≡ true = all_numbered (counter_allows t b k) t.counters by_counter in
        and_from ((is_owned t b && tasks_allow t b k) && isrs_allow t b p.version k) (counters_allow t b k)
        (and_from (is_owned t b && tasks_allow t b k) (isrs_allow t b p.version k) (and_from (is_owned t b) (tasks_allow t b k) (v.owned b lt) by_tasks) (by_isrs none)) counters

    -- in version 1 no ISR takes a resource
    pub good_blank : (p.version ≡ version.One → All (λ (x : Isr). TakesNone (tables_of_parts p) x.first.0 x.count) t.isrs) → GoodBlank t b p.version (blank_of (kind_of b))
    good_blank none = record { blank = blank_again (kind_of b); allowed = allowed none }

    pub good_filled : FitsKind (kind_of b) → GoodFilled t b (blank_of (kind_of b)) (unwayed (kind_of b))
    good_filled fits = record {
      number = number_unwayed (kind_of b) ∙ sym (number_blank (kind_of b));
      other = other_unwayed (kind_of b);
      operands = good_operands p b v.few_tasks v.few_alarms (omega (arith, v.few_resources)) (kind_of b) names fits
          (due_here p b v.few_tasks v.few_alarms (omega (arith, v.few_resources)) (kind_of b) (λ c d below a. due_of_may (due c d below) (b - (z c d below).first.0) (kind_of b) ((ticks c d below).each b a)));
    }

    stays : (first count : ℕ) → IsOwner (tables_of_parts p) first count → IsAmong b first count → Ways (λ m. IsAmong m first count) (kind_of b) (next_of b)
    stays first count owner a = let x = owner.each b no_block a in ways_among p first count (kind_of b) (next_of b) x.next x.other

    abbrev StaysInTask : ℕ → Type 0
    StaysInTask m = (k : ℕ) (d : Task) (below : k < length t.tasks) (a : IsAmong b (get_or t.tasks k d).first.0 (get_or t.tasks k d).count) → IsAmong m (get_or t.tasks k d).first.0 (get_or t.tasks k d).count

    abbrev StaysInIsr : ℕ → Type 0
    StaysInIsr m = (k : ℕ) (d : Isr) (below : k < length t.isrs) (a : IsAmong b (get_or t.isrs k d).first.0 (get_or t.isrs k d).count) → IsAmong m (get_or t.isrs k d).first.0 (get_or t.isrs k d).count

    abbrev Follows : ℕ → Type 0
    Follows m = (k : ℕ) (d : Counter) (below : k < length t.counters) (a : IsAmong b (get_or t.counters k d).first.0 (get_or t.counters k d).count) → m ≡ b + 1

    way_from : (m : ℕ) → (IsAmong m here.first here.count × StaysInTask m) × (StaysInIsr m × Follows m) → GoodWay t (length blocks) b m
    way_from m f =
        let in_tasks = list_all-from_AllPass (λ (y : Task). where_has b (task_range y) (is_within m (task_range y))) t.tasks (λ k d below.
        let x = get_or t.tasks k d in among_where b x.first.0 x.count _ (λ a. among_within m x.first.0 x.count (f.0.1 k d below a))) in
        let in_isrs = list_all-from_AllPass (λ (y : Isr). where_has b (isr_range y) (is_within m (isr_range y))) t.isrs (λ k d below.
        let x = get_or t.isrs k d in among_where b x.first.0 x.count _ (λ a. among_within m x.first.0 x.count (f.1.0 k d below a))) in
        let in_order = list_all-from_AllPass (λ (y : Counter). where_has b (counter_range y) (eqb m (b + 1))) t.counters (λ k d below.
        let x = get_or t.counters k d in among_where b x.first.0 x.count _ (λ a. eq-eqb m (b + 1) (f.1.1 k d below a))) in
        ((omega (arith, f.0.0.1, here.owner.inside, v.few_blocks), lt-ltb m (length blocks) (omega (arith, f.0.0.1, here.owner.inside))), and_from _ _ (and_from _ _ in_tasks in_isrs) in_order)

    pub good_leads : LeadsWell t (length blocks) b (kind_of b) (next_of b)
    good_leads =
        let k = kind_of b in
        let n = next_of b in
        let in_task : Ways StaysInTask k n =
        ways_all (λ i m. (d : Task) (below : i < length t.tasks) (a : IsAmong b (get_or t.tasks i d).first.0 (get_or t.tasks i d).count) → IsAmong m (get_or t.tasks i d).first.0 (get_or t.tasks i d).count) k n (λ i.
        ways_all (λ d m. (below : i < length t.tasks) (a : IsAmong b (get_or t.tasks i d).first.0 (get_or t.tasks i d).count) → IsAmong m (get_or t.tasks i d).first.0 (get_or t.tasks i d).count) k n (λ d.
        ways_all (λ below m. (a : IsAmong b (get_or t.tasks i d).first.0 (get_or t.tasks i d).count) → IsAmong m (get_or t.tasks i d).first.0 (get_or t.tasks i d).count) k n (λ below.
        ways_all (λ a m. IsAmong m (get_or t.tasks i d).first.0 (get_or t.tasks i d).count) k n (λ a. stays (get_or t.tasks i d).first.0 (get_or t.tasks i d).count (v.each_task i d below) a)))) in
        let in_isr : Ways StaysInIsr k n =
        ways_all (λ i m. (d : Isr) (below : i < length t.isrs) (a : IsAmong b (get_or t.isrs i d).first.0 (get_or t.isrs i d).count) → IsAmong m (get_or t.isrs i d).first.0 (get_or t.isrs i d).count) k n (λ i.
        ways_all (λ d m. (below : i < length t.isrs) (a : IsAmong b (get_or t.isrs i d).first.0 (get_or t.isrs i d).count) → IsAmong m (get_or t.isrs i d).first.0 (get_or t.isrs i d).count) k n (λ d.
        ways_all (λ below m. (a : IsAmong b (get_or t.isrs i d).first.0 (get_or t.isrs i d).count) → IsAmong m (get_or t.isrs i d).first.0 (get_or t.isrs i d).count) k n (λ below.
        ways_all (λ a m. IsAmong m (get_or t.isrs i d).first.0 (get_or t.isrs i d).count) k n (λ a. stays (get_or t.isrs i d).first.0 (get_or t.isrs i d).count (v.each_isr i d below) a)))) in
        let in_order : Ways Follows k n =
        ways_all (λ i m. (d : Counter) (below : i < length t.counters) (a : IsAmong b (get_or t.counters i d).first.0 (get_or t.counters i d).count) → m ≡ b + 1) k n (λ i.
        ways_all (λ d m. (below : i < length t.counters) (a : IsAmong b (get_or t.counters i d).first.0 (get_or t.counters i d).count) → m ≡ b + 1) k n (λ d.
        ways_all (λ below m. (a : IsAmong b (get_or t.counters i d).first.0 (get_or t.counters i d).count) → m ≡ b + 1) k n (λ below.
        ways_all (λ a m. m ≡ b + 1) k n (λ a. follows i d below a)))) in
        let within = stays here.first here.count here.owner here.among in
        leads_from t (length blocks) b k n (here.owner.ends b here.among)
        (ways_weaker _ (GoodWay t (length blocks) b) way_from k n (ways_both _ _ k n (ways_both (λ m. IsAmong m here.first here.count) StaysInTask k n within in_task) (ways_both StaysInIsr Follows k n in_isr in_order)))

-- a site that is there exactly where it is one, and that says what its version has a place for
abbrev pub FitsSite : ℕ → Bool → Option Site → Type 0
FitsSite tasks is None = IsTrue (not is)
FitsSite tasks is (Some x) = IsTrue is × IsForm tasks x.form

abbrev pub SaysItsOwn : Version → Option Site → Type 0
SaysItsOwn version.One x = SaysNothing x
SaysItsOwn version.Two x = Unit {0}

known_any : (k : Known) → IsUnknown k → k ≡ known.Any
known_any known.Any h = refl
known_any (known.Always x) h = absurd h

good_known : (v : Version) (x : Site) → SaysItsOwn v (Some x) → GoodKnown v x.known
good_known version.One x says = known_any x.known says
good_known version.Two x says = tt

pub good_site : (v : Version) (tasks : ℕ) (is : Bool) (x : Option Site) → tasks ≤ 16 → FitsSite tasks is x → SaysItsOwn v x → GoodSite v tasks is x
good_site v tasks is None few fits says = not-true is fits
good_site v tasks is (Some x) few fits says = (fits.0, ((form_again tasks x.form few fits.1, form_small tasks x.form few fits.1), good_known v x says))

pub says_its_own : (v : Version) (app : App) (sites : List (Option Site)) (b : ℕ) → b < length sites → FitsAlone v app sites → SaysItsOwn v (get_or sites b None)
says_its_own version.One app sites b lt alone = alone.unknown b None lt
says_its_own version.Two app sites b lt alone = tt
