-- What a claim leaves of an entry.
use Rattle.std.proofs.Common.{◌≡◌, ◌≢◌, ℕ, ◌+◌, ◌<◌, ◌≤◌, Bool, true, false, not, ◌&&◌, List, length, map, get_or, set, refl, sym, ap, ap₂, subst, ◌∙◌, inl, inr, arith, IsTrue, Some, None, get_or-set_other}
use Rattle.std.specs.{Prelude.{if◌then◌else◌, slice_index_or}, Coded.{le_prop}, declared.option.Option.{Option}}
use Rattle.std.proofs.{Math.{ListN.{get_or-map}, Logic.{∥∥₁_elim}}, lemmas.{Bool.{cases_eq, cases_lt, and_parts, ltb-true, ltb-false, lt-ltb, le-ltb}, List.{length-map, map-set, set-get_or}}}
use Rattle.osek_standard.specs.declared.app.App.{App}
use Rattle.abstract_state.specs.declared.value.{Val.{Val, TheVariants.{Suspended, Live, Waiting}}, PartValue.{PartValue, TheVariants.{OfAlarm}}}
use Rattle.abstract_state.specs.declared.value.Domain.TheVariants as domain
use Rattle.abstract_state.specs.{declared.table.ValueSet.{ValueSet}, Components.{component_count}, Concrete.{val_of}, Tables.{set_at, is_member}}
use Rattle.abstract_state.proofs.ComponentLaws.{task_counted}
use Rattle.flow_model.specs.{Effects.{AreIn}, Values.{value_priority}}
use Rattle.numbered_sets.specs.{declared.numbered_entry.NumberedEntry.{NumberedEntry}, Numbers.{Numbers, has_number}}
use Rattle.numbered_sets.specs.{NumberedEntries.{no_set, numbers_at, number_domains, AreFilled}, Pools.{Values, values_at}, Views.{plain_entry, AreNumbersOf}}
use Rattle.numbered_sets.proofs.{PlainLaws.{member_of_plain, plain_set_at}, SiftLaws.{value_sifted}}
use Rattle.flow_exits.specs.{declared.claim.Claim.{Claim}, Claims.{limit_of, is_below, is_under, AreUnder}, Needs.{is_too_low, IsTooLow}}
use Rattle.point_exits.specs.{Levels.{HasBelow, IsNarrowed}, Narrowing.{IsLeft, is_under_limit, AreNeeds, AreMet, NeverUnder}}
use Rattle.point_exits.proofs.NumberLaws.{member_number, some_number, number_fills}

and_true : (b : Bool) → b ≡ (b && true)
and_true true = refl
and_true false = refl

-- the tasks are components
pub tasks_counted : (app : App) → length app.tasks ≤ component_count app
tasks_counted app = elim (cases_lt (component_count app) (length app.tasks)) [
  | inl lt ↦ (let less = task_counted app (component_count app) lt in absurd (omega (arith, less)))
  | inr le ↦ le
]

-- ---- what is left

module _ (passes : ℕ → PartValue → Bool) (pool : List Values) (entry left : NumberedEntry) (h : IsLeft passes pool entry left) where
  abbrev none : PartValue
  none = OfAlarm false

  left_has : (c n : ℕ) → IsTrue (has_number (numbers_at left c) n) → IsTrue (has_number (numbers_at entry c) n)
  left_has c n has = (and_parts (has_number (numbers_at entry c) n) (passes c (slice_index_or (values_at pool c) n none)) (sym (h.each c n none) ∙ has)).0

  pub as_many_left : length left.sets ≡ length entry.sets
  as_many_left = sym (length-map left.sets (λ (x : Numbers). x.domain)) ∙ ap length h.domains ∙ length-map entry.sets (λ (x : Numbers). x.domain)

  pub known_left : AreNumbersOf pool entry → AreNumbersOf pool left
  known_left known = record { domains = h.domains ∙ known.domains; known = λ c n has. known.known c n (left_has c n has) }

  left_member : (c : ℕ) (v : PartValue) → is_member (set_at (plain_entry pool left) c) v ≡ (is_member (set_at (plain_entry pool entry) c) v && passes c v)
  left_member c v =
      ap (λ (s : ValueSet). is_member s v) (plain_set_at pool left c)
      ∙ member_of_plain (values_at pool c) (numbers_at left c) v
      ∙ value_sifted (values_at pool c) (has_number (numbers_at entry c)) (has_number (numbers_at left c)) (passes c) v (λ n d lt. h.each c n d)
      ∙ ap (λ (b : Bool). b && passes c v) (sym (ap (λ (s : ValueSet). is_member s v) (plain_set_at pool entry c) ∙ member_of_plain (values_at pool c) (numbers_at entry c) v))

  module _ (app : App) (value : ℕ → PartValue) where
    left_parts : AreIn app (plain_entry pool left) value → (c : ℕ) → c < component_count app → IsTrue (is_member (set_at (plain_entry pool entry) c) (value c)) × IsTrue (passes c (value c))
    left_parts within c lt = and_parts (is_member (set_at (plain_entry pool entry) c) (value c)) (passes c (value c)) (sym (left_member c (value c)) ∙ within c lt)

    pub within_left : AreIn app (plain_entry pool left) value → AreIn app (plain_entry pool entry) value
    within_left within c lt = (left_parts within c lt).0

    left_passes : AreIn app (plain_entry pool left) value → (c : ℕ) → c < component_count app → IsTrue (passes c (value c))
    left_passes within c lt = (left_parts within c lt).1

    in_left : AreIn app (plain_entry pool entry) value → ((c : ℕ) → c < component_count app → IsTrue (passes c (value c))) → AreIn app (plain_entry pool left) value
    in_left within pass c lt = left_member c (value c) ∙ ap₂ (λ (a b : Bool). a && b) (within c lt) (pass c lt)

-- ---- the limits of a claim

module _ (app : App) (claim : Claim) where
  under_at : (n c : ℕ) (v : PartValue) → c < n → is_under_limit app claim n c v ≡ is_under app c (limit_of claim c) (val_of v)
  under_at n c v lt = ap (λ (b : Bool). if b then is_under app c (limit_of claim c) (val_of v) else true) (lt-ltb c n lt)

  under_past : (n c : ℕ) (v : PartValue) → n ≤ c → is_under_limit app claim n c v ≡ true
  under_past n c v le = ap (λ (b : Bool). if b then is_under app c (limit_of claim c) (val_of v) else true) (le-ltb c n le)

  unlimited : (c : ℕ) (v : Val) → limit_of claim c ≡ None → is_under app c (limit_of claim c) v ≡ true
  unlimited c v e = ap (λ (o : Option ℕ). is_under app c o v) e

  pub no_limit : (n c : ℕ) (v : PartValue) → limit_of claim c ≡ None → is_under_limit app claim n c v ≡ true
  no_limit n c v e = elim (cases_lt c n) [
    | inl lt ↦ under_at n c v lt ∙ unlimited c (val_of v) e
    | inr le ↦ under_past n c v le
  ]

  pub nothing_left_out : (pool : List Values) (entry : NumberedEntry) → IsLeft (is_under_limit app claim 0) pool entry entry
  nothing_left_out pool entry = record {
    domains = refl;
    each = λ c n d. and_true (has_number (numbers_at entry c) n) ∙ ap (λ (b : Bool). has_number (numbers_at entry c) n && b) (sym (under_past 0 c (slice_index_or (values_at pool c) n d) (omega arith)));
  }

  -- one more task
  same_beside : (t c : ℕ) (v : PartValue) → c ≢ t → is_under_limit app claim t c v ≡ is_under_limit app claim (t + 1) c v
  same_beside t c v differ = elim (cases_lt c t) [
    | inl lt ↦ under_at t c v lt ∙ sym (under_at (t + 1) c v (omega (arith, lt)))
    | inr le ↦ under_past t c v le ∙ sym (under_past (t + 1) c v (omega (arith, le, differ)))
  ]

  module _ (pool : List Values) (first : NumberedEntry) (t : ℕ) where
    pub unlimited_left : (entry : NumberedEntry) → limit_of claim t ≡ None → IsLeft (is_under_limit app claim t) pool first entry → IsLeft (is_under_limit app claim (t + 1)) pool first entry
    unlimited_left entry e h = record {
      domains = h.domains;
      each = λ c n d. h.each c n d ∙ ap (λ (b : Bool). has_number (numbers_at first c) n && b) (same c (slice_index_or (values_at pool c) n d));
    }
      where
        same : (c : ℕ) (v : PartValue) → is_under_limit app claim t c v ≡ is_under_limit app claim (t + 1) c v
        same c v = elim (cases_eq c t) [
          | inl at ↦ no_limit t c v (ap (limit_of claim) at ∙ e) ∙ sym (no_limit (t + 1) c v (ap (limit_of claim) at ∙ e))
          | inr differ ↦ same_beside t c v differ
        ]

    pub limited_left : (entry after : NumberedEntry) (limit : ℕ) → limit_of claim t ≡ Some limit → IsNarrowed (λ v. is_below app t limit (val_of v)) pool t entry after
        → IsLeft (is_under_limit app claim t) pool first entry → IsLeft (is_under_limit app claim (t + 1)) pool first after
    limited_left entry after limit e narrowed h = record { domains = domains ∙ h.domains; each = each }
      where
        domains : number_domains after ≡ number_domains entry
        domains =
            ap (map (λ (x : Numbers). x.domain)) narrowed.rest
            ∙ map-set (λ (x : Numbers). x.domain) entry.sets t (numbers_at after t)
            ∙ ap (set (number_domains entry) t) (narrowed.domain ∙ sym (get_or-map (λ (x : Numbers). x.domain) entry.sets t no_set))
            ∙ set-get_or (number_domains entry) t domain.Alarm

        at_first : (n : ℕ) (d : PartValue) → has_number (numbers_at after t) n ≡ (has_number (numbers_at first t) n && is_under_limit app claim (t + 1) t (slice_index_or (values_at pool t) n d))
        at_first n d =
            let v = slice_index_or (values_at pool t) n d in
            narrowed.each n d
            ∙ ap (λ (b : Bool). b && is_below app t limit (val_of v)) (h.each t n d ∙ ap (λ (b : Bool). has_number (numbers_at first t) n && b) (under_past t t v (omega arith)) ∙ sym (and_true (has_number (numbers_at first t) n)))
            ∙ ap (λ (b : Bool). has_number (numbers_at first t) n && b) (sym (under_at (t + 1) t v (omega arith) ∙ ap (λ (o : Option ℕ). is_under app t o (val_of v)) e))

        each : (c n : ℕ) (d : PartValue) → has_number (numbers_at after c) n ≡ (has_number (numbers_at first c) n && is_under_limit app claim (t + 1) c (slice_index_or (values_at pool c) n d))
        each c n d = elim (cases_eq c t) [
          | inl same ↦ subst (λ (k : ℕ). has_number (numbers_at after k) n ≡ (has_number (numbers_at first k) n && is_under_limit app claim (t + 1) k (slice_index_or (values_at pool k) n d))) (sym same) (at_first n d)
          | inr differ ↦
              ap (λ (xs : List Numbers). has_number (get_or xs c no_set) n) narrowed.rest
              ∙ ap (λ (x : Numbers). has_number x n) (get_or-set_other entry.sets t c (numbers_at after t) no_set differ)
              ∙ h.each c n d
              ∙ ap (λ (b : Bool). has_number (numbers_at first c) n && b) (same_beside t c (slice_index_or (values_at pool c) n d) differ)
        ]

-- ---- what is needed

module _ (app : App) (u : ℕ) where
  below_more : (need limit : ℕ) (v : Val) → need ≤ limit → is_below app u need v ≡ true → is_below app u limit v ≡ true
  below_more need limit Suspended le h = refl
  below_more need limit (Live x) le h = (let lt = ltb-true (value_priority app u (Live x)) need h in lt-ltb (value_priority app u (Live x)) limit (omega (arith, lt, le)))
  below_more need limit (Waiting b) le h = refl

  under_if : (o : Option ℕ) (need : ℕ) (v : Val) → is_too_low o need ≡ false → is_below app u need v ≡ true → is_under app u o v ≡ true
  under_if None need v enough h = refl
  under_if (Some limit) need v enough h = below_more need limit v (ltb-false limit need enough) h

pub not_too_low : (o : Option ℕ) (need : ℕ) → true ≡ not (is_too_low o need) → is_too_low o need ≡ false
not_too_low o need e = cases (is_too_low o need) e
  where
    cases : (b : Bool) → true ≡ not b → b ≡ false
    cases true e = absurd (cc)
    cases false e = refl

too_low : (o : Option ℕ) (need : ℕ) → is_too_low o need ≡ true → (limit : ℕ) × (o ≡ Some limit) × (limit < need)
too_low None need e = absurd (cc)
too_low (Some limit) need e = (limit, refl, ltb-true limit need e)

module _ (app : App) (pool : List Values) (claim : Claim) (entry : NumberedEntry) (needs : List ℕ) (h : AreNeeds app pool entry (length app.tasks) needs) where
  pub filled_left : (left : NumberedEntry) → IsLeft (is_under_limit app claim (length app.tasks)) pool entry left → AreMet claim needs → AreFilled entry → AreFilled left
  filled_left left l met filled = record {
    each = λ c lt.
        (let some = some_number (numbers_at entry c) (filled.each c (omega (arith, lt, as_many_left (is_under_limit app claim (length app.tasks)) pool entry left l))) in
        elim (cases_lt c (length app.tasks)) [
          | inl task ↦
              ∥∥₁_elim ((h.each c task).enough some.0 some.1) le_prop (λ below.
              let need = get_or needs c 0 in
              let v = slice_index_or (values_at pool c) below.number (OfAlarm false) in
              let under : is_under_limit app claim (length app.tasks) c v ≡ true
              = under_at app claim (length app.tasks) c v task ∙ under_if app c (limit_of claim c) need (val_of v) (met c (omega (arith, task, h.size))) (below.below (OfAlarm false)) in
              number_fills (numbers_at left c) below.number (l.each c below.number (OfAlarm false) ∙ ap₂ (λ (a b : Bool). a && b) below.has under))
          | inr past ↦
              number_fills (numbers_at left c) some.0
              (l.each c some.0 (OfAlarm false) ∙ ap₂ (λ (a b : Bool). a && b) some.1 (under_past app claim (length app.tasks) c (slice_index_or (values_at pool c) some.0 (OfAlarm false)) past))
        ]);
  }

  pub never_under : IsTooLow claim needs → NeverUnder app claim pool entry
  never_under low value within under =
      let u = low.task in
      let lt : u < length app.tasks = omega (arith, low.known, h.size) in
      let x = member_number pool entry u (value u) (within u (task_counted app u lt)) in
      let limit = too_low (limit_of claim u) (get_or needs u 0) low.low in
      let its : is_below app u limit.0 (val_of (value u)) ≡ true = ap (λ (o : Option ℕ). is_under app u o (val_of (value u))) (sym limit.1) ∙ under u lt in
      let below : HasBelow app u limit.0 (values_at pool u) (numbers_at entry u) = record {
        number = x.number;
        has = x.has_it;
        below = λ d. ap (λ (v : PartValue). is_below app u limit.0 (val_of v)) (x.is.is d) ∙ its;
      } in
      let least = (h.each u lt).least limit.0 below in
      absurd (omega (arith, least, limit.2))

-- ---- values that are left

module _ (app : App) (claim : Claim) (pool : List Values) (entry left : NumberedEntry) (h : IsLeft (is_under_limit app claim (length app.tasks)) pool entry left) (value : ℕ → PartValue) where
  abbrev passing : ℕ → PartValue → Bool
  passing = is_under_limit app claim (length app.tasks)

  pub under_left : AreIn app (plain_entry pool left) value → AreUnder app claim (length app.tasks) value
  under_left within u lt = sym (under_at app claim (length app.tasks) u (value u) lt) ∙ left_passes passing pool entry left h app value within u (task_counted app u lt)

  pub left_under : AreIn app (plain_entry pool entry) value → AreUnder app claim (length app.tasks) value → AreIn app (plain_entry pool left) value
  left_under within under = in_left passing pool entry left h app value within (λ c lt. elim (cases_lt c (length app.tasks)) [
    | inl task ↦ under_at app claim (length app.tasks) c (value c) task ∙ under c task
    | inr past ↦ under_past app claim (length app.tasks) c (value c) past
  ])
