-- Which source's routine begins: the computed one is the one with the property.
use Rattle.std.proofs.Common.{◌≡◌, ℕ, ◌<◌, ◌≤◌, Bool, true, false, cond, length, refl, ap, subst, ◌⊎◌, inl, inr, arith, Some, None, ◌≢◌, ◌&&◌, sym, nat_le}
use Rattle.std.proofs.lemmas.{Bool.{cases_Bool, cases_lt, Decides.{nat_tests}, cases_eq, and_parts, and_from}, List.{get_or_past}}
use Rattle.std.specs.{Prelude.{option_map}, declared.option.Option.{Option}}
use Rattle.osek_values.specs.{declared.numbers.SourceNo.{SourceNo}, Numbers.{source_no}}
use Rattle.osek_standard.specs.{declared.{app.App.{App}, state.State.{State}}, States.{is_latched}, Priority.{first_of_all}}
use Rattle.osek_standard.specs.{Arrivals.{arrival, takes_none, IsArrival, arriving_sources, may_arrive}, Apps.{source_priority}, Levels.{comes_before, level}}
use Rattle.osek_standard.proofs.{Members.{Among, among_passing, passing_among}, FirstLaws.{first_is, is_first, none_first, first_none}}
use Rattle.osek_standard.proofs.{AheadLaws.{ahead_apart, apart_ahead, ahead_of_itself}, NestLaws.{source_orders, no_source, number_of_source}}

-- a latched source is in the table
pub latched_known : (s : State) (k : ℕ) → is_latched s k ≡ true → k < length s.latched
latched_known s k e = elim (cases_lt k (length s.latched)) [
  | inl h ↦ h
  | inr h ↦ (let past : is_latched s k ≡ false = get_or_past s.latched k false h in absurd (cc))
]

taken_by : (b : Bool) (o : Option SourceNo) (k : SourceNo) → cond b None o ≡ Some k → (b ≡ false) × (o ≡ Some k)
taken_by true o k e = absurd (cc)
taken_by false o k e = (refl, e)

module _ (app : App) (s : State) where
  among_arriving : (k : ℕ) → is_latched s k ≡ true → level app s ≤ source_priority app k → Among k (arriving_sources app s)
  among_arriving k e h = among_passing (may_arrive app s) (length s.latched) k (latched_known s k e)
      (and_from (is_latched s k) (nat_le (level app s) (source_priority app k)) e (grind (arith, nat_tests)))

  arriving_among : (k : ℕ) → Among k (arriving_sources app s) → (is_latched s k ≡ true) × (level app s ≤ source_priority app k)
  arriving_among k m =
      let p = passing_among (may_arrive app s) (length s.latched) k m in
      let q = and_parts (is_latched s k) (nat_le (level app s) (source_priority app k)) p.0 in
      let f : nat_le (level app s) (source_priority app k) ≡ true = q.1 in
      (q.0, grind (arith, nat_tests))

  other_source : (k l : ℕ) → is_latched s l ≡ true → l ≢ k → level app s ≤ source_priority app k → (Among l (arriving_sources app s) → comes_before app k l ≡ true) →
      (source_priority app l < source_priority app k) ⊎ ((source_priority app l ≡ source_priority app k) × (k < l))
  other_source k l set other high before = elim (cases_lt (source_priority app l) (level app s)) [
    | inl low ↦ inl (omega (arith, low, high))
    | inr enough ↦ ahead_apart (source_priority app k) k (source_priority app l) l (before (among_arriving l set enough)) other
  ]

  -- the source that arrives has the property
  pub arrival_is : (k : SourceNo) → arrival app s ≡ Some k → IsArrival app s k.0
  arrival_is k e =
      let p = taken_by (takes_none app s) (option_map source_no (first_of_all (comes_before app) (arriving_sources app s))) k e in
      let first = first_is (comes_before app) (arriving_sources app s) k.0 (number_of_source _ k p.1) in
      let here = arriving_among k.0 first.among in
      record {
        allowed = p.0;
        latched = here.0;
        above = here.1;
        others = λ l set other. other_source k.0 l set other here.1 (first.before_each l);
      }

  -- a source with the property arrives
  pub is_arrival : (k : ℕ) → IsArrival app s k → arrival app s ≡ Some (source_no k)
  is_arrival k h = rw h.allowed (ap (option_map source_no) (is_first (comes_before app) (source_orders app) (arriving_sources app s) k (record {
    among = among_arriving k h.latched h.above;
    before_each = λ l m. elim (cases_eq l k) [
      | inl e ↦ subst (λ (v : ℕ). comes_before app k v ≡ true) (sym e) (ahead_of_itself (source_priority app k) k)
      | inr other ↦ apart_ahead (source_priority app k) k (source_priority app l) l (h.others l (arriving_among l m).0 other)
    ];
  })))

  -- none arrives where none is taken, or each that is latched is below the level, and only there
  pub none_taken : takes_none app s ≡ true → arrival app s ≡ None
  none_taken e = rw e refl

  abbrev pub AllBelow : Type 0
  AllBelow = (k : ℕ) → is_latched s k ≡ true → source_priority app k < level app s

  none_by : (b : Bool) → takes_none app s ≡ b → AllBelow → arrival app s ≡ None
  none_by true e below = rw e refl
  none_by false e below = rw e (ap (option_map source_no) (none_first (comes_before app) (arriving_sources app s) (λ k m.
      let here = arriving_among k m in absurd (omega (arith, here.1, below k here.0)))))

  pub all_below : AllBelow → arrival app s ≡ None
  all_below below = none_by (takes_none app s) refl below

  pub none_latched : ((k : ℕ) → is_latched s k ≡ false) → arrival app s ≡ None
  none_latched none = all_below (λ k set. let unset : is_latched s k ≡ false = none k in absurd (cc))

  below_if_none : takes_none app s ≡ false → arrival app s ≡ None → AllBelow
  below_if_none f e k set = elim (cases_lt (source_priority app k) (level app s)) [
    | inl low ↦ low
    | inr enough ↦
        (let none = no_source (first_of_all (comes_before app) (arriving_sources app s))
        (subst (λ (b : Bool). cond b None (option_map source_no (first_of_all (comes_before app) (arriving_sources app s))) ≡ None) f e) in
        absurd (first_none (comes_before app) (source_orders app) (arriving_sources app s) none k (among_arriving k set enough)))
  ]

  pub no_arrival : arrival app s ≡ None → (takes_none app s ≡ true) ⊎ AllBelow
  no_arrival e = elim (cases_Bool (takes_none app s)) [
    | inl t ↦ inl t
    | inr f ↦ inr (below_if_none f e)
  ]
