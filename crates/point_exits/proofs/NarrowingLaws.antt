-- What the levels of a task say of its values, and what is left of an entry's numbers without some of them.
use Rattle.std.proofs.Common.{◌≡◌, ◌⊎◌, ℕ, ◌+◌, ◌-◌, ◌^◌, ◌<◌, ◌≤◌, min, Bool, true, false, ◌&&◌, not, List, length, get_or, set, refl, sym, ap, subst, ◌∙◌, inl, inr, arith, IsTrue, get_or-set_same}
use Rattle.std.specs.{Prelude.{Contains, Some, None}, Int.Bits.{and_zero_l}}
use Rattle.std.proofs.lemmas.{Bool.{cases_eq, cases_lt}, List.{set-set, set-get_or, get_or_default}}
use Rattle.osek_standard.specs.declared.app.App.{App}
use Rattle.abstract_state.specs.{declared.value.PartValue.{PartValue, TheVariants.{OfAlarm}}, Concrete.{val_of}}
use Rattle.flow_model.specs.Values.{is_live_value, value_priority}
use Rattle.numbered_sets.specs.{declared.numbered_entry.NumberedEntry.{NumberedEntry}, Numbers.{Numbers, has_number, other_numbers, meets}, NumberedEntries.{no_set, numbers_at}}
use Rattle.numbered_sets.specs.Pools.{Values, values_at}
use Rattle.numbered_sets.proofs.{ViewLaws.{false_unless}, MeetLaws.{has_other, common_of, meets_at}}
use Rattle.flow_exits.specs.Claims.{is_below}
use Rattle.flow_exits.proofs.PriorityTests.{below_means, below_passes}
use Rattle.point_exits.specs.declared.task_levels.{Level.{Level}, TaskLevels.{TaskLevels}}
use Rattle.point_exits.specs.Levels.{IsLiveAt, IsDead, AreTaskLevels, IsLeastFrom, AreAllJudged, HasBelow, IsLeastLimit, IsNarrowed}
use Rattle.point_exits.proofs.{FoundLevels.{HasLevel, found_place}, LevelsFrom.{not_lower}}

-- ---- values and a limit

module _ (app : App) (u limit : ℕ) (v : PartValue) where
  dead_below : IsDead v → is_below app u limit (val_of v) ≡ true
  dead_below dead = below_passes app u limit (val_of v) (λ live. absurd (cc))

  live_below : (p : ℕ) → IsLiveAt app u p v → p < limit → is_below app u limit (val_of v) ≡ true
  live_below p h lt = below_passes app u limit (val_of v) (λ live. omega (arith, h.priority, lt))

  below_limit : (p : ℕ) → IsLiveAt app u p v → is_below app u limit (val_of v) ≡ true → p < limit
  below_limit p h e = (let less = below_means app u limit (val_of v) e h.live in omega (arith, less, h.priority))

  live_not_below : (p : ℕ) → IsLiveAt app u p v → limit ≤ p → is_below app u limit (val_of v) ≡ false
  live_not_below p h le = false_unless (is_below app u limit (val_of v)) (p < limit) (below_limit p h) (λ lt. omega (arith, lt, le))

-- ---- the least limit

-- some level that has one of these numbers is below the limit
pub record HasLevelBelow (levels : List Level) (x : Numbers) (limit : ℕ) : Type 0 where
  pub level : Level
  pub listed : Contains levels level
  pub meets : IsTrue (meets x level.numbers)
  pub below : level.priority < limit

module _ (app : App) (u : ℕ) (vs : List PartValue) (levels : TaskLevels) (x : Numbers) (h : AreTaskLevels app u vs levels) (all : AreAllJudged levels x) where
  pub least_of_dead : IsTrue (meets x levels.dead) → IsLeastLimit app u vs x 0
  least_of_dead met = record {
    least = λ limit below. omega arith;
    enough = λ n has. (
        let common = common_of x levels.dead met in
        ∣ record {
          number = common.number;
          has = common.first;
          below = λ d. dead_below app u 0 (get_or vs common.number d) (h.dead common.number d common.second).1;
        } ∣₁);
  }

  module _ (need : ℕ) (none : meets x levels.dead ≡ false)
      (least : (level : Level) → Contains levels.levels level → IsTrue (meets x level.numbers) → need ≤ level.priority + 1)
      (enough : (level : Level) → Contains levels.levels level → IsTrue (meets x level.numbers) → HasLevelBelow levels.levels x need) where
    its_level : (n : ℕ) → IsTrue (has_number x n) → HasLevel levels.levels n
    its_level n has = elim (found_place levels.dead levels.levels n (h.whole n (all n has))) [
      | inl dead ↦ absurd (let met = meets_at x levels.dead n has dead in cc)
      | inr level ↦ level
    ]

    within : (limit n : ℕ) → IsTrue (has_number x n) → ((d : PartValue) → IsTrue (is_below app u limit (val_of (get_or vs n d)))) → need ≤ limit
    within limit n has below =
        let its = its_level n has in
        let d = OfAlarm false in
        let live = (h.levels its.level its.listed n d its.has).1 in
        let less = below_limit app u limit (get_or vs n d) its.level.priority live (below d) in
        let few = least its.level its.listed (meets_at x its.level.numbers n has its.has) in
        omega (arith, less, few)

    some_below : HasLevelBelow levels.levels x need → HasBelow app u need vs x
    some_below low =
        let common = common_of x low.level.numbers low.meets in
        record {
          number = common.number;
          has = common.first;
          below = λ d. live_below app u need (get_or vs common.number d) low.level.priority (h.levels low.level low.listed common.number d common.second).1 low.below;
        }

    pub least_of_live : IsLeastLimit app u vs x need
    least_of_live = record {
      least = λ limit low. within limit low.number low.has low.below;
      enough = λ n has. (let its = its_level n has in ∣ some_below (enough its.level its.listed (meets_at x its.level.numbers n has its.has)) ∣₁);
    }

-- The least limit under which the task is with a value of the levels up to a place. It begins past all priorities.
pub record IsNeedUpTo (levels : List Level) (x : Numbers) (k need : ℕ) : Type 0 where
  pub least : (i : ℕ) (d : Level) → i < k → IsTrue (meets x (get_or levels i d).numbers) → need ≤ (get_or levels i d).priority + 1
  pub enough : (i : ℕ) (d : Level) → i < k → IsTrue (meets x (get_or levels i d).numbers) → HasLevelBelow levels x need
  pub begun : (need ≡ 2 ^ 64 - 1) ⊎ HasLevelBelow levels x need

pub no_need : (levels : List Level) (x : Numbers) → IsNeedUpTo levels x 0 (2 ^ 64 - 1)
no_need levels x = record {
  least = λ i d lt. absurd (omega (arith, lt));
  enough = λ i d lt. absurd (omega (arith, lt));
  begun = inl refl;
}

-- no numbers meet none
pub nothing_met : (x y : Numbers) → x.bits ≡ 0 → IsTrue (meets x y) → ⊥
nothing_met x y none met = absurd (let zero_and = and_zero_l y.bits in cc)

pub need_of_none : (levels : List Level) (x : Numbers) (k need : ℕ) → IsNeedUpTo levels x k need → x.bits ≡ 0 → need ≡ 2 ^ 64 - 1
need_of_none levels x k need h none = elim h.begun [ inl is ↦ is | inr low ↦ absurd (nothing_met x low.level.numbers none low.meets) ]

-- so it is with each of the levels
module _ (levels items : List Level) (x : Numbers) (k need : ℕ) (h : IsNeedUpTo items x k need) (whole : length items ≤ k) (same : items ≡ levels) (level : Level) (listed : Contains levels level) (met : IsTrue (meets x level.numbers)) where
  pub least_of_all : need ≤ level.priority + 1
  least_of_all =
      let there : Contains items level = subst (λ (ls : List Level). Contains ls level) (sym same) listed in
      let least = h.least there.0 level (omega (arith, there.1, whole)) (subst (λ (l : Level). IsTrue (meets x l.numbers)) (sym there.2) met) in
      let priority = ap (λ (l : Level). l.priority) there.2 in
      omega (arith, least, priority)

  pub enough_of_all : HasLevelBelow levels x need
  enough_of_all =
      let there : Contains items level = subst (λ (ls : List Level). Contains ls level) (sym same) listed in
      subst (λ (ls : List Level). HasLevelBelow ls x need) same
      (h.enough there.0 level (omega (arith, there.1, whole)) (subst (λ (l : Level). IsTrue (meets x l.numbers)) (sym there.2) met))

module _ (levels : List Level) (x : Numbers) (k need : ℕ) (level : Level) (h : IsNeedUpTo levels x k need) (known : k < length levels) (at : get_or levels k level ≡ level) where
  its : (i : ℕ) (d : Level) → i ≡ k → get_or levels i d ≡ level
  its i d same = ap (λ (j : ℕ). get_or levels j d) same ∙ get_or_default levels k d level known ∙ at

  pub need_without : meets x level.numbers ≡ false → IsNeedUpTo levels x (k + 1) need
  need_without none = record {
    least = λ i d lt met. elim (cases_eq i k) [
      | inl same ↦ absurd (no_level i d same met)
      | inr other ↦ h.least i d (omega (arith, lt, other)) met
    ];
    enough = λ i d lt met. elim (cases_eq i k) [
      | inl same ↦ absurd (no_level i d same met)
      | inr other ↦ h.enough i d (omega (arith, lt, other)) met
    ];
    begun = h.begun;
  }
    where
      no_level : (i : ℕ) (d : Level) → i ≡ k → IsTrue (meets x (get_or levels i d).numbers) → ⊥
      no_level i d same met = (let that = ap (λ (l : Level). meets x l.numbers) (its i d same) in absurd (cc))

  module _ (m : ℕ) (met : IsTrue (meets x level.numbers)) (small : level.priority < 2 ^ 32) (is : m ≡ min need (level.priority + 1)) where
    lowest : HasLevelBelow levels x m
    lowest = elim (cases_lt (level.priority + 1) need) [
      | inl lower ↦ record { level = level; listed = (k, known, at); meets = met; below = omega (arith, is, lower) }
      | inr le ↦ elim h.begun [
        | inl past ↦ absurd (omega (arith, past, le, small))
        | inr low ↦ record { level = low.level; listed = low.listed; meets = low.meets; below = (let less = low.below in omega (arith, is, le, less)) }
      ]
    ]

    pub need_with : IsNeedUpTo levels x (k + 1) m
    need_with = record {
      least = λ i d lt that. elim (cases_eq i k) [
        | inl same ↦ (let priority = ap (λ (l : Level). l.priority) (its i d same) in omega (arith, is, priority))
        | inr other ↦ (let few = h.least i d (omega (arith, lt, other)) that in omega (arith, is, few))
      ];
      enough = λ i d lt that. lowest;
      begun = inr lowest;
    }

-- ---- what is left of an entry

-- the sets of an entry of which one was replaced
pub record IsReplaced (c : ℕ) (entry after : NumberedEntry) : Type 0 where
  pub rest : after.sets ≡ set entry.sets c (numbers_at after c)
  pub domain : (numbers_at after c).domain ≡ (numbers_at entry c).domain

pub not_replaced : (c : ℕ) (entry : NumberedEntry) → IsReplaced c entry entry
not_replaced c entry = record { rest = sym (set-get_or entry.sets c no_set); domain = refl }

module _ (c : ℕ) (entry after : NumberedEntry) (y : Numbers) (known : c < length entry.sets) (write : after.sets ≡ set entry.sets c (other_numbers (numbers_at entry c) y)) where
  pub left_at : numbers_at after c ≡ other_numbers (numbers_at entry c) y
  left_at = ap (λ (xs : List Numbers). get_or xs c no_set) write ∙ get_or-set_same entry.sets c (other_numbers (numbers_at entry c) y) no_set known

  pub has_left : (n : ℕ) → has_number (numbers_at after c) n ≡ (has_number (numbers_at entry c) n && not (has_number y n))
  has_left n = ap (λ (x : Numbers). has_number x n) left_at ∙ has_other (numbers_at entry c) y n

  pub left_domain : (numbers_at after c).domain ≡ (numbers_at entry c).domain
  left_domain = ap (λ (x : Numbers). x.domain) left_at

  pub replaced_on : (before : NumberedEntry) → IsReplaced c before entry → IsReplaced c before after
  replaced_on before h = record {
    rest =
        write ∙ ap (λ (xs : List Numbers). set xs c (other_numbers (numbers_at entry c) y)) h.rest
        ∙ set-set before.sets c (numbers_at entry c) (other_numbers (numbers_at entry c) y)
        ∙ ap (set before.sets c) (sym left_at);
    domain = left_domain ∙ h.domain;
  }

has_first : (a b : Bool) → (a && not b) ≡ true → a ≡ true
has_first true b e = refl
has_first false b e = e

-- what each number of an entry says of what is left
narrowed_at : (a b p : Bool) → (b ≡ true → a ≡ true) → (a ≡ true → b ≡ p) → b ≡ (a && p)
narrowed_at true b p fewer same = same refl
narrowed_at false b p fewer same = false_unless b ⊥ (λ e. let had = fewer e in absurd (cc)) (λ no. no)

told : (a b : Bool) → (a ≡ true → b ≡ false) → (a ≡ false → b ≡ true) → b ≡ not a
told true b high low = high refl
told false b high low = low refl

module _ (app : App) (u : ℕ) (pool : List Values) (levels : TaskLevels) (entry after : NumberedEntry) (h : AreTaskLevels app u (values_at pool u) levels) (all : AreAllJudged levels (numbers_at entry u)) where
  lives : (level : Level) → Contains levels.levels level → (n : ℕ) (d : PartValue) → IsTrue (has_number level.numbers n) → IsLiveAt app u level.priority (get_or (values_at pool u) n d)
  lives level listed n d has = (h.levels level listed n d has).1

  pub narrowed_to_live : u < length entry.sets → after.sets ≡ set entry.sets u (other_numbers (numbers_at entry u) levels.dead) → IsNarrowed (λ v. is_live_value (val_of v)) pool u entry after
  narrowed_to_live known write = record {
    rest = (replaced_on u entry after levels.dead known write entry (not_replaced u entry)).rest;
    domain = left_domain u entry after levels.dead known write;
    each = λ n d. has_left u entry after levels.dead known write n ∙ live_left n d;
  }
    where
      live_left : (n : ℕ) (d : PartValue) → (has_number (numbers_at entry u) n && not (has_number levels.dead n)) ≡ (has_number (numbers_at entry u) n && is_live_value (val_of (get_or (values_at pool u) n d)))
      live_left n d =
          narrowed_at (has_number (numbers_at entry u) n) (has_number (numbers_at entry u) n && not (has_number levels.dead n)) (is_live_value (val_of (get_or (values_at pool u) n d)))
          (has_first (has_number (numbers_at entry u) n) (has_number levels.dead n))
          (λ has. ap (λ (a : Bool). a && not (has_number levels.dead n)) has ∙ elim (found_place levels.dead levels.levels n (h.whole n (all n has))) [
            | inl dead ↦ ap not dead ∙ sym (h.dead n d dead).1
            | inr its ↦
                (let live = (lives its.level its.listed n d its.has).live in
                ap not (false_unless (has_number levels.dead n) ⊥ (λ dead. let gone = (h.dead n d dead).1 in absurd (cc)) (λ no. no)) ∙ sym live)
          ])

  module _ (limit : ℕ) where
    -- no value of the entry is at a limit or above it
    pub all_below : after.sets ≡ entry.sets → IsLeastFrom levels.levels limit (length levels.levels) None → IsNarrowed (λ v. is_below app u limit (val_of v)) pool u entry after
    all_below same low = record {
      rest = same ∙ sym (ap (set entry.sets u) (ap (λ (xs : List Numbers). get_or xs u no_set) same) ∙ set-get_or entry.sets u no_set);
      domain = ap (λ (xs : List Numbers). (get_or xs u no_set).domain) same;
      each = λ n d. ap (λ (xs : List Numbers). has_number (get_or xs u no_set) n) same
          ∙ narrowed_at (has_number (numbers_at entry u) n) (has_number (numbers_at entry u) n) (is_below app u limit (val_of (get_or (values_at pool u) n d))) (λ has. has)
          (λ has. has ∙ sym (elim (found_place levels.dead levels.levels n (h.whole n (all n has))) [
            | inl dead ↦ dead_below app u limit (get_or (values_at pool u) n d) (h.dead n d dead).1
            | inr its ↦
                (let priority = ap (λ (l : Level). l.priority) its.listed.2 in
                let less = low its.listed.0 its.level its.listed.1 in
                live_below app u limit (get_or (values_at pool u) n d) its.level.priority (lives its.level its.listed n d its.has) (omega (arith, less, priority)))
          ]));
    }

    module _ (place : ℕ) (above : Level) (least : IsLeastFrom levels.levels limit (length levels.levels) (Some place)) (at : get_or levels.levels place above ≡ above) where
      not_below : (n : ℕ) (d : PartValue) → IsTrue (has_number above.from n) → is_below app u limit (val_of (get_or (values_at pool u) n d)) ≡ false
      not_below n d has =
          let from = ((h.from above (place, least.0, at)).each n d has).1 in
          let high = least.1 above in
          let priority = ap (λ (l : Level). l.priority) at in
          live_not_below app u limit (get_or (values_at pool u) n d) (value_priority app u (val_of (get_or (values_at pool u) n d))) (record { live = from.live; priority = refl })
          (let up = from.priority in omega (arith, high, priority, up))

      below_else : (n : ℕ) (d : PartValue) → n < levels.judged → has_number above.from n ≡ false → is_below app u limit (val_of (get_or (values_at pool u) n d)) ≡ true
      below_else n d lt none = below_passes app u limit (val_of (get_or (values_at pool u) n d)) (λ live. elim (cases_lt (value_priority app u (val_of (get_or (values_at pool u) n d))) limit) [
        | inl low ↦ low
        | inr high ↦ absurd (let has = not_lower app u (values_at pool u) levels limit h place above least at n d lt (record { live = live; priority = high }) in cc)
      ])

      pub narrowed_below : u < length entry.sets → after.sets ≡ set entry.sets u (other_numbers (numbers_at entry u) above.from) → IsNarrowed (λ v. is_below app u limit (val_of v)) pool u entry after
      narrowed_below known write = record {
        rest = (replaced_on u entry after above.from known write entry (not_replaced u entry)).rest;
        domain = left_domain u entry after above.from known write;
        each = λ n d. has_left u entry after above.from known write n
            ∙ narrowed_at (has_number (numbers_at entry u) n) (has_number (numbers_at entry u) n && not (has_number above.from n)) (is_below app u limit (val_of (get_or (values_at pool u) n d)))
            (has_first (has_number (numbers_at entry u) n) (has_number above.from n))
            (λ has. ap (λ (a : Bool). a && not (has_number above.from n)) has ∙ sym (not_from n d (all n has)));
      }
        where
          not_from : (n : ℕ) (d : PartValue) → n < levels.judged → is_below app u limit (val_of (get_or (values_at pool u) n d)) ≡ not (has_number above.from n)
          not_from n d lt = told (has_number above.from n) (is_below app u limit (val_of (get_or (values_at pool u) n d))) (not_below n d) (below_else n d lt)
