-- The numbers of a task's values from a priority on, as values come in.
use Rattle.std.proofs.Common.{◌≡◌, ℕ, ◌+◌, ◌-◌, ◌^◌, ◌<◌, ◌≤◌, false, List, length, get_or, set, sym, ap, subst, ◌∙◌, inl, inr, arith, IsTrue, get_or-set_same, get_or-set_other}
use Rattle.std.specs.{Prelude.{Contains, Some, None}, declared.option.Option.{Option}}
use Rattle.std.proofs.lemmas.{Bool.{cases_eq, cases_lt}, List.{length-set, get_or_default}}
use Rattle.osek_standard.specs.declared.app.App.{App}
use Rattle.abstract_state.specs.{declared.value.{Domain.{Domain}, PartValue.{PartValue}}, Concrete.{val_of}}
use Rattle.flow_model.specs.Values.{is_live_value, value_priority}
use Rattle.numbered_sets.specs.{Numbers.{Numbers, numbers, has_number, with_number}, Pools.{IsNumberOf}}
use Rattle.point_exits.specs.declared.task_levels.{Level.{Level}, TaskLevels.{TaskLevels}}
use Rattle.point_exits.specs.Levels.{IsLiveAt, IsLiveFrom, AreFrom, IsLevel, AreTaskLevels, with_next, ArePutFrom, IsLeastFrom}
use Rattle.point_exits.proofs.{FoundLevels.{HasLevel, found_place, told_place, each_replaced, level_stays}, JudgedValues.{with_cases, with_old, with_new, none_of, level_judged}}

-- ---- one more value

module _ (app : App) (u : ℕ) (vs : List PartValue) (k p q : ℕ) (x : Numbers) (v : PartValue) (is : IsNumberOf vs v k) (live : IsLiveAt app u q v) (h : AreFrom app u vs k p x) where
  here : (n : ℕ) (d : PartValue) → n ≡ k → get_or vs n d ≡ v
  here n d same = ap (λ (m : ℕ). get_or vs m d) same ∙ is.is d

  from_below : q < p → AreFrom app u vs (k + 1) p x
  from_below low = record {
    each = h.each;
    whole = λ n d lt from. elim (cases_eq n k) [
      | inl new ↦ absurd (let that = ap (λ (w : PartValue). value_priority app u (val_of w)) (here n d new) in omega (arith, that, from.priority, live.priority, low))
      | inr other ↦ h.whole n d (omega (arith, lt, other)) from
    ];
  }

  from_with : p ≤ q → AreFrom app u vs (k + 1) p (with_number x k)
  from_with high = record {
    each = λ n d has. elim (with_cases x k n has) [
      | inl old ↦ h.each n d old
      | inr new ↦ (
        omega (arith, new, is.known),
        record {
          live = ap (λ (w : PartValue). is_live_value (val_of w)) (here n d new) ∙ live.live;
          priority = (let that = ap (λ (w : PartValue). value_priority app u (val_of w)) (here n d new) in omega (arith, that, live.priority, high));
        },
      )
    ];
    whole = λ n d lt from. elim (cases_eq n k) [
      | inl new ↦ with_new x k n new
      | inr other ↦ with_old x k n (h.whole n d (omega (arith, lt, other)) from)
    ];
  }

from_fewer : (app : App) (u : ℕ) (vs : List PartValue) (k p : ℕ) (x : Numbers) → AreFrom app u vs (k + 1) p x → AreFrom app u vs k p x
from_fewer app u vs k p x h = record { each = h.each; whole = λ n d lt live. h.whole n d (omega (arith, lt)) live }

-- ---- put to one level after the other

pub fewer_put : (priority : ℕ) (x y : TaskLevels) (j k : ℕ) → j ≤ k → ArePutFrom priority x y k → ArePutFrom priority x y j
fewer_put priority x y j k few h = record {
  judged = h.judged;
  size = h.size;
  priorities = h.priorities;
  levels = h.levels;
  next = λ app u vs v are is live i d lt. h.next app u vs v are is live i d (omega (arith, lt, few));
}

module _ (priority : ℕ) (x y : TaskLevels) (k : ℕ) (l : Level) (known : k < length y.levels) (at : get_or y.levels k l ≡ l) (h : ArePutFrom priority x y k) where
  now_from : (app : App) (u : ℕ) (vs : List PartValue) (v : PartValue) → AreTaskLevels app u vs x → IsNumberOf vs v x.judged → IsLiveAt app u priority v → AreFrom app u vs x.judged l.priority l.from
  now_from app u vs v are is live = subst (λ (n : ℕ). AreFrom app u vs n l.priority l.from) h.judged ((h.levels app u vs v are is live).from l (k, known, at))

  -- the level is above the value
  pub put_below : priority < l.priority → ArePutFrom priority x y (k + 1)
  put_below low = record {
    judged = h.judged;
    size = h.size;
    priorities = h.priorities;
    levels = h.levels;
    next = λ app u vs v are is live i d lt. elim (cases_eq i k) [
      | inl same ↦
          subst (λ (z : Level). AreFrom app u vs (x.judged + 1) z.priority z.from) (sym (the_level i d same))
          (from_below app u vs x.judged l.priority priority l.from v is live (now_from app u vs v are is live) low)
      | inr other ↦ h.next app u vs v are is live i d (omega (arith, lt, other))
    ];
  }
    where
      the_level : (i : ℕ) (d : Level) → i ≡ k → get_or y.levels i d ≡ l
      the_level i d same = ap (λ (j : ℕ). get_or y.levels j d) same ∙ get_or_default y.levels k d l known ∙ at

  module _ (from : Numbers) (put : from ≡ with_number l.from x.judged) (high : l.priority ≤ priority) where
    abbrev after : Level
    after = record l { from = from }

    put_next : (app : App) (u : ℕ) (vs : List PartValue) (v : PartValue) → AreTaskLevels app u vs x → IsNumberOf vs v x.judged → IsLiveAt app u priority v → AreFrom app u vs (x.judged + 1) l.priority from
    put_next app u vs v are is live =
        subst (AreFrom app u vs (x.judged + 1) l.priority) (sym put) (from_with app u vs x.judged l.priority priority l.from v is live (now_from app u vs v are is live) high)

    put_levels : (app : App) (u : ℕ) (vs : List PartValue) → AreTaskLevels app u vs y → AreFrom app u vs y.judged l.priority from → AreTaskLevels app u vs (record y { levels = set y.levels k after })
    put_levels app u vs are its = record {
      few = are.few;
      dead = are.dead;
      levels = each_replaced y.levels k after (IsLevel app u vs y.judged) (are.levels l (k, known, at)) are.levels;
      from = each_replaced y.levels k after (λ (z : Level). AreFrom app u vs y.judged z.priority z.from) its are.from;
      whole = λ n lt. told_place y.dead (set y.levels k after) n (elim (found_place y.dead y.levels n (are.whole n lt)) [
        | inl dead ↦ inl dead
        | inr old ↦ inr (level_stays y.levels k l after known at (λ m has. has) n old)
      ]);
      blocks = are.blocks;
    }

    same_priority : (i : ℕ) (d : Level) → (get_or (set y.levels k after) i d).priority ≡ (get_or y.levels i d).priority
    same_priority i d = elim (cases_eq i k) [
      | inl same ↦
          ap (λ (z : Level). z.priority) (ap (λ (j : ℕ). get_or (set y.levels k after) j d) same ∙ get_or-set_same y.levels k after d known)
          ∙ ap (λ (z : Level). z.priority) (sym (ap (λ (j : ℕ). get_or y.levels j d) same ∙ get_or_default y.levels k d l known ∙ at))
      | inr differ ↦ ap (λ (z : Level). z.priority) (get_or-set_other y.levels k i after d differ)
    ]

    pub put_with : ArePutFrom priority x (record y { levels = set y.levels k after }) (k + 1)
    put_with = record {
      judged = h.judged;
      size = length-set y.levels k after ∙ h.size;
      priorities = λ i d. same_priority i d ∙ h.priorities i d;
      levels = λ app u vs v are is live. put_levels app u vs (h.levels app u vs v are is live)
          (subst (λ (n : ℕ). AreFrom app u vs n l.priority from) (sym h.judged) (from_fewer app u vs x.judged l.priority from (put_next app u vs v are is live)));
      next = λ app u vs v are is live i d lt. elim (cases_eq i k) [
        | inl same ↦
            subst (λ (z : Level). AreFrom app u vs (x.judged + 1) z.priority z.from) (sym (ap (λ (j : ℕ). get_or (set y.levels k after) j d) same ∙ get_or-set_same y.levels k after d known))
            (put_next app u vs v are is live)
        | inr differ ↦
            subst (λ (z : Level). AreFrom app u vs (x.judged + 1) z.priority z.from) (sym (get_or-set_other y.levels k i after d differ))
            (h.next app u vs v are is live i d (omega (arith, lt, differ)))
      ];
    }

-- ---- the least level from a limit on, among the first ones

abbrev pub IsLeastUpTo : List Level → ℕ → ℕ → ℕ → Option ℕ → Type 0
IsLeastUpTo levels limit k bound None = (bound ≡ 2 ^ 64 - 1) × IsLeastFrom levels limit k None
IsLeastUpTo levels limit k bound (Some place) = ((d : Level) → (get_or levels place d).priority ≡ bound) × IsLeastFrom levels limit k (Some place)

-- so it is of the next one
module _ (app : App) (u : ℕ) (vs : List PartValue) (v : PartValue) (priority : ℕ) (x y : TaskLevels) (put : ArePutFrom priority x y (length x.levels)) (h : AreTaskLevels app u vs x) (is : IsNumberOf vs v x.judged) (live : IsLiveAt app u priority v) where
  pub next_put : (k : ℕ) (l : Level) (new : Numbers) → k < length x.levels → get_or y.levels k l ≡ l → l.priority ≡ priority → new ≡ with_number l.numbers x.judged
      → AreTaskLevels app u vs (with_next (record y { levels = set y.levels k (record l { numbers = new }) }))
  next_put k l new known at same more =
      subst (λ (z : Numbers). AreTaskLevels app u vs (with_next (record y { levels = set y.levels k (record l { numbers = z }) }))) (sym (more ∙ ap (with_number l.numbers) (sym put.judged)))
      (level_judged app u vs y v (put.levels app u vs v h is live) (subst (IsNumberOf vs v) (sym put.judged) is) k l (omega (arith, known, put.size)) at
      (subst (λ (p : ℕ). IsLiveAt app u p v) (sym same) live)
      (λ level there. subst (λ (n : ℕ). AreFrom app u vs (n + 1) level.priority level.from) (sym put.judged)
      (subst (λ (z : Level). AreFrom app u vs (x.judged + 1) z.priority z.from) there.2 (put.next app u vs v h is live there.0 level (omega (arith, there.1, put.size))))))

-- ---- a level that comes in

-- those of the numbers below one that another set has
pub record AreTaken (above : Numbers) (k : ℕ) (x : Numbers) : Type 0 where
  pub each : (n : ℕ) → IsTrue (has_number x n) → IsTrue (has_number above n)
  pub whole : (n : ℕ) → n < k → IsTrue (has_number above n) → IsTrue (has_number x n)

pub none_taken : (above x : Numbers) (d : Domain) (k : ℕ) → x ≡ numbers d 0 → ((n : ℕ) → 0 ≤ n → n < k → has_number above n ≡ false) → AreTaken above k x
none_taken above x d k none lacks = record {
  each = λ n has. absurd (none_of x d n none has);
  whole = λ n lt has. (let not = lacks n (omega arith) lt in absurd (cc));
}

pub more_taken : (above x y : Numbers) (m k : ℕ) → AreTaken above m x → y ≡ with_number x m → IsTrue (has_number above m) → ((n : ℕ) → m + 1 ≤ n → n < k → has_number above n ≡ false) → AreTaken above k y
more_taken above x y m k h put there lacks = subst (AreTaken above k) (sym put) (record {
  each = λ n has. elim (with_cases x m n has) [ inl old ↦ h.each n old | inr new ↦ ap (has_number above) new ∙ there ];
  whole = λ n lt has. elim (cases_lt n m) [
    | inl below ↦ with_old x m n (h.whole n below has)
    | inr high ↦ elim (cases_eq n m) [
      | inl same ↦ with_new x m n same
      | inr differ ↦ (let not = lacks n (omega (arith, high, differ)) lt in absurd (cc))
    ]
  ];
})

module _ (app : App) (u : ℕ) (vs : List PartValue) (levels : TaskLevels) (p : ℕ) (h : AreTaskLevels app u vs levels) where
  -- a value from a priority on is at a level from it on
  its_level : (n : ℕ) (d : PartValue) → n < levels.judged → IsLiveFrom app u p (get_or vs n d) → HasLevel levels.levels n
  its_level n d lt live = elim (found_place levels.dead levels.levels n (h.whole n lt)) [
    | inl dead ↦ absurd (let gone = (h.dead n d dead).1 in let alive = live.live in cc)
    | inr its ↦ its
  ]

  its_priority : (its : Level) (n : ℕ) (d : PartValue) → Contains levels.levels its → IsTrue (has_number its.numbers n) → IsLiveAt app u its.priority (get_or vs n d)
  its_priority its n d listed has = (h.levels its listed n d has).1

  pub from_none : (x : Numbers) (d : Domain) → x ≡ numbers d 0 → IsLeastFrom levels.levels p (length levels.levels) None → AreFrom app u vs levels.judged p x
  from_none x d none low = record {
    each = λ n v has. absurd (none_of x d n none has);
    whole = λ n v lt live.
        let its = its_level n v lt live in
        let at = its_priority its.level n v its.listed its.has in
        let less = low its.listed.0 its.level its.listed.1 in
        let same = ap (λ (l : Level). l.priority) its.listed.2 in
        absurd (omega (arith, less, same, at.priority, live.priority));
  }

  module _ (place : ℕ) (above : Level) (least : IsLeastFrom levels.levels p (length levels.levels) (Some place)) (at : get_or levels.levels place above ≡ above) where
    pub not_lower : (n : ℕ) (d : PartValue) → n < levels.judged → IsLiveFrom app u p (get_or vs n d) → IsTrue (has_number above.from n)
    not_lower n d lt live =
        let its = its_level n d lt live in
        let here = its_priority its.level n d its.listed its.has in
        let same = ap (λ (l : Level). l.priority) its.listed.2 in
        let low = least.2 its.listed.0 its.level its.listed.1 (omega (arith, same, here.priority, live.priority)) in
        (h.from above (place, least.0, at)).whole n d lt (record {
          live = live.live;
          priority = (let that = ap (λ (l : Level). l.priority) (get_or_default levels.levels place its.level above least.0 ∙ at) in omega (arith, low, same, that, here.priority));
        })

    pub from_taken : (x : Numbers) (k : ℕ) → levels.judged ≤ k → AreTaken above.from k x → AreFrom app u vs levels.judged p x
    from_taken x k all taken = record {
      each = λ n d has. (
          let old = (h.from above (place, least.0, at)).each n d (taken.each n has) in
          let high = least.1 above in
          let that = ap (λ (l : Level). l.priority) at in
          (old.0, record { live = old.1.live; priority = (let up = old.1.priority in omega (arith, high, that, up)) }));
      whole = λ n d lt live. taken.whole n (omega (arith, lt, all)) (not_lower n d lt live);
    }
