-- What becomes of the levels of a task as its values are judged, one after the other.
use Rattle.std.proofs.Common.{Result, Ok, Err, OnErr, ◌≡◌, ◌⊎◌, ℕ, ◌+◌, ◌^◌, ◌<◌, Bool, true, false, ◌||◌, List, [], ◌∷◌, ◌++◌, length, get_or, set, refl, sym, ap, subst, ◌∙◌, inl, inr, arith, IsTrue}
use Rattle.std.specs.{Prelude.{Contains, Some, None, IfSome}, declared.option.Option.{Option}}
use Rattle.std.proofs.{Math.Bool.{or-true}, lemmas.{Bool.{cases_eq, or_cases, eq-eqb, eqb-true}}}
use Rattle.std.proofs.lemmas.List.Elements.{Contains-get_or, Contains-append_left, Contains-push_cases}
use Rattle.bit_words.proofs.BitCounts.{has_either, has_one}
use Rattle.osek_values.specs.{Bits.{has_bit}, declared.numbers.BlockNo.{BlockNo}}
use Rattle.osek_standard.specs.declared.app.App.{App}
use Rattle.abstract_state.specs.{declared.value.{Domain.{Domain}, Val.{Val, TheVariants.{Suspended, Live, Waiting}}, PartValue.{PartValue, TheVariants.{OfTask, OfEvent, OfAlarm, OfSource}}}, Concrete.{val_of}}
use Rattle.flow_model.specs.Values.{is_live_value, value_priority, restacked_part}
use Rattle.numbered_sets.specs.{Numbers.{Numbers, numbers, has_number, with_number}, Pools.{IsNumberOf, IsBeside}}
use Rattle.numbered_sets.proofs.KnownNumbers.{no_bit_of_none}
use Rattle.flow_exits.specs.{declared.priority.Candidate.{Candidate}, Candidates.{candidate_of}}
use Rattle.point_exits.specs.{declared.task_levels.{Level.{Level}, TaskLevels.{TaskLevels}}, Levels.{IsLiveAt, AreOf, AreFrom, IsDead, IsLevel, AreTaskLevels, with_next}}
use Rattle.point_exits.proofs.FoundLevels.{found_place, told_place, each_replaced, at_replaced, level_stays}

-- ---- a set with a number more

pub with_cases : (x : Numbers) (n m : ℕ) → IsTrue (has_number (with_number x n) m) → IsTrue (has_number x m) ⊎ (m ≡ n)
with_cases x n m has = elim (or_cases (has_number x m) (has_bit (2 ^ n) m) (sym (has_either x.bits (2 ^ n) m) ∙ has)) [
  | inl old ↦ inl old
  | inr new ↦ inr (eqb-true m n (sym (has_one n m) ∙ new))
]

pub with_old : (x : Numbers) (n m : ℕ) → IsTrue (has_number x m) → IsTrue (has_number (with_number x n) m)
with_old x n m has = has_either x.bits (2 ^ n) m ∙ ap (λ (b : Bool). b || has_bit (2 ^ n) m) has

pub with_new : (x : Numbers) (n m : ℕ) → m ≡ n → IsTrue (has_number (with_number x n) m)
with_new x n m same = has_either x.bits (2 ^ n) m ∙ ap (λ (b : Bool). has_number x m || b) (has_one n m ∙ eq-eqb m n same) ∙ or-true (has_number x m)

pub none_of : (x : Numbers) (d : Domain) (n : ℕ) → x ≡ numbers d 0 → IsTrue (has_number x n) → ⊥
none_of x d n none has = no_bit_of_none n (sym (ap (λ (y : Numbers). has_number y n) none) ∙ has)

-- ---- what was read of a value

dead_if_none : (app : App) (u : ℕ) (v : Val) → candidate_of app u v ≡ None → is_live_value v ≡ false
dead_if_none app u Suspended e = refl
dead_if_none app u (Live x) e = absurd (cc)
dead_if_none app u (Waiting b) e = refl

pub is_dead : (app : App) (u : ℕ) (v : PartValue) (o : Option Candidate) → o ≡ candidate_of app u (val_of v) → o ≡ None → IsDead v
is_dead app u v o read none = dead_if_none app u (val_of v) (sym read ∙ none)

live_if_some : (app : App) (u : ℕ) (v : Val) (own : Candidate) → candidate_of app u v ≡ Some own → (is_live_value v ≡ true) × (value_priority app u v ≡ own.priority)
live_if_some app u Suspended own e = absurd (cc)
live_if_some app u (Live x) own e =
    let same : record { priority = value_priority app u (Live x); block = x.block } ≡ own = cc in
    (refl, ap (λ (c : Candidate). c.priority) same)
live_if_some app u (Waiting b) own e = absurd (cc)

pub is_live_at : (app : App) (u : ℕ) (v : PartValue) (o : Option Candidate) (own : Candidate) → o ≡ candidate_of app u (val_of v) → o ≡ Some own → IsLiveAt app u own.priority v
is_live_at app u v o own read some = (let live = live_if_some app u (val_of v) own (sym read ∙ some) in record { live = live.0; priority = live.1 })

-- ---- a value beside another

live_unmoved : (app : App) (u p : ℕ) (b : BlockNo) (v : PartValue) → IsLiveAt app u p (restacked_part (λ h. h) b v) → IsLiveAt app u p v
live_unmoved app u p b (OfTask Suspended) h = h
live_unmoved app u p b (OfTask (Live x)) h = record { live = refl; priority = h.priority }
live_unmoved app u p b (OfTask (Waiting c)) h = h
live_unmoved app u p b (OfEvent x) h = h
live_unmoved app u p b (OfAlarm x) h = h
live_unmoved app u p b (OfSource x) h = record { live = h.live; priority = h.priority }

-- it is at the level of that one
pub placed_beside : (app : App) (u : ℕ) (vs : List PartValue) (x : TaskLevels) (n m : ℕ) (found : Option ℕ) → AreTaskLevels app u vs x → IsBeside vs n m
    → IfSome found (λ k. k < length x.levels) → IfSome found (λ k. (d : Level) → IsTrue (has_number (get_or x.levels k d).numbers m))
    → IfSome found (λ k. (d : Level) (v : PartValue) → IsNumberOf vs v n → IsLiveAt app u (get_or x.levels k d).priority v)
placed_beside app u vs x n m None h beside known has = tt
placed_beside app u vs x n m (Some k) h beside known has = λ d v is.
    let level = get_or x.levels k d in
    let moved = beside v is in
    let live = h.levels level (Contains-get_or x.levels k d known) m v (has d) in
    live_unmoved app u level.priority moved.0 v (subst (IsLiveAt app u level.priority) (moved.1.is v) live.1)

module _ (app : App) (u : ℕ) (vs : List PartValue) where
  -- a level without a number
  pub level_added : (x : TaskLevels) (levels : List Level) (l : Level) (d : Domain) → AreTaskLevels app u vs x → levels ≡ x.levels ++ l ∷ [] → l.numbers ≡ numbers d 0
      → AreFrom app u vs x.judged l.priority l.from → AreTaskLevels app u vs (record x { levels = levels })
  level_added x levels l d h more none its = record {
    few = h.few;
    dead = h.dead;
    levels = λ level there. elim (Contains-push_cases x.levels l level (subst (λ (ls : List Level). Contains ls level) more there)) [
      | inl old ↦ h.levels level old
      | inr new ↦ λ n v has. absurd (none_of level.numbers d n (ap (λ (y : Level). y.numbers) (sym new) ∙ none) has)
    ];
    from = λ level there. elim (Contains-push_cases x.levels l level (subst (λ (ls : List Level). Contains ls level) more there)) [
      | inl old ↦ h.from level old
      | inr new ↦ subst (λ (y : Level). AreFrom app u vs x.judged y.priority y.from) new its
    ];
    whole = λ n lt. told_place x.dead levels n (elim (found_place x.dead x.levels n (h.whole n lt)) [
      | inl dead ↦ inl dead
      | inr old ↦ inr (record {
        level = old.level;
        listed = subst (λ (ls : List Level). Contains ls old.level) (sym more) (Contains-append_left x.levels (l ∷ []) old.level old.listed);
        has = old.has;
      })
    ]);
    blocks = h.blocks;
  }

  still_of : (P : PartValue → Type 0) (k : ℕ) (x : Numbers) → AreOf P vs k x → AreOf P vs (k + 1) x
  still_of P k x h n d has = (let old = h n d has in (omega (arith, old.0), old.1))

  one_more_of : (P : PartValue → Type 0) (k : ℕ) (x : Numbers) (v : PartValue) → AreOf P vs k x → IsNumberOf vs v k → P v → AreOf P vs (k + 1) (with_number x k)
  one_more_of P k x v h is passes n d has = elim (with_cases x k n has) [
    | inl old ↦ still_of P k x h n d old
    | inr new ↦ (omega (arith, new), subst P (sym (ap (λ (m : ℕ). get_or vs m d) new ∙ is.is d)) passes)
  ]

  -- of a dead value nothing comes to those from a priority on
  from_dead : (k p : ℕ) (x : Numbers) (v : PartValue) → AreFrom app u vs k p x → IsNumberOf vs v k → IsDead v → AreFrom app u vs (k + 1) p x
  from_dead k p x v h is dead = record {
    each = h.each;
    whole = λ n d lt live. elim (cases_eq n k) [
      | inl new ↦ absurd (let alive = live.live in let that = ap (λ (m : ℕ). is_live_value (val_of (get_or vs m d))) new ∙ ap (λ (w : PartValue). is_live_value (val_of w)) (is.is d) in cc)
      | inr other ↦ h.whole n d (omega (arith, lt, other)) live
    ];
  }

  module _ (x : TaskLevels) (v : PartValue) (h : AreTaskLevels app u vs x) (is : IsNumberOf vs v x.judged) where
    -- the next value is dead
    pub dead_judged : (dead : Numbers) → dead ≡ with_number x.dead x.judged → IsDead v → AreTaskLevels app u vs (with_next (record x { dead = dead }))
    dead_judged dead more its = subst (λ (y : Numbers). AreTaskLevels app u vs (with_next (record x { dead = y }))) (sym more) (record {
      few = omega (arith, is.known);
      dead = one_more_of IsDead x.judged x.dead v h.dead is its;
      levels = λ level there. still_of (IsLiveAt app u level.priority) x.judged level.numbers (h.levels level there);
      from = λ level there. from_dead x.judged level.priority level.from v (h.from level there) is its;
      whole = λ n lt. told_place (with_number x.dead x.judged) x.levels n (elim (cases_eq n x.judged) [
        | inl new ↦ inl (with_new x.dead x.judged n new)
        | inr other ↦ elim (found_place x.dead x.levels n (h.whole n (omega (arith, lt, other)))) [
          | inl dead ↦ inl (with_old x.dead x.judged n dead)
          | inr live ↦ inr live
        ]
      ]);
      blocks = h.blocks;
    })

    -- it is at the level at a place
    module _ (k : ℕ) (l : Level) (known : k < length x.levels) (at : get_or x.levels k l ≡ l) where
      after : Level
      after = record l { numbers = with_number l.numbers x.judged }

      after_is : after ≡ record l { numbers = with_number l.numbers x.judged }
      unfolding after
      after_is = refl

      has_after : (n : ℕ) → IsTrue (has_number (with_number l.numbers x.judged) n) → IsTrue (has_number after.numbers n)
      has_after n has = ap (λ (y : Level). has_number y.numbers n) after_is ∙ has

      pub level_judged : IsLiveAt app u l.priority v → ((level : Level) → Contains x.levels level → AreFrom app u vs (x.judged + 1) level.priority level.from) → AreTaskLevels app u vs (with_next (record x { levels = set x.levels k (record l { numbers = with_number l.numbers x.judged }) }))
      level_judged live next = subst (λ (y : Level). AreTaskLevels app u vs (with_next (record x { levels = set x.levels k y }))) after_is (record {
        few = omega (arith, is.known);
        dead = still_of IsDead x.judged x.dead h.dead;
        levels = each_replaced x.levels k after (IsLevel app u vs (x.judged + 1))
            (subst (IsLevel app u vs (x.judged + 1)) (sym after_is) (one_more_of (IsLiveAt app u l.priority) x.judged l.numbers v (h.levels l (k, known, at)) is live))
            (λ level there. still_of (IsLiveAt app u level.priority) x.judged level.numbers (h.levels level there));
        from = each_replaced x.levels k after (λ (y : Level). AreFrom app u vs (x.judged + 1) y.priority y.from)
            (subst (λ (y : Level). AreFrom app u vs (x.judged + 1) y.priority y.from) (sym after_is) (next l (k, known, at)))
            next;
        whole = λ n lt. told_place x.dead (set x.levels k after) n (elim (cases_eq n x.judged) [
          | inl new ↦ inr (at_replaced x.levels k l after known n (has_after n (with_new l.numbers x.judged n new)))
          | inr other ↦ elim (found_place x.dead x.levels n (h.whole n (omega (arith, lt, other)))) [
            | inl dead ↦ inl dead
            | inr old ↦ inr (level_stays x.levels k l after known at (λ m has. has_after m (with_old l.numbers x.judged m has)) n old)
          ]
        ]);
        blocks = h.blocks;
      })

-- what holds anyway holds where memory is wanted
pub also_wanting : {T E P : Type 0} (r : Result T E) → P → OnErr r P
also_wanting (Ok x) p = tt
also_wanting (Err e) p = p
