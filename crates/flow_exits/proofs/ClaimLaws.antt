-- What the limits of a claim say of the scheduler.
use Rattle.std.proofs.Common.{◌≡◌, ◌≢◌, ℕ, ◌+◌, ◌<◌, ◌≤◌, ◌⊎◌, Bool, true, false, not, ◌||◌, length, refl, sym, ap, subst, ◌∙◌, inl, inr, arith, Some, None}
use Rattle.std.specs.{Prelude.{if◌then◌else◌}, declared.option.Option.{Option}}
use Rattle.std.proofs.lemmas.Bool.{cases_Bool, cases_eq, eq-eqb, ne_eqb, eqb-true}
use Rattle.osek_values.specs.declared.numbers.TaskNo.{TaskNo}
use Rattle.osek_standard.specs.{declared.app.App.{App}, States.{is_that_task}}
use Rattle.abstract_state.specs.{declared.value.PartValue.{PartValue}, Concrete.{val_of}}
use Rattle.flow_model.specs.Scheduling.{may_tie, task_priority, IsLiveTask, IsBestTask, NoneLive, NoneAbove}
use Rattle.flow_exits.specs.declared.claim.Claim.{Claim}
use Rattle.flow_exits.specs.declared.claim.Claim.TheVariants as claim
use Rattle.flow_exits.specs.Claims.{limit_beside, limit_of, is_under, AreUnder}
use Rattle.flow_exits.proofs.PriorityTests.{below_means, below_passes}

-- the limit of each task
beside_running : (p : ℕ) (over : Option TaskNo) (may_tie : Bool) (u : ℕ) → is_that_task over u ≡ true → limit_beside p over may_tie u ≡ p
beside_running p over may_tie u e = rw e refl

beside_equal : (p : ℕ) (over : Option TaskNo) (u : ℕ) → is_that_task over u ≡ false → limit_beside p over true u ≡ p + 1
beside_equal p over u e = rw e refl

beside_first : (p : ℕ) (over : Option TaskNo) (u : ℕ) → is_that_task over u ≡ false → limit_beside p over false u ≡ p
beside_first p over u e = rw e refl

pub that_task : (over : Option TaskNo) (u : ℕ) → is_that_task over u ≡ true → (t : TaskNo) × (over ≡ Some t) × (t.0 ≡ u)
that_task None u e = absurd (cc)
that_task (Some t) u e = (t, refl, eqb-true t.0 u e)

-- the best task's priority is no more than a limit
beside_least : (p : ℕ) (over : Option TaskNo) (may_tie : Bool) (u : ℕ) → p ≤ limit_beside p over may_tie u
beside_least p over may_tie u = least (is_that_task over u || not may_tie)
  where
    least : (b : Bool) → p ≤ (if b then p else p + 1)
    least true = omega arith
    least false = omega arith

module _ (app : App) (value : ℕ → PartValue) where
  abbrev n : ℕ
  n = length app.tasks

  abbrev priority : ℕ → ℕ
  priority u = task_priority app value u

  abbrev live : ℕ → Type 0
  live u = IsLiveTask app value u

  -- a Live task is below its limit
  limited : (c : Claim) (u limit : ℕ) → AreUnder app c n value → live u → limit_of c u ≡ Some limit → priority u < limit
  limited c u limit h l e = below_means app u limit (val_of (value u)) (ap (λ o. is_under app u o (val_of (value u))) (sym e) ∙ h u l.known) l.live

  under : (o : Option ℕ) (u : ℕ) → u < n → ((limit : ℕ) → o ≡ Some limit → live u → priority u < limit) → is_under app u o (val_of (value u)) ≡ true
  under None u lt h = refl
  under (Some limit) u lt h = below_passes app u limit (val_of (value u)) (λ l. h limit refl (record { known = lt; live = l }))

  limit_beside_best : (best : TaskNo) (p : ℕ) (over : Option TaskNo) (may_tie : Bool) (u : ℕ) → u ≢ best.0 → limit_of (claim.Gets best p over may_tie) u ≡ Some (limit_beside p over may_tie u)
  limit_beside_best best p over may_tie u other = rw (ne_eqb u best.0 other) refl

  limit_beside_running : (t : TaskNo) (p u : ℕ) → u ≢ t.0 → limit_of (claim.Keeps t p) u ≡ Some (p + 1)
  limit_beside_running t p u other = rw (ne_eqb u t.0 other) refl

  limit_own : (best : TaskNo) (p : ℕ) (over : Option TaskNo) (may_tie : Bool) (u : ℕ) → u ≡ best.0 → limit_of (claim.Gets best p over may_tie) u ≡ None
  limit_own best p over may_tie u same = rw (eq-eqb u best.0 same) refl

  limit_running : (t : TaskNo) (p u : ℕ) → u ≡ t.0 → limit_of (claim.Keeps t p) u ≡ None
  limit_running t p u same = rw (eq-eqb u t.0 same) refl

  -- no task is Live
  pub nobody_means : AreUnder app claim.Nobody n value → NoneLive app value
  nobody_means h u l = let less : priority u < 0 = limited claim.Nobody u 0 h l refl in omega (arith, less)

  pub nobody_passes : NoneLive app value → AreUnder app claim.Nobody n value
  nobody_passes none u lt = under (Some 0) u lt (λ limit e l. absurd (none u l))

  -- the running task keeps the processor
  pub keeps_means : (t : TaskNo) (p : ℕ) → p ≤ priority t.0 → live t.0 → AreUnder app (claim.Keeps t p) n value → NoneAbove app value t.0
  keeps_means t p own lt h = record {
    running = lt;
    each = λ u l. elim (cases_eq u t.0) [
      | inl same ↦ subst (λ (v : ℕ). priority v ≤ priority t.0) (sym same) (omega arith)
      | inr other ↦ (let less = limited (claim.Keeps t p) u (p + 1) h l (limit_beside_running t p u other) in omega (arith, less, own))
    ];
  }

  pub keeps_passes : (t : TaskNo) (p : ℕ) → priority t.0 ≡ p → NoneAbove app value t.0 → AreUnder app (claim.Keeps t p) n value
  keeps_passes t p own h u lt = elim (cases_eq u t.0) [
    | inl same ↦ ap (λ o. is_under app u o (val_of (value u))) (limit_running t p u same)
    | inr other ↦
        ap (λ o. is_under app u o (val_of (value u))) (limit_beside_running t p u other)
        ∙ below_passes app u (p + 1) (val_of (value u)) (λ l. (let most = h.each u (record { known = lt; live = l }) in omega (arith, most, own)))
  ]

  -- a task gets the processor
  module _ (last : Option TaskNo) (best : TaskNo) (p : ℕ) (over : Option TaskNo) (own : priority best.0 ≡ p) where
    abbrev gets : Claim
    gets = claim.Gets best p over (may_tie last best.0)

    equal_or_lower : (ties : Bool) (u : ℕ) → is_that_task over u ≡ false → priority u < limit_beside p over ties u → (priority u < priority best.0) ⊎ ((priority u ≡ priority best.0) × (ties ≡ true))
    equal_or_lower true u e less =
        let f = beside_equal p over u e in
        elim (cases_eq (priority u) p) [
          | inl equal ↦ inr (equal ∙ sym own, refl)
          | inr differ ↦ inl (omega (arith, less, f, own, differ))
        ]
    equal_or_lower false u e less = let f = beside_first p over u e in inl (omega (arith, less, f, own))

    pub gets_means : live best.0 → AreUnder app gets n value → IsBestTask app value last best.0
    gets_means lb h = record {
      is = lb;
      others = λ u l other. (
          let less = limited gets u (limit_beside p over (may_tie last best.0) u) h l (limit_beside_best best p over (may_tie last best.0) u other) in
          elim (cases_Bool (is_that_task over u)) [
            | inl e ↦ (let f = beside_running p over (may_tie last best.0) u e in inl (omega (arith, less, f, own)))
            | inr e ↦ equal_or_lower (may_tie last best.0) u e less
          ]);
    }

    -- the running task is below
    pub gets_above : (t : TaskNo) → over ≡ Some t → t.0 ≢ best.0 → live t.0 → AreUnder app gets n value → priority t.0 < priority best.0
    gets_above t e other l h =
        let less = limited gets t.0 (limit_beside p over (may_tie last best.0) t.0) h l (limit_beside_best best p over (may_tie last best.0) t.0 other) in
        let f = beside_running p over (may_tie last best.0) t.0 (ap (λ (o : Option TaskNo). is_that_task o t.0) e ∙ eq-eqb t.0 t.0 refl) in
        omega (arith, less, f, own)

    equal_below : (ties : Bool) (u : ℕ) → ties ≡ true → is_that_task over u ≡ false → priority u ≡ priority best.0 → priority u < limit_beside p over ties u
    equal_below true u e f same = let g = beside_equal p over u f in omega (arith, g, same, own)
    equal_below false u e f same = absurd (cc)

    pub gets_passes : IsBestTask app value last best.0 → ((t : TaskNo) → over ≡ Some t → priority t.0 < priority best.0) → AreUnder app gets n value
    gets_passes h above u lt = elim (cases_eq u best.0) [
      | inl same ↦ ap (λ o. is_under app u o (val_of (value u))) (limit_own best p over (may_tie last best.0) u same)
      | inr other ↦
          ap (λ o. is_under app u o (val_of (value u))) (limit_beside_best best p over (may_tie last best.0) u other)
          ∙ below_passes app u (limit_beside p over (may_tie last best.0) u) (val_of (value u)) (λ l. (
          let lu : live u = record { known = lt; live = l } in
          let least = beside_least p over (may_tie last best.0) u in
          elim (h.others u lu other) [
            | inl less ↦ omega (arith, less, least, own)
            | inr equal ↦ elim (cases_Bool (is_that_task over u)) [
              | inl e ↦
                  (let t = that_task over u e in
                  let less = above t.0 t.1 in
                  let same : priority t.0.0 ≡ priority u = ap priority t.2 in
                  omega (arith, less, least, own, same))
              | inr e ↦ equal_below (may_tie last best.0) u equal.1 e equal.0
            ]
          ]))
    ]
