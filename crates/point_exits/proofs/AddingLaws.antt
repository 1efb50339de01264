-- Groups that come to others, one after another.
use Rattle.std.proofs.Common.{◌≡◌, ◌⊎◌, ℕ, ◌+◌, ◌<◌, ◌≤◌, false, List, [], ◌++◌, length, sym, ap, subst, ◌∙◌, inl, inr, arith, IsTrue, Some, append_assoc}
use Rattle.std.specs.Prelude.{slice_index_or, Contains}
use Rattle.std.proofs.lemmas.{Bool.{cases_eq}, List.{append-nil, get_or_default, Elements.{Contains-append_left, Contains-append_right, Contains-append_cases}}, Grind.{flat_map-append}}
use Rattle.osek_values.specs.declared.numbers.TaskNo.{TaskNo}
use Rattle.osek_standard.specs.declared.app.App.{App}
use Rattle.osek_standard.proofs.Members.{contained_among}
use Rattle.abstract_state.specs.{declared.value.PartValue.{PartValue}, Concrete.{val_of}}
use Rattle.abstract_state.proofs.ComponentLaws.{task_counted}
use Rattle.flow_model.specs.declared.case.Decision.{Decision}
use Rattle.flow_model.specs.declared.case.Decision.TheVariants as decision
use Rattle.flow_model.specs.{Values.{is_live_value}, Effects.{AreIn}, Scheduling.{Decides}, declared.case.Leaving.{Leaving}}
use Rattle.numbered_sets.specs.{declared.numbered_entry.NumberedEntry.{NumberedEntry}, Pools.{Values, values_at}, Views.{plain_entry, AreNumbersOf}}
use Rattle.flow_exits.specs.declared.exit.Exit.{Exit}
use Rattle.point_exits.specs.{declared.{task_levels.{Level.{Level}, TaskLevels.{TaskLevels}}, levels.Levels.{Levels}}, Levels.{AreTaskLevels, AreAllLevels}}
use Rattle.point_exits.specs.{declared.group.ExitGroup.{ExitGroup}, Groups.{exits_of, all_exits}, Deciding.{HasUnsettled, AddsFor, IsIt, IsOfLevel, IsAtLevel, IsAtFirst, IsWinnerBelow}}
use Rattle.point_exits.proofs.{FoundLevels.{found_place}, NumberLaws.{member_number}, OwnLevels.{own_levels, own_judged}}

module _ (app : App) (pool : List Values) (leaving : Leaving) where
  -- an exit is among more
  still : (some more : List Exit) (d : Decision) (value : ℕ → PartValue) → ((x : Exit) → Contains some x → Contains more x) → HasUnsettled app leaving some d value → HasUnsettled app leaving more d value
  still some more d value onward h = record { exit = h.exit; listed = onward h.exit h.listed; decision = h.decision; status = h.status; within = h.within; target = h.target }

  pub nothing_more : (after : NumberedEntry) (P : (ℕ → PartValue) → Decision → Type 0) (gs : List ExitGroup)
      → ((value : ℕ → PartValue) (d : Decision) → AreIn app (plain_entry pool after) value → Decides app value leaving d → P value d → ⊥) → AddsFor app pool leaving after P gs gs
  nothing_more after P gs never = record {
    more = [];
    added = sym (append-nil gs);
    known = λ g m. absurd (contained_among [] g m);
    each = λ x m. absurd (contained_among [] x m);
    whole = λ value d within decides p. absurd (never value d within decides p);
  }

  joined : (some more : List ExitGroup) → all_exits pool (some ++ more) ≡ all_exits pool some ++ all_exits pool more
  joined some more = flat_map-append (exits_of pool) some more

  pub then_more : (after : NumberedEntry) (P Q R : (ℕ → PartValue) → Decision → Type 0)
      → ((value : ℕ → PartValue) (d : Decision) → AreIn app (plain_entry pool after) value → Decides app value leaving d → R value d → P value d ⊎ Q value d)
      → (a b c : List ExitGroup) → AddsFor app pool leaving after P a b → AddsFor app pool leaving after Q b c → AddsFor app pool leaving after R a c
  then_more after P Q R either a b c x y =
      let first : List Exit = all_exits pool x.more in
      let second : List Exit = all_exits pool y.more in
      record {
        more = x.more ++ y.more;
        added = y.added ∙ ap (λ (gs : List ExitGroup). gs ++ y.more) x.added ∙ append_assoc a x.more y.more;
        known = λ g m. elim (Contains-append_cases x.more y.more g m) [ inl here ↦ x.known g here | inr there ↦ y.known g there ];
        each = λ e m. elim (Contains-append_cases first second e (subst (λ (xs : List Exit). Contains xs e) (joined x.more y.more) m)) [ inl here ↦ x.each e here | inr there ↦ y.each e there ];
        whole = λ value d within decides r. subst (λ (xs : List Exit). HasUnsettled app leaving xs d value) (sym (joined x.more y.more)) (elim (either value d within decides r) [
          | inl p ↦ still first (first ++ second) d value (Contains-append_left first second) (x.whole value d within decides p)
          | inr q ↦ still second (first ++ second) d value (Contains-append_right first second) (y.whole value d within decides q)
        ]);
      }

  -- of a part of the values, which has all those with another property
  pub of_part : (after part : NumberedEntry) (P Q : (ℕ → PartValue) → Decision → Type 0) → ((value : ℕ → PartValue) → AreIn app (plain_entry pool part) value → AreIn app (plain_entry pool after) value)
      → ((value : ℕ → PartValue) (d : Decision) → AreIn app (plain_entry pool after) value → Decides app value leaving d → Q value d → AreIn app (plain_entry pool part) value × P value d)
      → (a b : List ExitGroup) → AddsFor app pool leaving part P a b → AddsFor app pool leaving after Q a b
  of_part after part P Q within has a b x = record {
    more = x.more;
    added = x.added;
    known = x.known;
    each = λ e m.
        (let k = x.each e m in
        record {
          decision = k.decision;
          decides = k.decides;
          status = k.status;
          filled = k.filled;
          within = λ value h. within value (k.within value h);
          each = k.each;
          target = k.target;
        });
    whole = λ value d h decides q. (let found = has value d h decides q in x.whole value d found.0 decides found.1);
  }

  pub by_property : (after : NumberedEntry) (P Q : (ℕ → PartValue) → Decision → Type 0)
      → ((value : ℕ → PartValue) (d : Decision) → AreIn app (plain_entry pool after) value → Decides app value leaving d → Q value d → P value d)
      → (a b : List ExitGroup) → AddsFor app pool leaving after P a b → AddsFor app pool leaving after Q a b
  by_property after P Q has = of_part after after P Q (λ value h. h) (λ value d h decides q. (h, has value d h decides q))

  -- ---- one level after another

  module _ (entry : NumberedEntry) (t : ℕ) (items : List Level) (d : Decision) where
    pub no_level : (gs : List ExitGroup) → AddsFor app pool leaving entry (IsAtFirst pool entry t items 0 d) gs gs
    no_level gs = nothing_more entry (IsAtFirst pool entry t items 0 d) gs (λ value e within decides at. (let lt = at.known in omega (arith, lt)))

    pub one_level_more : (i : ℕ) (level : Level) → slice_index_or items i level ≡ level → (a b c : List ExitGroup) → AddsFor app pool leaving entry (IsAtFirst pool entry t items i d) a b
        → AddsFor app pool leaving entry (IsAtLevel pool entry t level d) b c → AddsFor app pool leaving entry (IsAtFirst pool entry t items (i + 1) d) a c
    one_level_more i level at = then_more entry (IsAtFirst pool entry t items i d) (IsAtLevel pool entry t level d) (IsAtFirst pool entry t items (i + 1) d)
        (λ value e within decides first. elim (cases_eq first.place i) [
          | inl same ↦ inr (first.decision, subst (λ (x : Level). IsOfLevel pool entry t x value) (ap (λ (k : ℕ). slice_index_or items k level) same ∙ at) (first.level level))
          | inr differ ↦ inl (record { decision = first.decision; place = first.place; known = (let lt = first.known in omega (arith, lt, differ)); level = first.level })
        ])

  module _ (entry : NumberedEntry) (t : ℕ) (levels : Levels) (known : t < length app.tasks) (numbers : AreNumbersOf pool entry) (all : AreAllLevels app pool levels) (own : TaskLevels) (is : (none : TaskLevels) → slice_index_or levels.tasks t none ≡ own) where
    its : AreTaskLevels app t (values_at pool t) own
    its = own_levels app pool levels t known all own is

    -- a value with which the task is Live is of some level
    level_there : (d e : Decision) (value : ℕ → PartValue) → e ≡ d → AreIn app (plain_entry pool entry) value → IsTrue (is_live_value (val_of (value t))) → IsAtFirst pool entry t own.levels (length own.levels) d value e
    level_there d e value same within live =
        let x = member_number pool entry t (value t) (within t (task_counted app t known)) in
        let lt : x.number < own.judged = (let below = x.is.known in let judged = own_judged app pool levels t known all own is in omega (arith, below, judged)) in
        elim (found_place own.dead own.levels x.number (its.whole x.number lt)) [
          | inl dead ↦
              (let off : is_live_value (val_of (value t)) ≡ false = ap (λ (v : PartValue). is_live_value (val_of v)) (sym (x.is.is (value t))) ∙ (its.dead x.number (value t) dead).1 in
              absurd (cc))
          | inr there ↦ (let m = there.listed in record {
            decision = same;
            place = m.0;
            known = m.1;
            level = λ none. subst (λ (l : Level). IsOfLevel pool entry t l value) (sym (get_or_default own.levels m.0 none there.level m.1 ∙ m.2))
                (record { number = x.number; has = x.has_it; among = there.has; is = x.is });
          })
        ]

    pub all_levels : (d : Decision) (k : ℕ) → length own.levels ≤ k → ((value : ℕ → PartValue) → AreIn app (plain_entry pool entry) value → Decides app value leaving d → IsTrue (is_live_value (val_of (value t))))
        → (a b : List ExitGroup) → AddsFor app pool leaving entry (IsAtFirst pool entry t own.levels k d) a b → AddsFor app pool leaving entry (IsIt d) a b
    all_levels d k le lives = by_property entry (IsAtFirst pool entry t own.levels k d) (IsIt d) (λ value e within decides same.
        (let first = level_there d e value same within (lives value within (subst (Decides app value leaving) same decides)) in
        record { decision = first.decision; place = first.place; known = (let lt = first.known in omega (arith, lt, le)); level = first.level }))

  -- ---- one task after another

  pub no_winner : (entry : NumberedEntry) (gs : List ExitGroup) → AddsFor app pool leaving entry (IsWinnerBelow 0) gs gs
  no_winner entry gs = nothing_more entry (IsWinnerBelow 0) gs (λ value e within decides at. (let lt = at.known in omega (arith, lt)))

  same_task : (a b : TaskNo) → a.0 ≡ b.0 → a ≡ b
  same_task a b e = λ i. record { 0 = e i }

  pub one_winner_more : (entry : NumberedEntry) (w : TaskNo) (a b c : List ExitGroup) → AddsFor app pool leaving entry (IsWinnerBelow w.0) a b → AddsFor app pool leaving entry (IsIt (decision.To (Some w))) b c
      → AddsFor app pool leaving entry (IsWinnerBelow (w.0 + 1)) a c
  one_winner_more entry w = then_more entry (IsWinnerBelow w.0) (IsIt (decision.To (Some w))) (IsWinnerBelow (w.0 + 1))
      (λ value e within decides x. elim (cases_eq x.task.0 w.0) [
        | inl same ↦ inr (x.decision ∙ ap (λ (u : TaskNo). decision.To (Some u)) (same_task x.task w same))
        | inr differ ↦ inl (record { task = x.task; known = (let lt = x.known in omega (arith, lt, differ)); decision = x.decision })
      ])
