-- A value that was judged is dead or at a level: what the test says, and the level itself; also where a level is replaced.
use Rattle.std.proofs.Common.{◌≡◌, ◌⊎◌, ℕ, ◌<◌, Bool, ◌||◌, List, length, get_or, set, sym, ap, ◌∙◌, inl, inr, arith, IsTrue, get_or-set_same, get_or-set_other}
use Rattle.std.specs.Prelude.{Contains}
use Rattle.std.proofs.{Math.Bool.{or-true}, lemmas.{Bool.{cases_eq, or_cases}, List.{length-set, get_or_default, Folds.{Any-from_list_any, list_any_at}}}}
use Rattle.std.proofs.lemmas.List.Elements.{All-set, All-contains, Contains-get_or}
use Rattle.numbered_sets.specs.Numbers.{Numbers, has_number}
use Rattle.point_exits.specs.{declared.task_levels.Level.{Level}, Levels.{is_at_level}}

pub record HasLevel (levels : List Level) (n : ℕ) : Type 0 where
  pub level : Level
  pub listed : Contains levels level
  pub has : IsTrue (has_number level.numbers n)

abbrev with_number_at : ℕ → Level → Bool
with_number_at n level = has_number level.numbers n

module _ (dead : Numbers) (levels : List Level) (n : ℕ) where
  pub found_place : IsTrue (has_number dead n || is_at_level levels n) → IsTrue (has_number dead n) ⊎ HasLevel levels n
  found_place e = elim (or_cases (has_number dead n) (is_at_level levels n) e) [
    | inl gone ↦ inl gone
    | inr at ↦ (let found = Any-from_list_any (with_number_at n) levels at in inr (record { level = found.1; listed = (found.0, found.2, found.3); has = found.4 }))
  ]

  pub told_place : IsTrue (has_number dead n) ⊎ HasLevel levels n → IsTrue (has_number dead n || is_at_level levels n)
  told_place (inl gone) = ap (λ (b : Bool). b || is_at_level levels n) gone
  told_place (inr its) =
      ap (λ (b : Bool). has_number dead n || b) (list_any_at (with_number_at n) levels its.listed.0 its.level its.listed.1 (ap (with_number_at n) its.listed.2 ∙ its.has)) ∙ or-true (has_number dead n)

-- ---- a level that is replaced

module _ (levels : List Level) (k : ℕ) where
  pub each_replaced : (after : Level) (P : Level → Type 0) → P after → ((level : Level) → Contains levels level → P level) → (level : Level) → Contains (set levels k after) level → P level
  each_replaced after P its h level there =
      All-contains P (set levels k after) level (All-set P levels k after its (λ i d lt. h (get_or levels i d) (Contains-get_or levels i d lt))) there

  module _ (l after : Level) (known : k < length levels) where
    pub at_replaced : (n : ℕ) → IsTrue (has_number after.numbers n) → HasLevel (set levels k after) n
    at_replaced n has = record {
      level = after;
      listed = (k, (let same = length-set levels k after in omega (arith, known, same)), get_or-set_same levels k after after known);
      has = has;
    }

    module _ (at : get_or levels k l ≡ l) (grows : (n : ℕ) → IsTrue (has_number l.numbers n) → IsTrue (has_number after.numbers n)) where
      pub level_stays : (n : ℕ) → HasLevel levels n → HasLevel (set levels k after) n
      level_stays n old = elim (cases_eq old.listed.0 k) [
        | inl same ↦ at_replaced n (grows n (ap (λ (y : Level). has_number y.numbers n) (sym at ∙ its_place same ∙ old.listed.2) ∙ old.has))
        | inr differ ↦ record {
          level = old.level;
          listed = (
            old.listed.0,
            (let long = length-set levels k after in omega (arith, long, old.listed.1)),
            get_or-set_other levels k old.listed.0 after old.level differ ∙ old.listed.2,
          );
          has = old.has;
        }
      ]
        where
          its_place : old.listed.0 ≡ k → get_or levels k l ≡ get_or levels old.listed.0 old.level
          its_place same = ap (λ (j : ℕ). get_or levels j l) (sym same) ∙ get_or_default levels old.listed.0 l old.level old.listed.1
