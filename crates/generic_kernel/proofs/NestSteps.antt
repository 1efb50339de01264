-- The first of some sources, one after the other.
use Rattle.std.proofs.Common.{◌≡◌, ℕ, ◌+◌, ◌<◌, Bool, true, false, sym, ap, subst, ◌∙◌, inl, inr, arith, Some, None, IfSome, nat_lt, nat_le, ◌&&◌}
use Rattle.std.proofs.lemmas.Bool.{and_from, and_parts, cases_Bool, cases_eq, false≢true, Decides.{nat_tests}}
use Rattle.std.specs.{Prelude.{option_map}, List.{filter, range_with_len}, declared.option.Option.{Option}}
use Rattle.osek_values.specs.{declared.numbers.SourceNo.{SourceNo}, Numbers.{source_no}}
use Rattle.osek_standard.specs.{declared.app.App.{App}, Apps.{source_priority}, Levels.{comes_before}, Priority.{first_of_all}}
use Rattle.osek_standard.proofs.{Members.{among_passing, passing_among}, AheadLaws.{ahead_of_itself, onward_ahead}, FirstLaws.{is_first, none_first}, NestLaws.{source_orders}}
use Rattle.generic_kernel.specs.Nests.{IsFirstBelow, IsFirstOfBelow, first_after}

module _ (app : App) (q : ℕ → Bool) where
  pub none_looked_at : IsFirstBelow app q 0 None
  none_looked_at l h = absurd (omega (arith, h))

  -- one that doesn't pass
  pub passed_over : (n : ℕ) (o : Option SourceNo) → q n ≡ false → IsFirstBelow app q n o → IsFirstBelow app q (n + 1) o
  passed_over n None e h = λ l below. elim (cases_eq l n) [
    | inl same ↦ ap q same ∙ e
    | inr other ↦ h l (omega (arith, below, other))
  ]
  passed_over n (Some k) e h = record {
    below = omega (arith, h.below);
    passes_too = h.passes_too;
    before_each = λ l below passes. elim (cases_eq l n) [
      | inl same ↦ absurd (false≢true (sym (ap q same ∙ e) ∙ passes))
      | inr other ↦ h.before_each l (omega (arith, below, other)) passes
    ];
  }

  later : (n k : ℕ) → nat_lt (source_priority app k) (source_priority app n) ≡ true → comes_before app n k ≡ true
  later n k e = grind (arith, nat_tests)

  earlier : (n k : ℕ) → k < n → nat_lt (source_priority app k) (source_priority app n) ≡ false → comes_before app k n ≡ true
  earlier n k h e = grind (arith, nat_tests)

  -- one that passes
  pub taken : (n : ℕ) (o : Option SourceNo) → q n ≡ true → IsFirstBelow app q n o → IsFirstBelow app q (n + 1) (Some (first_after app o (source_no n)))
  taken n None e h = record {
    below = omega arith;
    passes_too = e;
    before_each = λ l below passes. elim (cases_eq l n) [
      | inl same ↦ subst (λ (m : ℕ). comes_before app n m ≡ true) (sym same) (ahead_of_itself (source_priority app n) n)
      | inr other ↦ absurd (false≢true (sym (h l (omega (arith, below, other))) ∙ passes))
    ];
  }
  taken n (Some k) e h = elim (cases_Bool (nat_lt (source_priority app k.0) (source_priority app n))) [
    | inl f ↦ (rw f (record {
      below = omega arith;
      passes_too = e;
      before_each = λ l below passes. elim (cases_eq l n) [
        | inl same ↦ subst (λ (m : ℕ). comes_before app n m ≡ true) (sym same) (ahead_of_itself (source_priority app n) n)
        | inr other ↦ onward_ahead (source_priority app n) n (source_priority app k.0) k.0 (source_priority app l) l (later n k.0 f) (h.before_each l (omega (arith, below, other)) passes)
      ];
    }))
    | inr f ↦ (rw f (record {
      below = omega (arith, h.below);
      passes_too = h.passes_too;
      before_each = λ l below passes. elim (cases_eq l n) [
        | inl same ↦ subst (λ (m : ℕ). comes_before app k.0 m ≡ true) (sym same) (earlier n k.0 h.below f)
        | inr other ↦ h.before_each l (omega (arith, below, other)) passes
      ];
    }))
  ]

  -- all
  pub first_found : (n : ℕ) (o : Option SourceNo) → IsFirstBelow app q n o → option_map source_no (first_of_all (comes_before app) (filter q (range_with_len 0 n))) ≡ o
  first_found n None h =
      ap (option_map source_no) (none_first (comes_before app) (filter q (range_with_len 0 n)) (λ l m. let p = passing_among q n l m in false≢true (sym (h l p.1) ∙ p.0)))
  first_found n (Some k) h = ap (option_map source_no) (is_first (comes_before app) (source_orders app) (filter q (range_with_len 0 n)) k.0 (record {
    among = among_passing q n k.0 h.below h.passes_too;
    before_each = λ l m. let p = passing_among q n l m in h.before_each l p.1 p.0;
  }))

  pub found_below : (n : ℕ) (o : Option SourceNo) → IsFirstBelow app q n o → IfSome o (λ (k : SourceNo). k.0 < n)
  found_below n None h = tt
  found_below n (Some k) h = h.below

-- of the sources that a level lets in
module _ (app : App) (q : ℕ → Bool) (level : ℕ) where
  abbrev passes : ℕ → Bool
  passes k = q k && nat_le level (source_priority app k)

  pub none_passes : (n : ℕ) → IsFirstBelow app q n None → IsFirstBelow app passes n None
  none_passes n h l below = ap (λ (b : Bool). b && nat_le level (source_priority app l)) (h l below)

  lower_too : (k l : ℕ) → comes_before app k l ≡ true → nat_le level (source_priority app k) ≡ false → nat_le level (source_priority app l) ≡ false
  lower_too k l e f = grind (arith, nat_tests)

  -- where the first of all is kept out, each is
  pub each_kept_out : (n k : ℕ) → IsFirstOfBelow app q n k → nat_le level (source_priority app k) ≡ false → IsFirstBelow app passes n None
  each_kept_out n k h out l below = elim (cases_Bool (q l)) [
    | inl e ↦ (rw e (lower_too k l (h.before_each l below e) out))
    | inr e ↦ ap (λ (b : Bool). b && nat_le level (source_priority app l)) e
  ]

  -- and where it is let in, it is the first of those that are
  pub first_let_in : (n : ℕ) (k : SourceNo) → IsFirstOfBelow app q n k.0 → nat_le level (source_priority app k.0) ≡ true → IsFirstBelow app passes n (Some k)
  first_let_in n k h in_too = record {
    below = h.below;
    passes_too = and_from (q k.0) (nat_le level (source_priority app k.0)) h.passes_too in_too;
    before_each = λ l below e. h.before_each l below (and_parts (q l) (nat_le level (source_priority app l)) e).0;
  }
