-- Sets of flags that are read by their number.
use Rattle.std.proofs.Common.{◌≡◌, ℕ, zero, suc, Bool, true, false, List, [], ◌∷◌, ◌++◌, refl, sym, ap, subst, ◌∙◌, arith}
use Rattle.std.specs.{Prelude.{sum_by}, List.Sorted.{IsStrictlySortedBy}, declared.cmp.Ordering.TheVariants.{Less}}
use Rattle.std.proofs.lemmas.List.{Elements.{All-nil, All-cons}, Sums.{sum_by-cons}}
use Rattle.osek_values.specs.declared.numbers.{TaskNo.{TaskNo}, EventNo.{EventNo}, AlarmNo.{AlarmNo}}
use Rattle.osek_standard.specs.declared.{app.App.{App}, point.Point.{Point}}
use Rattle.abstract_state.specs.declared.value.{Component.{Component}, PartValue.{PartValue, TheVariants.{OfEvent, OfAlarm}}}
use Rattle.abstract_state.specs.declared.value.Component.TheVariants as component
use Rattle.abstract_state.specs.declared.value.Domain.TheVariants as domain
use Rattle.abstract_state.specs.{ValueOrder.{part_order, IsAscending}, Components.{IsPart}}
use Rattle.abstract_state.proofs.OrderLaws.{ascending_one}
use Rattle.table_codec.specs.{Spelling.{flags, flag_number}, Faults.{IsGoodSet}, Sets.{IsFlagNumber, flagged, IsReadSet}}

no_flags : sum_by flag_number [] ≡ 0
no_flags = refl

module _ (app : App) (p : Point) (k : Component) (of : Bool → PartValue) (can : (b : Bool) → IsPart app p k (of b)) (less : part_order (of false) (of true) ≡ Less) (one : flag_number (of false) ≡ 1) (two : flag_number (of true) ≡ 2) where
  both_ascend : IsAscending (of false ∷ of true ∷ [])
  unfolding IsStrictlySortedBy
  both_ascend = ((less, tt), (tt, tt))

  single : (b : Bool) → IsGoodSet app p k (of b ∷ [])
  single b = record {
    values = record { some = omega arith; allowed = All-cons (IsPart app p k) (of b) [] (can b) (All-nil (IsPart app p k)); ascending = ascending_one (of b) };
    few = omega arith;
  }

  pub good_flags : (n : ℕ) → IsFlagNumber n → IsGoodSet app p k (flagged of n)
  good_flags zero h = absurd (omega (arith, h.0))
  good_flags (suc zero) h = single false
  good_flags (suc (suc zero)) h = single true
  good_flags (suc (suc (suc zero))) h = record {
    values = record {
      some = omega arith;
      allowed = All-cons (IsPart app p k) (of false) (of true ∷ []) (can false) (All-cons (IsPart app p k) (of true) [] (can true) (All-nil (IsPart app p k)));
      ascending = both_ascend;
    };
    few = omega arith;
  }
  good_flags (suc (suc (suc (suc n)))) h = absurd (omega (arith, h.1))

  flags_sum : (n : ℕ) → IsFlagNumber n → n ≡ sum_by flag_number (flagged of n)
  flags_sum zero h = absurd (omega (arith, h.0))
  flags_sum (suc zero) h = omega (arith, no_flags, sum_by-cons flag_number (of false) [], one)
  flags_sum (suc (suc zero)) h = omega (arith, no_flags, sum_by-cons flag_number (of true) [], two)
  flags_sum (suc (suc (suc zero))) h = omega (arith, no_flags, sum_by-cons flag_number (of false) (of true ∷ []), sum_by-cons flag_number (of true) [], one, two)
  flags_sum (suc (suc (suc (suc n)))) h = absurd (omega (arith, h.1))

  pub flags_read : (n : ℕ) (bytes rest : List ℕ) → IsFlagNumber n → bytes ≡ n ∷ rest → bytes ≡ flags (flagged of n) ++ rest
  flags_read n bytes rest h e = e ∙ ap (λ (m : ℕ). m ∷ rest) (flags_sum n h)

module _ (app : App) (p : Point) (n : ℕ) (bytes rest : List ℕ) (vs : List PartValue) (number : IsFlagNumber n) (are : bytes ≡ n ∷ rest) where
  pub event_read : (t : TaskNo) (j : EventNo) → vs ≡ flagged OfEvent n → IsReadSet app p (component.Event t j) bytes rest (record { domain = domain.Event; members = vs })
  event_read t j e =
      subst (λ (ws : List PartValue). IsReadSet app p (component.Event t j) bytes rest (record { domain = domain.Event; members = ws })) (sym e) (record {
        good = good_flags app p (component.Event t j) OfEvent (λ b. tt) refl refl refl n number;
        domain = refl;
        are = flags_read app p (component.Event t j) OfEvent (λ b. tt) refl refl refl n bytes rest number are;
      })

  pub alarm_read : (a : AlarmNo) → vs ≡ flagged OfAlarm n → IsReadSet app p (component.Alarm a) bytes rest (record { domain = domain.Alarm; members = vs })
  alarm_read a e =
      subst (λ (ws : List PartValue). IsReadSet app p (component.Alarm a) bytes rest (record { domain = domain.Alarm; members = ws })) (sym e) (record {
        good = good_flags app p (component.Alarm a) OfAlarm (λ b. tt) refl refl refl n number;
        domain = refl;
        are = flags_read app p (component.Alarm a) OfAlarm (λ b. tt) refl refl refl n bytes rest number are;
      })
