-- Some numbers of a component alone, and the values that are left.
use Rattle.std.proofs.Common.{◌≡◌, ◌≢◌, ℕ, ◌<◌, List, length, sym, ap, subst, ◌∙◌, inl, inr, IsTrue, get_or-set_same, get_or-set_other}
use Rattle.std.proofs.lemmas.Bool.{cases_eq}
use Rattle.osek_standard.specs.declared.app.App.{App}
use Rattle.abstract_state.specs.declared.{value.PartValue.{PartValue}, table.ValueSet.{ValueSet}}
use Rattle.abstract_state.specs.Tables.{set_at, is_member}
use Rattle.flow_model.specs.Effects.{AreIn}
use Rattle.numbered_sets.specs.{declared.numbered_entry.NumberedEntry.{NumberedEntry}, Numbers.{Numbers, has_number}, NumberedEntries.{no_set, numbers_at}}
use Rattle.numbered_sets.specs.{Pools.{Values, values_at, IsNumberOf}, Views.{plain_set, plain_entry}}
use Rattle.numbered_sets.proofs.{PlainLaws.{plain_set_at}, SiftLaws.{some_value}}
use Rattle.flow_exits.specs.Exits.{HasMember, IsFilled}
use Rattle.point_exits.specs.Groups.{holding}
use Rattle.point_exits.proofs.NumberLaws.{HasNumber, member_number, number_member}

module _ (app : App) (pool : List Values) (entry : NumberedEntry) (c : ℕ) (x : Numbers) (there : c < length entry.sets) where
  abbrev held : NumberedEntry
  held = holding entry c x

  at : numbers_at (holding entry c x) c ≡ x
  at = get_or-set_same entry.sets c x no_set there

  beside : (k : ℕ) → k ≢ c → set_at (plain_entry pool (holding entry c x)) k ≡ set_at (plain_entry pool entry) k
  beside k differ = plain_set_at pool held k ∙ ap (plain_set (values_at pool k)) (get_or-set_other entry.sets c k x no_set differ) ∙ sym (plain_set_at pool entry k)

  -- a value that is left has one of the numbers
  pub held_number : (v : PartValue) → IsTrue (is_member (set_at (plain_entry pool (holding entry c x)) c) v) → HasNumber (values_at pool c) (has_number x) v
  held_number v m = (let h = member_number pool held c v m in record { number = h.number; has_it = ap (λ (y : Numbers). has_number y h.number) (sym at) ∙ h.has_it; is = h.is })

  pub held_within : ((n : ℕ) → IsTrue (has_number x n) → IsTrue (has_number (numbers_at entry c) n)) → (value : ℕ → PartValue) → AreIn app (plain_entry pool (holding entry c x)) value → AreIn app (plain_entry pool entry) value
  held_within fewer value within k lt = elim (cases_eq k c) [
    | inl same ↦
        (let h = held_number (value c) (subst (λ (i : ℕ). IsTrue (is_member (set_at (plain_entry pool held) i) (value i))) same (within k lt)) in
        subst (λ (i : ℕ). IsTrue (is_member (set_at (plain_entry pool entry) i) (value i))) (sym same) (number_member pool entry c (value c) h.number (fewer h.number h.has_it) h.is))
    | inr differ ↦ ap (λ (s : ValueSet). is_member s (value k)) (sym (beside k differ)) ∙ within k lt
  ]

  pub held_in : (value : ℕ → PartValue) → AreIn app (plain_entry pool entry) value → (n : ℕ) → IsTrue (has_number x n) → IsNumberOf (values_at pool c) (value c) n → AreIn app (plain_entry pool (holding entry c x)) value
  held_in value within n has is k lt = elim (cases_eq k c) [
    | inl same ↦
        subst (λ (i : ℕ). IsTrue (is_member (set_at (plain_entry pool held) i) (value i))) (sym same)
        (number_member pool held c (value c) n (ap (λ (y : Numbers). has_number y n) at ∙ has) is)
    | inr differ ↦ ap (λ (s : ValueSet). is_member s (value k)) (beside k differ) ∙ within k lt
  ]

  pub held_filled : ((n : ℕ) → IsTrue (has_number x n) → n < length (values_at pool c)) → 0 < x.bits → IsFilled app (plain_entry pool entry) → IsFilled app (plain_entry pool (holding entry c x))
  held_filled known some filled k lt = elim (cases_eq k c) [
    | inl same ↦
        (let v = some_value (values_at pool c) x known some in
        subst (HasMember (plain_entry pool held)) (sym same) (record { value = v.0; member = ap (λ (s : ValueSet). is_member s v.0) (plain_set_at pool held c ∙ ap (plain_set (values_at pool c)) at) ∙ v.1 }))
    | inr differ ↦ (let y = filled k lt in record { value = y.value; member = ap (λ (s : ValueSet). is_member s y.value) (beside k differ) ∙ y.member })
  ]
