-- What is left where the numbers of a component that another set lacks are left out.
use Rattle.std.proofs.Common.{◌≡◌, ◌≢◌, ℕ, ◌<◌, Bool, ◌&&◌, List, length, map, get_or, set, sym, ap, ap₂, subst, ◌∙◌, inl, inr, arith, IsTrue, get_or-set_same, get_or-set_other}
use Rattle.std.proofs.{Math.ListN.{get_or-map}, lemmas.{Bool.{cases_eq, and_parts}, List.{length-set, map-set, set-get_or}}}
use Rattle.osek_standard.specs.declared.app.App.{App}
use Rattle.abstract_state.specs.declared.value.PartValue.{PartValue}
use Rattle.abstract_state.specs.declared.value.Domain.TheVariants as domain
use Rattle.abstract_state.specs.{declared.table.ValueSet.{ValueSet}, Components.{component_count}, Tables.{set_at, is_member}}
use Rattle.flow_model.specs.Effects.{AreIn}
use Rattle.numbered_sets.specs.{declared.numbered_entry.NumberedEntry.{NumberedEntry}, Numbers.{Numbers, has_number, kept_numbers}}
use Rattle.numbered_sets.specs.{NumberedEntries.{no_set, numbers_at, number_domains, AreFilled}, Pools.{Values, values_at, IsNumberOf}}
use Rattle.numbered_sets.specs.Views.{plain_set, plain_entry, AreNumbersOf}
use Rattle.numbered_sets.proofs.{MeetLaws.{has_kept}, PlainLaws.{plain_set_at}}
use Rattle.point_exits.proofs.NumberLaws.{HasNumber, member_number, number_member, number_fills}

module _ (pool : List Values) (entry after : NumberedEntry) (c : ℕ) (x : Numbers) (there : c < length entry.sets) (write : after.sets ≡ set entry.sets c (kept_numbers (numbers_at entry c) x)) where
  kept_at : numbers_at after c ≡ kept_numbers (numbers_at entry c) x
  kept_at = ap (λ (xs : List Numbers). get_or xs c no_set) write ∙ get_or-set_same entry.sets c (kept_numbers (numbers_at entry c) x) no_set there

  kept_beside : (k : ℕ) → k ≢ c → numbers_at after k ≡ numbers_at entry k
  kept_beside k differ = ap (λ (xs : List Numbers). get_or xs k no_set) write ∙ get_or-set_other entry.sets c k (kept_numbers (numbers_at entry c) x) no_set differ

  has_both : (n : ℕ) → has_number (numbers_at after c) n ≡ (has_number (numbers_at entry c) n && has_number x n)
  has_both n = ap (λ (y : Numbers). has_number y n) kept_at ∙ has_kept (numbers_at entry c) x n

  kept_has : (k n : ℕ) → IsTrue (has_number (numbers_at after k) n) → IsTrue (has_number (numbers_at entry k) n)
  kept_has k n has = elim (cases_eq k c) [
    | inl same ↦ subst (λ (i : ℕ). IsTrue (has_number (numbers_at entry i) n)) (sym same)
        (and_parts (has_number (numbers_at entry c) n) (has_number x n) (sym (has_both n) ∙ ap (λ (i : ℕ). has_number (numbers_at after i) n) (sym same) ∙ has)).0
    | inr differ ↦ ap (λ (y : Numbers). has_number y n) (sym (kept_beside k differ)) ∙ has
  ]

  pub as_many_kept : length after.sets ≡ length entry.sets
  as_many_kept = ap length write ∙ length-set entry.sets c (kept_numbers (numbers_at entry c) x)

  pub known_kept : AreNumbersOf pool entry → AreNumbersOf pool after
  known_kept known = record {
    domains =
        ap (map (λ (y : Numbers). y.domain)) write
        ∙ map-set (λ (y : Numbers). y.domain) entry.sets c (kept_numbers (numbers_at entry c) x)
        ∙ ap (set (number_domains entry) c) (sym (get_or-map (λ (y : Numbers). y.domain) entry.sets c no_set))
        ∙ set-get_or (number_domains entry) c domain.Alarm
        ∙ known.domains;
    known = λ k n has. known.known k n (kept_has k n has);
  }

  -- a number of both
  module _ (n : ℕ) (first : IsTrue (has_number (numbers_at entry c) n)) (second : IsTrue (has_number x n)) where
    both_there : IsTrue (has_number (numbers_at after c) n)
    both_there = has_both n ∙ ap₂ (λ (a b : Bool). a && b) first second

    pub filled_kept : AreFilled entry → AreFilled after
    filled_kept filled = record {
      each = λ k lt. elim (cases_eq k c) [
        | inl same ↦ subst (λ (i : ℕ). 0 < (numbers_at after i).bits) (sym same) (number_fills (numbers_at after c) n both_there)
        | inr differ ↦ subst (λ (y : Numbers). 0 < y.bits) (sym (kept_beside k differ)) (filled.each k (omega (arith, lt, as_many_kept)))
      ];
    }

  module _ (app : App) (value : ℕ → PartValue) where
    same_sets_beside : (k : ℕ) → k ≢ c → set_at (plain_entry pool after) k ≡ set_at (plain_entry pool entry) k
    same_sets_beside k differ = plain_set_at pool after k ∙ ap (plain_set (values_at pool k)) (kept_beside k differ) ∙ sym (plain_set_at pool entry k)

    pub number_kept : AreIn app (plain_entry pool after) value → c < component_count app → HasNumber (values_at pool c) (λ n. has_number (numbers_at entry c) n && has_number x n) (value c)
    number_kept within lt =
        let its = member_number pool after c (value c) (within c lt) in
        record { number = its.number; has_it = sym (has_both its.number) ∙ its.has_it; is = its.is }

    pub within_kept : AreIn app (plain_entry pool after) value → AreIn app (plain_entry pool entry) value
    within_kept within k lt =
        let its = member_number pool after k (value k) (within k lt) in
        number_member pool entry k (value k) its.number (kept_has k its.number its.has_it) its.is

    pub in_kept : AreIn app (plain_entry pool entry) value → (n : ℕ) → IsTrue (has_number (numbers_at entry c) n) → IsTrue (has_number x n) → IsNumberOf (values_at pool c) (value c) n → AreIn app (plain_entry pool after) value
    in_kept within n first second is k lt = elim (cases_eq k c) [
      | inl same ↦ subst (λ (i : ℕ). IsTrue (is_member (set_at (plain_entry pool after) i) (value i))) (sym same) (number_member pool after c (value c) n (both_there n first second) is)
      | inr differ ↦ ap (λ (s : ValueSet). is_member s (value k)) (same_sets_beside k differ) ∙ within k lt
    ]
