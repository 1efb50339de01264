-- Sets of hooks, by their bits.
use Rattle.std.proofs.Common.{◌≡◌, ℕ, ◌^◌, Bool, true, false, ◌||◌, ◌&&◌, not, refl, sym, ap, ap₂, ◌∙◌, inl, inr}
use Rattle.std.specs.{Prelude.{◌==◌, bit_and, bit_or}, Int.Bits.{and_zero_l, and_zero_r}}
use Rattle.std.proofs.lemmas.Bool.{cases_Bool, eq-eqb, eqb-true}
use Rattle.bit_words.proofs.{BitCounts.{has_either, has_one, same_bits}, KeptWords.{has_both}}
use Rattle.osek_values.specs.{Bits.{has_bit}, Hooks.{hook_set}, declared.hooks.HookSet.{HookSet}}
use Rattle.osek_standard.specs.{declared.app.App.{App}, Effects.{wanted}, TraceText.{has_hook}}
use Rattle.abstract_state.specs.declared.value.Domain.TheVariants as domain
use Rattle.numbered_sets.specs.Numbers.{numbers}
use Rattle.numbered_sets.proofs.{MeetLaws.{common_of, meets_at}, ViewLaws.{false_unless}}
use Rattle.flow_report.specs.Findings.{IsHook}

-- a mask of one bit meets the numbers that have it
pub meets_bit : (n k : ℕ) → not (bit_and n (2 ^ k) == 0) ≡ has_bit n k
meets_bit n k = elim (cases_Bool (has_bit n k)) [
  | inl set ↦ (meets_at (numbers domain.Alarm n) (numbers domain.Alarm (2 ^ k)) k set (has_one k k ∙ eq-eqb k k refl) ∙ sym set)
  | inr clear ↦
      (false_unless (not (bit_and n (2 ^ k) == 0)) ⊥
      (λ meets.
      let x = common_of (numbers domain.Alarm n) (numbers domain.Alarm (2 ^ k)) meets in
      let at : x.number ≡ k = eqb-true x.number k (sym (has_one k x.number) ∙ x.second) in
      let set : has_bit n k ≡ true = ap (has_bit n) (sym at) ∙ x.first in
      absurd (cc))
      (λ none. none)
      ∙ sym clear)
]

pub hook_number : (h : ℕ) → IsHook h → (k : ℕ) × (h ≡ 2 ^ k)
hook_number h (inl e) = (2, e)
hook_number h (inr (inl e)) = (0, e)
hook_number h (inr (inr (inl e))) = (1, e)
hook_number h (inr (inr (inr (inl e)))) = (4, e)
hook_number h (inr (inr (inr (inr e)))) = (3, e)

pub has_hook_bit : (x : HookSet) (h : ℕ) (hook : IsHook h) → has_hook x h ≡ has_bit x.0 (hook_number h hook).0
has_hook_bit x h hook = ap (λ (m : ℕ). not (bit_and x.0 m == 0)) (hook_number h hook).1 ∙ meets_bit x.0 (hook_number h hook).0

pub has_hook_of_both : (a b h : ℕ) → IsHook h → has_hook (hook_set (bit_or a b)) h ≡ (has_hook (hook_set a) h || has_hook (hook_set b) h)
has_hook_of_both a b h hook =
    has_hook_bit (hook_set (bit_or a b)) h hook ∙ has_either a b (hook_number h hook).0
    ∙ sym (ap₂ (λ (x y : Bool). x || y) (has_hook_bit (hook_set a) h hook) (has_hook_bit (hook_set b) h hook))

pub has_no_hook : (h : ℕ) → has_hook (hook_set 0) h ≡ true → ⊥
has_no_hook h e = (let none : has_hook (hook_set 0) h ≡ false = ap (λ (m : ℕ). not (m == 0)) (and_zero_l h) in absurd (cc))

shared_first : (h a b : Bool) → ((h && a) || (h && b)) ≡ (h && (a || b))
shared_first true a b = refl
shared_first false a b = refl

-- what both have of a set, together
pub and_over_or : (h a b : ℕ) → bit_or (bit_and h a) (bit_and h b) ≡ bit_and h (bit_or a b)
and_over_or h a b = same_bits (bit_or (bit_and h a) (bit_and h b)) (bit_and h (bit_or a b)) (λ k.
    has_either (bit_and h a) (bit_and h b) k ∙ ap₂ (λ (x y : Bool). x || y) (has_both h a k) (has_both h b k)
    ∙ shared_first (has_bit h k) (has_bit a k) (has_bit b k)
    ∙ sym (has_both h (bit_or a b) k ∙ ap (λ (x : Bool). has_bit h k && x) (has_either a b k)))

-- of no hook none is wanted
pub wanted_none : (app : App) → wanted app 0 ≡ hook_set 0
wanted_none app = ap hook_set (and_zero_r app.hooks.0)
