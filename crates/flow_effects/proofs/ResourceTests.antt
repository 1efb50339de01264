-- Who holds a resource, by tests of masks, and what a stack becomes behind a move.
use Rattle.std.proofs.Common.{◌≡◌, ℕ, ◌^◌, ◌<◌, Bool, true, false, not, ◌||◌, nat_eq, List, [], ◌∷◌, length, refl, sym, ap, ◌∙◌, inl, inr, arith, get_or, suc}
use Rattle.std.specs.{Prelude.{◌==◌}, List.{list_any}, Int.{bit_at}}
use Rattle.std.proofs.lemmas.{Bool.{cases_Bool, cases_eq, eq-eqb, ne_eqb}, Nat.Bits.{bit_at-pow_same, bit_at-pow_other}}
use Rattle.osek_values.specs.{Bits.{has_bit}, declared.numbers.{BlockNo.{BlockNo}, ResNo.{ResNo}}}
use Rattle.osek_standard.specs.TaskStates.{holds}
use Rattle.abstract_state.specs.declared.value.{Val.TheVariants.{Suspended, Live, Waiting}, PartValue.{PartValue, TheVariants.{OfTask, OfEvent, OfAlarm, OfSource}}}
use Rattle.abstract_state.specs.declared.value.SourceVal.TheVariants as source_val
use Rattle.flow_model.specs.Values.{restacked_part}
use Rattle.flow_effects.specs.Resources.{only}

-- bit k of the mask of one resource
only_bit : (r k : ℕ) → has_bit (2 ^ r) k ≡ nat_eq k r
only_bit r k = elim (cases_eq k r) [
  | inl same ↦ (let one : bit_at (2 ^ r) k ≡ 1 = ap (bit_at (2 ^ r)) same ∙ bit_at-pow_same r in ap (λ (n : ℕ). n == 1) one ∙ sym (eq-eqb k r same))
  | inr other ↦ (let none : bit_at (2 ^ r) k ≡ 0 = bit_at-pow_other r k other in ap (λ (n : ℕ). n == 1) none ∙ sym (ne_eqb k r other))
]

pub any_only : (r : ResNo) (h : List ResNo) → list_any (λ (q : ResNo). has_bit (only r) q.0) h ≡ holds h r.0
any_only r [] = refl
any_only r (q ∷ h) = ap (λ (b : Bool). b || list_any (λ (x : ResNo). has_bit (only r) x.0) h) (only_bit r.0 q.0) ∙ ap (λ (b : Bool). nat_eq q.0 r.0 || b) (any_only r h)

-- where some element passes there is one, with its place
pub any_at : {X : Type 0} (none : X) (p : X → Bool) (xs : List X) → list_any p xs ≡ true → (u : ℕ) × (u < length xs) × (p (get_or xs u none) ≡ true)
any_at none p [] e = absurd (cc)
any_at none p (x ∷ xs) e = elim (cases_Bool (p x)) [
  | inl is ↦ (0, omega arith, is)
  | inr other ↦ (let h = any_at none p xs (sym (ap (λ (b : Bool). b || list_any p xs) other) ∙ e) in (suc h.0, omega (arith, h.1), h.2))
]

-- what stands at another block with another stack, after a move to that block
pub restacked_moved : (f : List ResNo → List ResNo) (n : BlockNo) (v : PartValue) → restacked_part f n (restacked_part (λ h. h) n v) ≡ restacked_part f n v
restacked_moved f n (OfTask Suspended) = refl
restacked_moved f n (OfTask (Live x)) = refl
restacked_moved f n (OfTask (Waiting b)) = refl
restacked_moved f n (OfEvent x) = refl
restacked_moved f n (OfAlarm x) = refl
restacked_moved f n (OfSource source_val.Out) = refl
restacked_moved f n (OfSource (source_val.In x)) = refl

pub or_last : (a b : Bool) → b ≡ true → (a || b) ≡ true
or_last true b e = refl
or_last false b e = e

pub not-true : (a : Bool) → not a ≡ true → a ≡ false
not-true true e = absurd (cc)
not-true false e = refl
