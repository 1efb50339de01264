-- The events that a call names, as code has them.
use Rattle.std.proofs.Common.{◌≡◌, ℕ, true, sym, ap, subst, ◌∙◌}
use Rattle.std.specs.Prelude.{bit_and}
use Rattle.osek_values.specs.{Numbers.{mask}, declared.mask.Mask.{Mask}, Bits.{has_bit}}
use Rattle.osek_standard.specs.declared.objects.Task.{Task}
use Rattle.flow_model.proofs.BitsOf.{bit_within}

module _ (task of : Task) (m : ℕ) (events : Mask) (same : task ≡ of) (is : events ≡ mask (bit_and m of.own.0)) where
  pub named : events.0 ≡ bit_and m task.own.0
  named = ap (λ (e : Mask). e.0) is ∙ ap (λ (x : Task). bit_and m x.own.0) (sym same)

  pub named_own : (k : ℕ) → has_bit events.0 k ≡ true → has_bit task.own.0 k ≡ true
  named_own k set = bit_within m task.own.0 k (subst (λ (n : ℕ). has_bit n k ≡ true) named set)
