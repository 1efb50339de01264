-- A number comes to those at a block: to the set that is there, or to a new one; and what sets say as values come in.
use Rattle.std.proofs.Common.{◌≡◌, ◌⊎◌, ℕ, ◌<◌, List, [], ◌∷◌, ◌++◌, length, get_or, set, sym, ap, subst, ◌∙◌, inl, inr, arith, IsTrue, ◌^◌}
use Rattle.std.specs.Prelude.{Contains}
use Rattle.std.proofs.lemmas.{Bool.{or_cases, eqb-true}, List.{length-append, get_or_append_left, Elements.{All-set, All-contains, Contains-get_or, Contains-push_cases}}}
use Rattle.bit_words.proofs.BitCounts.{has_either, has_one}
use Rattle.osek_values.specs.{Bits.{has_bit}, declared.numbers.BlockNo.{BlockNo}}
use Rattle.abstract_state.specs.declared.value.{Domain.{Domain}, PartValue.{PartValue}}
use Rattle.flow_model.specs.Values.{block_of_part}
use Rattle.numbered_sets.specs.{Numbers.{Numbers, numbers, has_number, with_number}, Pools.{IsNumberOf, IsExtended}}
use Rattle.numbered_sets.proofs.KnownNumbers.{no_bit_of_none}
use Rattle.block_sets.specs.{declared.sets.BlockSet.{BlockSet}, AtBlocks.{IsBlockSet, AreBlockSets}}

-- what a set has with a number more
pub with_cases : (x : Numbers) (n m : ℕ) → IsTrue (has_number (with_number x n) m) → IsTrue (has_number x m) ⊎ (m ≡ n)
with_cases x n m has = elim (or_cases (has_number x m) (has_bit (2 ^ n) m) (sym (has_either x.bits (2 ^ n) m) ∙ has)) [
  | inl old ↦ inl old
  | inr new ↦ inr (eqb-true m n (sym (has_one n m) ∙ new))
]

module _ (vs : List PartValue) (v : PartValue) (n : ℕ) (is : IsNumberOf vs v n) where
  with_value : (x : BlockSet) (more : Numbers) → IsBlockSet vs x → block_of_part v ≡ x.block → more ≡ with_number x.numbers n → IsBlockSet vs (record x { numbers = more })
  with_value x more h stands put = record {
    each = λ m d has. elim (with_cases x.numbers n m (ap (λ (y : Numbers). has_number y m) (sym put) ∙ has)) [
      | inl old ↦ h.each m d old
      | inr new ↦ (omega (arith, new, is.known), ap (λ (j : ℕ). block_of_part (get_or vs j d)) new ∙ ap block_of_part (is.is d) ∙ stands)
    ];
  }

  -- to those of a set that is there
  pub put_there : (sets : List BlockSet) (k : ℕ) (x : BlockSet) (more : Numbers) → AreBlockSets vs sets → k < length sets → get_or sets k x ≡ x → block_of_part v ≡ x.block → more ≡ with_number x.numbers n
      → AreBlockSets vs (set sets k (record x { numbers = more }))
  put_there sets k x more h known at stands put y m =
      All-contains (IsBlockSet vs) (set sets k (record x { numbers = more })) y
      (All-set (IsBlockSet vs) sets k (record x { numbers = more }) (with_value x more (h x (k, known, at)) stands put) (λ i d lt. h (get_or sets i d) (Contains-get_or sets i d lt))) m

  -- to a new set
  pub put_last : (sets : List BlockSet) (d : Domain) (b : BlockNo) (more : Numbers) (now : List BlockSet) → AreBlockSets vs sets → block_of_part v ≡ b → more ≡ with_number (numbers d 0) n
      → now ≡ sets ++ (record { block = b; numbers = more }) ∷ [] → AreBlockSets vs now
  put_last sets d b more now h stands put pushed y m = elim (Contains-push_cases sets (record { block = b; numbers = more }) y (subst (λ (xs : List BlockSet). Contains xs y) pushed m)) [
    | inl old ↦ h y old
    | inr new ↦ subst (IsBlockSet vs) new (with_value (record { block = b; numbers = numbers d 0 }) more (record { each = λ j e has. absurd (no_bit_of_none j has) }) stands put)
  ]

pub none_there : (vs : List PartValue) (sets : List BlockSet) → sets ≡ [] → AreBlockSets vs sets
none_there vs sets empty x m = absurd (let lt = m.1 in omega (arith, lt, ap length empty))

-- values came in
pub sets_longer : (vs ws : List PartValue) (sets : List BlockSet) → IsExtended vs ws → AreBlockSets vs sets → AreBlockSets ws sets
sets_longer vs ws sets longer h x m = record {
  each = λ n d has. (
      let old = (h x m).each n d has in (
        omega (arith, old.0, ap length longer.is, length-append vs longer.more),
        ap (λ (us : List PartValue). block_of_part (get_or us n d)) longer.is ∙ ap block_of_part (get_or_append_left vs longer.more d n old.0) ∙ old.1,
      ));
}
