-- The blocks of a task's values, one block after another: those at a block are taken all at once.
use Rattle.std.proofs.Common.{◌≡◌, ◌⊎◌, ℕ, ◌+◌, ◌<◌, ◌≤◌, Bool, true, false, ◌&&◌, not, List, [], ◌∷◌, ◌++◌, refl, sym, ap, ap₂, subst, ◌∙◌, inl, inr, arith, IsTrue}
use Rattle.std.proofs.lemmas.{Bool.{cases_eq, cases_lt}, List.Elements.{Contains-append_left, Contains-push, Contains-push_cases}}
use Rattle.osek_standard.specs.declared.point.Point.{Point}
use Rattle.abstract_state.specs.declared.value.PartValue.{PartValue}
use Rattle.flow_model.specs.{declared.runner.Runner.{Runner}, Runners.{component_of, runner_point}}
use Rattle.numbered_sets.specs.{declared.numbered_entry.NumberedEntry.{NumberedEntry}, Numbers.{Numbers, has_number, other_numbers}, NumberedEntries.{numbers_at}}
use Rattle.numbered_sets.specs.Pools.{Values, values_at}
use Rattle.numbered_sets.proofs.{KeptLaws.{of_others}, MeetLaws.{has_other}}
use Rattle.block_sets.specs.{declared.sets.BlockSet.{BlockSet}, AtBlocks.{IsBlockSet}}
use Rattle.point_exits.specs.{declared.group.NumberEnd.{NumberEnd}, Deciding.{HasNumbersOf, HaveNumbersOf, IsNumberAt, block_with}}
use Rattle.point_exits.proofs.NumberLaws.{number_fills}

-- ---- the numbers that are taken, and those that are left

both : (x y : Bool) → IsTrue (x && not (x && not y)) → IsTrue x × IsTrue y
both true true e = (refl, refl)
both true false e = absurd (cc)
both false y e = absurd (cc)

neither : (x y : Bool) → IsTrue y → (x && not y) ≡ false
neither true true e = refl
neither false y e = refl
neither true false e = absurd (cc)

module _ (left here : Numbers) (n : ℕ) where
  abbrev has_taken : Bool
  has_taken = has_number (other_numbers left (other_numbers left here)) n

  taken_by : has_taken ≡ (has_number left n && not (has_number left n && not (has_number here n)))
  taken_by = has_other left (other_numbers left here) n ∙ ap (λ (b : Bool). has_number left n && not b) (has_other left here n)

  is_taken : IsTrue (has_number left n) → IsTrue (has_number here n) → IsTrue has_taken
  is_taken was at = taken_by ∙ ap₂ (λ (x y : Bool). x && not (x && not y)) was at

  was_both : IsTrue has_taken → IsTrue (has_number left n) × IsTrue (has_number here n)
  was_both has = both (has_number left n) (has_number here n) (sym taken_by ∙ has)

  is_left : IsTrue (has_number left n) → has_number here n ≡ false → IsTrue (has_number (other_numbers left here) n)
  is_left was at = has_other left here n ∙ ap₂ (λ (x y : Bool). x && not y) was at

  none_here : IsTrue (has_number here n) → has_number (other_numbers left here) n ≡ false
  none_here at = has_other left here n ∙ neither (has_number left n) (has_number here n) at

  still_none : has_number left n ≡ false → has_number (other_numbers left here) n ≡ false
  still_none none = has_other left here n ∙ ap (λ (b : Bool). b && not (has_number here n)) none

-- ---- the ends so far

module _ (pool : List Values) (entry : NumberedEntry) (r : Runner) where
  abbrev c : ℕ
  c = component_of r

  -- each number of the entry is left, or at its block; those that are left are from k on
  pub record AreTakenBlocks (k : ℕ) (left : Numbers) (xs : List NumberEnd) : Type 0 where
    pub domain : left.domain ≡ (numbers_at entry c).domain
    pub some : HaveNumbersOf c (numbers_at entry c).domain xs
    pub each : (p : Point) (n : ℕ) (d : PartValue) → IsNumberAt xs p n → IsTrue (has_number (numbers_at entry c) n) × (p ≡ block_with pool r n d)
    pub within : (n : ℕ) → IsTrue (has_number left n) → IsTrue (has_number (numbers_at entry c) n)
    pub whole : (n : ℕ) (d : PartValue) → IsTrue (has_number (numbers_at entry c) n) → IsTrue (has_number left n) ⊎ IsNumberAt xs (block_with pool r n d) n
    pub below : (n : ℕ) → n < k → has_number left n ≡ false

  -- those at one block are taken
  module _ (m k : ℕ) (left : Numbers) (xs : List NumberEnd) (here : BlockSet) (set : IsBlockSet (values_at pool c) here) (has : IsTrue (has_number left m)) (at : IsTrue (has_number here.numbers m))
      (none : (n : ℕ) → m + 1 ≤ n → n < k → has_number (other_numbers left here.numbers) n ≡ false) (h : AreTakenBlocks m left xs) where
    abbrev taken : Numbers
    taken = other_numbers left (other_numbers left here.numbers)

    abbrev end : NumberEnd
    end = record { component = c; numbers = taken; target = runner_point r here.block }

    at_block : (n : ℕ) (d : PartValue) → IsTrue (has_number taken n) → end.target ≡ block_with pool r n d
    at_block n d its = ap (runner_point r) (sym (set.each n d (was_both left here.numbers n its).1).1)

    left_or_taken : (n : ℕ) (d : PartValue) → IsTrue (has_number left n) → IsTrue (has_number (other_numbers left here.numbers) n) ⊎ IsNumberAt (xs ++ end ∷ []) (block_with pool r n d) n
    left_or_taken n d was = by (has_number here.numbers n) refl
      where
        by : (b : Bool) → has_number here.numbers n ≡ b → IsTrue (has_number (other_numbers left here.numbers) n) ⊎ IsNumberAt (xs ++ end ∷ []) (block_with pool r n d) n
        by true e = (let its = is_taken left here.numbers n was e in inr (record { end = end; listed = Contains-push xs end; target = at_block n d its; has = its }))
        by false e = inl (is_left left here.numbers n was e)

    next_taken : AreTakenBlocks k (other_numbers left here.numbers) (xs ++ end ∷ [])
    next_taken = record {
      domain = h.domain;
      some = λ x listed. elim (Contains-push_cases xs end x listed) [
        | inl old ↦ h.some x old
        | inr same ↦ subst (HasNumbersOf c (numbers_at entry c).domain) same (record { component = refl; domain = h.domain; some = number_fills taken m (is_taken left here.numbers m has at) })
      ];
      each = λ p n d its. elim (Contains-push_cases xs end its.end its.listed) [
        | inl old ↦ h.each p n d (record { end = its.end; listed = old; target = its.target; has = its.has })
        | inr same ↦
            (let number : IsTrue (has_number taken n) = ap (λ (e : NumberEnd). has_number e.numbers n) same ∙ its.has in
            (h.within n (was_both left here.numbers n number).0, sym its.target ∙ ap (λ (e : NumberEnd). e.target) (sym same) ∙ at_block n d number))
      ];
      within = λ n its. h.within n (of_others left here.numbers n its);
      whole = λ n d its. elim (h.whole n d its) [
        | inl was ↦ left_or_taken n d was
        | inr old ↦ inr (record { end = old.end; listed = Contains-append_left xs (end ∷ []) old.end old.listed; target = old.target; has = old.has })
      ];
      below = λ n lt. elim (cases_lt n m) [
        | inl before ↦ still_none left here.numbers n (h.below n before)
        | inr past ↦ elim (cases_eq n m) [
          | inl same ↦ none_here left here.numbers n (ap (has_number here.numbers) same ∙ at)
          | inr differ ↦ none n (omega (arith, past, differ)) lt
        ]
      ];
    }

    pub more_taken_blocks : (elsewhere numbers : Numbers) (component : ℕ) (target : Point) (ys : List NumberEnd) → elsewhere ≡ other_numbers left here.numbers → numbers ≡ other_numbers left elsewhere → component ≡ c → target ≡ runner_point r here.block
        → ys ≡ xs ++ (record { component = component; numbers = numbers; target = target }) ∷ [] → AreTakenBlocks k elsewhere ys
    more_taken_blocks elsewhere numbers component target ys others its own goes pushed =
        subst (λ (x : Numbers). AreTakenBlocks k x ys) (sym others) (subst (AreTakenBlocks k (other_numbers left here.numbers)) (sym (pushed ∙ ap (λ (e : NumberEnd). xs ++ e ∷ []) is_end)) next_taken)
      where
        is_end : record { component = component; numbers = numbers; target = target } ≡ end
        is_end =
            ap (λ (i : ℕ). record { component = i; numbers = numbers; target = target }) own
            ∙ ap (λ (x : Numbers). record { component = c; numbers = x; target = target }) (its ∙ ap (other_numbers left) others)
            ∙ ap (λ (p : Point). record { component = c; numbers = taken; target = p }) goes
