-- The blocks of a runner's values, one number after another.
use Rattle.std.proofs.Common.{◌≡◌, ℕ, ◌+◌, ◌<◌, ◌≤◌, false, List, [], length, sym, ap, subst, ◌∙◌, inl, inr, arith, IsTrue}
use Rattle.std.specs.Prelude.{Contains}
use Rattle.std.proofs.lemmas.{Bool.{cases_eq, cases_lt}, List.{length-map}}
use Rattle.osek_standard.specs.declared.point.Point.{Point}
use Rattle.osek_standard.proofs.Members.{contained_among}
use Rattle.abstract_state.specs.declared.value.PartValue.{PartValue}
use Rattle.flow_model.specs.{declared.runner.Runner.{Runner}, Runners.{component_of, runner_point}, Values.{block_of_part}}
use Rattle.numbered_sets.specs.{declared.numbered_entry.NumberedEntry.{NumberedEntry}, Numbers.{Numbers, has_number}, NumberedEntries.{numbers_at}}
use Rattle.numbered_sets.specs.{Pools.{Values, values_at, IsNumberOf}, Views.{AreNumbersOf}}
use Rattle.point_exits.specs.{declared.group.NumberEnd.{NumberEnd}, Deciding.{HaveNumbersOf, IsNumberAt, IsNumberPut, block_with, AreBlockEnds}}

-- the pool has the components of the entry
pub pool_has : (pool : List Values) (entry : NumberedEntry) (t c : ℕ) → AreNumbersOf pool entry → t < length entry.sets → c ≡ t → c < length pool
pool_has pool entry t c known lt same =
    let as_many = sym (length-map entry.sets (λ (x : Numbers). x.domain)) ∙ ap length known.domains ∙ length-map pool (λ (x : Values). x.domain) in
    omega (arith, lt, same, as_many)

module _ (pool : List Values) (entry : NumberedEntry) (r : Runner) where
  abbrev c : ℕ
  c = component_of r

  -- those of the numbers below one
  pub record AreBlocksBelow (k : ℕ) (xs : List NumberEnd) : Type 0 where
    pub some : HaveNumbersOf c (numbers_at entry c).domain xs
    pub each : (p : Point) (n : ℕ) (d : PartValue) → IsNumberAt xs p n → IsTrue (has_number (numbers_at entry c) n) × (p ≡ block_with pool r n d)
    pub whole : (n : ℕ) (d : PartValue) → n < k → IsTrue (has_number (numbers_at entry c) n) → IsNumberAt xs (block_with pool r n d) n

  pub no_blocks : (k : ℕ) (xs : List NumberEnd) → xs ≡ [] → ((n : ℕ) → 0 ≤ n → n < k → has_number (numbers_at entry c) n ≡ false) → AreBlocksBelow k xs
  no_blocks k xs empty none = record {
    some = λ x m. absurd (nothing x m);
    each = λ p n d at. absurd (nothing at.end at.listed);
    whole = λ n d lt has. (let not = none n (omega arith) lt in absurd (cc));
  }
    where
      nothing : (x : NumberEnd) → Contains xs x → ⊥
      nothing x m = contained_among [] x (subst (λ (ys : List NumberEnd). Contains ys x) empty m)

  module _ (m k : ℕ) (xs ys : List NumberEnd) (target : Point) (v : PartValue) (put : IsNumberPut target m xs ys) (has : IsTrue (has_number (numbers_at entry c) m)) (is : IsNumberOf (values_at pool c) v m)
      (goes : target ≡ runner_point r (block_of_part v)) (none : (n : ℕ) → m + 1 ≤ n → n < k → has_number (numbers_at entry c) n ≡ false) (h : AreBlocksBelow m xs) where
    at_block : (n : ℕ) (d : PartValue) → n ≡ m → target ≡ block_with pool r n d
    at_block n d same = goes ∙ ap (λ (w : PartValue). runner_point r (block_of_part w)) (sym (is.is d)) ∙ ap (λ (i : ℕ). block_with pool r i d) (sym same)

    pub more_blocks : (HaveNumbersOf c (numbers_at entry c).domain xs → HaveNumbersOf c (numbers_at entry c).domain ys) → AreBlocksBelow k ys
    more_blocks keeps = record {
      some = keeps h.some;
      each = λ p n d at. elim (put.from p n at) [
        | inl old ↦ h.each p n d old
        | inr new ↦ (ap (has_number (numbers_at entry c)) new.1 ∙ has, new.0 ∙ at_block n d new.1)
      ];
      whole = λ n d lt there. elim (cases_lt n m) [
        | inl below ↦ put.kept (block_with pool r n d) n (h.whole n d below there)
        | inr above ↦ elim (cases_eq n m) [
          | inl same ↦ subst (λ (p : Point). IsNumberAt ys p n) (at_block n d same) (subst (IsNumberAt ys target) (sym same) put.there)
          | inr differ ↦ (let not = none n (omega (arith, above, differ)) lt in absurd (cc))
        ]
      ];
    }

  pub all_blocks : (k : ℕ) (xs : List NumberEnd) → length (values_at pool c) ≤ k → AreNumbersOf pool entry → AreBlocksBelow k xs → AreBlockEnds pool entry r xs
  all_blocks k xs all known h = record { some = h.some; each = h.each; whole = λ n d has. (let lt = known.known c n has in h.whole n d (omega (arith, lt, all)) has) }
