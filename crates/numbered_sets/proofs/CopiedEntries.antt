-- The domains of a list of sets, of which one becomes another.
use Rattle.std.proofs.{Common.{◌≡◌, ℕ, ◌<◌, List, length, get_or, set, map, sym, ap, ◌∙◌, inl, inr, get_or-set_same, get_or-set_other}, lemmas.{Bool.{cases_eq}, List.{length-set}}}
use Rattle.numbered_sets.specs.{Numbers.{Numbers}, NumberedEntries.{no_set}}
use Rattle.numbered_sets.proofs.NumberLattice.{same_domains}

-- a set of the same domain in the place of another
pub domains_put : (xs : List Numbers) (c : ℕ) (s : Numbers) → c < length xs → s.domain ≡ (get_or xs c no_set).domain → map (λ (x : Numbers). x.domain) (set xs c s) ≡ map (λ (x : Numbers). x.domain) xs
domains_put xs c s lt alike = same_domains (set xs c s) xs (length-set xs c s) (λ k. elim (cases_eq k c) [
  | inl same ↦
      ap (λ (j : ℕ). (get_or (set xs c s) j no_set).domain) same ∙ ap (λ (x : Numbers). x.domain) (get_or-set_same xs c s no_set lt) ∙ alike
      ∙ ap (λ (j : ℕ). (get_or xs j no_set).domain) (sym same)
  | inr differ ↦ ap (λ (x : Numbers). x.domain) (get_or-set_other xs c k s no_set differ)
])
