-- Ends with numbers of one component: each end's numbers take the place of the last one's.
use Rattle.std.proofs.Common.{◌≡◌, ℕ, ◌<◌, List, length, set, refl, sym, ap, ◌∙◌, arith, get_or-set_same}
use Rattle.std.proofs.lemmas.List.{length-set, set-set}
use Rattle.abstract_state.specs.declared.value.Domain.{Domain}
use Rattle.numbered_sets.specs.{declared.numbered_entry.NumberedEntry.{NumberedEntry}, Numbers.{Numbers}, NumberedEntries.{no_set, numbers_at}, Pools.{Values}}
use Rattle.point_exits.specs.{declared.group.NumberEnd.{NumberEnd}, Groups.{with_end, IsKnownEnd}}
use Rattle.point_exits.proofs.HeldNumbers.{now_holds}

-- With the numbers of an end, what is held is the entry with them.
pub record TakesEnd (entry held : NumberedEntry) (x : NumberEnd) : Type 0 where
  pub known : x.component < length held.sets
  pub alike : (numbers_at held x.component).domain ≡ x.numbers.domain
  pub same : with_end held x ≡ with_end entry x

module _ (entry held now : NumberedEntry) (x : NumberEnd) where
  pub end_taken : TakesEnd entry held x → now.sets ≡ set held.sets x.component x.numbers → now ≡ with_end entry x
  end_taken takes write = now_holds held now x.component x.numbers write ∙ takes.same

module _ (pool : List Values) (entry : NumberedEntry) where
  pub takes_first : (x : NumberEnd) → IsKnownEnd pool entry x → TakesEnd entry entry x
  takes_first x known = record { known = known.component; alike = sym known.numbers.domain; same = refl }

-- so it is after an end of the same component
module _ (pool : List Values) (entry : NumberedEntry) (x y : NumberEnd) (last : IsKnownEnd pool entry x) (next : IsKnownEnd pool entry y) where
  abbrev domain_in : NumberedEntry → ℕ → Domain
  domain_in held c = (numbers_at held c).domain

  last_domain : domain_in (with_end entry x) x.component ≡ domain_in entry x.component
  last_domain = ap (λ (n : Numbers). n.domain) (get_or-set_same entry.sets x.component x.numbers no_set last.component) ∙ last.numbers.domain

  module _ (one : x.component ≡ y.component) where
    over : set (set entry.sets x.component x.numbers) y.component y.numbers ≡ set entry.sets y.component y.numbers
    over =
        ap (λ (c : ℕ). set (set entry.sets c x.numbers) y.component y.numbers) one
        ∙ set-set entry.sets y.component x.numbers y.numbers

    pub takes_next : TakesEnd entry (with_end entry x) y
    takes_next = record {
      known = omega (arith, next.component, length-set entry.sets x.component x.numbers);
      alike = ap (domain_in (with_end entry x)) (sym one) ∙ last_domain ∙ ap (domain_in entry) one ∙ sym next.numbers.domain;
      same = λ i. record { sets = over i };
    }
