-- The lattice of entries: what a join leaves is sound and lies where it should, and the number of values grows with the order.
use Rattle.std.proofs.Common.{◌≡◌, ℕ, zero, suc, ◌+◌, ◌≤◌, List, [], ◌∷◌, length, get_or, map, refl, sym, ap, ap₂, ◌∙◌, arith, sum_by, Result, Ok, Err}
use Rattle.std.specs.{Prelude.{IfOk, OnOk, OnErr}, List.{All}}
use Rattle.std.proofs.{Math.ListN.{get_or-map}, lemmas.List.{length-map, Elements.{All-head, All-tail, All-weaker, All-get_or, All-from_get_or}, Sums.{sum_by-cons}}}
use Rattle.osek_values.specs.declared.memory.Memory.{Memory}
use Rattle.abstract_state.specs.{declared.{value.Domain.{Domain}, table.{ValueSet.{ValueSet}, PlainEntry.{PlainEntry}}}, ValueOrder.{IsAscending}}
use Rattle.abstract_state.specs.Domains.{domain_size, IsCounted, IsSound, IsSoundEntry, IsBelow, domains, entry_height}
use Rattle.abstract_state.specs.Tables.{empty_set, set_at, entry_values, HasAscendingSets, IsJoin, IsPartOfJoin, IsSetBySet, IsSubset}
use Rattle.abstract_state.proofs.{JoinLaws.{no_longer, no_other, join_part, join_right, part_least, equal_sets}, EntryJoins.{size, ascending_at, same_sets}, HeightLaws.{sum_map}}
use Rattle.abstract_state.proofs.SoundSets.{most_members, sound_part}

pub below_itself : (x : PlainEntry) → IsBelow x x
below_itself x = record { each = λ c v h. h }

pub below_onward : (x y z : PlainEntry) → IsBelow x y → IsBelow y z → IsBelow x z
below_onward x y z h k = record { each = λ c v member. k.each c v (h.each c v member) }

-- the domains of sets, and how many values these can have
abbrev domains_in : List ValueSet → List Domain
domains_in = map (λ (s : ValueSet). s.domain)

abbrev room : ValueSet → ℕ
room s = domain_size s.domain

as_long : (xs ys : List ValueSet) → domains_in xs ≡ domains_in ys → length xs ≡ length ys
as_long xs ys e = sym (length-map xs (λ (s : ValueSet). s.domain)) ∙ ap length e ∙ length-map ys (λ (s : ValueSet). s.domain)

same_room : (xs ys : List ValueSet) → domains_in xs ≡ domains_in ys → sum_by room xs ≡ sum_by room ys
same_room xs ys e = sym (sum_map domain_size (λ (s : ValueSet). s.domain) xs) ∙ ap (sum_by domain_size) e ∙ sum_map domain_size (λ (s : ValueSet). s.domain) ys

same_domain_at : (xs ys : List ValueSet) (c : ℕ) → domains_in xs ≡ domains_in ys → (get_or xs c empty_set).domain ≡ (get_or ys c empty_set).domain
same_domain_at xs ys c e =
    sym (get_or-map (λ (s : ValueSet). s.domain) xs c empty_set)
    ∙ ap (λ (ds : List Domain). get_or ds c empty_set.domain) e
    ∙ get_or-map (λ (s : ValueSet). s.domain) ys c empty_set

-- alike entries have one height
pub heights_agree : (x y : PlainEntry) → domains x ≡ domains y → entry_height x ≡ entry_height y
heights_agree x y e = same_room x.sets y.sets e

-- each set is contained in the one at its place
abbrev AreBelow : List ValueSet → List ValueSet → Type 0
AreBelow xs ys = (c : ℕ) → IsSubset (get_or xs c empty_set) (get_or ys c empty_set)

more_above : (xs ys : List ValueSet) → All IsSound xs → length xs ≡ length ys → AreBelow xs ys → sum_by size xs ≤ sum_by size ys
more_above [] ys sound e below = omega arith
more_above (x ∷ xs) [] sound e below = absurd (omega (arith, e))
more_above (x ∷ xs) (y ∷ ys) sound e below =
    let first = no_longer x.members y.members (All-head IsSound x xs sound).ascending (below 0) in
    let rest = more_above xs ys (All-tail IsSound x xs sound) (omega (arith, e)) (λ c. below (suc c)) in
    omega (arith, sum_by-cons size x xs, sum_by-cons size y ys, first, rest)

none_above : (xs ys : List ValueSet) → All IsSound xs → length xs ≡ length ys → AreBelow xs ys → sum_by size ys ≤ sum_by size xs → AreBelow ys xs
none_above [] [] sound e below few c v h = h
none_above [] (y ∷ ys) sound e below few c v h = absurd (omega (arith, e))
none_above (x ∷ xs) [] sound e below few c v h = absurd (omega (arith, e))
none_above (x ∷ xs) (y ∷ ys) sound e below few zero v h =
    let rest = more_above xs ys (All-tail IsSound x xs sound) (omega (arith, e)) (λ k. below (suc k)) in
    no_other x.members y.members (All-head IsSound x xs sound).ascending (below 0) (omega (arith, sum_by-cons size x xs, sum_by-cons size y ys, rest, few)) v h
none_above (x ∷ xs) (y ∷ ys) sound e below few (suc c) v h =
    let first = no_longer x.members y.members (All-head IsSound x xs sound).ascending (below 0) in
    none_above xs ys (All-tail IsSound x xs sound) (omega (arith, e)) (λ k. below (suc k)) (omega (arith, sum_by-cons size x xs, sum_by-cons size y ys, first, few)) c v h

-- what is above has at least as many values, and where it has no more it is also below
pub values_grow : (x y : PlainEntry) → IsSoundEntry x → IsSoundEntry y → domains x ≡ domains y → IsBelow x y → entry_values x ≤ entry_values y
values_grow x y sound other alike below = more_above x.sets y.sets sound.sets (as_long x.sets y.sets alike) below.each

pub growth_shows : (x y : PlainEntry) → IsSoundEntry x → IsSoundEntry y → domains x ≡ domains y → IsBelow x y → entry_values y ≤ entry_values x → IsBelow y x
growth_shows x y sound other alike below few = record { each = none_above x.sets y.sets sound.sets (as_long x.sets y.sets alike) below.each few }

-- where domains are counted, sound sets have no more values than these
module _ (counted : (d : Domain) → IsCounted d) where
  within_room : (xs : List ValueSet) → All IsSound xs → sum_by size xs ≤ sum_by room xs
  within_room [] sound = omega arith
  within_room (x ∷ xs) sound =
      let first = most_members x (counted x.domain) (All-head IsSound x xs sound) in
      omega (arith, sum_by-cons size x xs, sum_by-cons room x xs, first, within_room xs (All-tail IsSound x xs sound))

  pub most_values : (entry : PlainEntry) → IsSoundEntry entry → entry_values entry ≤ entry_height entry
  most_values entry sound = within_room entry.sets sound.sets

pub sound_ascends : (x : PlainEntry) → IsSoundEntry x → HasAscendingSets x
sound_ascends x sound = All-weaker IsSound (λ (s : ValueSet). IsAscending s.members) (λ s one. one.ascending) x.sets sound.sets

-- sound entries below one another are equal
pub equal_entries : (x y : PlainEntry) → IsSoundEntry x → IsSoundEntry y → domains x ≡ domains y → IsBelow x y → IsBelow y x → x ≡ y
equal_entries x y sound other alike below back =
    let sets =
    same_sets x.sets y.sets (as_long x.sets y.sets alike) (λ c.
    equal_sets (set_at x c) (set_at y c) (ascending_at x.sets c (sound_ascends x sound)) (ascending_at y.sets c (sound_ascends y other))
    (same_domain_at x.sets y.sets c alike) (below.each c) (back.each c)) in
    λ i. record { sets = sets i }

-- sets with the same domains at their places
same_domains : (xs ys : List ValueSet) → length xs ≡ length ys → ((c : ℕ) → (get_or xs c empty_set).domain ≡ (get_or ys c empty_set).domain) → domains_in xs ≡ domains_in ys
same_domains [] [] e h = refl
same_domains [] (y ∷ ys) e h = absurd (omega (arith, e))
same_domains (x ∷ xs) [] e h = absurd (omega (arith, e))
same_domains (x ∷ xs) (y ∷ ys) e h = ap₂ (λ (d : Domain) (ds : List Domain). d ∷ ds) (h 0) (same_domains xs ys (omega (arith, e)) (λ c. h (suc c)))

-- What a join leaves, done or stopped: a sound entry, alike, above what was there and below whatever is above both.
pub record IsOnTheWay (before other after : PlainEntry) : Type 0 where
  pub element : IsSoundEntry after
  pub alike : domains before ≡ domains after
  pub grows : IsBelow before after
  pub least : (z : PlainEntry) → IsBelow before z → IsBelow other z → IsBelow after z

module _ (before other : PlainEntry) (sound : IsSoundEntry before) (too : IsSoundEntry other) (alike : domains before ≡ domains other) (after : PlainEntry) where
  part_on_the_way : IsSetBySet IsPartOfJoin before other after → IsOnTheWay before other after
  part_on_the_way part =
      let long = as_long before.sets other.sets alike in
      let same : domains before ≡ domains after = same_domains before.sets after.sets (sym part.as_many) (λ c. sym (part.each c).domain) in
      let sets : All IsSound after.sets =
      All-from_get_or IsSound after.sets empty_set (λ i lt.
      sound_part (set_at before i) (set_at other i) (set_at after i)
      (All-get_or IsSound before.sets i empty_set (omega (arith, lt, part.as_many)) sound.sets)
      (All-get_or IsSound other.sets i empty_set (omega (arith, lt, part.as_many, long)) too.sets)
      (same_domain_at before.sets other.sets i alike) (part.each i)) in
      record {
        element = record { sets = sets; few = omega (arith, heights_agree before after same, sound.few) };
        alike = same;
        grows = record { each = λ c. (part.each c).keeps };
        least = λ z h k. record { each = λ c. part_least (set_at before c) (set_at other c) (set_at after c) (set_at z c) (part.each c) (h.each c) (k.each c) };
      }

  join_on_the_way : IsSetBySet IsJoin before other after → IsOnTheWay before other after
  join_on_the_way join = part_on_the_way (record { as_many = join.as_many; each = λ c. join_part (set_at before c) (set_at other c) (set_at after c) (join.each c) })

  -- so it is whether the join was done or memory was wanted
  pub on_the_way : (result : Result ℕ Memory) → OnOk result (IsSetBySet IsJoin before other after) → OnErr result (IsSetBySet IsPartOfJoin before other after) → IsOnTheWay before other after
  on_the_way (Ok n) done stopped = join_on_the_way done
  on_the_way (Err e) done stopped = part_on_the_way stopped

  pub join_done : (result : Result ℕ Memory) → OnOk result (IsSetBySet IsJoin before other after) → OnOk result (IsBelow other after)
  join_done (Ok n) done = record { each = λ c. join_right (set_at before c) (set_at other c) (set_at after c) (done.each c) }
  join_done (Err e) done = tt

  pub join_of_none : (result : Result ℕ Memory) → OnOk result (IsSetBySet IsJoin before other after) → IfOk result (λ n. entry_values after ≡ entry_values before + n) → IfOk result (λ n. n ≡ 0 → after ≡ before)
  join_of_none (Ok n) done count =
      λ none.
      let way = join_on_the_way done in
      let back = growth_shows before after sound way.element way.alike way.grows (omega (arith, count, none)) in
      equal_entries after before way.element sound (sym way.alike) back way.grows
  join_of_none (Err e) done count = tt
