-- The lattice of numbered entries: what a join leaves is sound and lies where it should, and the count of numbers grows
-- with the order.
use Rattle.std.proofs.Common.{◌≡◌, ◌⊎◌, ℕ, zero, suc, ◌+◌, ◌<◌, ◌≤◌, ◌^◌, Bool, true, false, ◌||◌, List, [], ◌∷◌, length, get_or, map, refl, sym, ap, ap₂, subst, ◌∙◌, inl, inr, arith, sum_by, IsTrue, Result, Ok, Err}
use Rattle.std.specs.{Prelude.{IfOk, OnOk, OnErr, bit_or}, List.{All}}
use Rattle.std.proofs.{Math.ListN.{get_or-map}, lemmas.{Bool.{cases_lt, or_cases, or_left, or_right, eqb-true}, List.{length-map, get_or_default, same_lists}}}
use Rattle.std.proofs.lemmas.{List.{Elements.{All-head, All-tail, All-get_or, All-from_get_or}, Sums.{sum_by-cons}}, Nat.{or_lt}}
use Rattle.bit_words.proofs.{Counting.{passing_grows, passing_shows, passing_most}, BitCounts.{ones_below, no_bit_past, same_bits, has_either, has_one}}
use Rattle.osek_values.specs.{declared.memory.Memory.{Memory}, Bits.{has_bit, passing_below}}
use Rattle.abstract_state.specs.{declared.value.Domain.{Domain}, Domains.{domain_size}}
use Rattle.abstract_state.proofs.HeightLaws.{sum_map}
use Rattle.numbered_sets.specs.{declared.numbered_entry.NumberedEntry.{NumberedEntry}, Numbers.{Numbers, has_number, with_number, joined_numbers, number_count, AreSound}}
use Rattle.numbered_sets.specs.NumberedEntries.{no_set, numbers_at, number_domains, entry_numbers, room, numbers_height, AreSoundNumbers, IsBelowNumbers, IsNumberJoin, IsPartOfNumberJoin}

pub same_truth : (a b : Bool) → (a ≡ true → b ≡ true) → (b ≡ true → a ≡ true) → a ≡ b
same_truth true b f g = sym (f refl)
same_truth false true f g = g refl
same_truth false false f g = refl

-- each number of the first is one of the second
abbrev pub AreNumbersIn : Numbers → Numbers → Type 0
AreNumbersIn x y = (n : ℕ) → IsTrue (has_number x n) → IsTrue (has_number y n)

-- numbers below a bound, counted
counted : (x : Numbers) (w : ℕ) → x.bits < 2 ^ w → passing_below (has_number x) w ≡ number_count x
counted x w lt = ones_below x.bits w lt

module _ (x y : Numbers) (alike : x.domain ≡ y.domain) (sound : AreSound x) (too : AreSound y) where
  its_room : y.bits < 2 ^ domain_size x.domain
  its_room = subst (λ (d : Domain). y.bits < 2 ^ domain_size d) (sym alike) too

  pub no_more : AreNumbersIn x y → number_count x ≤ number_count y
  no_more below =
      let grows = passing_grows (has_number x) (has_number y) (domain_size x.domain) (λ k lt. below k) in
      omega (arith, grows, counted x (domain_size x.domain) sound, counted y (domain_size x.domain) its_room)

  pub none_beside : AreNumbersIn x y → number_count y ≤ number_count x → AreNumbersIn y x
  none_beside below few n h = elim (cases_lt n (domain_size x.domain)) [
    | inl lt ↦
        passing_shows (has_number x) (has_number y) (domain_size x.domain) (λ k _. below k)
        (omega (arith, few, counted x (domain_size x.domain) sound, counted y (domain_size x.domain) its_room)) n lt h
    | inr le ↦ (let none : false ≡ true = sym (no_bit_past y.bits (domain_size x.domain) n its_room le) ∙ h in absurd (cc))
  ]

pub equal_numbers : (x y : Numbers) → x.domain ≡ y.domain → AreNumbersIn x y → AreNumbersIn y x → x ≡ y
equal_numbers x y e below back =
    let same : x.bits ≡ y.bits = same_bits x.bits y.bits (λ n. same_truth (has_number x n) (has_number y n) (below n) (back n)) in
    λ i. record { domain = e i; bits = same i }

pub below_itself : (x : NumberedEntry) → IsBelowNumbers x x
below_itself x = record { each = λ c n h. h }

pub below_onward : (x y z : NumberedEntry) → IsBelowNumbers x y → IsBelowNumbers y z → IsBelowNumbers x z
below_onward x y z h k = record { each = λ c n member. k.each c n (h.each c n member) }

abbrev domains_in : List Numbers → List Domain
domains_in = map (λ (x : Numbers). x.domain)

pub as_long : (xs ys : List Numbers) → domains_in xs ≡ domains_in ys → length xs ≡ length ys
as_long xs ys e = sym (length-map xs (λ (x : Numbers). x.domain)) ∙ ap length e ∙ length-map ys (λ (x : Numbers). x.domain)

same_room : (xs ys : List Numbers) → domains_in xs ≡ domains_in ys → sum_by room xs ≡ sum_by room ys
same_room xs ys e = sym (sum_map domain_size (λ (x : Numbers). x.domain) xs) ∙ ap (sum_by domain_size) e ∙ sum_map domain_size (λ (x : Numbers). x.domain) ys

pub same_domain_at : (xs ys : List Numbers) (c : ℕ) → domains_in xs ≡ domains_in ys → (get_or xs c no_set).domain ≡ (get_or ys c no_set).domain
same_domain_at xs ys c e =
    sym (get_or-map (λ (x : Numbers). x.domain) xs c no_set)
    ∙ ap (λ (ds : List Domain). get_or ds c no_set.domain) e
    ∙ get_or-map (λ (x : Numbers). x.domain) ys c no_set

pub heights_agree : (x y : NumberedEntry) → number_domains x ≡ number_domains y → numbers_height x ≡ numbers_height y
heights_agree x y e = same_room x.sets y.sets e

-- each set's numbers are in the one at its place, which has the same domain
abbrev AreBelow : List Numbers → List Numbers → Type 0
AreBelow xs ys = (c : ℕ) → AreNumbersIn (get_or xs c no_set) (get_or ys c no_set)

abbrev AreAlike : List Numbers → List Numbers → Type 0
AreAlike xs ys = (c : ℕ) → (get_or xs c no_set).domain ≡ (get_or ys c no_set).domain

more_above : (xs ys : List Numbers) → All AreSound xs → All AreSound ys → length xs ≡ length ys → AreAlike xs ys → AreBelow xs ys → sum_by number_count xs ≤ sum_by number_count ys
more_above [] ys sound too e alike below = omega arith
more_above (x ∷ xs) [] sound too e alike below = absurd (omega (arith, e))
more_above (x ∷ xs) (y ∷ ys) sound too e alike below =
    let first = no_more x y (alike 0) (All-head AreSound x xs sound) (All-head AreSound y ys too) (below 0) in
    let rest = more_above xs ys (All-tail AreSound x xs sound) (All-tail AreSound y ys too) (omega (arith, e)) (λ c. alike (suc c)) (λ c. below (suc c)) in
    omega (arith, sum_by-cons number_count x xs, sum_by-cons number_count y ys, first, rest)

none_above : (xs ys : List Numbers) → All AreSound xs → All AreSound ys → length xs ≡ length ys → AreAlike xs ys → AreBelow xs ys → sum_by number_count ys ≤ sum_by number_count xs → AreBelow ys xs
none_above [] [] sound too e alike below few c n h = h
none_above [] (y ∷ ys) sound too e alike below few c n h = absurd (omega (arith, e))
none_above (x ∷ xs) [] sound too e alike below few c n h = absurd (omega (arith, e))
none_above (x ∷ xs) (y ∷ ys) sound too e alike below few zero n h =
    let rest = more_above xs ys (All-tail AreSound x xs sound) (All-tail AreSound y ys too) (omega (arith, e)) (λ k. alike (suc k)) (λ k. below (suc k)) in
    none_beside x y (alike 0) (All-head AreSound x xs sound) (All-head AreSound y ys too) (below 0)
    (omega (arith, sum_by-cons number_count x xs, sum_by-cons number_count y ys, rest, few)) n h
none_above (x ∷ xs) (y ∷ ys) sound too e alike below few (suc c) n h =
    let first = no_more x y (alike 0) (All-head AreSound x xs sound) (All-head AreSound y ys too) (below 0) in
    none_above xs ys (All-tail AreSound x xs sound) (All-tail AreSound y ys too) (omega (arith, e)) (λ k. alike (suc k)) (λ k. below (suc k))
    (omega (arith, sum_by-cons number_count x xs, sum_by-cons number_count y ys, first, few)) c n h

pub numbers_grow : (x y : NumberedEntry) → AreSoundNumbers x → AreSoundNumbers y → number_domains x ≡ number_domains y → IsBelowNumbers x y → entry_numbers x ≤ entry_numbers y
numbers_grow x y sound other alike below = more_above x.sets y.sets sound.sets other.sets (as_long x.sets y.sets alike) (λ c. same_domain_at x.sets y.sets c alike) below.each

pub growth_shows : (x y : NumberedEntry) → AreSoundNumbers x → AreSoundNumbers y → number_domains x ≡ number_domains y → IsBelowNumbers x y → entry_numbers y ≤ entry_numbers x → IsBelowNumbers y x
growth_shows x y sound other alike below few = record {
  each = none_above x.sets y.sets sound.sets other.sets (as_long x.sets y.sets alike) (λ c. same_domain_at x.sets y.sets c alike) below.each few;
}

within_room : (xs : List Numbers) → All AreSound xs → sum_by number_count xs ≤ sum_by room xs
within_room [] sound = omega arith
within_room (x ∷ xs) sound =
    let count = counted x (domain_size x.domain) (All-head AreSound x xs sound) in
    let first = passing_most (has_number x) (domain_size x.domain) in
    omega (arith, sum_by-cons number_count x xs, sum_by-cons room x xs, count, first, within_room xs (All-tail AreSound x xs sound))

pub most_numbers : (x : NumberedEntry) → AreSoundNumbers x → entry_numbers x ≤ numbers_height x
most_numbers x sound = within_room x.sets sound.sets

pub same_sets : (xs ys : List Numbers) → length xs ≡ length ys → ((c : ℕ) → get_or xs c no_set ≡ get_or ys c no_set) → xs ≡ ys
same_sets xs ys e h = same_lists xs ys e (λ k d lt. get_or_default xs k d no_set lt ∙ h k ∙ get_or_default ys k no_set d (omega (arith, e, lt)))

pub equal_entries : (x y : NumberedEntry) → AreSoundNumbers x → AreSoundNumbers y → number_domains x ≡ number_domains y → IsBelowNumbers x y → IsBelowNumbers y x → x ≡ y
equal_entries x y sound other alike below back =
    let sets = same_sets x.sets y.sets (as_long x.sets y.sets alike) (λ c. equal_numbers (numbers_at x c) (numbers_at y c) (same_domain_at x.sets y.sets c alike) (below.each c) (back.each c)) in
    λ i. record { sets = sets i }

pub same_domains : (xs ys : List Numbers) → length xs ≡ length ys → AreAlike xs ys → domains_in xs ≡ domains_in ys
same_domains [] [] e h = refl
same_domains [] (y ∷ ys) e h = absurd (omega (arith, e))
same_domains (x ∷ xs) [] e h = absurd (omega (arith, e))
same_domains (x ∷ xs) (y ∷ ys) e h = ap₂ (λ (d : Domain) (ds : List Domain). d ∷ ds) (h 0) (same_domains xs ys (omega (arith, e)) (λ c. h (suc c)))

-- a set between another and its join
pub record IsBetween (a b x : Numbers) : Type 0 where
  pub domain : x.domain ≡ a.domain
  pub keeps : AreNumbersIn a x
  pub from : (n : ℕ) → IsTrue (has_number x n) → IsTrue (has_number a n || has_number b n)
  pub sound : AreSound a → AreSound b → a.domain ≡ b.domain → AreSound x

between_join : (a b : Numbers) → IsBetween a b (joined_numbers a b)
between_join a b = record {
  domain = refl;
  keeps = λ n h. has_either a.bits b.bits n ∙ or_left (has_number a n) (has_number b n) h;
  from = λ n h. sym (has_either a.bits b.bits n) ∙ h;
  sound = λ sound too alike. or_lt (domain_size a.domain) a.bits b.bits sound (subst (λ (d : Domain). b.bits < 2 ^ domain_size d) (sym alike) too);
}

between_none : (a b : Numbers) → IsBetween a b a
between_none a b = record { domain = refl; keeps = λ n h. h; from = λ n h. or_left (has_number a n) (has_number b n) h; sound = λ sound too alike. sound }

between_at : (a b x : Numbers) → (x ≡ joined_numbers a b) ⊎ (x ≡ a) → IsBetween a b x
between_at a b x (inl e) = subst (IsBetween a b) (sym e) (between_join a b)
between_at a b x (inr e) = subst (IsBetween a b) (sym e) (between_none a b)

between_least : (a b x z : Numbers) → IsBetween a b x → AreNumbersIn a z → AreNumbersIn b z → AreNumbersIn x z
between_least a b x z between left right n h = elim (or_cases (has_number a n) (has_number b n) (between.from n h)) [ inl old ↦ left n old | inr new ↦ right n new ]

-- a number that is there already changes nothing
there_already : (b c : Bool) → (c ≡ true → b ≡ true) → b ≡ (b || c)
there_already true c h = refl
there_already false true h = h refl
there_already false false h = refl

pub had_number : (x : Numbers) (n : ℕ) → has_number x n ≡ true → x ≡ with_number x n
had_number x n there =
    let same : x.bits ≡ bit_or x.bits (2 ^ n) =
    same_bits x.bits (bit_or x.bits (2 ^ n)) (λ k.
    there_already (has_number x k) (has_bit (2 ^ n) k) (λ e. subst (λ (j : ℕ). has_bit x.bits j ≡ true) (sym (eqb-true k n (sym (has_one n k) ∙ e))) there)
    ∙ sym (has_either x.bits (2 ^ n) k)) in
    λ i. record { domain = x.domain; bits = same i }

-- What a join leaves, done or stopped.
pub record IsOnTheWay (before other after : NumberedEntry) : Type 0 where
  pub element : AreSoundNumbers after
  pub alike : number_domains before ≡ number_domains after
  pub grows : IsBelowNumbers before after
  pub least : (z : NumberedEntry) → IsBelowNumbers before z → IsBelowNumbers other z → IsBelowNumbers after z

module _ (before other : NumberedEntry) (sound : AreSoundNumbers before) (too : AreSoundNumbers other) (alike : number_domains before ≡ number_domains other) (after : NumberedEntry) where
  part_on_the_way : IsPartOfNumberJoin before other after → IsOnTheWay before other after
  part_on_the_way part =
      let long = as_long before.sets other.sets alike in
      let between : (c : ℕ) → IsBetween (numbers_at before c) (numbers_at other c) (numbers_at after c) = λ c. between_at (numbers_at before c) (numbers_at other c) (numbers_at after c) (part.each c) in
      let same : number_domains before ≡ number_domains after = same_domains before.sets after.sets (sym part.as_many) (λ c. sym (between c).domain) in
      let sets : All AreSound after.sets =
      All-from_get_or AreSound after.sets no_set (λ i lt.
      (between i).sound
      (All-get_or AreSound before.sets i no_set (omega (arith, lt, part.as_many)) sound.sets)
      (All-get_or AreSound other.sets i no_set (omega (arith, lt, part.as_many, long)) too.sets)
      (same_domain_at before.sets other.sets i alike)) in
      record {
        element = record { sets = sets; few = omega (arith, heights_agree before after same, sound.few) };
        alike = same;
        grows = record { each = λ c. (between c).keeps };
        least = λ z h k. record { each = λ c. between_least (numbers_at before c) (numbers_at other c) (numbers_at after c) (numbers_at z c) (between c) (h.each c) (k.each c) };
      }

  join_on_the_way : IsNumberJoin before other after → IsOnTheWay before other after
  join_on_the_way join = part_on_the_way (record { as_many = join.as_many; each = λ c. inl (join.each c) })

  -- so it is whether the join was done or memory was wanted
  pub on_the_way : (result : Result ℕ Memory) → OnOk result (IsNumberJoin before other after) → OnErr result (IsPartOfNumberJoin before other after) → IsOnTheWay before other after
  on_the_way (Ok n) done stopped = join_on_the_way done
  on_the_way (Err e) done stopped = part_on_the_way stopped

  pub join_done : (result : Result ℕ Memory) → OnOk result (IsNumberJoin before other after) → OnOk result (IsBelowNumbers other after)
  join_done (Ok n) done = record {
    each = λ c n h.
        subst (λ (x : Numbers). IsTrue (has_number x n)) (sym (done.each c))
        (has_either (numbers_at before c).bits (numbers_at other c).bits n ∙ or_right (has_number (numbers_at before c) n) (has_number (numbers_at other c) n) h);
  }
  join_done (Err e) done = tt

  pub join_of_none : (result : Result ℕ Memory) → OnOk result (IsNumberJoin before other after) → IfOk result (λ n. entry_numbers after ≡ entry_numbers before + n) → IfOk result (λ n. n ≡ 0 → after ≡ before)
  join_of_none (Ok n) done count =
      λ none.
      let way = join_on_the_way done in
      let back = growth_shows before after sound way.element way.alike way.grows (omega (arith, count, none)) in
      equal_entries after before way.element sound (sym way.alike) back way.grows
  join_of_none (Err e) done count = tt
