-- Flat words as sets of numbers: the set of each component, how many numbers there are, and what writes to the words do.
use Rattle.std.proofs.Common.{◌≡◌, ◌≢◌, ℕ, zero, suc, ◌+◌, ◌^◌, ◌<◌, ◌≤◌, List, [], ◌∷◌, length, get_or, set, map, drop, replicate, refl, sym, ap, ap₂, subst, ◌∙◌, inl, inr, arith, get_or-set_same, get_or-set_other}
use Rattle.std.specs.{Prelude.{bit_or, count_ones}, Global.{Vec}}
use Rattle.std.proofs.{Math.ListN.{get_or-eq_default}, lemmas.Bool.{cases_eq, cases_lt}}
use Rattle.std.specs.Vec.{with_items}
use Rattle.std.proofs.lemmas.{List.{length-set, length-drop, with_items_is, Sums.{sum_by-cons}, Elements.{All-head, All-tail, All-from_get_or}}, Nat.{or_lt, ones_le_self}}
use Rattle.bit_words.specs.{Words.{bits_of_words, AreWords}, Further.{further_at, further_bits, further_count}}
use Rattle.bit_words.proofs.{WordLaws.{small_at}, FirstWords.{word_first, same_further, ones_first, ones_of_two, either_two, none_first, bits_of_none}, FurtherLaws.{none_counted, further_past}}
use Rattle.abstract_state.specs.declared.value.Domain.{Domain}
use Rattle.abstract_state.specs.declared.value.Domain.TheVariants as domain
use Rattle.numbered_sets.specs.{Numbers.{Numbers, numbers, joined_numbers, number_count}, SetLists.{set_of, all_numbers, AreJoinedSets}, FlatSets.{words_at, flat_sets}}
use Rattle.numbered_sets.proofs.NumberLattice.{same_sets}

pub flat_length : (ds : List Domain) (low high : List ℕ) (more : List (List ℕ)) → length (flat_sets ds low high more) ≡ length ds
unfolding flat_sets
flat_length [] low high more = refl
flat_length (d ∷ ds) low high more = (let rest = flat_length ds (drop 1 low) (drop 1 high) (drop 1 more) in omega (arith, rest))

word_later : (xs : List ℕ) (c : ℕ) → get_or (drop 1 xs) c 0 ≡ get_or xs (suc c) 0
word_later [] c = refl
word_later (x ∷ xs) c = refl

further_later : (more : List (List ℕ)) (c : ℕ) → further_at (drop 1 more) c ≡ further_at more (suc c)
further_later [] c = refl
further_later (v ∷ vs) c = refl

words_later : (low high : List ℕ) (more : List (List ℕ)) (c : ℕ) → words_at (drop 1 low) (drop 1 high) (drop 1 more) c ≡ words_at low high more (suc c)
words_later low high more c =
    ap₂ (λ (a b : ℕ). a ∷ b ∷ further_at (drop 1 more) c) (word_later low c) (word_later high c)
    ∙ ap (λ (ws : List ℕ). get_or low (suc c) 0 ∷ get_or high (suc c) 0 ∷ ws) (further_later more c)

pub flat_at : (ds : List Domain) (low high : List ℕ) (more : List (List ℕ)) (c : ℕ) → c < length ds → set_of (flat_sets ds low high more) c ≡ numbers (get_or ds c domain.Alarm) (bits_of_words (words_at low high more c))
unfolding flat_sets
flat_at [] low high more c lt = absurd (omega (arith, lt))
flat_at (d ∷ ds) low high more zero lt = refl
flat_at (d ∷ ds) low high more (suc c) lt =
    flat_at ds (drop 1 low) (drop 1 high) (drop 1 more) c (omega (arith, lt)) ∙ ap (λ (ws : List ℕ). numbers (get_or ds c domain.Alarm) (bits_of_words ws)) (words_later low high more c)

ones_later : (ws : List ℕ) → AreWords ws → count_ones (bits_of_words ws) ≡ count_ones (bits_of_words (drop 1 ws)) + count_ones (get_or ws 0 0)
ones_later [] small = (let none = none_counted in let zero = ones_le_self 0 in omega (arith, none, zero))
ones_later (w ∷ ws) small = ones_first w ws (All-head (λ v. v < 2 ^ 64) w ws small)

words_later_too : (ws : List ℕ) → AreWords ws → AreWords (drop 1 ws)
words_later_too [] small = small
words_later_too (w ∷ ws) small = All-tail (λ v. v < 2 ^ 64) w ws small

count_later : (more : List (List ℕ)) → further_count more ≡ count_ones (further_bits more 0) + further_count (drop 1 more)
count_later [] = (let none = none_counted in let all : further_count [] ≡ 0 = refl in omega (arith, none, all))
count_later (v ∷ vs) = sum_by-cons (λ (ws : List ℕ). count_ones (bits_of_words ws)) v vs

flat_count : (ds : List Domain) (low high : List ℕ) (more : List (List ℕ))
    → length low ≡ length ds → length high ≤ length ds → length more ≤ length ds → AreWords low → AreWords high
    → all_numbers (flat_sets ds low high more) ≡ count_ones (bits_of_words low) + count_ones (bits_of_words high) + further_count more
unfolding flat_sets
flat_count [] [] [] [] e f le small too =
    let all : all_numbers (flat_sets [] [] [] []) ≡ 0 = refl in
    let further : further_count [] ≡ 0 = refl in
    omega (arith, all, further, none_counted)
flat_count [] [] [] (v ∷ vs) e f le small too = absurd (omega (arith, le))
flat_count [] [] (h ∷ hs) more e f le small too = absurd (omega (arith, f))
flat_count [] (l ∷ ls) high more e f le small too = absurd (omega (arith, e))
flat_count (d ∷ ds) [] high more e f le small too = absurd (omega (arith, e))
flat_count (d ∷ ds) (l ∷ ls) high more e f le small too =
    let fits : l < 2 ^ 64 = All-head (λ w. w < 2 ^ 64) l ls small in
    let shorter = length-drop 1 high in
    let fewer = length-drop 1 more in
    let rest = flat_count ds ls (drop 1 high) (drop 1 more) (omega (arith, e)) (omega (arith, f, shorter)) (omega (arith, le, fewer))
    (All-tail (λ w. w < 2 ^ 64) l ls small) (words_later_too high too) in
    let first = ones_of_two l (get_or high 0 0) (further_at more 0) fits (small_at high 0 too) in
    let numbers_first = sum_by-cons number_count (numbers d (bits_of_words (words_at (l ∷ ls) high more 0))) (flat_sets ds ls (drop 1 high) (drop 1 more)) in
    omega (arith, numbers_first, rest, first, ones_first l ls fits, ones_later high too, count_later more)

-- no number
pub flat_none : (ds : List Domain) → flat_sets ds (replicate (length ds) 0) [] [] ≡ map (λ d. numbers d 0) ds
unfolding flat_sets
flat_none [] = refl
flat_none (d ∷ ds) =
    let none : bits_of_words (0 ∷ 0 ∷ []) ≡ 0 = none_first 0 (0 ∷ []) refl (none_first 0 [] refl (bits_of_none [] refl)) in
    ap₂ (λ (m : ℕ) (xs : List Numbers). numbers d m ∷ xs) none (flat_none ds)

pub flat_made : (ds es : List Domain) (low high : List ℕ) (more : List (List ℕ))
    → es ≡ ds → low ≡ replicate (length ds) 0 → high ≡ [] → more ≡ [] → flat_sets es low high more ≡ map (λ d. numbers d 0) ds
flat_made ds es low high more domains first second none =
    ap (λ (fs : List Domain). flat_sets fs low high more) domains ∙ ap₂ (λ (ls hs : List ℕ). flat_sets ds ls hs more) first second
    ∙ ap (flat_sets ds (replicate (length ds) 0) []) none ∙ flat_none ds

-- words with the same bits mean the same
pub flat_same : (ds : List Domain) (low high low_too high_too : List ℕ) (more more_too : List (List ℕ)) → ((c : ℕ) → bits_of_words (words_at low high more c) ≡ bits_of_words (words_at low_too high_too more_too c))
    → flat_sets ds low high more ≡ flat_sets ds low_too high_too more_too
flat_same ds low high low_too high_too more more_too same =
    same_sets (flat_sets ds low high more) (flat_sets ds low_too high_too more_too) (flat_length ds low high more ∙ sym (flat_length ds low_too high_too more_too)) (λ c. elim (cases_lt c (length ds)) [
      | inl lt ↦ flat_at ds low high more c lt ∙ ap (numbers (get_or ds c domain.Alarm)) (same c) ∙ sym (flat_at ds low_too high_too more_too c lt)
      | inr le ↦ past ds low high more c le ∙ sym (past ds low_too high_too more_too c le)
    ])
  where
    past : (ds : List Domain) (low high : List ℕ) (more : List (List ℕ)) (c : ℕ) → length ds ≤ c → set_of (flat_sets ds low high more) c ≡ numbers domain.Alarm 0
    past ds low high more c le = get_or-eq_default (flat_sets ds low high more) (numbers domain.Alarm 0) (let long = flat_length ds low high more in omega (arith, long, le))

pub same_words_further : (low high : List ℕ) (more after : List (List ℕ)) (c : ℕ) → further_bits after c ≡ further_bits more c → bits_of_words (words_at low high after c) ≡ bits_of_words (words_at low high more c)
same_words_further low high more after c same = same_further (get_or low c 0) (get_or high c 0) (further_at more c) (further_at after c) same

-- a word is put where there is one, or is 0
word_put : (ws : List ℕ) (c w : ℕ) → (length ws ≤ c → w ≡ 0) → get_or (set ws c w) c 0 ≡ w
word_put ws c w none = elim (cases_lt c (length ws)) [
  | inl lt ↦ get_or-set_same ws c w 0 lt
  | inr le ↦ get_or-eq_default (set ws c w) 0 (let same = length-set ws c w in omega (arith, same, le)) ∙ sym (none le)
]

pub flat_same_further : (ds : List Domain) (low high : List ℕ) (more after : List (List ℕ)) → ((c : ℕ) → further_bits after c ≡ further_bits more c) → flat_sets ds low high after ≡ flat_sets ds low high more
flat_same_further ds low high more after same = flat_same ds low high low high after more (λ c. same_words_further low high more after c (same c))

-- second words without a bit may be added
pub flat_widened : (ds : List Domain) (low high wide : List ℕ) (more : List (List ℕ)) → ((c : ℕ) → get_or wide c 0 ≡ get_or high c 0)
    → flat_sets ds low wide more ≡ flat_sets ds low high more
flat_widened ds low high wide more same =
    flat_same ds low wide low high more more (λ c. ap (λ (h : ℕ). bits_of_words (get_or low c 0 ∷ h ∷ further_at more c)) (same c))

-- ---- the sets that words mean

module _ (ds : List Domain) (low high : List ℕ) (more : List (List ℕ)) (xs : List Numbers) (is : flat_sets ds low high more ≡ xs) where
  pub as_many : length xs ≡ length ds
  as_many = ap length (sym is) ∙ flat_length ds low high more

  pub set_is : (c : ℕ) → c < length ds → set_of xs c ≡ numbers (get_or ds c domain.Alarm) (bits_of_words (words_at low high more c))
  set_is c lt = ap (λ (ys : List Numbers). set_of ys c) (sym is) ∙ flat_at ds low high more c lt

  pub domain_is : (c : ℕ) → c < length ds → get_or ds c domain.Alarm ≡ (set_of xs c).domain
  domain_is c lt = sym (ap (λ (x : Numbers). x.domain) (set_is c lt))

  -- how many numbers there are in all
  pub all_count : length low ≡ length ds → length high ≤ length ds → length more ≤ length ds → AreWords low → AreWords high
      → all_numbers xs ≡ count_ones (bits_of_words low) + count_ones (bits_of_words high) + further_count more
  all_count e f le small too = ap all_numbers (sym is) ∙ flat_count ds low high more e f le small too

  -- a component past the end has no bits
  pub bits_are : length low ≡ length ds → length high ≤ length ds → length more ≤ length ds
      → (c : ℕ) → bits_of_words (words_at low high more c) ≡ (set_of xs c).bits
  bits_are e f le c = elim (cases_lt c (length ds)) [
    | inl lt ↦ sym (ap (λ (x : Numbers). x.bits) (set_is c lt))
    | inr past ↦
        (let none : bits_of_words (words_at low high more c) ≡ 0 =
        none_first (get_or low c 0) (get_or high c 0 ∷ further_at more c) (get_or-eq_default low 0 (omega (arith, e, past)))
        (none_first (get_or high c 0) (further_at more c) (get_or-eq_default high 0 (omega (arith, f, past))) (bits_of_none (further_at more c) (ap length (further_past more c (omega (arith, le, past)))))) in
        none ∙ sym (ap (λ (x : Numbers). x.bits) (get_or-eq_default xs (numbers domain.Alarm 0) (let many = as_many in omega (arith, many, past)))))
  ]

  -- a component's words as they are read
  pub read_is : length low ≡ length ds → length high ≤ length ds → length more ≤ length ds
      → (c a b : ℕ) (ls hs ws : List ℕ) → ls ≡ low → hs ≡ high → a ≡ get_or ls c 0 → b ≡ get_or hs c 0 → ws ≡ further_at more c
      → bits_of_words (a ∷ b ∷ ws) ≡ (set_of xs c).bits
  read_is e f le c a b ls hs ws lows highs first second third =
      ap₂ (λ (m n : ℕ). bits_of_words (m ∷ n ∷ ws)) (first ∙ ap (λ (us : List ℕ). get_or us c 0) lows) (second ∙ ap (λ (us : List ℕ). get_or us c 0) highs)
      ∙ ap (λ (us : List ℕ). bits_of_words (get_or low c 0 ∷ get_or high c 0 ∷ us)) third ∙ bits_are e f le c

  -- the words of one component change
  pub flat_changed : (c x : ℕ) (low_new high_new : List ℕ) (more_new : List (List ℕ)) → c < length xs → ((k : ℕ) → k ≢ c → bits_of_words (words_at low_new high_new more_new k) ≡ bits_of_words (words_at low high more k))
      → bits_of_words (words_at low_new high_new more_new c) ≡ x → flat_sets ds low_new high_new more_new ≡ set xs c (numbers (set_of xs c).domain x)
  flat_changed c x low_new high_new more_new lt others here =
      let many = as_many in
      let long = flat_length ds low_new high_new more_new in
      let new = numbers (set_of xs c).domain x in
      same_sets (flat_sets ds low_new high_new more_new) (set xs c new) (long ∙ sym many ∙ sym (length-set xs c new)) (λ k. elim (cases_lt k (length ds)) [
        | inl below ↦
            flat_at ds low_new high_new more_new k below ∙ elim (cases_eq k c) [
              | inl same ↦
                  (let at : numbers (get_or ds c domain.Alarm) (bits_of_words (words_at low_new high_new more_new c)) ≡ set_of (set xs c new) c =
                  ap₂ numbers (domain_is c (omega (arith, many, lt))) here ∙ sym (get_or-set_same xs c new (numbers domain.Alarm 0) lt) in
                  subst (λ (j : ℕ). numbers (get_or ds j domain.Alarm) (bits_of_words (words_at low_new high_new more_new j)) ≡ set_of (set xs c new) j) (sym same) at)
              | inr differ ↦
                  ap (numbers (get_or ds k domain.Alarm)) (others k differ) ∙ sym (set_is k below) ∙ sym (get_or-set_other xs c k new (numbers domain.Alarm 0) differ)
            ]
        | inr past ↦
            get_or-eq_default (flat_sets ds low_new high_new more_new) (numbers domain.Alarm 0) (omega (arith, long, past))
            ∙ sym (get_or-eq_default (set xs c new) (numbers domain.Alarm 0) (let same = length-set xs c new in omega (arith, same, many, past)))
      ])

  -- the first two words of one component become others, the second one past the end only 0, and its further ones may change
  pub flat_put : (c l h x : ℕ) (low_new high_new : List ℕ) (more_new : List (List ℕ)) → low_new ≡ set low c l → high_new ≡ set high c h
      → length low ≡ length ds → (length high ≤ c → h ≡ 0) → c < length xs
      → ((k : ℕ) → k ≢ c → further_bits more_new k ≡ further_bits more k) → bits_of_words (l ∷ h ∷ further_at more_new c) ≡ x → flat_sets ds low_new high_new more_new ≡ set xs c (numbers (set_of xs c).domain x)
  flat_put c l h x low_new high_new more_new lows highs e f lt others here =
      let many = as_many in
      ap₂ (λ (ls hs : List ℕ). flat_sets ds ls hs more_new) lows highs
      ∙ flat_changed c x (set low c l) (set high c h) more_new lt
      (λ k differ.
      same_words_further (set low c l) (set high c h) more more_new k (others k differ)
      ∙ ap₂ (λ (a b : ℕ). bits_of_words (a ∷ b ∷ further_at more k)) (get_or-set_other low c k l 0 differ) (get_or-set_other high c k h 0 differ))
      (ap₂ (λ (a b : ℕ). bits_of_words (a ∷ b ∷ further_at more_new c)) (get_or-set_same low c l 0 (omega (arith, many, lt, e))) (word_put high c h f) ∙ here)

pub still_long : (ds : List Domain) (low low_new : List ℕ) (c w : ℕ) → low_new ≡ set low c w → length low ≡ length ds → length low_new ≡ length ds
still_long ds low low_new c w is long = ap length is ∙ length-set low c w ∙ long

pub still_few : (ds : List Domain) (high high_new : List ℕ) (c w : ℕ) → high_new ≡ set high c w → length high ≤ length ds → length high_new ≤ length ds
still_few ds high high_new c w is few = (let same = ap length is ∙ length-set high c w in omega (arith, same, few))

pub some_words : (a b : ℕ) (ws : List ℕ) → 0 < a + b → 0 < bits_of_words (a ∷ b ∷ ws)
some_words a b ws some = (let first = word_first a (b ∷ ws) in let second = word_first b ws in omega (arith, first, second, some))

-- a word in the place of another, in a `Vec`
pub written : (v : Vec ℕ) (now slice : List ℕ) (c w : ℕ) → length now ≡ v.len → now ≡ set slice c w → slice ≡ v.items → (with_items v now).items ≡ set v.items c w
written v now slice c w long write is = with_items_is v now long ∙ write ∙ ap (λ (ws : List ℕ). set ws c w) is

-- ---- two lists of sets

-- each word is the join of both
abbrev pub AreWordsJoined : List ℕ → List ℕ → List ℕ → Type 0
AreWordsJoined before other now = (i : ℕ) → get_or now i 0 ≡ bit_or (get_or before i 0) (get_or other i 0)

pub words_joined : (before other now : List ℕ) → AreWords before → AreWords other → AreWordsJoined before other now → AreWords now
words_joined before other now small too joined =
    All-from_get_or (λ w. w < 2 ^ 64) now 0 (λ i lt. subst (λ w. w < 2 ^ 64) (sym (joined i)) (or_lt 64 (get_or before i 0) (get_or other i 0) (small_at before i small) (small_at other i too)))

module _ (ds its : List Domain) (low high low_too high_too low_new high_new : List ℕ) (more more_too more_new : List (List ℕ)) (xs ys : List Numbers)
    (is : flat_sets ds low high more ≡ xs) (is_too : flat_sets its low_too high_too more_too ≡ ys) where
  pub flat_joined : length xs ≡ length ys → AreWords low → AreWords high → AreWords low_too → AreWords high_too → AreWordsJoined low low_too low_new → AreWordsJoined high high_too high_new
      → ((k : ℕ) → further_bits more_new k ≡ bit_or (further_bits more k) (further_bits more_too k)) → AreJoinedSets xs ys (flat_sets ds low_new high_new more_new)
  flat_joined long small small_high small_too small_high_too first second third =
      let many = as_many ds low high more xs is in
      let many_too = as_many its low_too high_too more_too ys is_too in
      let new = flat_length ds low_new high_new more_new in
      record {
        as_many = new ∙ sym many;
        each = λ c. elim (cases_lt c (length ds)) [
          | inl lt ↦
              (let here : bits_of_words (words_at low_new high_new more_new c) ≡ bit_or (bits_of_words (words_at low high more c)) (bits_of_words (words_at low_too high_too more_too c)) =
              ap₂ (λ (a b : ℕ). bits_of_words (a ∷ b ∷ further_at more_new c)) (first c) (second c)
              ∙ either_two (get_or low c 0) (get_or high c 0) (get_or low_too c 0) (get_or high_too c 0) (further_at more c) (further_at more_too c) (further_at more_new c)
              (small_at low c small) (small_at high c small_high) (small_at low_too c small_too) (small_at high_too c small_high_too) (third c) in
              flat_at ds low_new high_new more_new c lt ∙ ap (numbers (get_or ds c domain.Alarm)) here
              ∙ sym (ap₂ joined_numbers (set_is ds low high more xs is c lt) (set_is its low_too high_too more_too ys is_too c (omega (arith, lt, long, many, many_too)))))
          | inr past ↦
              get_or-eq_default (flat_sets ds low_new high_new more_new) (numbers domain.Alarm 0) (omega (arith, new, past))
              ∙ sym (ap₂ joined_numbers (get_or-eq_default xs (numbers domain.Alarm 0) (omega (arith, many, past))) (get_or-eq_default ys (numbers domain.Alarm 0) (omega (arith, many, long, past))))
        ];
      }
