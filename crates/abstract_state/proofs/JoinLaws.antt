-- Joins of sets: what a value that is put in does, and what they are to both sets.
use Rattle.std.proofs.Common.{◌≡◌, ℕ, zero, suc, ◌+◌, ◌-◌, ◌<◌, ◌≤◌, Bool, true, false, ◌||◌, List, [], ◌∷◌, ◌++◌, length, get_or, set, take, drop, refl, sym, ap, ap₂, subst, ◌∙◌, inl, inr, arith, IsTrue}
use Rattle.std.specs.{declared.cmp.Ordering.TheVariants.{Less}, List.{All, list_any, AllByRecursion, IsDistinct, insert}}
use Rattle.std.proofs.{Math.Bool.{or_comm, or_assoc}, lemmas.{Bool.{or_cases, or_left, or_right, or_parts, cases_Bool}, List.{take-append-drop, take_all, get_or_default}}}
use Rattle.std.proofs.lemmas.List.{Folds.{list_any_at, list_any_more, list_any-append}, Edits.{length-insert}}
use Rattle.std.proofs.lemmas.Map.{Keys.{Less-from_sorted, IsDistinct-cons, IsDistinct-from_sorted}, Made.{length-le_from_is_member}}
use Rattle.abstract_state.specs.{declared.{value.PartValue.{PartValue}, table.ValueSet.{ValueSet}}, ValueOrder.{part_order, same_part, IsAscending, AreBefore, IsPlace, IsGap}}
use Rattle.abstract_state.specs.Tables.{is_member, IsSubset, IsJoin, IsPartOfJoin}
use Rattle.abstract_state.proofs.OrderLaws.{part_right, part_laws, any_with, ascending_with, same_list, passed_on, none_passed}

-- a list whose elements move up, so that a place is free
module _ {X : Type 0} where
  pub pushed : (xs : List X) (v : X) → set (xs ++ v ∷ []) (length xs) v ≡ insert xs (length xs) v
  pushed [] v = refl
  pushed (x ∷ xs) v = ap (λ (more : List X). x ∷ more) (pushed xs v)

  pub moved_up : (ms xs : List X) (k : ℕ) (v d : X) → k < length xs → set ms (suc k) v ≡ insert xs (suc k) v → set (set ms (suc k) (get_or ms k d)) k v ≡ insert xs k v
  moved_up ms [] k v d lt e = absurd (omega (arith, lt))
  moved_up [] (x ∷ xs) k v d lt e = absurd (cc)
  moved_up (m ∷ []) (x ∷ xs) zero v d lt e = absurd (cc)
  moved_up (m ∷ n ∷ ms) (x ∷ xs) zero v d lt e =
      let first : m ≡ x = cc in
      let rest : ms ≡ xs = cc in
      ap₂ (λ (y : X) (more : List X). v ∷ y ∷ more) first rest
  moved_up (m ∷ ms) (x ∷ xs) (suc k) v d lt e =
      let first : m ≡ x = cc in
      let rest : set ms (suc k) v ≡ insert xs (suc k) v = cc in
      ap₂ (λ (y : X) (more : List X). y ∷ more) first (moved_up ms xs k v d (omega (arith, lt)) rest)

  -- so it is where the place of the last free element is given
  pub moved_on : (ms xs : List X) (free : ℕ) (v m : X) → 0 < free → free ≤ length xs → ((d : X) → get_or ms (free - 1) d ≡ m) → set ms free v ≡ insert xs free v
      → set (set ms free m) (free - 1) v ≡ insert xs (free - 1) v
  moved_on ms xs free v m lt le at e =
      subst (λ (f : ℕ). set ms f v ≡ insert xs f v → set (set ms f m) (free - 1) v ≡ insert xs (free - 1) v) (omega (arith, lt))
      (λ h. ap (λ (y : X). set (set ms (suc (free - 1)) y) (free - 1) v) (sym (at v)) ∙ moved_up ms xs (free - 1) v v (omega (arith, lt, le)) h) e

  pub take_insert : (xs : List X) (p : ℕ) (v : X) → p ≤ length xs → take p (insert xs p v) ≡ take p xs
  take_insert xs zero v le = refl
  take_insert [] (suc p) v le = absurd (omega (arith, le))
  take_insert (x ∷ xs) (suc p) v le = ap (λ (more : List X). x ∷ more) (take_insert xs p v (omega (arith, le)))

pub join_left : (a b x : ValueSet) → IsJoin a b x → IsSubset a x
join_left a b x join v h = join.members v ∙ or_left (is_member a v) (is_member b v) h

pub join_right : (a b x : ValueSet) → IsJoin a b x → IsSubset b x
join_right a b x join v h = join.members v ∙ or_right (is_member a v) (is_member b v) h

of_both : (a b c : ValueSet) → IsSubset a c → IsSubset b c → (v : PartValue) → IsTrue (is_member a v || is_member b v) → IsTrue (is_member c v)
of_both a b c left right v h = elim (or_cases (is_member a v) (is_member b v) h) [ inl l ↦ left v l | inr r ↦ right v r ]

pub join_part : (a b x : ValueSet) → IsJoin a b x → IsPartOfJoin a b x
join_part a b x join = record { domain = join.domain; ascending = join.ascending; keeps = join_left a b x join; from = λ v h. sym (join.members v) ∙ h }

pub part_least : (a b x c : ValueSet) → IsPartOfJoin a b x → IsSubset a c → IsSubset b c → IsSubset x c
part_least a b x c part left right v h = of_both a b c left right v (part.from v h)

pub part_joined : (a b p x : ValueSet) → IsPartOfJoin a b p → IsJoin a b x → IsSubset p x
part_joined a b p x part join = part_least a b p x part (join_left a b x join) (join_right a b x join)

same_truth : (a b : Bool) → (a ≡ true → b ≡ true) → (b ≡ true → a ≡ true) → a ≡ b
same_truth true b f g = sym (f refl)
same_truth false true f g = g refl
same_truth false false f g = refl

among_first : (xs ys : List PartValue) (v : PartValue) → ((w : PartValue) → IsTrue (list_any (same_part w) xs) → IsTrue (list_any (same_part w) ys)) → IsTrue (list_any (same_part v) ys)
    → (w : PartValue) → IsTrue (list_any (same_part w) (v ∷ xs)) → IsTrue (list_any (same_part w) ys)
among_first xs ys v among there w h = elim (or_cases (same_part w v) (list_any (same_part w) xs) h) [
  | inl same ↦ subst (λ (y : PartValue). IsTrue (list_any (same_part y) ys)) (sym (part_right w v same)) there
  | inr old ↦ among w old
]

none_passes : (test : PartValue → Bool) (xs : List PartValue) → list_any test xs ≡ false → AllByRecursion (λ (y : PartValue). test y ≡ false) xs
none_passes test [] e = tt
none_passes test (x ∷ xs) e = let parts = or_parts (test x) (list_any test xs) e in (parts.0, none_passes test xs parts.1)

distinct_first : (v : PartValue) (xs : List PartValue) → list_any (same_part v) xs ≡ false → IsAscending xs → IsDistinct same_part (v ∷ xs)
distinct_first v xs none up = IsDistinct-cons same_part v xs (none_passes (same_part v) xs none) (IsDistinct-from_sorted part_order xs up)

-- what is in a part is in the whole
any_of_part : (i : ℕ) (xs : List PartValue) (v : PartValue) → list_any (same_part v) (take i xs) ≡ true → list_any (same_part v) xs ≡ true
any_of_part i xs v h =
    ap (list_any (same_part v)) (sym (take-append-drop i xs))
    ∙ list_any-append (same_part v) (take i xs) (drop i xs)
    ∙ or_left (list_any (same_part v) (take i xs)) (list_any (same_part v) (drop i xs)) h

-- ascending sets with the same values are equal
pub equal_sets : (a b : ValueSet) → IsAscending a.members → IsAscending b.members → a.domain ≡ b.domain → IsSubset a b → IsSubset b a → a ≡ b
equal_sets a b up too domain left right =
    let members = same_list a.members b.members up too (λ v. same_truth (is_member a v) (is_member b v) (left v) (right v)) in
    λ i. record { domain = domain i; members = members i }

pub join_one : (a b x y : ValueSet) → IsJoin a b x → IsJoin a b y → x ≡ y
join_one a b x y one two =
    equal_sets x y one.ascending two.ascending (one.domain ∙ sym two.domain)
    (part_joined a b x y (join_part a b x one) two) (part_joined a b y x (join_part a b y two) one)

-- all values of one list are values of another
abbrev pub AreAmong : List PartValue → List PartValue → Type 0
AreAmong xs ys = (v : PartValue) → IsTrue (list_any (same_part v) xs) → IsTrue (list_any (same_part v) ys)

-- an ascending list is no longer than one with all its values
pub no_longer : (xs ys : List PartValue) → IsAscending xs → AreAmong xs ys → length xs ≤ length ys
no_longer xs ys up among = length-le_from_is_member part_laws xs ys (IsDistinct-from_sorted part_order xs up) among

-- where it is as long, the other has no value beside its own
pub no_other : (xs ys : List PartValue) → IsAscending xs → AreAmong xs ys → length ys ≤ length xs → AreAmong ys xs
no_other xs ys up among few v h = elim (cases_Bool (list_any (same_part v) xs)) [
  | inl there ↦ there
  | inr none ↦
      (let longer : length (v ∷ xs) ≤ length ys = length-le_from_is_member part_laws (v ∷ xs) ys (distinct_first v xs none up) (among_first xs ys v among h) in
      absurd (omega (arith, longer, few)))
]

pub none_new : (a b x : ValueSet) → IsAscending a.members → IsJoin a b x → length x.members ≡ length a.members → x ≡ a
none_new a b x up join e =
    let back = no_other a.members x.members up (join_left a b x join) (omega (arith, e)) in
    equal_sets x a join.ascending up join.domain back (join_left a b x join)

-- what a join has done after so many of the other's members: how many were new, and what place the next comes after
pub record IsJoinSoFar (a : ValueSet) (items : List PartValue) (i : ℕ) (x : ValueSet) (added place : ℕ) : Type 0 where
  pub domain : x.domain ≡ a.domain
  pub ascending : IsAscending x.members
  pub members : (v : PartValue) → is_member x v ≡ (is_member a v || list_any (same_part v) (take i items))
  pub count : length x.members ≡ length a.members + added
  pub few : added ≤ i
  pub passed : (d : PartValue) → i < length items → AreBefore x.members place (get_or items i d)

none_taken : (b : Bool) → b ≡ (b || false)
none_taken true = refl
none_taken false = refl

pub join_begun : (a : ValueSet) (items : List PartValue) → IsAscending a.members → IsJoinSoFar a items 0 a 0 0
join_begun a items up = record {
  domain = refl;
  ascending = up;
  members = λ v. none_taken (is_member a v);
  count = omega arith;
  few = omega arith;
  passed = λ d lt. none_passed a.members (get_or items 0 d);
}

turned : (new old taken : Bool) → (new || (old || taken)) ≡ (old || (taken || new))
turned new old taken = or_comm new (old || taken) ∙ or_assoc old taken new

-- a value that is there already changes nothing
pub there_too : (b new : Bool) → (new ≡ true → b ≡ true) → b ≡ (b || new)
there_too true new h = refl
there_too false true h = h refl
there_too false false h = refl

pub place_there : (xs : List PartValue) (p : ℕ) (v w : PartValue) → IsPlace xs p v → same_part w v ≡ true → list_any (same_part w) xs ≡ true
place_there xs p v w place e = list_any_at (same_part w) xs p v place.known (ap (same_part w) (place.is v) ∙ e)

-- the member at i is v
module _ (a x : ValueSet) (items : List PartValue) (i added place : ℕ) (v : PartValue) (up : IsAscending items) (lt : i < length items) (is : v ≡ get_or items i v) (so_far : IsJoinSoFar a items i x added place) where
  more : (w : PartValue) → list_any (same_part w) (take (i + 1) items) ≡ (list_any (same_part w) (take i items) || same_part w v)
  more w = list_any_more (same_part w) items i v lt ∙ ap (λ (y : PartValue). list_any (same_part w) (take i items) || same_part w y) (sym is)

  -- what is passed for it is passed for the next
  next_passed : (xs : List PartValue) (p : ℕ) → AreBefore xs p v → (d : PartValue) → i + 1 < length items → AreBefore xs p (get_or items (i + 1) d)
  next_passed xs p passed d further =
      let before : part_order v (get_or items (i + 1) v) ≡ Less =
      ap (λ (w : PartValue). part_order w (get_or items (i + 1) v)) is ∙ Less-from_sorted part_order items i (i + 1) v up (omega arith) further in
      passed_on xs p v (get_or items (i + 1) d) passed (ap (part_order v) (get_or_default items (i + 1) d v further) ∙ before)

  pub join_found : (p : ℕ) → IsPlace x.members p v → IsJoinSoFar a items (i + 1) x added p
  join_found p found = record {
    domain = so_far.domain;
    ascending = so_far.ascending;
    members = λ w.
        so_far.members w
        ∙ there_too (is_member a w || list_any (same_part w) (take i items)) (same_part w v) (λ e. sym (so_far.members w) ∙ place_there x.members p v w found e)
        ∙ or_assoc (is_member a w) (list_any (same_part w) (take i items)) (same_part w v)
        ∙ ap (λ (b : Bool). is_member a w || b) (sym (more w));
    count = so_far.count;
    few = omega (arith, so_far.few);
    passed = next_passed x.members p found.passed;
  }

  module _ (p : ℕ) (gap : IsGap x.members p v) where
    put_passed : AreBefore (insert x.members p v) p v
    put_passed = record {
      known = omega (arith, gap.passed.known, length-insert x.members p v gap.passed.known);
      each = subst (All (λ (w : PartValue). part_order w v ≡ Less)) (sym (take_insert x.members p v gap.passed.known)) gap.passed.each;
    }

    pub join_put : (after : ValueSet) → after.domain ≡ x.domain → after.members ≡ insert x.members p v → IsJoinSoFar a items (i + 1) after (added + 1) p
    join_put after domain put = record {
      domain = domain ∙ so_far.domain;
      ascending = subst IsAscending (sym put) (ascending_with x.members p v so_far.ascending gap);
      members = λ w.
          ap (list_any (same_part w)) put ∙ any_with x.members p v w
          ∙ ap (λ (b : Bool). same_part w v || b) (so_far.members w)
          ∙ turned (same_part w v) (is_member a w) (list_any (same_part w) (take i items))
          ∙ ap (λ (b : Bool). is_member a w || b) (sym (more w));
      count = omega (arith, ap length put, length-insert x.members p v gap.passed.known, so_far.count);
      few = omega (arith, so_far.few);
      passed = next_passed after.members p (subst (λ (ms : List PartValue). AreBefore ms p v) (sym put) put_passed);
    }

pub join_whole : (a b x : ValueSet) (i added place : ℕ) → i ≡ length b.members → IsJoinSoFar a b.members i x added place → IsJoin a b x
join_whole a b x i added place e so_far = record {
  domain = so_far.domain;
  ascending = so_far.ascending;
  members = λ v. so_far.members v ∙ ap (λ (taken : List PartValue). is_member a v || list_any (same_part v) taken) (take_all i b.members (omega (arith, e)));
}

or_more : (a b c : Bool) → (b ≡ true → c ≡ true) → (a || b) ≡ true → (a || c) ≡ true
or_more true b c f h = refl
or_more false b c f h = f h

pub join_stopped : (a b x : ValueSet) (i added place : ℕ) → IsJoinSoFar a b.members i x added place → IsPartOfJoin a b x
join_stopped a b x i added place so_far = record {
  domain = so_far.domain;
  ascending = so_far.ascending;
  keeps = λ v h. so_far.members v ∙ or_left (is_member a v) (list_any (same_part v) (take i b.members)) h;
  from = λ v h. or_more (is_member a v) (list_any (same_part v) (take i b.members)) (is_member b v) (any_of_part i b.members v) (sym (so_far.members v) ∙ h);
}
