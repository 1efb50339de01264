-- An entry that takes the sets of another, one after the other.
use Rattle.std.proofs.Common.{◌≡◌, ◌≢◌, ℕ, zero, suc, ◌+◌, ◌<◌, ◌≤◌, List, [], ◌∷◌, length, get_or, refl, sym, ap, subst, ◌∙◌, inl, inr, arith, get_or-set_same, get_or-set_other}
use Rattle.std.specs.List.{All}
use Rattle.std.proofs.{lemmas.{Bool.{cases_eq, cases_lt}, List.{length-set, get_or_default, same_lists, Elements.{All-head, All-tail}}}, Math.ListN.{get_or-eq_default}}
use Rattle.abstract_state.specs.{declared.table.{ValueSet.{ValueSet}, PlainEntry.{PlainEntry}}, ValueOrder.{IsAscending}}
use Rattle.abstract_state.specs.Tables.{empty_set, set_at, HasAscendingSets, IsJoin, IsPartOfJoin, IsSetBySet, IsWrite}
use Rattle.abstract_state.proofs.{OrderLaws.{ascending_none}, JoinLaws.{join_begun, join_whole, join_stopped, join_part, join_one}}

-- how many values a set has
abbrev pub size : ValueSet → ℕ
size s = length s.members

pub ascending_at : (xs : List ValueSet) (c : ℕ) → All (λ (s : ValueSet). IsAscending s.members) xs → IsAscending (get_or xs c empty_set).members
ascending_at [] c all = ascending_none
ascending_at (x ∷ xs) zero all = All-head (λ (s : ValueSet). IsAscending s.members) x xs all
ascending_at (x ∷ xs) (suc c) all = ascending_at xs c (All-tail (λ (s : ValueSet). IsAscending s.members) x xs all)

pub same_sets : (xs ys : List ValueSet) → length xs ≡ length ys → ((c : ℕ) → get_or xs c empty_set ≡ get_or ys c empty_set) → xs ≡ ys
same_sets xs ys e h = same_lists xs ys e (λ k d lt. get_or_default xs k d empty_set lt ∙ h k ∙ get_or_default ys k empty_set d (omega (arith, e, lt)))

pub entry_join_one : (a b x y : PlainEntry) → IsSetBySet IsJoin a b x → IsSetBySet IsJoin a b y → x ≡ y
entry_join_one a b x y one two =
    let sets = same_sets x.sets y.sets (one.as_many ∙ sym two.as_many) (λ c. join_one (set_at a c) (set_at b c) (set_at x c) (set_at y c) (one.each c) (two.each c)) in
    λ i. record { sets = sets i }

-- nothing is new in a set that takes nothing
join_of_nothing : (a : ValueSet) → IsAscending a.members → IsJoin a empty_set a
join_of_nothing a up = join_whole a empty_set a 0 0 0 refl (join_begun a [] up)

pub part_of_none : (a b : ValueSet) → IsAscending a.members → IsPartOfJoin a b a
part_of_none a b up = join_stopped a b a 0 0 0 (join_begun a b.members up)

-- the sets below a place are joined, and the rest are as they were
pub record AreJoinedBelow (before other : PlainEntry) (place : ℕ) (now : PlainEntry) : Type 0 where
  pub as_many : length now.sets ≡ length before.sets
  pub joined : (c : ℕ) → c < place → IsJoin (set_at before c) (set_at other c) (set_at now c)
  pub kept : (c : ℕ) → place ≤ c → set_at now c ≡ set_at before c

module _ (before other now after : PlainEntry) (i : ℕ) (x : ValueSet) (known : i < length now.sets) (is : set_at other i ≡ x) (so_far : AreJoinedBelow before other i now) where
  module _ (P : ValueSet → ValueSet → ValueSet → Type 0) (write : IsWrite P i x now after) where
    here : P (set_at before i) (set_at other i) (set_at after i)
    here =
        let at : set_at after i ≡ write.set = ap (λ (ss : List ValueSet). get_or ss i empty_set) write.written ∙ get_or-set_same now.sets i write.set empty_set known in
        subst (λ (s : ValueSet). P s (set_at other i) (set_at after i)) (so_far.kept i (omega arith))
        (subst (λ (y : ValueSet). P (set_at now i) y (set_at after i)) (sym is) (subst (P (set_at now i) x) (sym at) write.is))

    elsewhere : (c : ℕ) → c ≢ i → set_at after c ≡ set_at now c
    elsewhere c differ = ap (λ (ss : List ValueSet). get_or ss c empty_set) write.written ∙ get_or-set_other now.sets i c write.set empty_set differ

    as_long : length after.sets ≡ length before.sets
    as_long = ap length write.written ∙ length-set now.sets i write.set ∙ so_far.as_many

  pub joined_on : IsWrite IsJoin i x now after → AreJoinedBelow before other (i + 1) after
  joined_on write = record {
    as_many = as_long IsJoin write;
    joined = λ c lt. elim (cases_eq c i) [
      | inl same ↦ subst (λ (n : ℕ). IsJoin (set_at before n) (set_at other n) (set_at after n)) (sym same) (here IsJoin write)
      | inr differ ↦ subst (IsJoin (set_at before c) (set_at other c)) (sym (elsewhere IsJoin write c differ)) (so_far.joined c (omega (arith, lt, differ)))
    ];
    kept = λ c le. elsewhere IsJoin write c (λ same. omega (arith, same, le)) ∙ so_far.kept c (omega (arith, le));
  }

  apart : (c : ℕ) → HasAscendingSets before → c ≢ i → IsPartOfJoin (set_at before c) (set_at other c) (set_at now c)
  apart c up differ = elim (cases_lt c i) [
    | inl lt ↦ join_part (set_at before c) (set_at other c) (set_at now c) (so_far.joined c lt)
    | inr le ↦ subst (IsPartOfJoin (set_at before c) (set_at other c)) (sym (so_far.kept c le)) (part_of_none (set_at before c) (set_at other c) (ascending_at before.sets c up))
  ]

  pub stopped : HasAscendingSets before → IsWrite IsPartOfJoin i x now after → IsSetBySet IsPartOfJoin before other after
  stopped up write = record {
    as_many = as_long IsPartOfJoin write;
    each = λ c. elim (cases_eq c i) [
      | inl same ↦ subst (λ (n : ℕ). IsPartOfJoin (set_at before n) (set_at other n) (set_at after n)) (sym same) (here IsPartOfJoin write)
      | inr differ ↦ subst (IsPartOfJoin (set_at before c) (set_at other c)) (sym (elsewhere IsPartOfJoin write c differ)) (apart c up differ)
    ];
  }

pub all_joined : (before other after : PlainEntry) (i : ℕ) → i ≡ length other.sets → length before.sets ≡ length other.sets → HasAscendingSets before → AreJoinedBelow before other i after → IsSetBySet IsJoin before other after
all_joined before other after i e as_many up so_far = record {
  as_many = so_far.as_many;
  each = λ c. elim (cases_lt c i) [
    | inl lt ↦ so_far.joined c lt
    | inr le ↦
        subst (λ (s : ValueSet). IsJoin (set_at before c) s (set_at after c)) (sym (get_or-eq_default other.sets empty_set (omega (arith, e, le))))
        (subst (IsJoin (set_at before c) empty_set) (sym (so_far.kept c le)) (join_of_nothing (set_at before c) (ascending_at before.sets c up)))
  ];
}
