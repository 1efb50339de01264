-- Sound sets: how many members they have, and that their joins are sound.
use Rattle.std.proofs.Common.{◌≡◌, ◌≤◌, true, length, sym, subst, ◌∙◌, inl, inr, arith}
use Rattle.std.specs.List.{All}
use Rattle.std.proofs.lemmas.{Bool.{or_cases}, List.Elements.{All-contains}, Map.Views.{Contains-from_any, list_any-from_Contains, All-from_any}}
use Rattle.abstract_state.specs.{declared.{value.{Domain.{Domain}, PartValue.{PartValue}}, table.ValueSet.{ValueSet}}, Domains.{IsWithin, domain_size, IsCounted, IsSound}}
use Rattle.abstract_state.specs.Tables.{is_member, IsPartOfJoin}
use Rattle.abstract_state.proofs.{OrderLaws.{part_right, part_laws}, JoinLaws.{AreAmong, no_longer}}

-- a set has no more members than its domain has values
pub most_members : (set : ValueSet) → IsCounted set.domain → IsSound set → length set.members ≤ domain_size set.domain
most_members set counted sound =
    let among : AreAmong set.members counted.values
    = λ v h. list_any-from_Contains part_laws v counted.values ((counted.whole v).1 (All-contains (IsWithin set.domain) set.members v sound.within (Contains-from_any part_right v set.members h))) in
    omega (arith, no_longer set.members counted.values sound.ascending among, counted.count)

-- a member of a sound set is a value of its domain
member_within : (set : ValueSet) (d : Domain) → set.domain ≡ d → IsSound set → (v : PartValue) → is_member set v ≡ true → IsWithin d v
member_within set d same sound v h =
    subst (λ (e : Domain). IsWithin e v) same (All-contains (IsWithin set.domain) set.members v sound.within (Contains-from_any part_right v set.members h))

-- so what two of one domain join to, or on the way, is sound
pub sound_part : (a b x : ValueSet) → IsSound a → IsSound b → a.domain ≡ b.domain → IsPartOfJoin a b x → IsSound x
sound_part a b x sound other same part =
    let within : All (IsWithin x.domain) x.members =
    All-from_any part_laws (IsWithin x.domain) x.members (λ v h.
    elim (or_cases (is_member a v) (is_member b v) (part.from v h)) [
      | inl l ↦ member_within a x.domain (sym part.domain) sound v l
      | inr r ↦ member_within b x.domain (sym same ∙ sym part.domain) other v r
    ]) in
    record { within = within; ascending = part.ascending }
