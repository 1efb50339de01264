-- Groups of exits mean the same in a pool that grew.
use Rattle.std.proofs.Common.{◌≡◌, ◌≢◌, ℕ, ◌<◌, true, List, [], ◌∷◌, ◌++◌, length, map, refl, sym, ap, ap₂, ◌∙◌, inl, inr, arith, IsTrue, get_or-set_same, get_or-set_other}
use Rattle.std.proofs.lemmas.{List.{length-append, length-set}, Bool.{cases_eq}}
use Rattle.osek_standard.specs.declared.point.Point.{Point}
use Rattle.osek_standard.proofs.Members.{Among, among_contained}
use Rattle.abstract_state.specs.declared.table.PlainEntry.{PlainEntry}
use Rattle.numbered_sets.specs.{declared.numbered_entry.NumberedEntry.{NumberedEntry}, Pools.{Values, values_at, IsLonger}, Views.{plain_entry, AreNumbersOf}}
use Rattle.numbered_sets.proofs.ViewLaws.{same_view, still_known}
use Rattle.numbered_sets.specs.{Numbers.{Numbers, has_number}, NumberedEntries.{no_set, numbers_at}}
use Rattle.flow_exits.specs.declared.exit.Exit.{Exit}
use Rattle.point_exits.specs.declared.group.{NumberEnd.{NumberEnd}, Ends.{Ends}, ExitGroup.{ExitGroup}}
use Rattle.point_exits.specs.declared.group.Ends.TheVariants as ends
use Rattle.point_exits.specs.Groups.{holding, with_end, exits_by, exits_of, all_exits, AreNumbersThere, IsKnownEnd, AreKnownEnds, IsKnownGroup, AreKnownGroups}
use Rattle.point_exits.proofs.NumbersPassing.{domains_alike}

-- some numbers alone are still those of values
module _ (pool : List Values) (entry : NumberedEntry) (c : ℕ) (x : Numbers) (lt : c < length entry.sets) (known : AreNumbersOf pool entry) (these : AreNumbersThere pool entry c x) where
  at : numbers_at (holding entry c x) c ≡ x
  at = get_or-set_same entry.sets c x no_set lt

  beside : (k : ℕ) → k ≢ c → numbers_at (holding entry c x) k ≡ numbers_at entry k
  beside k differ = get_or-set_other entry.sets c k x no_set differ

  same_domain : (k : ℕ) → (numbers_at (holding entry c x) k).domain ≡ (numbers_at entry k).domain
  same_domain k = elim (cases_eq k c) [
    | inl same ↦
        ap (λ (i : ℕ). (numbers_at (holding entry c x) i).domain) same ∙ ap (λ (y : Numbers). y.domain) at ∙ these.domain ∙ ap (λ (i : ℕ). (numbers_at entry i).domain) (sym same)
    | inr differ ↦ ap (λ (y : Numbers). y.domain) (beside k differ)
  ]

  still_below : (k m : ℕ) → IsTrue (has_number (numbers_at (holding entry c x) k) m) → m < length (values_at pool k)
  still_below k m has = elim (cases_eq k c) [
    | inl same ↦
        (let here : has_number x m ≡ true = ap (λ (y : Numbers). has_number y m) (sym at) ∙ ap (λ (i : ℕ). has_number (numbers_at (holding entry c x) i) m) (sym same) ∙ has in
        let long : length (values_at pool k) ≡ length (values_at pool c) = ap (λ (i : ℕ). length (values_at pool i)) same in
        omega (arith, these.known m here, long))
    | inr differ ↦ known.known k m (ap (λ (y : Numbers). has_number y m) (sym (beside k differ)) ∙ has)
  ]

  pub held_known : AreNumbersOf pool (holding entry c x)
  held_known = record { domains = domains_alike (holding entry c x).sets entry.sets (length-set entry.sets c x) same_domain ∙ known.domains; known = still_below }

-- so it is with those of an end
pub end_known : (pool : List Values) (entry : NumberedEntry) (x : NumberEnd) → AreNumbersOf pool entry → IsKnownEnd pool entry x → AreNumbersOf pool (with_end entry x)
end_known pool entry x known these = held_known pool entry x.component x.numbers these.component known these.numbers

map_same : {X : Type 0} (f g : X → Exit) (xs : List X) → ((x : X) → Among x xs → f x ≡ g x) → map f xs ≡ map g xs
map_same f g [] h = refl
map_same f g (x ∷ xs) h = ap₂ (λ (y : Exit) (ys : List Exit). y ∷ ys) (h x (inl refl)) (map_same f g xs (λ y m. h y (inr m)))

-- an exit with other values
abbrev exit_by : ExitGroup → Point → PlainEntry → Exit
exit_by g p e = record { target = p; decision = g.decision; status = g.status; entry = e }

module _ (pool after : List Values) (longer : IsLonger pool after) where
  ends_same : (g : ExitGroup) (e : Ends) → AreNumbersOf pool g.entry → AreKnownEnds pool g.entry e → exits_by after g e ≡ exits_by pool g e
  ends_same g (ends.At points) known h = ap (λ (x : PlainEntry). map (λ (p : Point). exit_by g p x) points) (same_view pool after g.entry longer known)
  ends_same g (ends.With xs) known h =
      map_same (λ (x : NumberEnd). exit_by g x.target (plain_entry after (with_end g.entry x))) (λ (x : NumberEnd). exit_by g x.target (plain_entry pool (with_end g.entry x))) xs
      (λ x m. ap (exit_by g x.target) (same_view pool after (with_end g.entry x) longer (end_known pool g.entry x known (h x (among_contained xs x m)))))

  group_same : (g : ExitGroup) → IsKnownGroup pool g → exits_of after g ≡ exits_of pool g
  group_same g h = ends_same g g.ends h.numbers h.ends

  same_by : (groups : List ExitGroup) → ((g : ExitGroup) → Among g groups → IsKnownGroup pool g) → all_exits after groups ≡ all_exits pool groups
  same_by [] h = refl
  same_by (g ∷ gs) h = ap₂ (λ (xs ys : List Exit). xs ++ ys) (group_same g (h g (inl refl))) (same_by gs (λ k m. h k (inr m)))

  pub exits_same : (groups : List ExitGroup) → AreKnownGroups pool groups → all_exits after groups ≡ all_exits pool groups
  exits_same groups h = same_by groups (λ g m. h g (among_contained groups g m))

  pub known_ends : (entry : NumberedEntry) (e : Ends) → AreKnownEnds pool entry e → AreKnownEnds after entry e
  known_ends entry (ends.At points) h = tt
  known_ends entry (ends.With xs) h = λ x m.
      (let these = h x m in record { component = these.component; numbers = record { domain = these.numbers.domain; known = λ n has. known_longer x.component n (these.numbers.known n has) } })
    where
      known_longer : (c n : ℕ) → n < length (values_at pool c) → n < length (values_at after c)
      known_longer c n lt = (let more = longer.values c in omega (arith, lt, ap length more.is, length-append (values_at pool c) more.more))

  pub groups_known : (groups : List ExitGroup) → AreKnownGroups pool groups → AreKnownGroups after groups
  groups_known groups h g m = (let k = h g m in record { numbers = still_known pool after g.entry longer k.numbers; ends = known_ends g.entry g.ends k.ends })
