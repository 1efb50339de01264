-- The exits of groups by the ends of the groups.
use Rattle.std.proofs.Common.{◌≡◌, ℕ, ◌<◌, List, [], ◌∷◌, length, map, get_or, refl, sym, ap, subst, ◌∙◌}
use Rattle.std.specs.{Prelude.{Contains}}
use Rattle.std.proofs.lemmas.List.{get_or_default}
use Rattle.osek_standard.specs.declared.point.Point.{Point}
use Rattle.osek_standard.proofs.Members.{contained_among, among_contained, among_map, map_among, among_flat_map, flat_map_among}
use Rattle.flow_exits.specs.declared.exit.Exit.{Exit}
use Rattle.numbered_sets.specs.{declared.table.NumberedRow.{NumberedRow}, Pools.{Values}, Views.{AreNumbersOf}}
use Rattle.point_exits.specs.{declared.group.{NumberEnd.{NumberEnd}, Ends.{Ends}, ExitGroup.{ExitGroup}}, Groups.{with_end, exit_at, exits_by, exits_of, all_exits, AreKnownEnds}}
use Rattle.point_exits.specs.declared.group.Ends.TheVariants as ends
use Rattle.point_exits.proofs.GrowingPools.{end_known}
use Rattle.flow_check.specs.Staying.{NumberedEnd, end_at, ends_by, IsIn, IsOut, AreEndsIn, IsSomeOut, HasSetFor}

-- an exit of the group, by its end
abbrev pub exit_by : List Values → ExitGroup → NumberedEnd → Exit
exit_by pool g x = exit_at pool g x.entry x.target

module _ (pool : List Values) (g : ExitGroup) where
  exits_at : (points : List Point) → exits_by pool g (ends.At points) ≡ map (exit_by pool g) (ends_by g.entry (ends.At points))
  exits_at [] = refl
  exits_at (p ∷ ps) = ap (λ (xs : List Exit). exit_at pool g g.entry p ∷ xs) (exits_at ps)

  exits_with : (xs : List NumberEnd) → exits_by pool g (ends.With xs) ≡ map (exit_by pool g) (ends_by g.entry (ends.With xs))
  exits_with [] = refl
  exits_with (x ∷ xs) = ap (λ (ys : List Exit). exit_at pool g (with_end g.entry x) x.target ∷ ys) (exits_with xs)

  pub exits_are : (e : Ends) → exits_by pool g e ≡ map (exit_by pool g) (ends_by g.entry e)
  exits_are (ends.At points) = exits_at points
  exits_are (ends.With xs) = exits_with xs

  -- the numbers of an end are those of values
  pub ends_known : (e : Ends) → AreNumbersOf pool g.entry → AreKnownEnds pool g.entry e → (x : NumberedEnd) → Contains (ends_by g.entry e) x → AreNumbersOf pool x.entry
  ends_known (ends.At points) numbers known x m =
      let at = map_among (λ (p : Point). end_at p g.entry) x points (contained_among (map (λ (p : Point). end_at p g.entry) points) x m) in
      subst (λ (y : NumberedEnd). AreNumbersOf pool y.entry) (sym at.2) numbers
  ends_known (ends.With xs) numbers known x m =
      let f = λ (y : NumberEnd). end_at y.target (with_end g.entry y) in
      let at = map_among f x xs (contained_among (map f xs) x m) in
      subst (λ (y : NumberedEnd). AreNumbersOf pool y.entry) (sym at.2) (end_known pool g.entry at.0 numbers (known at.0 (among_contained xs at.0 at.1)))

  pub set_for : (e : Ends) → AreKnownEnds pool g.entry e → HasSetFor g.entry e
  set_for (ends.At points) known = tt
  set_for (ends.With xs) known = λ x m. (let end = known x m in record { component = end.component; domain = end.numbers.domain })

-- an exit of groups is one of their ends, and the other way round
pub record HasEnd (pool : List Values) (groups : List ExitGroup) (x : Exit) : Type 0 where
  pub group : ExitGroup
  pub among : Contains groups group
  pub end : NumberedEnd
  pub listed : Contains (ends_by group.entry group.ends) end
  pub is : x ≡ exit_by pool group end

module _ (pool : List Values) (groups : List ExitGroup) where
  pub exit_end : (x : Exit) → Contains (all_exits pool groups) x → HasEnd pool groups x
  exit_end x m =
      let of = flat_map_among (exits_of pool) x groups (contained_among (all_exits pool groups) x m) in
      let g = of.0 in
      let at = map_among (exit_by pool g) x (ends_by g.entry g.ends) (contained_among (map (exit_by pool g) (ends_by g.entry g.ends)) x (subst (λ (xs : List Exit). Contains xs x) (exits_are pool g g.ends) (among_contained (exits_of pool g) x of.2))) in
      record { group = g; among = among_contained groups g of.1; end = at.0; listed = among_contained (ends_by g.entry g.ends) at.0 at.1; is = at.2 }

  pub end_exit : (g : ExitGroup) → Contains groups g → (x : NumberedEnd) → Contains (ends_by g.entry g.ends) x → Contains (all_exits pool groups) (exit_by pool g x)
  end_exit g among x m =
      let here : Contains (exits_of pool g) (exit_by pool g x) =
      subst (λ (xs : List Exit). Contains xs (exit_by pool g x)) (sym (exits_are pool g g.ends))
      (among_contained (map (exit_by pool g) (ends_by g.entry g.ends)) (exit_by pool g x) (among_map (exit_by pool g) x (ends_by g.entry g.ends) (contained_among (ends_by g.entry g.ends) x m))) in
      among_contained (all_exits pool groups) (exit_by pool g x)
      (among_flat_map (exits_of pool) g (exit_by pool g x) groups (contained_among groups g among) (contained_among (exits_of pool g) (exit_by pool g x) here))

-- ---- whether ends are in rows, one by one

module _ {X : Type 0} (rows : List NumberedRow) (f : X → NumberedEnd) (xs : List X) where
  pub each_in : ((k : ℕ) (d : X) → k < length xs → IsIn rows (f (get_or xs k d))) → AreEndsIn rows (map f xs)
  each_in h x m =
      let at = map_among f x xs (contained_among (map f xs) x m) in
      let place = among_contained xs at.0 at.1 in
      subst (IsIn rows) (ap f place.2 ∙ sym at.2) (h place.0 at.0 place.1)

  pub some_out : (k : ℕ) (x : X) → k < length xs → get_or xs k x ≡ x → IsOut rows (f x) → IsSomeOut rows (map f xs)
  some_out k x lt is out = record { end = f x; among = among_contained (map f xs) (f x) (among_map f x xs (contained_among xs x (k, lt, is))); out = out }

  -- with one more
  pub in_more : (k : ℕ) (x : X) → k < length xs → get_or xs k x ≡ x → IsIn rows (f x) → (d : X) → IsIn rows (f (get_or xs k d))
  in_more k x lt is here d = subst (IsIn rows) (ap f (sym is ∙ get_or_default xs k x d lt)) here
