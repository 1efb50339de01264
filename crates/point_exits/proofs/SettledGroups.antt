-- The exits of settled groups: what the decision makes of the values of the exits before, which the scheduler decides about.
use Rattle.std.proofs.Common.{◌≡◌, ◌⊎◌, ℕ, ◌+◌, ◌-◌, ◌<◌, Bool, List, length, get_or, refl, sym, ap, subst, ◌∙◌, inl, inr, arith, IsTrue, Some, None}
use Rattle.std.specs.{Prelude.{Contains}, declared.option.Option.{Option}}
use Rattle.std.proofs.lemmas.{Bool.{cases_lt}, List.{length-append, get_or_append_left, get_or-append-add, get_or_default, Elements.{Contains-append_cases}}}
use Rattle.osek_standard.specs.declared.{app.App.{App}, point.Point.{Point}}
use Rattle.osek_standard.proofs.Members.{Among, among_map, map_among, among_flat_map, flat_map_among, among_contained, contained_among}
use Rattle.abstract_state.specs.{declared.value.PartValue.{PartValue}, Components.{component_count}, Tables.{set_at, is_member}}
use Rattle.flow_model.specs.declared.case.{Decision.{Decision}, Leaving.{Leaving}}
use Rattle.flow_model.specs.{Effects.{AreIn, stay_point}, Scheduling.{Decides, end_point, goes_inside}}
use Rattle.numbered_sets.specs.{declared.numbered_entry.NumberedEntry.{NumberedEntry}, Numbers.{Numbers}, NumberedEntries.{numbers_at}, Pools.{Values, values_at}, Views.{plain_entry}}
use Rattle.flow_exits.specs.{declared.exit.Exit.{Exit}, Exits.{IsFilled}, Leaving.{IsDecided, HasDecided, AddsDecided}}
use Rattle.point_exits.specs.declared.group.{NumberEnd.{NumberEnd}, Ends.{Ends}, ExitGroup.{ExitGroup}}
use Rattle.point_exits.specs.declared.group.Ends.TheVariants as ends
use Rattle.point_exits.specs.{Groups.{holding, with_end, exit_at, exits_by, exits_of, all_exits, AreNumbersThere, IsKnownEnd, AreKnownEnds, IsKnownGroup, AreKnownGroups}, Deciding.{AddsFor, IsAny, IsUnsettled, HasUnsettled}}
use Rattle.point_exits.specs.Settling.{AreSettled, IsSettledEntry, IsSettledEnd, AreSettledEnds, IsSettledBy, IsSettledFor, AreSettledFrom}
use Rattle.point_exits.proofs.SettledEntries.{settled_if, IsSettledOf, settled_in, settled_from, settled_filled, settled_known, settled_held, settled_domain, settled_below}

-- the exits of a group have its decision
exit_decision : (pool : List Values) (g : ExitGroup) (xs : Ends) (x : Exit) → Among x (exits_by pool g xs) → x.decision ≡ g.decision
exit_decision pool g (ends.At points) x m = (let k = map_among (exit_at pool g g.entry) x points m in ap (λ (y : Exit). y.decision) k.2)
exit_decision pool g (ends.With xs) x m = (let k = map_among (λ (e : NumberEnd). exit_at pool g (with_end g.entry e) e.target) x xs m in ap (λ (y : Exit). y.decision) k.2)

module _ (app : App) (goes : ℕ → Bool) (pool : List Values) where
  -- the second exit is the first one, settled
  record IsSettledExit (x y : Exit) : Type 0 where
    target : y.target ≡ x.target
    decision : y.decision ≡ x.decision
    status : y.status ≡ x.status
    within : (value : ℕ → PartValue) → AreIn app x.entry value → AreIn app y.entry (λ c. settled_if (goes c) (value c))
    from : (value : ℕ → PartValue) → AreIn app y.entry value → IsSettledOf (λ c v. IsTrue (is_member (set_at x.entry c) v)) goes (component_count app) value
    filled : IsFilled app x.entry → IsFilled app y.entry

  module _ (g k : ExitGroup) (h : IsSettledBy goes pool g k) where
    settled_exit : (entry after : NumberedEntry) (p q : Point) → q ≡ p → IsSettledEntry goes pool entry after → IsSettledExit (exit_at pool g entry p) (exit_at pool k after q)
    settled_exit entry after p q same s = record {
      target = same;
      decision = h.decision;
      status = h.status;
      within = settled_in goes pool entry after s app;
      from = settled_from goes pool entry after s app;
      filled = settled_filled goes pool entry after s app;
    }

    record HasBefore (y : Exit) (xs : List Exit) : Type 0 where
      exit : Exit
      listed : Among exit xs
      settled : IsSettledExit exit y

    record HasAfter (x : Exit) (ys : List Exit) : Type 0 where
      exit : Exit
      listed : Among exit ys
      settled : IsSettledExit x exit

    abbrev end_exit : ExitGroup → NumberEnd → Exit
    end_exit group e = exit_at pool group (with_end group.entry e) e.target

    -- an end and the settled one
    module _ (e f : NumberEnd) (there : e.component < length g.entry.sets) (s : IsSettledEnd goes pool e f) where
      end_settled : IsSettledExit (end_exit g e) (end_exit k f)
      end_settled =
          subst (λ (i : ℕ). IsSettledExit (end_exit g e) (exit_at pool k (holding k.entry i f.numbers) f.target)) (sym s.component)
          (settled_exit (with_end g.entry e) (holding k.entry e.component f.numbers) e.target f.target s.target (settled_held goes pool g.entry k.entry h.entry e.component e.numbers f.numbers there s.numbers))

    before_at : (xs ys : Ends) → AreSettledEnds goes pool xs ys → AreKnownEnds pool g.entry xs → (y : Exit) → Among y (exits_by pool k ys) → HasBefore y (exits_by pool g xs)
    before_at (ends.At ps) ys e known y m =
        let p = map_among (exit_at pool k k.entry) y ps (subst (λ (zs : Ends). Among y (exits_by pool k zs)) e m) in
        record {
          exit = exit_at pool g g.entry p.0;
          listed = among_map (exit_at pool g g.entry) p.0 ps p.1;
          settled = subst (IsSettledExit (exit_at pool g g.entry p.0)) (sym p.2) (settled_exit g.entry k.entry p.0 p.0 refl h.entry);
        }
    before_at (ends.With xs) (ends.At ps) e known y m = absurd e
    before_at (ends.With xs) (ends.With ys) e known y m =
        let f = map_among (end_exit k) y ys m in
        let at = among_contained ys f.0 f.1 in
        let lt : at.0 < length xs = omega (arith, at.1, e.size) in
        let x : NumberEnd = get_or xs at.0 f.0 in
        let listed : Contains xs x = (at.0, lt, get_or_default xs at.0 x f.0 lt) in
        let s : IsSettledEnd goes pool x f.0 = subst (IsSettledEnd goes pool x) at.2 (e.each at.0 f.0 lt) in
        record {
          exit = end_exit g x;
          listed = among_map (end_exit g) x xs (contained_among xs x listed);
          settled = subst (IsSettledExit (end_exit g x)) (sym f.2) (end_settled x f.0 (known x listed).component s);
        }

    after_at : (xs ys : Ends) → AreSettledEnds goes pool xs ys → AreKnownEnds pool g.entry xs → (x : Exit) → Among x (exits_by pool g xs) → HasAfter x (exits_by pool k ys)
    after_at (ends.At ps) ys e known x m =
        let p = map_among (exit_at pool g g.entry) x ps m in
        record {
          exit = exit_at pool k k.entry p.0;
          listed = subst (λ (zs : Ends). Among (exit_at pool k k.entry p.0) (exits_by pool k zs)) (sym e) (among_map (exit_at pool k k.entry) p.0 ps p.1);
          settled = subst (λ (z : Exit). IsSettledExit z (exit_at pool k k.entry p.0)) (sym p.2) (settled_exit g.entry k.entry p.0 p.0 refl h.entry);
        }
    after_at (ends.With xs) (ends.At ps) e known x m = absurd e
    after_at (ends.With xs) (ends.With ys) e known x m =
        let f = map_among (end_exit g) x xs m in
        let at = among_contained xs f.0 f.1 in
        let lt : at.0 < length ys = omega (arith, at.1, e.size) in
        let y : NumberEnd = get_or ys at.0 f.0 in
        let s : IsSettledEnd goes pool f.0 y = subst (λ (z : NumberEnd). IsSettledEnd goes pool z y) at.2 (e.each at.0 f.0 at.1) in
        record {
          exit = end_exit k y;
          listed = among_map (end_exit k) y ys (contained_among ys y (at.0, lt, get_or_default ys at.0 y f.0 lt));
          settled = subst (λ (z : Exit). IsSettledExit z (end_exit k y)) (sym f.2) (end_settled f.0 y (known f.0 at).component s);
        }

    -- its numbers are those of values
    module _ (known : IsKnownGroup pool g) where
      numbers_there : (c : ℕ) (e f : Numbers) → AreSettled (goes c) (values_at pool c) e f → AreNumbersThere pool g.entry c e → AreNumbersThere pool k.entry c f
      numbers_there c e f s these = record {
        domain = settled_domain (goes c) (values_at pool c) e f s ∙ these.domain ∙ sym (settled_domain (goes c) (values_at pool c) (numbers_at g.entry c) (numbers_at k.entry c) (h.entry.each c));
        known = settled_below (goes c) (values_at pool c) e f these.known s;
      }

      end_known : (e f : NumberEnd) → IsSettledEnd goes pool e f → IsKnownEnd pool g.entry e → IsKnownEnd pool k.entry f
      end_known e f s these = record {
        component = (let lt = these.component in omega (arith, lt, s.component, h.entry.size));
        numbers = subst (λ (i : ℕ). AreNumbersThere pool k.entry i f.numbers) (sym s.component) (numbers_there e.component e.numbers f.numbers s.numbers these.numbers);
      }

      ends_known : (xs ys : Ends) → AreSettledEnds goes pool xs ys → AreKnownEnds pool g.entry xs → AreKnownEnds pool k.entry ys
      ends_known (ends.At ps) ys e these = subst (AreKnownEnds pool k.entry) (sym e) tt
      ends_known (ends.With xs) (ends.At ps) e these = absurd e
      ends_known (ends.With xs) (ends.With ys) e these = λ f m.
          (let lt : m.0 < length xs = omega (arith, m.1, e.size) in
          let x : NumberEnd = get_or xs m.0 f in
          let s : IsSettledEnd goes pool x f = subst (IsSettledEnd goes pool x) m.2 (e.each m.0 f lt) in
          end_known x f s (these x (m.0, lt, get_or_default xs m.0 x f lt)))

      pub group_known : IsKnownGroup pool k
      group_known = record {
        numbers = settled_known goes pool g.entry k.entry h.entry known.numbers;
        ends = ends_known g.ends k.ends h.ends known.ends;
      }

-- ---- what was decided

module _ (app : App) (pool : List Values) (leaving : Leaving) (after : NumberedEntry) (before now : List ExitGroup) (h : AddsFor app pool leaving after IsAny before now) where
  pub decided_known : AreKnownGroups pool before → AreKnownGroups pool now
  decided_known known = subst (AreKnownGroups pool) (sym h.added) (λ g m. elim (Contains-append_cases before h.more g m) [ inl old ↦ known g old | inr new ↦ h.known g new ])

-- ---- what was decided, settled

module _ (app : App) (pool : List Values) (leaving : Leaving) (after : NumberedEntry) (before now settled : List ExitGroup) (h : AddsFor app pool leaving after IsAny before now)
    (s : AreSettledFrom app pool leaving.stay (length before) now settled) (known : AreKnownGroups pool before) where
  abbrev goes : Decision → ℕ → Bool
  goes d = goes_inside app leaving.stay d

  size : length settled ≡ length before + length h.more
  size = s.size ∙ ap length h.added ∙ length-append before h.more

  -- an exit that is decided, of a group that is settled by its decision
  module _ (x y : Exit) (u : IsUnsettled app leaving (plain_entry pool after) x) (d : Decision) (is : x.decision ≡ Some d) (z : IsSettledExit app (goes d) pool x y) where
    decided_same : u.decision ≡ d
    decided_same = (let e : Some u.decision ≡ Some d = sym u.decides ∙ is in cc)

    decided : IsDecided app leaving (plain_entry pool after) y
    decided = record {
      decision = d;
      decides = z.decision ∙ is;
      status = z.status ∙ u.status;
      filled = z.filled u.filled;
      each = λ value within.
          (let b = z.from value within in
          record {
            before = b.before;
            within = u.within b.before b.there;
            decides = subst (Decides app b.before leaving) decided_same (u.each b.before b.there);
            target = z.target ∙ u.target b.before b.there ∙ ap (end_point app b.before (stay_point leaving.stay b.before)) decided_same;
            settles = b.settles;
          });
    }

  -- ---- the groups that came

  many : length now ≡ length before + length h.more
  many = ap length h.added ∙ length-append before h.more

  old_at : (i : ℕ) (d : ExitGroup) → i < length before → get_or settled i d ≡ get_or before i d
  old_at i d lt = s.first i d lt ∙ ap (λ (gs : List ExitGroup). get_or gs i d) h.added ∙ get_or_append_left before h.more d i lt

  new_at : (j : ℕ) (d : ExitGroup) → j < length h.more → IsSettledFor app pool leaving.stay (get_or h.more j d).decision (get_or h.more j d) (get_or settled (length before + j) d)
  new_at j d lt =
      let there : get_or now (length before + j) d ≡ get_or h.more j d = ap (λ (gs : List ExitGroup). get_or gs (length before + j) d) h.added ∙ get_or-append-add before h.more j d in
      subst (λ (g : ExitGroup). IsSettledFor app pool leaving.stay g.decision g (get_or settled (length before + j) d)) there (s.rest (length before + j) d (omega arith) (omega (arith, lt, many)))

  -- a group is one of those that there were, or a settled one
  record IsNew (k : ExitGroup) : Type 0 where
    group : ExitGroup
    listed : Contains h.more group
    by : IsSettledFor app pool leaving.stay group.decision group k

  which : (k : ExitGroup) → Contains settled k → Contains before k ⊎ IsNew k
  which k m = elim (cases_lt m.0 (length before)) [
    | inl old ↦ inl (m.0, old, sym (old_at m.0 k old) ∙ m.2)
    | inr new ↦
        (let j : ℕ = m.0 - length before in
        let at : length before + j ≡ m.0 = omega (arith, new) in
        let lt : j < length h.more = (let below = m.1 in omega (arith, below, size, at)) in
        inr (record {
          group = get_or h.more j k;
          listed = (j, lt, get_or_default h.more j (get_or h.more j k) k lt);
          by = subst (IsSettledFor app pool leaving.stay (get_or h.more j k).decision (get_or h.more j k)) (ap (λ (i : ℕ). get_or settled i k) at ∙ m.2) (new_at j k lt);
        }))
  ]

  in_more : (g : ExitGroup) (x : Exit) → Contains h.more g → Among x (exits_of pool g) → Contains (all_exits pool h.more) x
  in_more g x m among = among_contained (all_exits pool h.more) x (among_flat_map (exits_of pool) g x h.more (contained_among h.more g m) among)

  module _ (g k : ExitGroup) (m : Contains h.more g) where
    decided_by : (o : Option Decision) → g.decision ≡ o → IsSettledFor app pool leaving.stay o g k → (y : Exit) → Among y (exits_of pool k) → IsDecided app leaving (plain_entry pool after) y
    decided_by None e same y among =
        let here : Among y (exits_of pool g) = subst (λ (z : ExitGroup). Among y (exits_of pool z)) same among in
        let u = h.each y (in_more g y m here) in
        let none : Some u.decision ≡ None = sym u.decides ∙ exit_decision pool g g.ends y here ∙ e in
        absurd (cc)
    decided_by (Some d) e by y among =
        let b = before_at app (goes d) pool g k by g.ends k.ends by.ends (h.known g m).ends y among in
        decided b.exit y (h.each b.exit (in_more g b.exit m b.listed)) d (exit_decision pool g g.ends b.exit b.listed ∙ e) b.settled

    known_by : (o : Option Decision) → IsSettledFor app pool leaving.stay o g k → IsKnownGroup pool k
    known_by None same = subst (IsKnownGroup pool) (sym same) (h.known g m)
    known_by (Some d) by = group_known app (goes d) pool g k by (h.known g m)

  pub settled_groups_known : AreKnownGroups pool settled
  settled_groups_known k m = elim (which k m) [
    | inl old ↦ known k old
    | inr new ↦ known_by new.group k new.listed new.group.decision new.by
  ]

  in_settled : (j : ℕ) (d : ExitGroup) → j < length h.more → Contains settled (get_or settled (length before + j) d)
  in_settled j d lt =
      let below : length before + j < length settled = omega (arith, lt, size) in
      (length before + j, below, get_or_default settled (length before + j) (get_or settled (length before + j) d) d below)

  -- what is decided is an exit's of the settled group
  has_decided : (value : ℕ → PartValue) (d : Decision) (u : HasUnsettled app leaving (all_exits pool h.more) d value) (g k : ExitGroup) → Contains h.more g → Among u.exit (exits_of pool g) → Contains settled k → IsSettledBy (goes d) pool g k
      → HasDecided app leaving (all_exits pool settled) d value
  has_decided value d u g k m among there by =
      let z = after_at app (goes d) pool g k by g.ends k.ends by.ends (h.known g m).ends u.exit among in
      record {
        exit = z.exit;
        listed = among_contained (all_exits pool settled) z.exit (among_flat_map (exits_of pool) k z.exit settled (contained_among settled k there) z.listed);
        decision = z.settled.decision ∙ u.decision;
        status = z.settled.status ∙ u.status;
        within = z.settled.within value u.within;
        target = z.settled.target ∙ u.target;
      }

  pub settled_decided : AddsDecided app leaving (plain_entry pool after) (all_exits pool before) (all_exits pool settled)
  settled_decided = record {
    kept = λ x m.
        (let g = flat_map_among (exits_of pool) x before (contained_among (all_exits pool before) x m) in
        let at = among_contained before g.0 g.1 in
        let there : Contains settled g.0 = (at.0, (let below = at.1 in omega (arith, below, size)), old_at at.0 g.0 at.1 ∙ at.2) in
        among_contained (all_exits pool settled) x (among_flat_map (exits_of pool) g.0 x settled (contained_among settled g.0 there) g.2));
    each = λ y m.
        (let k = flat_map_among (exits_of pool) y settled (contained_among (all_exits pool settled) y m) in
        elim (which k.0 (among_contained settled k.0 k.1)) [
          | inl old ↦ inl (among_contained (all_exits pool before) y (among_flat_map (exits_of pool) k.0 y before (contained_among before k.0 old) k.2))
          | inr new ↦ inr (decided_by new.group k.0 new.listed new.group.decision refl new.by y k.2)
        ]);
    whole = λ value d within decides.
        (let u = h.whole value d within decides tt in
        let g = flat_map_among (exits_of pool) u.exit h.more (contained_among (all_exits pool h.more) u.exit u.listed) in
        let at = among_contained h.more g.0 g.1 in
        let new : IsSettledFor app pool leaving.stay g.0.decision g.0 (get_or settled (length before + at.0) g.0) =
        subst (λ (z : ExitGroup). IsSettledFor app pool leaving.stay z.decision z (get_or settled (length before + at.0) g.0)) at.2 (new_at at.0 g.0 at.1) in
        let is : g.0.decision ≡ Some d = sym (exit_decision pool g.0 g.0.ends u.exit g.2) ∙ u.decision in
        has_decided value d u g.0 (get_or settled (length before + at.0) g.0) at g.2 (in_settled at.0 g.0 at.1) (subst (λ (o : Option Decision). IsSettledFor app pool leaving.stay o g.0 (get_or settled (length before + at.0) g.0)) is new));
  }
