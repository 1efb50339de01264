-- The rows of exits: each is reached, and all that is reached is led to.
use Rattle.std.proofs.Common.{◌≡◌, ℕ, ◌<◌, false, List, map, IsTrue, refl, sym, subst, ◌∙◌, inl, inr, arith}
use Rattle.std.specs.Prelude.{Contains}
use Rattle.std.proofs.lemmas.Bool.{cases_eq, cases_lt}
use Rattle.osek_values.specs.declared.event.Event.{Event}
use Rattle.osek_standard.specs.{declared.{app.App.{App}, state.State.{State}, point.Point.{Point}}, Points.{point_of, IsPoint}, Kernel.{step}, Outcomes.{Silent, shows}}
use Rattle.osek_standard.proofs.{Members.{among_contained, among_map, contained_among, map_among}, StepKeeps.{step_keeps}}
use Rattle.abstract_state.specs.declared.{value.PartValue.{PartValue, TheVariants.{OfAlarm}}, table.{PlainEntry.{PlainEntry}, TableRow.{TableRow}}}
use Rattle.abstract_state.specs.{Components.{component_count, abstract_of, IsAllowed}, Domains.{domains, domains_of, HasMasks}}
use Rattle.abstract_state.specs.Tables.{Sets, In, Inductive, set_at, is_member, HasAscendingSets}
use Rattle.abstract_state.proofs.{AllowedLaws.{well_point, well_part}, RegularLaws.{step_regular}}
use Rattle.flow_model.specs.Effects.{AreAllAllowed, IsAt}
use Rattle.numbered_sets.specs.PlainTables.{row_at}
use Rattle.flow_exits.specs.{declared.exit.Exit.{Exit}, Exits.{CoverSteps, IsStepTo, IsExact, AreExact}}
use Rattle.point_exits.specs.Rows.{IsProperRow, IsRowIn}
use Rattle.state_flow.specs.Reaching.{IsLed, IsReached, Leads}
use Rattle.point_exits.proofs.ProperRows.{set_known, proper_row}

-- the row of an exit
abbrev pub exit_row : Exit → TableRow
exit_row x = row_at x.target x.entry

-- its sets are those of the components, each in order
abbrev pub IsOrdered : App → Exit → Type 0
IsOrdered app x = (domains x.entry ≡ domains_of app) × HasAscendingSets x.entry

-- a step by the exit from a state of the entry, after which component c has this value
record IsReachedBy (app : App) (p : Point) (entry : PlainEntry) (x : Exit) (c : ℕ) (v : PartValue) : Type 0 where
  from : State
  event : Event
  at : IsAt app p entry from
  target : point_of (step app from event).state ≡ x.target
  value : abstract_of app (step app from event).state c ≡ v

module _ (app : App) (p : Point) (entry : PlainEntry) (x : Exit) (exact : IsExact app p entry x) where
  -- a value of each set
  record Pick (k : ℕ) : Type 0 where
    pick : PartValue
    there : k < component_count app → IsTrue (is_member (set_at x.entry k) pick)

  some_picked : (k : ℕ) → Pick k
  some_picked k = elim (cases_lt k (component_count app)) [
    | inl below ↦ (let some = exact.filled k below in record { pick = some.value; there = λ lt. some.member })
    | inr above ↦ record { pick = OfAlarm false; there = λ lt. absurd (omega (arith, lt, above)) }
  ]

  -- with a chosen one at component c
  record PickWith (c : ℕ) (v : PartValue) (k : ℕ) : Type 0 where
    pick : Pick k
    chosen : k ≡ c → pick.pick ≡ v

  picked : (c : ℕ) (v : PartValue) → IsTrue (is_member (set_at x.entry c) v) → (k : ℕ) → PickWith c v k
  picked c v m k = elim (cases_eq k c) [
    | inl same ↦ record {
      pick = record { pick = v; there = λ lt. subst (λ (i : ℕ). IsTrue (is_member (set_at x.entry i) v)) (sym same) m };
      chosen = λ e. refl;
    }
    | inr other ↦ record { pick = some_picked k; chosen = λ e. absurd (other e) }
  ]

  some_step : IsStepTo app p entry x (λ k. (some_picked k).pick)
  some_step = exact.shown (λ k. (some_picked k).pick) (λ k lt. (some_picked k).there lt)

  step_with : (c : ℕ) (v : PartValue) → c < component_count app → IsTrue (is_member (set_at x.entry c) v) → IsReachedBy app p entry x c v
  step_with c v lt m =
      let s = exact.shown (λ k. (picked c v m k).pick.pick) (λ k below. (picked c v m k).pick.there below) in
      record { from = s.from; event = s.event; at = s.at; target = s.target; value = s.parts c lt ∙ (picked c v m c).chosen refl }

  target_point : IsPoint app x.target
  target_point = subst (IsPoint app) some_step.target (well_point app (step app some_step.from some_step.event).state (step_keeps app some_step.from some_step.event some_step.at.well))

  values_allowed : AreAllAllowed app x.target x.entry
  values_allowed c v lt m =
      let r = step_with c v lt m in
      let s = (step app r.from r.event).state in
      subst (IsAllowed app x.target c) r.value
      (subst (λ (q : Point). IsAllowed app q c (abstract_of app s c)) r.target (well_part app s (step_keeps app r.from r.event r.at.well) (step_regular app r.from r.event r.at.well r.at.regular) c lt))

  -- what an inductive table has of the entry's point, it has of the exit
  module _ (other : Sets) (inductive : Inductive app other) (has : IsRowIn other (row_at p entry)) where
    at_in : (s : State) → IsAt app p entry s → In app other s
    at_in s at = record {
      well = at.well;
      regular = at.regular;
      entry = subst (λ (q : Point). IsTrue (other.entry q)) (sym at.point) has.entry;
      within = λ c lt. subst (λ (q : Point). IsTrue (other.has q c (abstract_of app s c))) (sym at.point) (has.has c (abstract_of app s c) (at.within c lt));
    }

    target_contained : IsTrue (other.entry x.target)
    target_contained =
        let after = inductive.step some_step.from some_step.event (at_in some_step.from some_step.at) in
        subst (λ (q : Point). IsTrue (other.entry q)) some_step.target after.entry

    value_contained : (c : ℕ) (v : PartValue) → c < component_count app → IsTrue (is_member (set_at x.entry c) v) → IsTrue (other.has x.target c v)
    value_contained c v lt m =
        let r = step_with c v lt m in
        let after = inductive.step r.from r.event (at_in r.from r.at) in
        subst (λ (w : PartValue). IsTrue (other.has x.target c w)) r.value
        (subst (λ (q : Point). IsTrue (other.has q c (abstract_of app (step app r.from r.event).state c))) r.target (after.within c lt))

  module _ (masks : HasMasks app) (ordered : IsOrdered app x) where
    proper_exit : IsProperRow app (exit_row x)
    proper_exit = proper_row app masks x.target x.entry target_point ordered.0 ordered.1 values_allowed exact.filled

    exit_reached : IsReached app p entry (exit_row x)
    exit_reached = record {
      proper = proper_exit;
      least = λ other inductive has. record {
        entry = target_contained other inductive has;
        has = λ c v m. value_contained other inductive has c v (set_known app x.entry c v ordered.0 m) m;
      };
    }

module _ (app : App) (masks : HasMasks app) (p : Point) (entry : PlainEntry) (exits : List Exit) (exact : AreExact app p entry exits) (ordered : (x : Exit) → Contains exits x → IsOrdered app x) where
  -- the row of an exit is a proper table's
  pub exit_row_proper : (x : Exit) → Contains exits x → IsProperRow app (exit_row x)
  exit_row_proper x listed = proper_exit app p entry x (exact x listed) masks (ordered x listed)

  each_reached : (row : TableRow) → Contains (map exit_row exits) row → IsReached app p entry row
  each_reached row m =
      let x = map_among exit_row row exits (contained_among (map exit_row exits) row m) in
      let listed = among_contained exits x.0 x.1 in
      subst (IsReached app p entry) (sym x.2) (exit_reached app p entry x.0 (exact x.0 listed) masks (ordered x.0 listed))

  step_led : CoverSteps app p entry exits → (s : State) (e : Event) → IsAt app p entry s → (shows app s e ≡ Silent → ⊥) → IsLed app (map exit_row exits) (step app s e).state
  step_led covers s e at some =
      let by = covers s e at some in
      let row = exit_row by.exit in
      record {
        row = row;
        listed = among_contained (map exit_row exits) row (among_map exit_row by.exit exits (contained_among exits by.exit by.listed));
        point = by.by.target;
        within = by.by.within;
      }

-- The rows of a point's exits are what its steps lead to.
pub exits_lead : (app : App) → HasMasks app → (p : Point) (entry : PlainEntry) → IsProperRow app (row_at p entry) → (exits : List Exit) → CoverSteps app p entry exits → AreExact app p entry exits
    → ((x : Exit) → Contains exits x → (domains x.entry ≡ domains_of app) × HasAscendingSets x.entry) → Leads app p entry (map (λ (x : Exit). row_at x.target x.entry) exits)
exits_lead app masks p entry proper exits covers exact ordered = record { covers = step_led app masks p entry exits exact ordered covers; each = each_reached app masks p entry exits exact ordered }
