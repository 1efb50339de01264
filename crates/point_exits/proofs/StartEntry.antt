-- The row of a start: the start is in it, and each inductive table has it.
use Rattle.std.proofs.Common.{◌≡◌, ℕ, ◌<◌, true, List, [], ◌∷◌, length, map, get_or, IsTrue, refl, sym, ap, subst, ◌∙◌, inl, inr, arith, Result, Ok, Err}
use Rattle.std.proofs.lemmas.{Bool.{or_cases, or_left}, List.{get_or-map, get_or_default, Elements.{All-map}}}
use Rattle.std.specs.Prelude.{IfOk}
use Rattle.osek_values.specs.{Numbers.{alarm_no}, declared.{memory.Memory.{Memory}, numbers.ModeNo.{ModeNo}}}
use Rattle.osek_standard.specs.{declared.{app.App.{App}, state.State.{State}}, Kernel.{start}, Points.{point_of}, Well.{Well}}
use Rattle.abstract_state.specs.declared.value.{Component.{Component}, Domain.{Domain}, PartValue.{PartValue}}
use Rattle.abstract_state.specs.declared.value.Component.TheVariants as component
use Rattle.abstract_state.specs.declared.table.{ValueSet.{ValueSet}, TableRow.{TableRow}}
use Rattle.abstract_state.specs.{Components.{components, component_at, component_count, part_of, abstract_of, IsAllowed, IsComponent}, ValueOrder.{same_part, IsAscending}}
use Rattle.abstract_state.specs.{Domains.{domain_of, domains, domains_of, HasMasks}, Tables.{Sets, Inductive, set_at, is_member, empty_set, HasAscendingSets}}
use Rattle.abstract_state.specs.Regular.{IsRegular}
use Rattle.abstract_state.proofs.{ComponentLaws.{component_known}, OrderLaws.{part_itself, part_right, ascending_one}, AllowedLaws.{well_point, well_part}}
use Rattle.flow_model.specs.Effects.{AreIn}
use Rattle.numbered_sets.specs.PlainTables.{row_at}
use Rattle.point_exits.specs.{Rows.{IsProperRow, IsRowIn}, Starts.{HasPart, single, entry_of, IsStartRow}}
use Rattle.point_exits.proofs.ProperRows.{set_known, proper_row}

-- a component of the list is the application's
pub listed_component : (app : App) (items : List Component) (i : ℕ) (d : Component) → items ≡ components app → i < length items → IsComponent app (get_or items i d)
listed_component app items i d is lt =
    let known : i < component_count app = omega (arith, lt, ap length is) in
    subst (IsComponent app) (get_or_default (components app) i (component.Alarm (alarm_no 0)) d known ∙ ap (λ (xs : List Component). get_or xs i d) (sym is)) (component_known app i known)

-- the one value of a set
has_only : (d : Domain) (v : PartValue) → is_member (single d v) v ≡ true
has_only d v = or_left (same_part v v) (is_member (record { domain = d; members = [] }) v) (part_itself v)

only_has : (d : Domain) (v w : PartValue) → is_member (single d v) w ≡ true → w ≡ v
only_has d v w m = elim (or_cases (same_part w v) (is_member (record { domain = d; members = [] }) w) m) [
  | inl same ↦ part_right w v same
  | inr none ↦ absurd (cc)
]

module _ (app : App) (s : State) where
  -- the set of one component
  abbrev pub set_of : Component → ValueSet
  set_of k = single (domain_of app k) (part_of s k)

  set_there : (c : ℕ) → c < component_count app → set_at (entry_of app s) c ≡ single (domain_of app (component_at app c)) (abstract_of app s c)
  set_there c lt = get_or-map set_of (components app) c (component.Alarm (alarm_no 0)) empty_set lt

  same_domains : (ks : List Component) → map (λ (set : ValueSet). set.domain) (map set_of ks) ≡ map (domain_of app) ks
  same_domains [] = refl
  same_domains (k ∷ ks) = ap (λ (ds : List Domain). domain_of app k ∷ ds) (same_domains ks)

  pub entry_domains : domains (entry_of app s) ≡ domains_of app
  entry_domains = same_domains (components app)

  pub entry_ascends : HasAscendingSets (entry_of app s)
  entry_ascends = All-map (λ (set : ValueSet). IsAscending set.members) set_of (components app) (λ i d lt. ascending_one (part_of s (get_or (components app) i d)))

  pub entry_has : AreIn app (entry_of app s) (abstract_of app s)
  entry_has c lt = ap (λ (set : ValueSet). is_member set (abstract_of app s c)) (set_there c lt) ∙ has_only (domain_of app (component_at app c)) (abstract_of app s c)

  pub entry_only : (c : ℕ) (v : PartValue) → c < component_count app → IsTrue (is_member (set_at (entry_of app s) c) v) → v ≡ abstract_of app s c
  entry_only c v lt m = only_has (domain_of app (component_at app c)) (abstract_of app s c) v (sym (ap (λ (set : ValueSet). is_member set v) (set_there c lt)) ∙ m)

  -- a component's tables are as long as the application's
  pub part_there : Well app s → (k : Component) → IsComponent app k → HasPart s k
  part_there w (component.Task t) h = omega (arith, h, w.tasks_len)
  part_there w (component.Event t k) h = (omega (arith, h.0, w.tasks_len), h.1)
  part_there w (component.Alarm a) h = omega (arith, h, w.alarms_len)
  part_there w (component.Source k) h = omega (arith, h, w.sources_len)

-- the row of a well-formed and regular state is proper
pub row_proper : (app : App) → HasMasks app → (s : State) → Well app s → IsRegular app s → IsProperRow app (row_at (point_of s) (entry_of app s))
row_proper app masks s well regular =
    proper_row app masks (point_of s) (entry_of app s) (well_point app s well) (entry_domains app s) (entry_ascends app s)
    (λ c v lt m. subst (IsAllowed app (point_of s) c) (sym (entry_only app s c v lt m)) (well_part app s well regular c lt))
    (λ c lt. record { value = abstract_of app s c; member = entry_has app s c lt })

module _ (app : App) (mode : ModeNo) (known : mode.0 < length app.modes) where
  abbrev state : State
  state = (start app mode).state

  start_in : (other : Sets) → Inductive app other → IsRowIn other (row_at (point_of state) (entry_of app state))
  start_in other inductive =
      let there = inductive.start mode known in
      record {
        entry = there.entry;
        has = λ c v m.
            let lt = set_known app (entry_of app state) c v (entry_domains app state) m in
            subst (λ (w : PartValue). IsTrue (other.has (point_of state) c w)) (sym (entry_only app state c v lt m)) (there.within c lt);
      }

  -- the row of the start's state is the start's
  pub start_row_is : (s : State) (row : TableRow) → state ≡ s → row ≡ row_at (point_of s) (entry_of app s) → IsProperRow app row → IsStartRow app mode row
  start_row_is s row is at proper =
      let here : row ≡ row_at (point_of state) (entry_of app state) = at ∙ ap (λ (x : State). row_at (point_of x) (entry_of app x)) (sym is) in
      record {
        proper = proper;
        point = ap (λ (x : TableRow). x.point) (sym here);
        within = subst (λ (x : TableRow). AreIn app x.entry (abstract_of app state)) (sym here) (entry_has app state);
        least = λ other inductive. subst (IsRowIn other) (sym here) (start_in other inductive);
      }

  -- so it is with a result
  pub start_row_told : (s : State) (r : Result TableRow Memory) → state ≡ s → IfOk r (λ row. row ≡ row_at (point_of s) (entry_of app s)) → IfOk r (IsProperRow app) → IfOk r (IsStartRow app mode)
  start_row_told s (Ok row) is at proper = start_row_is s row is at proper
  start_row_told s (Err e) is at proper = tt

  pub start_row_same : (s : State) (r : Result TableRow Memory) → state ≡ s → IfOk r (λ row. row ≡ row_at (point_of s) (entry_of app s)) → IfOk r (λ row. row ≡ row_at (point_of state) (entry_of app state))
  start_row_same s (Ok row) is at = at ∙ ap (λ (x : State). row_at (point_of x) (entry_of app x)) (sym is)
  start_row_same s (Err e) is at = tt
