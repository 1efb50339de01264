-- Entries that allowed values fill are rows of a proper table.
use Rattle.std.proofs.Common.{◌≡◌, ℕ, ◌<◌, List, length, get_or, sym, ap, subst, ◌∙◌, inl, inr, arith, true, IsTrue}
use Rattle.std.proofs.{lemmas.{List.{get_or_default, length-map, get_or_past}, Map.Views.{All-from_any}}, Math.ListN.{get_or-map}}
use Rattle.osek_values.specs.Numbers.{alarm_no}
use Rattle.osek_standard.specs.{declared.{app.App.{App}, point.Point.{Point}}, Points.{IsPoint}}
use Rattle.abstract_state.specs.declared.value.Domain.{Domain}
use Rattle.abstract_state.specs.declared.value.Component.TheVariants as component
use Rattle.abstract_state.specs.{declared.table.{ValueSet.{ValueSet}, PlainEntry.{PlainEntry}}, Components.{components, component_at, component_count}, ValueOrder.{IsAscending}}
use Rattle.abstract_state.specs.{Domains.{IsWithin, domain_of, domains, domains_of, HasMasks, IsSound, IsSoundEntry}, Tables.{set_at, empty_set, HasAscendingSets, is_member}}
use Rattle.abstract_state.proofs.{OrderLaws.{part_laws}, DomainValues.{allowed_within}, HeightLaws.{entry_height_is, height_few}}
use Rattle.flow_model.specs.Effects.{AreAllAllowed}
use Rattle.numbered_sets.specs.PlainTables.{row_at}
use Rattle.flow_exits.specs.Exits.{IsFilled}
use Rattle.point_exits.specs.Rows.{IsProperRow}
use Rattle.std.proofs.lemmas.Bool.{cases_lt}
use Rattle.abstract_state.specs.declared.value.PartValue.{PartValue}

-- an entry has a set for each component
pub as_many_sets : (app : App) (entry : PlainEntry) → domains entry ≡ domains_of app → length entry.sets ≡ component_count app
as_many_sets app entry e = sym (length-map entry.sets (λ (set : ValueSet). set.domain)) ∙ ap length e ∙ length-map (components app) (domain_of app)

pub set_known : (app : App) (entry : PlainEntry) (c : ℕ) (v : PartValue) → domains entry ≡ domains_of app → IsTrue (is_member (set_at entry c) v) → c < component_count app
set_known app entry c v e m = elim (cases_lt c (component_count app)) [
  | inl below ↦ below
  | inr above ↦
      (let past : set_at entry c ≡ empty_set = get_or_past entry.sets c empty_set (omega (arith, above, as_many_sets app entry e)) in
      let none : is_member empty_set v ≡ true = ap (λ (set : ValueSet). is_member set v) (sym past) ∙ m in
      absurd (cc))
]

module _ (app : App) (masks : HasMasks app) where
  -- the domain of a set of the entry
  domain_at : (entry : PlainEntry) (c : ℕ) → domains entry ≡ domains_of app → c < component_count app → (set_at entry c).domain ≡ domain_of app (component_at app c)
  domain_at entry c e lt =
      sym (get_or-map (λ (s : ValueSet). s.domain) entry.sets c empty_set)
      ∙ ap (λ (ds : List Domain). get_or ds c empty_set.domain) e
      ∙ get_or-map (domain_of app) (components app) c (component.Alarm (alarm_no 0))

  -- an ascending entry of allowed values is sound
  pub sound_entry : (p : Point) (entry : PlainEntry) → domains entry ≡ domains_of app → HasAscendingSets entry → AreAllAllowed app p entry → IsSoundEntry entry
  sound_entry p entry same up allowed = record {
    sets = λ c d lt.
        let known : c < component_count app = omega (arith, lt, as_many_sets app entry same) in
        let set = get_or entry.sets c d in
        let is : set_at entry c ≡ set = get_or_default entry.sets c empty_set d lt in
        subst IsSound is (record {
          within = All-from_any part_laws (IsWithin (set_at entry c).domain) (set_at entry c).members (λ v m.
              subst (λ (x : Domain). IsWithin x v) (sym (domain_at entry c same known)) (allowed_within app p c v known (allowed c v known m)));
          ascending = subst (λ (s : ValueSet). IsAscending s.members) (sym is) (up c d lt);
        });
    few = omega (arith, entry_height_is app masks entry same, height_few app masks);
  }

  -- an entry that allowed values fill is a proper row's
  pub proper_row : (p : Point) (entry : PlainEntry) → IsPoint app p → domains entry ≡ domains_of app → HasAscendingSets entry → AreAllAllowed app p entry → IsFilled app entry → IsProperRow app (row_at p entry)
  proper_row p entry at same up allowed filled = record {
    row = record { point = at; sound = sound_entry p entry same up allowed; domains = same };
    allowed = allowed;
    filled = filled;
  }
