-- What a rule makes of the values of one component.
use Rattle.std.specs.{Prelude.{◌≡◌, ◌<◌, ℕ, List, length, IsTrue}, List.{list_any}}
use Rattle.osek_standard.specs.declared.app.App.{App}
use Rattle.abstract_state.specs.declared.{value.{PartValue.{PartValue}, Domain.{Domain}}, table.{ValueSet.{ValueSet}, PlainEntry.{PlainEntry}}}
use Rattle.abstract_state.specs.{ValueOrder.{same_part, IsAscending}, Components.{component_at, component_count}, Domains.{IsWithin, domain_of}, Tables.{is_member}}
use Rattle.flow_model.specs.{declared.rule.Rule.{Rule}, Effects.{AreIn}, Tests.{PassesAt, PassesAll, value_after}, Rules.{Taken}}

-- a value of a list that the rule takes, and what it makes of it
pub record Origin (rule : Rule) (c : ℕ) (old : List PartValue) (v : PartValue) : Type 0 where
  pub was : PartValue
  pub there : IsTrue (list_any (same_part was) old)
  pub passes : PassesAt rule.conditions c was
  pub becomes : value_after rule.changes c was ≡ v

-- exactly what the rule makes of the values of a list that pass
pub record ArePassed (rule : Rule) (c : ℕ) (d : Domain) (old : List PartValue) (new : ValueSet) : Type 0 where
  pub domain : new.domain ≡ d
  pub ascending : IsAscending new.members
  pub from : (v : PartValue) → IsTrue (is_member new v) → Origin rule c old v
  pub to : (v : PartValue) → IsTrue (list_any (same_part v) old) → PassesAt rule.conditions c v → IsTrue (is_member new (value_after rule.changes c v))

-- each set has a value that the rule takes
abbrev pub AreTaken : Rule → PlainEntry → Type 0
AreTaken rule entry = (c : ℕ) → c < length entry.sets → Taken rule entry c

-- What the rule makes of the entry's values that pass lies in their components' domains.
abbrev pub StaysInDomains : App → PlainEntry → Rule → Type 0
StaysInDomains app entry rule =
    (value : ℕ → PartValue) → AreIn app entry value → PassesAll app rule.conditions value → (c : ℕ) → c < component_count app → IsWithin (domain_of app (component_at app c)) (value_after rule.changes c (value c))
