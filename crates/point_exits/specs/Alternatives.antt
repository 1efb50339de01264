-- The ends of cases that differ in one condition alone.
use Rattle.std.specs.Prelude.{◌≡◌, ◌⊎◌, ℕ, ◌<◌, List, length, IsTrue, IfSome, Contains}
use Rattle.osek_standard.specs.declared.{app.App.{App}, point.Point.{Point}}
use Rattle.abstract_state.specs.{declared.{value.PartValue.{PartValue}, table.PlainEntry.{PlainEntry}}, Domains.{IsWithin}, Tables.{set_at, is_member}}
use Rattle.flow_model.specs.declared.{case.EffectCase.{EffectCase}, test.Condition.{Condition}}
use Rattle.numbered_sets.specs.{declared.numbered_entry.NumberedEntry.{NumberedEntry}, Numbers.{Numbers}, NumberedEntries.{numbers_at, AreFilled}}
use Rattle.numbered_sets.specs.{Passing.{IsSifted}, Pools.{Values, values_at}, Views.{plain_entry, AreNumbersOf}}
use Rattle.flow_model.specs.Effects.{HaveKnownStays}
use Rattle.flow_effects.specs.{declared.effects.{Alternatives.{Alternatives}, Effects.{Effects}}, Alternatives.{alternative_cases, all_cases, AreApart}}
use Rattle.flow_exits.specs.Leaving.{effect_rule}
use Rattle.point_exits.specs.{declared.group.NumberEnd.{NumberEnd}, Applying.{KeepsDomains}}

-- each value of an entry is one of its component's domain
abbrev pub HasOwnValues : PlainEntry → Type 0
HasOwnValues entry = (c : ℕ) (v : PartValue) → c < length entry.sets → IsTrue (is_member (set_at entry c) v) → IsWithin (set_at entry c).domain v

-- Each of these cases, which differ in one condition alone, can be applied to numbers: each component has one, they are those of
-- values of their own domains, and so is what the case makes of these.
pub record MayApplyEach (app : App) (alternatives : Alternatives) (pool : List Values) (entry : NumberedEntry) : Type 0 where
  pub numbers : AreNumbersOf pool entry
  pub filled : AreFilled entry
  pub own : HasOwnValues (plain_entry pool entry)
  pub apart : AreApart app alternatives
  pub kept : (x : EffectCase) → Contains (alternative_cases alternatives) x → KeepsDomains (effect_rule x) (plain_entry pool entry)

-- All cases of these effects can be applied to numbers.
pub record MayTakeAll (app : App) (effects : Effects) (pool : List Values) (entry : NumberedEntry) : Type 0 where
  pub numbers : AreNumbersOf pool entry
  pub filled : AreFilled entry
  pub own : HasOwnValues (plain_entry pool entry)
  pub stays : HaveKnownStays app (all_cases effects)
  pub apart : IfSome effects.alternatives (AreApart app)
  pub kept : (x : EffectCase) → Contains (all_cases effects) x → KeepsDomains (effect_rule x) (plain_entry pool entry)

-- the numbers are those of the entry's values that pass
abbrev pub IsSiftedFor : List Values → NumberedEntry → Condition → Numbers → Type 0
IsSiftedFor pool entry y x = IsSifted (values_at pool y.component.0) y.test (numbers_at entry y.component.0) x

-- the end has them, and there is one
pub record IsPassingEnd (pool : List Values) (entry : NumberedEntry) (p : Point) (y : Condition) (x : NumberEnd) : Type 0 where
  pub component : x.component ≡ y.component.0
  pub target : x.target ≡ p
  pub sifted : IsSiftedFor pool entry y x.numbers
  pub some : 0 < x.numbers.bits

-- it is that of one of these conditions
pub record IsEndOfOne (pool : List Values) (entry : NumberedEntry) (ys : List Condition) (p : Point) (x : NumberEnd) : Type 0 where
  pub condition : Condition
  pub listed : Contains ys condition
  pub is : IsPassingEnd pool entry p condition x

pub record HasPassingEnd (pool : List Values) (entry : NumberedEntry) (p : Point) (y : Condition) (xs : List NumberEnd) : Type 0 where
  pub end : NumberEnd
  pub listed : Contains xs end
  pub is : IsPassingEnd pool entry p y end

-- no value passes
pub record NonePasses (pool : List Values) (entry : NumberedEntry) (y : Condition) : Type 0 where
  pub numbers : Numbers
  pub sifted : IsSiftedFor pool entry y numbers
  pub none : numbers.bits ≡ 0

-- Each condition that some value passes has its end.
pub record ArePassingEnds (pool : List Values) (entry : NumberedEntry) (ys : List Condition) (p : Point) (xs : List NumberEnd) : Type 0 where
  pub each : (x : NumberEnd) → Contains xs x → IsEndOfOne pool entry ys p x
  pub some : (y : Condition) → Contains ys y → HasPassingEnd pool entry p y xs ⊎ NonePasses pool entry y
