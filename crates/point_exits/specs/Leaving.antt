-- The exits of a point, one routine and one effect after another, in a pool that grows.
use Rattle.std.specs.Prelude.{◌≡◌, ◌⊎◌, ℕ, Bool, true, ◌==◌, ◌&&◌, List, [], ◌∷◌, ◌++◌, length, take, slice_index_or, Contains}
use Rattle.osek_standard.specs.declared.{app.App.{App}, point.Point.{Point}}
use Rattle.abstract_state.specs.declared.{table.PlainEntry.{PlainEntry}, value.PartValue.{PartValue}}
use Rattle.flow_model.specs.declared.change.Change.{Change}
use Rattle.flow_model.specs.declared.change.Update.TheVariants as update
use Rattle.flow_model.specs.{declared.{case.EffectCase.{EffectCase}, rule.Rule.{Rule}}, Effects.{AreAllAllowed, IsKnownStay, HaveKnownStays, CoverEffects, AreExactEffects}}
use Rattle.flow_model.specs.Rules.{Applies}
use Rattle.numbered_sets.specs.{declared.numbered_entry.NumberedEntry.{NumberedEntry}, Pools.{Values, IsLonger}, Views.{plain_entry}}
use Rattle.flow_exits.specs.{Arrivals.{AreArrivals}, declared.exit.Exit.{Exit}, Leaving.{IsOfEffects, HasExitsFor, IsArrivalExit, HasArrivalsFor, effect_rule}}
use Rattle.point_exits.specs.declared.{group.{NumberEnd.{NumberEnd}, ExitGroup.{ExitGroup}}, levels.Levels.{Levels}}
use Rattle.point_exits.specs.{Applying.{IsAloneIn, MayApply}, Groups.{with_end, all_exits, IsKnownEnd, AreKnownGroups}, Levels.{AreAllLevels}, Deciding.{IsWhole}}

-- exits by which routines begin come to others, those of the rules with a property among them
pub record AddsRoutines (app : App) (p : Point) (entry : PlainEntry) (P : Rule → Type 0) (pool : List Values) (before : List ExitGroup) (after : List Values) (now : List ExitGroup) : Type 0 where
  pub longer : IsLonger pool after
  pub known : AreKnownGroups after now
  pub kept : (x : Exit) → Contains (all_exits pool before) x → Contains (all_exits after now) x
  pub each : (x : Exit) → Contains (all_exits after now) x → Contains (all_exits pool before) x ⊎ IsArrivalExit app p entry x
  pub some : (rule : Rule) → P rule → HasArrivalsFor app rule entry (all_exits after now)

-- a rule that takes all values, and changes one component
abbrev pub is_bare : Rule → Bool
is_bare rule = (length rule.conditions == 0) && (length rule.changes == 1)

-- one of the first rules, which is bare or isn't
pub record IsAmongFirst (rules : List Rule) (i : ℕ) (bare : Bool) (rule : Rule) : Type 0 where
  pub listed : Contains (take i rules) rule
  pub is : is_bare rule ≡ bare

-- With the numbers of the end an entry is what the rule makes of its values, in a pool that grew, and the step ends where the rule's does.
pub record IsEndOf (rule : Rule) (entry : NumberedEntry) (before pool : List Values) (x : NumberEnd) : Type 0 where
  pub target : x.target ≡ rule.target
  pub known : IsKnownEnd pool entry x
  pub applies : Applies rule (plain_entry before entry) (plain_entry pool (with_end entry x))

-- the end has the number alone of the value that the rule's first change sets
pub record IsSetEnd (rule : Rule) (pool : List Values) (x : NumberEnd) : Type 0 where
  pub change : Change
  pub first : slice_index_or rule.changes 0 change ≡ change
  pub value : PartValue
  pub sets : change.update ≡ update.Set value
  pub component : x.component ≡ change.component.0
  pub target : x.target ≡ rule.target
  pub alone : IsAloneIn pool x.component value x.numbers

-- an end of the rule comes last
pub record AddsEnd (rule : Rule) (entry : NumberedEntry) (pool : List Values) (before : List NumberEnd) (after : List Values) (now : List NumberEnd) : Type 0 where
  pub end : NumberEnd
  pub added : now ≡ before ++ end ∷ []
  pub is : IsEndOf rule entry pool after end

-- it is an end of a bare rule of these
pub record IsSharedEnd (rules : List Rule) (i : ℕ) (entry : NumberedEntry) (before pool : List Values) (x : NumberEnd) : Type 0 where
  pub rule : Rule
  pub among : IsAmongFirst rules i true rule
  pub is : IsEndOf rule entry before pool x

pub record HasSharedEnd (rule : Rule) (entry : NumberedEntry) (before pool : List Values) (ends : List NumberEnd) : Type 0 where
  pub end : NumberEnd
  pub listed : Contains ends end
  pub is : IsEndOf rule entry before pool end

-- the ends of the first rules that are bare
pub record AreSharedEnds (rules : List Rule) (i : ℕ) (entry : NumberedEntry) (before pool : List Values) (ends : List NumberEnd) : Type 0 where
  pub each : (x : NumberEnd) → Contains ends x → IsSharedEnd rules i entry before pool x
  pub some : (rule : Rule) → IsAmongFirst rules i true rule → HasSharedEnd rule entry before pool ends

-- the exits by which routines may begin at the point come to others
pub record AddsArrivals (app : App) (p : Point) (entry : PlainEntry) (pool : List Values) (before : List ExitGroup) (after : List Values) (now : List ExitGroup) : Type 0 where
  pub rules : List Rule
  pub are : AreArrivals app p rules
  pub added : AddsRoutines app p entry (Contains rules) pool before after now

-- An effect can be applied to numbers, and the task exists at whose block the processor may stay.
pub record MayTakeEffect (app : App) (effect : EffectCase) (pool : List Values) (entry : NumberedEntry) : Type 0 where
  pub applies : MayApply (effect_rule effect) pool entry
  pub stay : IsKnownStay app effect.leaving.stay

-- These are what the effect makes of the values that it takes, in a pool that grew, and all values have their levels there.
pub record IsAfter (app : App) (effect : EffectCase) (entry : NumberedEntry) (pool grown : List Values) (levels : Levels) (after : NumberedEntry) : Type 0 where
  pub all : AreAllLevels app grown levels
  pub whole : IsWhole app grown after
  pub applies : Applies (effect_rule effect) (plain_entry pool entry) (plain_entry grown after)

-- the exits of these effects come to others
pub record AddsEffects (app : App) (entry : PlainEntry) (effects : List EffectCase) (pool : List Values) (before : List ExitGroup) (after : List Values) (now : List ExitGroup) : Type 0 where
  pub longer : IsLonger pool after
  pub known : AreKnownGroups after now
  pub kept : (x : Exit) → Contains (all_exits pool before) x → Contains (all_exits after now) x
  pub each : (x : Exit) → Contains (all_exits after now) x → Contains (all_exits pool before) x ⊎ IsOfEffects app effects entry x
  pub some : (effect : EffectCase) → Contains effects effect → HasExitsFor app effect entry (all_exits after now)

-- so do those of the effects of the instructions at the point
pub record AddsInstructions (app : App) (p : Point) (entry : PlainEntry) (pool : List Values) (before : List ExitGroup) (after : List Values) (now : List ExitGroup) : Type 0 where
  pub effects : List EffectCase
  pub stays : HaveKnownStays app effects
  pub covering : CoverEffects app p entry effects
  pub exact : AreAllAllowed app p entry → AreExactEffects app p entry effects
  pub added : AddsEffects app entry effects pool before after now
