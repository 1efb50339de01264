-- What settling makes of groups of exits: the task that has the processor after their decision comes in.
use Rattle.std.specs.{Prelude.{◌≡◌, ℕ, ◌<◌, ◌≤◌, Bool, true, false, List, length, slice_index_or, Some, None}, declared.option.Option.{Option}}
use Rattle.osek_standard.specs.declared.app.App.{App}
use Rattle.abstract_state.specs.declared.value.PartValue.{PartValue}
use Rattle.flow_model.specs.declared.case.{Decision.{Decision}, Stay.{Stay}}
use Rattle.flow_model.specs.declared.change.Update.TheVariants as update
use Rattle.flow_model.specs.{Tests.{updated}, Scheduling.{goes_inside}}
use Rattle.numbered_sets.specs.{declared.numbered_entry.NumberedEntry.{NumberedEntry}, Numbers.{Numbers}, NumberedEntries.{numbers_at}, Pools.{Values, values_at}, Made.{AreMade}}
use Rattle.point_exits.specs.declared.group.{NumberEnd.{NumberEnd}, Ends.{Ends}, ExitGroup.{ExitGroup}}
use Rattle.point_exits.specs.declared.group.Ends.TheVariants as ends

-- the numbers of the values inside, where they go inside, and else the same numbers
abbrev pub AreSettled : Bool → List PartValue → Numbers → Numbers → Type 0
AreSettled true vs old new = AreMade (updated update.Inside) vs old (length vs) new
AreSettled false vs old new = new ≡ old

-- so it is of each component, by whether it goes inside
pub record IsSettledEntry (goes : ℕ → Bool) (pool : List Values) (entry after : NumberedEntry) : Type 0 where
  pub size : length after.sets ≡ length entry.sets
  pub each : (c : ℕ) → AreSettled (goes c) (values_at pool c) (numbers_at entry c) (numbers_at after c)

-- and of the numbers of an end
pub record IsSettledEnd (goes : ℕ → Bool) (pool : List Values) (end after : NumberEnd) : Type 0 where
  pub component : after.component ≡ end.component
  pub target : after.target ≡ end.target
  pub numbers : AreSettled (goes end.component) (values_at pool end.component) end.numbers after.numbers

-- of each end
pub record AreSettledEach (goes : ℕ → Bool) (pool : List Values) (before after : List NumberEnd) : Type 0 where
  pub size : length after ≡ length before
  pub each : (i : ℕ) (d : NumberEnd) → i < length before → IsSettledEnd goes pool (slice_index_or before i d) (slice_index_or after i d)

abbrev pub AreSettledEnds : (ℕ → Bool) → List Values → Ends → Ends → Type 0
AreSettledEnds goes pool (ends.At points) after = after ≡ ends.At points
AreSettledEnds goes pool (ends.With xs) (ends.At points) = ⊥
AreSettledEnds goes pool (ends.With xs) (ends.With ys) = AreSettledEach goes pool xs ys

pub record IsSettledBy (goes : ℕ → Bool) (pool : List Values) (group after : ExitGroup) : Type 0 where
  pub decision : after.decision ≡ group.decision
  pub status : after.status ≡ group.status
  pub entry : IsSettledEntry goes pool group.entry after.entry
  pub ends : AreSettledEnds goes pool group.ends after.ends

-- a group by which a routine begins stays as it is
abbrev pub IsSettledFor : App → List Values → Stay → Option Decision → ExitGroup → ExitGroup → Type 0
IsSettledFor app pool x None group after = after ≡ group
IsSettledFor app pool x (Some d) group after = IsSettledBy (goes_inside app x d) pool group after

abbrev pub IsSettledGroup : App → List Values → Stay → ExitGroup → ExitGroup → Type 0
IsSettledGroup app pool x group after = IsSettledFor app pool x group.decision group after

-- The groups from a place on were settled.
pub record AreSettledFrom (app : App) (pool : List Values) (x : Stay) (from : ℕ) (before after : List ExitGroup) : Type 0 where
  pub size : length after ≡ length before
  pub first : (i : ℕ) (d : ExitGroup) → i < from → slice_index_or after i d ≡ slice_index_or before i d
  pub rest : (i : ℕ) (d : ExitGroup) → from ≤ i → i < length before → IsSettledGroup app pool x (slice_index_or before i d) (slice_index_or after i d)
