-- The exits that groups of numbers stand for.
use Rattle.std.specs.{Prelude.{◌≡◌, ⊤, ℕ, ◌<◌, List, length, map, slice_set, IsTrue, Contains}, List.{flat_map}}
use Rattle.osek_standard.specs.declared.point.Point.{Point}
use Rattle.numbered_sets.specs.{declared.numbered_entry.NumberedEntry.{NumberedEntry}, Numbers.{Numbers, has_number}, NumberedEntries.{numbers_at}, Pools.{Values, values_at}}
use Rattle.numbered_sets.specs.Views.{plain_entry, AreNumbersOf}
use Rattle.flow_exits.specs.declared.exit.Exit.{Exit}
use Rattle.point_exits.specs.declared.group.{NumberEnd.{NumberEnd}, Ends.{Ends}, ExitGroup.{ExitGroup}}
use Rattle.point_exits.specs.declared.group.Ends.TheVariants as ends

-- the entry with these numbers alone of component c
abbrev pub holding : NumberedEntry → ℕ → Numbers → NumberedEntry
holding entry c x = record { sets = slice_set entry.sets c x }

-- the entry with the numbers of an end
abbrev pub with_end : NumberedEntry → NumberEnd → NumberedEntry
with_end entry x = holding entry x.component x.numbers

-- an exit of the group, at a point, with these numbers
abbrev pub exit_at : List Values → ExitGroup → NumberedEntry → Point → Exit
exit_at pool g entry p = record { target = p; decision = g.decision; status = g.status; entry = plain_entry pool entry }

abbrev pub exits_by : List Values → ExitGroup → Ends → List Exit
exits_by pool g (ends.At points) = map (exit_at pool g g.entry) points
exits_by pool g (ends.With xs) = map (λ (x : NumberEnd). exit_at pool g (with_end g.entry x) x.target) xs

-- The exits of a group, and those of groups in a row.
abbrev pub exits_of : List Values → ExitGroup → List Exit
exits_of pool g = exits_by pool g g.ends

abbrev pub all_exits : List Values → List ExitGroup → List Exit
all_exits pool groups = flat_map (exits_of pool) groups

-- the numbers are those of values of component c
pub record AreNumbersThere (pool : List Values) (entry : NumberedEntry) (c : ℕ) (x : Numbers) : Type 0 where
  pub domain : x.domain ≡ (numbers_at entry c).domain
  pub known : (n : ℕ) → IsTrue (has_number x n) → n < length (values_at pool c)

-- the numbers of an end are those of values
pub record IsKnownEnd (pool : List Values) (entry : NumberedEntry) (x : NumberEnd) : Type 0 where
  pub component : x.component < length entry.sets
  pub numbers : AreNumbersThere pool entry x.component x.numbers

-- so are those of each
abbrev pub AreKnownEnds : List Values → NumberedEntry → Ends → Type 0
AreKnownEnds pool entry (ends.At points) = ⊤
AreKnownEnds pool entry (ends.With xs) = (x : NumberEnd) → Contains xs x → IsKnownEnd pool entry x

-- The numbers of a group are those of values of the pool.
pub record IsKnownGroup (pool : List Values) (g : ExitGroup) : Type 0 where
  pub numbers : AreNumbersOf pool g.entry
  pub ends : AreKnownEnds pool g.entry g.ends

abbrev pub AreKnownGroups : List Values → List ExitGroup → Type 0
AreKnownGroups pool groups = (g : ExitGroup) → Contains groups g → IsKnownGroup pool g
