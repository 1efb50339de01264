-- A shelf in memory: which calls fail, and what each leaves.
use Rattle.std.specs.{Prelude.{ℕ, ◌-◌, min, ◌||◌, List, [], ◌++◌, length, take, if◌then◌else◌, Option, Some, None, Result, Ok, Err}, FinMap.{FinMap, insert}, Ordering.{nat_cmp}}
use Rattle.std.specs.Cmp.Lexicographic.{slice_cmp}
use Rattle.osek_io.specs.{Counts.{one_more, is_listed}, Files.{Files}, MemSink.{is_full, fitting_count}, declared.failed.Failed.{Failed}}

-- how many bytes there is room for, by the names that have a place
abbrev pub Rooms : Type 0
Rooms = FinMap (slice_cmp nat_cmp) ℕ

-- the numbers of the calls that are to fail, the files that are there, the room of each place, how many bytes a call moves at
-- most, and the counts of calls and of faults
pub record ShelfState : Type 0 where
  pub fails : List ℕ
  pub files : Files
  pub rooms : Rooms
  pub most : ℕ
  pub calls : ℕ
  pub read_faults : ℕ
  pub write_faults : ℕ

-- a call that counts as no fault
abbrev pub after_call : ShelfState → ShelfState
after_call s = record s { calls = one_more s.calls }

-- a call that failed as a read
abbrev pub after_failed_read : ShelfState → ShelfState
after_failed_read s = record s { calls = one_more s.calls; read_faults = one_more s.read_faults }

-- a call that failed as a write
abbrev pub after_failed_write : ShelfState → ShelfState
after_failed_write s = record s { calls = one_more s.calls; write_faults = one_more s.write_faults }

-- a call that made the name's file hold these bytes
abbrev pub after_write : ShelfState → List ℕ → List ℕ → ShelfState
after_write s name bytes = record s { calls = one_more s.calls; files = insert s.files name bytes }

-- what `read` answers at a place to a slice of a length, where the file holds these bytes or isn't there
abbrev pub read_answer : ShelfState → Option (List ℕ) → ℕ → ℕ → Result ℕ Failed
read_answer s None at len = Err (record {})
read_answer s (Some bytes) at len = if is_listed s.fails s.calls then Err (record {}) else Ok (min (min len (length bytes - at)) s.most)

-- what `read` leaves
abbrev pub after_read : ShelfState → Option (List ℕ) → ShelfState
after_read s None = after_call s
after_read s (Some bytes) = if is_listed s.fails s.calls then after_failed_read s else after_call s

-- what `create` answers, where the name has this room or no place
abbrev pub create_answer : ShelfState → Option ℕ → Result (Unit {0}) Failed
create_answer s None = Err (record {})
create_answer s (Some room) = if is_listed s.fails s.calls then Err (record {}) else Ok tt

-- what `create` leaves
abbrev pub after_create : ShelfState → List ℕ → Option ℕ → ShelfState
after_create s name None = after_failed_write s
after_create s name (Some room) = if is_listed s.fails s.calls then after_failed_write s else after_write s name []

-- what `append` answers, where the file holds these bytes or isn't there, and its place has this room
abbrev pub append_answer : ShelfState → Option (List ℕ) → ℕ → List ℕ → Result ℕ Failed
append_answer s None room piece = Err (record {})
append_answer s (Some bytes) room piece =
    if is_listed s.fails s.calls || is_full room bytes piece then Err (record {}) else Ok (fitting_count s.most room bytes piece)

-- what `append` leaves
abbrev pub after_append : ShelfState → List ℕ → Option (List ℕ) → ℕ → List ℕ → ShelfState
after_append s name None room piece = after_call s
after_append s name (Some bytes) room piece =
    if is_listed s.fails s.calls || is_full room bytes piece
    then after_failed_write s
    else after_write s name (bytes ++ take (fitting_count s.most room bytes piece) piece)
