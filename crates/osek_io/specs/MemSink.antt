-- A sink in memory: which calls fail, and what each leaves.
use Rattle.std.specs.Prelude.{ℕ, ◌-◌, min, Bool, ◌&&◌, ◌||◌, nat_lt, ◌==◌, List, ◌++◌, length, take, if◌then◌else◌, Result, Ok, Err}
use Rattle.osek_io.specs.{Counts.{one_more, is_listed}, declared.failed.Failed.{Failed}}

-- the numbers of the calls that are to fail, what was written, the room for it, how many bytes a call takes at most, and the
-- counts of calls and of faults
pub record SinkState : Type 0 where
  pub fails : List ℕ
  pub bytes : List ℕ
  pub room : ℕ
  pub most : ℕ
  pub calls : ℕ
  pub faults : ℕ

-- A piece that isn't empty finds the room full.
abbrev pub is_full : ℕ → List ℕ → List ℕ → Bool
is_full room bytes piece = nat_lt 0 (length piece) && (length bytes == room)

-- how many bytes of a piece a call adds behind these: what fits, and no more than `most`
abbrev pub fitting_count : (most room : ℕ) → (bytes piece : List ℕ) → ℕ
fitting_count most room bytes piece = min (min (length piece) (room - length bytes)) most

-- The next `put` of this piece fails.
abbrev pub is_refused : SinkState → List ℕ → Bool
is_refused s piece = is_listed s.fails s.calls || is_full s.room s.bytes piece

-- what `put` answers
abbrev pub put_answer : SinkState → List ℕ → Result ℕ Failed
put_answer s piece = if is_refused s piece then Err (record {}) else Ok (fitting_count s.most s.room s.bytes piece)

-- what `put` leaves
abbrev pub after_put : SinkState → List ℕ → SinkState
after_put s piece =
    if is_refused s piece
    then record s { calls = one_more s.calls; faults = one_more s.faults }
    else record s { calls = one_more s.calls; bytes = s.bytes ++ take (fitting_count s.most s.room s.bytes piece) piece }
