-- a read that fails counts one fault
use Rattle.std.proofs.Common.{◌≡◌, ℕ, ◌⊎◌, Result, Ok, Err, OnErr, inl, arith}
use Rattle.osek_io.specs.{Counts.{one_more, Rose}, declared.failed.Failed.{Failed}}
use Rattle.osek_io.proofs.file_shelf.FileShelfShelf.read.Goals as goal

rose : (r : Result ℕ Failed) (a b : ℕ) → b ≡ one_more a → OnErr r (Rose a b ⊎ ⊥)
rose (Ok n) a b e = tt
rose (Err f) a b e = inl (omega arith)

pub returns-then-is_err-clause-cause : goal.returns-then-is_err-clause-cause
returns-then-is_err-clause-cause g c = rose _ _ _ assumption

pub returns-then-is_err-clause-never_falls : goal.returns-then-is_err-clause-never_falls
returns-then-is_err-clause-never_falls g c = omega arith
