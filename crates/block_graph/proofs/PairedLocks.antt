-- A walk over code that doesn't fail: what each brace and each call on its way found.
use Rattle.std.proofs.Common.{◌≡◌, ℕ, Bool, true, false, if◌then◌else◌, List, [], ◌∷◌, Option, Some, None, Result, Ok, Err, refl, subst, ap}
use Rattle.std.specs.Prelude.{unwrap_or}
use Rattle.block_graph.specs.{declared.locks.Opener.{Opener}, Locks.{are_same, both_close, closes, goes_on, open_behind_by, unpaired_by}}
use Rattle.block_graph.proofs.Openers.{equal}

abbrev pub Walk : Type 0
Walk = Result (List Opener) ℕ

passed : (test : Bool) (walk : Walk) (line : ℕ) (end : List Opener) → (if test then walk else Err line) ≡ Ok end → (test ≡ true) × (walk ≡ Ok end)
passed true walk line end e = (refl, e)
passed false walk line end e = absurd cc

-- a closing brace found the wanted locks
pub closed_with : (walk : Walk) (wanted : List Opener) (line : ℕ) (next : List Opener → Walk) (end : List Opener) → closes walk wanted line next ≡ Ok end
    → (walk ≡ Ok wanted) × (next wanted ≡ Ok end)
closed_with (Err failing) wanted line next end e = absurd cc
closed_with (Ok locks) wanted line next end e =
    let found = passed (are_same locks wanted) (next locks) line end e in
    let same : locks ≡ wanted = equal locks wanted found.0 in
    (ap Ok same, subst (λ (l : List Opener). next l ≡ Ok end) same found.1)

-- and that of an `else` what the first branch left
pub both_closed : (locks : List Opener) (walk second : Walk) (line : ℕ) (next : List Opener → Walk) (end : List Opener)
    → both_close walk second line next ≡ Ok end → let left = open_behind_by locks walk in (walk ≡ Ok left) × (second ≡ Ok left) × (next left ≡ Ok end)
both_closed locks (Err failing) second line next end e = absurd cc
both_closed locks (Ok left) second line next end e = let found = closed_with second left line next end e in (refl, found.0, found.1)

-- a call was allowed
pub called : (locks : List Opener) (behind : Option (List Opener)) (line : ℕ) (next : List Opener → Walk) (end : List Opener)
    → goes_on behind line next ≡ Ok end → let left = unwrap_or behind locks in (behind ≡ Some left) × (next left ≡ Ok end)
called locks None line next end e = absurd cc
called locks (Some left) line next end e = (refl, e)

-- the end of a body found no lock
pub paired_by : (walk : Walk) (close : ℕ) → unpaired_by walk close ≡ [] → walk ≡ Ok []
paired_by (Err line) close e = absurd cc
paired_by (Ok []) close e = refl
paired_by (Ok (opener ∷ more)) close e = absurd cc
