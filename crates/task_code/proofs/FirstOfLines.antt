-- What the first of some lines says of them.
use Rattle.std.proofs.Common.{◌≡◌, ℕ, List, [], ◌∷◌, refl}
use Rattle.std.specs.Prelude.{Some, None}
use Rattle.task_code.specs.FirstLines.{first_line}

pub has_first : (lines : List ℕ) (line : ℕ) → Some line ≡ first_line lines → (others : List ℕ) × (lines ≡ line ∷ others)
has_first [] line e = absurd cc
has_first (x ∷ others) line e = (others, cc)

pub has_none : (lines : List ℕ) → None ≡ first_line lines → lines ≡ []
has_none [] e = refl
has_none (x ∷ others) e = absurd cc
