-- What plain cells were evaluated with is what the numbered ones were that they stand for.
use Rattle.std.proofs.Common.{◌≡◌, Option, Some, None, List, refl, ap, inl, inr}
use Rattle.std.specs.{Prelude.{option_map}, Option.{ForSome}}
use Rattle.abstract_state.specs.declared.table.PlainEntry.{PlainEntry}
use Rattle.numbered_sets.specs.{declared.numbered_entry.NumberedEntry.{NumberedEntry}, Pools.{Values, IsLonger}, Views.{plain_entry, AreNumbersOf}}
use Rattle.numbered_sets.proofs.ViewLaws.{same_view}
use Rattle.state_flow.specs.{declared.cells.Cell.{Cell}, Cells.{WasEvaluatedWith}, PlainCells.{plain_cell}}

pub some_of_map : {X Y : Type 0} (f : X → Y) (o : Option X) (y : Y) → option_map f o ≡ Some y → (x : X) × (o ≡ Some x) × (f x ≡ y)
some_of_map f None y e = absurd (cc)
some_of_map f (Some x) y e = (let same : f x ≡ y = cc in (x, refl, same))

pub numbered_was : (pool : List Values) (cell : Cell NumberedEntry) (z : PlainEntry) → WasEvaluatedWith (plain_cell pool cell) z → (x : NumberedEntry) × WasEvaluatedWith cell x × (plain_entry pool x ≡ z)
numbered_was pool cell z (inl kept) = (let m = some_of_map (plain_entry pool) cell.before z kept in (m.0, inl m.1, m.2))
numbered_was pool cell z (inr own) = (cell.entry, inr (own.0, refl), own.1)

pub plain_was : (pool : List Values) (cell : Cell NumberedEntry) (x : NumberedEntry) → WasEvaluatedWith cell x → WasEvaluatedWith (plain_cell pool cell) (plain_entry pool x)
plain_was pool cell x (inl kept) = inl (ap (option_map (plain_entry pool)) kept)
plain_was pool cell x (inr own) = inr (own.0, ap (plain_entry pool) own.1)

-- it stays the same as the pool grows
pub kept_same : (pool after : List Values) (before : Option NumberedEntry) → IsLonger pool after → ForSome before (AreNumbersOf pool) → option_map (plain_entry after) before ≡ option_map (plain_entry pool) before
kept_same pool after None longer known = refl
kept_same pool after (Some x) longer known = ap Some (same_view pool after x longer (known x refl))
