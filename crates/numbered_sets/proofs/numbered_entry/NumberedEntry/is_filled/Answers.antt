use Rattle.std.proofs.lemmas.Bool.{OnTrue_at, OnTrue_from, OnFalse_at, OnFalse_from}
use Rattle.numbered_sets.specs.NumberedEntries.{AreFilled, HasEmptySet}
use Rattle.numbered_sets.proofs.numbered_entry.NumberedEntry.is_filled.Goals as goal

pub returns-clause-filled : goal.returns-clause-filled
returns-clause-filled c = OnTrue_from c.is_filled.result (AreFilled c.args.self.now) (λ e. record { each = OnTrue_at e c.is_filled.ensures.filled })

pub returns-clause-none : goal.returns-clause-none
returns-clause-none c = OnFalse_from c.is_filled.result (HasEmptySet c.args.self.now) (λ e. let some = OnFalse_at e c.is_filled.ensures.none in record { component = some.0; known = some.1; none = some.2 })
