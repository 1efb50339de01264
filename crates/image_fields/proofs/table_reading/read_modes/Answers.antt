use Rattle.std.proofs.{Common.{◌∙◌, ℕ, List, [], sym, ap, subst}, lemmas.Result.{err_from_is_err_and}}
use Rattle.image_fields.specs.Reading.{Fails, name_at, entries_at}
use Rattle.image_fields.proofs.{OwnerTests.{map_same}, Loop.{goes_on, ends, is_done}}
use Rattle.image_fields.proofs.table_reading.read_modes.Goals as goal

pub returns-in_err-mode : goal.returns-in_err-mode
returns-in_err-mode c =
    let p = err_from_is_err_and c.from_residual.result c.from_residual.ensures.1 in
    rw (p.1, p.2) (ends (name_at) c.loop.modes (entries_at (name_at) [] c.args.header.modes c.args.reader.now) c.in_err-mode.field-0.0 c.args.header.modes c.loop.counter c.loop.reader c.loop-test.true (subst (λ (ms : List (List ℕ)). Fails c.in_err-mode.field-0.0 (name_at ms c.loop.reader)) (map_same c.loop.modes) (rw c.as_slice.ensures at c.in_err-mode.ensures)) c.loop.invariant)

pub loop-preserved : goal.loop-preserved
loop-preserved c =
    rw c.in_ok-push.ensures.ok
    (goes_on (name_at) c.loop.modes (entries_at (name_at) [] c.args.header.modes c.args.reader.now) c.args.header.modes c.loop.counter c.loop.reader c.in_ok-mode.mode _ c.loop-test.true (ap (λ (ms : List (List ℕ)). name_at ms c.loop.reader) (sym (map_same c.loop.modes)) ∙ (rw c.as_slice.ensures at c.in_ok-mode.ensures)) c.loop.invariant)

pub returns : goal.returns
returns c = is_done (name_at) c.loop.modes (entries_at (name_at) [] c.args.header.modes c.args.reader.now) c.args.header.modes c.loop.counter c.loop.reader c.loop-test.false c.loop.invariant
