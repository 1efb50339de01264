use Rattle.std.proofs.Common.{sym, arith}
use Rattle.trace_text.proofs.PointParts.{no_number, no_block, a_block}
use Rattle.trace_text.proofs.point_words.block_named.Goals as goal

pub returns-then-not-is_number : goal.returns-then-not-is_number
returns-then-not-is_number c = no_number c.args.app.now c.args.digits.now (sym c.if-not-is_number.ensures)

pub returns-then-value-len : goal.returns-then-value-len
returns-then-value-len c = (omega arith, a_block c.args.app.now c.args.digits.now c.value_of-value.result (sym c.if-not-is_number.ensures) c.value_of-value.ensures (omega arith))

pub returns-else-value-len : goal.returns-else-value-len
returns-else-value-len c = no_block c.args.app.now c.args.digits.now c.value_of-value.result c.value_of-value.ensures (omega arith)
