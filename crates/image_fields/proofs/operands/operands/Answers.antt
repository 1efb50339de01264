-- a call's operands are those of its kind
use Rattle.std.proofs.Common.{sym, subst}
use Rattle.osek_standard.specs.declared.block.Kind.{Kind}
use Rattle.image_fields.specs.{Reading.{Gives}, BlockReading.{operands_at}}
use Rattle.image_fields.proofs.operands.operands.Goals as goal

pub returns-in-Call : goal.returns-in-Call
returns-in-Call c =
    subst (λ (k : Kind). Gives (λ x. x) c.call_operands.result c.call_operands.new.reader (operands_at c.args.tables.now c.args.block k c.args.reader.now))
    (sym c.in-Call.is) (c.call_operands.ensures c.args.block)
