use Rattle.std.proofs.Common.{◌∙◌, ap}
use Rattle.table_codec.specs.{declared.fault.TableRule.TheVariants.{K4}, Faults.{not_above}}
use Rattle.table_codec.proofs.FieldReads.{fault_of}
use Rattle.table_codec.proofs.sets.next_value.Goals as goal

pub returns-then-not-is_above-clause-err : goal.returns-then-not-is_above-clause-err
returns-then-not-is_above-clause-err c =
    let read = c.in_ok-next.ensures.ok in
    not_above c.in_ok-next.next c.listed_value.new.reader read.allowed read.are (λ up. let yes = c.is_above.ensures.1 up in let no = c.if-not-is_above.true in absurd (cc)) (c.fault.ensures ∙ ap (fault_of K4) c.left-left.ensures)
