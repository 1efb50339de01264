use Rattle.std.proofs.Common.{◌∙◌, ◌++◌, ℕ, ap}
use Rattle.std.specs.Int.{to_be_bytes, w32}
use Rattle.table_codec.specs.{declared.fault.TableRule.TheVariants.{K3}, Faults.{count_none}}
use Rattle.table_codec.proofs.FieldReads.{fault_of}
use Rattle.table_codec.proofs.sets.count.Goals as goal

pub returns-then-count-eq0-clause-err : goal.returns-then-count-eq0-clause-err
returns-then-count-eq0-clause-err c =
    count_none c.number_32.new.self (c.in-Some.ensures.number ∙ ap (λ (n : ℕ). to_be_bytes w32 n ++ c.number_32.new.self) c.if-count-eq0.true)
    (c.fault-then-count-eq0.ensures ∙ ap (fault_of K3) c.left-left.ensures)
