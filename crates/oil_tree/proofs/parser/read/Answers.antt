use Rattle.oil_tree.proofs.Prefixes.{has_tree, stop_fault}
use Rattle.oil_tree.proofs.parser.read.Goals as goal

pub returns-in-Ok : goal.returns-in-Ok
returns-in-Ok c = has_tree _ _ c.in-Ok.ensures.is_sentence c.in-Ok.ensures.taken

pub returns-in-Err-Fault : goal.returns-in-Err-Fault
returns-in-Err-Fault c = rw c.fault_of.ensures (stop_fault _ _ (rw c.in-Err-Fault.field-0-is at c.in-Err-Fault.ensures))
