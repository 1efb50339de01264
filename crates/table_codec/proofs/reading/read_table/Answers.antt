use Rattle.std.proofs.Common.{◌∙◌, List, ℕ, subst}
use Rattle.osek_values.specs.{declared.refused.Refused.{Refused}, Answers.{Refuses}}
use Rattle.table_codec.specs.{declared.fault.Fault.{Fault}, Faults.{IsTableFault}}
use Rattle.table_codec.proofs.{TableFaults.{one_first_fault}, TableReads.{is_located, same_table, no_fault_there}}
use Rattle.table_codec.proofs.reading.read_table.Goals as goal

pub returns-in-Ok-clause-complete : goal.returns-in-Ok-clause-complete
returns-in-Ok-clause-complete c = λ t written e.
    let same = same_table c.args.app.now c.args.bytes.now c.in-Ok.table t c.in-Ok.ensures.ok.0 written (c.in-Ok.ensures.ok.1 ∙ c.new-reader.ensures) e in
    cc

pub returns-in-Ok-clause-exact : goal.returns-in-Ok-clause-exact
returns-in-Ok-clause-exact c = λ f first. absurd (no_fault_there c.args.app.now c.args.bytes.now c.in-Ok.table f c.in-Ok.ensures.ok.0 (c.in-Ok.ensures.ok.1 ∙ c.new-reader.ensures) first)

pub returns-in-Err-Fault-clause-first : goal.returns-in-Err-Fault-clause-first
returns-in-Err-Fault-clause-first c =
    let app = c.args.app.now in
    let fault = c.in-Err-Fault.fault in
    let bad = subst (λ (e : Refused Fault). Refuses e (IsTableFault app c.new-reader.result)) c.in-Err-Fault.field-0-is c.in-Err-Fault.ensures.err in
    is_located app c.args.bytes.now fault c.saturating_sub.result (subst (λ (l : List ℕ). IsTableFault app l fault) c.new-reader.ensures bad) c.saturating_sub.ensures

pub returns-in-Err-Fault-clause-complete : goal.returns-in-Err-Fault-clause-complete
returns-in-Err-Fault-clause-complete c =
    let app = c.args.app.now in
    let fault = c.in-Err-Fault.fault in
    let bad = subst (λ (e : Refused Fault). Refuses e (IsTableFault app c.new-reader.result)) c.in-Err-Fault.field-0-is c.in-Err-Fault.ensures.err in
    let first = is_located app c.args.bytes.now fault c.saturating_sub.result (subst (λ (l : List ℕ). IsTableFault app l fault) c.new-reader.ensures bad) c.saturating_sub.ensures in
    λ t written e. absurd (no_fault_there app c.args.bytes.now t _ written e first)

pub returns-in-Err-Fault-clause-exact : goal.returns-in-Err-Fault-clause-exact
returns-in-Err-Fault-clause-exact c =
    let app = c.args.app.now in
    let fault = c.in-Err-Fault.fault in
    let bad = subst (λ (e : Refused Fault). Refuses e (IsTableFault app c.new-reader.result)) c.in-Err-Fault.field-0-is c.in-Err-Fault.ensures.err in
    let first = is_located app c.args.bytes.now fault c.saturating_sub.result (subst (λ (l : List ℕ). IsTableFault app l fault) c.new-reader.ensures bad) c.saturating_sub.ensures in
    λ g other.
    let same = one_first_fault app c.args.bytes.now _ g first other in
    cc
