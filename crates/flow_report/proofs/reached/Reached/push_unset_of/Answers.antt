use Rattle.std.proofs.Common.{◌≡◌, ℕ, ◌^◌, subst, arith}
use Rattle.flow_report.specs.{FindingOrder.{rank_at}, Progress.{AreListed}, Reached.{table_of}}
use Rattle.flow_report.proofs.FlagFindings.{bits_begun, bits_done}
use Rattle.flow_report.proofs.reached.Reached.push_unset_of.Goals as goal

pub loop-bit-init : goal.loop-bit-init
loop-bit-init c = (let self = c.args.self.now in bits_begun self.app.now (table_of self.pool.now self.rows.now) c.args.task c.args.findings.now.items c.requires.listed)

pub loop-bit-preserved : goal.loop-bit-preserved
loop-bit-preserved c = c.in_ok-push_unset_at.ensures

pub returns : goal.returns
returns c =
    let self = c.args.self.now in
    let table = table_of self.pool.now self.rows.now in
    let all : c.loop-bit.bit ≡ 64 = omega arith in
    bits_done self.app.now table c.args.task c.loop-bit.findings.items (subst (λ (k : ℕ). AreListed self.app.now table (rank_at 2 c.args.task.0 (2 ^ k)) c.loop-bit.findings.items) all c.loop-bit.invariant)
