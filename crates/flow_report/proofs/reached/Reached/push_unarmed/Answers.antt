use Rattle.std.proofs.Common.{◌≡◌, ℕ, length, refl, subst, arith}
use Rattle.osek_values.specs.Numbers.{alarm_no}
use Rattle.flow_report.specs.{FindingOrder.{rank_at}, Progress.{AreListed}, Reached.{table_of}}
use Rattle.flow_report.specs.declared.finding.Finding.TheVariants as finding
use Rattle.flow_report.proofs.{Listing.{listed_number, listed_kind}, FlagFindings.{unarmed_known, unarmed_once}}
use Rattle.flow_report.proofs.reached.Reached.push_unarmed.Goals as goal

pub loop-alarm-preserved : goal.loop-alarm-preserved
loop-alarm-preserved c =
    let self = c.args.self.now in
    let table = table_of self.pool.now self.rows.now in
    let i = c.loop-alarm.alarm in
    listed_number self.app.now table 1 i c.loop-alarm.findings.items c.push_if.new.findings.items (finding.Unarmed (alarm_no i)) c.is_unarmed-holds.result c.loop-alarm.invariant c.is_unarmed-holds.ensures refl (unarmed_once self.app.now table (alarm_no i) i refl) c.in_ok-push_if.ensures

pub returns : goal.returns
returns c =
    let self = c.args.self.now in
    let table = table_of self.pool.now self.rows.now in
    let all : c.loop-alarm.alarm ≡ length self.app.now.alarms = omega (arith, c.loop-alarm-test.false, c.len-alarm-end.ensures) in
    listed_kind self.app.now table 1 (length self.app.now.alarms) c.loop-alarm.findings.items (unarmed_known self.app.now table)
    (subst (λ (k : ℕ). AreListed self.app.now table (rank_at 1 k 0) c.loop-alarm.findings.items) all c.loop-alarm.invariant)
