use Rattle.std.proofs.Common.{◌≡◌, ℕ, length, refl, subst, arith}
use Rattle.osek_values.specs.Numbers.{block_no}
use Rattle.flow_report.specs.{FindingOrder.{rank_at}, Progress.{AreListed}, Reached.{table_of}}
use Rattle.flow_report.specs.declared.finding.Finding.TheVariants as finding
use Rattle.flow_report.proofs.{Listing.{listed_number, listed_kind}, BlockFindings.{free_known, free_once}}
use Rattle.flow_report.proofs.reached.Reached.push_free.Goals as goal

pub loop-block-preserved : goal.loop-block-preserved
loop-block-preserved c =
    let self = c.args.self.now in
    let table = table_of self.pool.now self.rows.now in
    let i = c.loop-block.block in
    listed_number self.app.now table 4 i c.loop-block.findings.items c.push_if.new.findings.items (finding.Free (block_no i)) c.is_free-holds.result c.loop-block.invariant c.is_free-holds.ensures refl (free_once self.app.now table (block_no i) i refl) c.in_ok-push_if.ensures

pub returns : goal.returns
returns c =
    let self = c.args.self.now in
    let table = table_of self.pool.now self.rows.now in
    let all : c.loop-block.block ≡ length self.app.now.blocks = omega (arith, c.loop-block-test.false, c.len-block-end.ensures) in
    listed_kind self.app.now table 4 (length self.app.now.blocks) c.loop-block.findings.items (free_known self.app.now table)
    (subst (λ (k : ℕ). AreListed self.app.now table (rank_at 4 k 0) c.loop-block.findings.items) all c.loop-block.invariant)
