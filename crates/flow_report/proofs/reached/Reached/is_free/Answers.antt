use Rattle.std.proofs.Common.{◌∙◌, ap, true}
use Rattle.osek_standard.specs.declared.block.Block.{Block}
use Rattle.flow_report.specs.{Findings.{Takes}, Reached.{table_of}}
use Rattle.flow_report.proofs.BlockFindings.{free_answer, unreached_answer}
use Rattle.flow_report.proofs.reached.Reached.is_free.Goals as goal

pub returns-then-not-is_reached : goal.returns-then-not-is_reached
returns-then-not-is_reached c =
    let self = c.args.self.now in
    unreached_answer self.app.now (table_of self.pool.now self.rows.now) c.args.block c.if-not-is_reached.ensures

pub returns : goal.returns
returns c =
    let self = c.args.self.now in
    let takes : Takes self.app.now c.args.block c.in-Some.resource = ap (λ (b : Block). b.kind) c.block.ensures ∙ c.in-Some.ensures.some in
    free_answer self.app.now (table_of self.pool.now self.rows.now) c.args.block true c.is_taken_at.result c.in-Some.resource c.requires.known takes c.if-not-is_reached.ensures c.is_taken_at.ensures
