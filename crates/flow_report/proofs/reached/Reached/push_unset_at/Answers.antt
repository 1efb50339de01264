use Rattle.std.proofs.Common.{◌∙◌, [], ◌∷◌, ◌++◌, sym, ap}
use Rattle.std.specs.Prelude.{if◌then◌else◌}
use Rattle.osek_values.specs.{Bits.{has_bit}, declared.mask.Mask.{Mask}}
use Rattle.osek_standard.specs.declared.objects.Task.{Task}
use Rattle.flow_report.specs.declared.finding.Finding.TheVariants as finding
use Rattle.flow_report.specs.Reached.{table_of}
use Rattle.flow_report.proofs.FlagFindings.{bit_more, bit_passed}
use Rattle.flow_report.proofs.reached.Reached.push_unset_at.Goals as goal

pub returns-then-not-has : goal.returns-then-not-has
returns-then-not-has c =
    let self = c.args.self.now in
    bit_passed self.app.now (table_of self.pool.now self.rows.now) c.args.task c.args.bit.0 c.args.findings.now.items
    (ap (λ (x : Task). has_bit x.own.0 c.args.bit.0) c.task.ensures ∙ sym c.has.ensures ∙ c.if-not-has.true) c.requires.listed

pub returns : goal.returns
returns c =
    let self = c.args.self.now in
    bit_more self.app.now (table_of self.pool.now self.rows.now) c.args.task c.args.bit.0 c.args.findings.now.items c.push_if.new.findings.items c.is_unset-holds.result c.requires.listed c.is_unset-holds.ensures
    (c.in_ok-push_if.ensures ∙ ap (λ (m : Mask). if c.is_unset-holds.result then c.args.findings.now.items ++ finding.Unset c.args.task m ∷ [] else c.args.findings.now.items) c.only.ensures)
