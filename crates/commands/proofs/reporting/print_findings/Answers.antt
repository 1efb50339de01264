-- the next line, or a prefix of it, behind those before it
use Rattle.std.proofs.Common.{◌+◌, ◌<◌, ◌≤◌, ◌∙◌, length, refl, ap, subst, arith}
use Rattle.std.specs.List.{flat_map}
use Rattle.std.proofs.lemmas.List.{take_all}
use Rattle.flow_report.specs.FindingLines.{finding_line}
use Rattle.osek_io.specs.Sunk.{sunk}
use Rattle.command_runs.specs.Playing.{given, Puts}
use Rattle.command_runs.proofs.{GivenTexts.{puts_nothing}, Results.{on_err}}
use Rattle.commands.proofs.Printed.{next_put, prefix_of_lines}
use Rattle.commands.proofs.reporting.print_findings.Goals as goal

pub loop-finding-init : goal.loop-finding-init
loop-finding-init g c = record { put = puts_nothing (given (sunk g.O.Sink c.args.out.now) c.args.buffer.now); room = refl }

pub returns-in_err-print_finding-clause-prefix : goal.returns-in_err-print_finding-clause-prefix
returns-in_err-print_finding-clause-prefix g c =
    let first = given (sunk g.O.Sink c.args.out.now) c.args.buffer.now in
    let now = given (sunk g.O.Sink c.loop-finding.out) c.loop-finding.buffer in
    let next = given (sunk g.O.Sink c.print_finding.new.out) c.print_finding.new.buffer in
    let lt : c.loop-finding.finding-index < length c.args.findings.now = omega (arith, c.loop-finding-test.true, c.loop-finding.auto.finding-index-end) in
    on_err _ _ (prefix_of_lines (finding_line c.args.app.now) c.args.findings.now first now next c.loop-finding.finding-index _ _ lt refl c.loop-finding.invariant.put c.in_err-print_finding.ensures.prefix)

pub loop-finding-preserved : goal.loop-finding-preserved
loop-finding-preserved g c =
    let first = given (sunk g.O.Sink c.args.out.now) c.args.buffer.now in
    let now = given (sunk g.O.Sink c.loop-finding.out) c.loop-finding.buffer in
    let next = given (sunk g.O.Sink c.print_finding.new.out) c.print_finding.new.buffer in
    let lt : c.loop-finding.finding-index < length c.args.findings.now = omega (arith, c.loop-finding-test.true, c.loop-finding.auto.finding-index-end) in
    record {
      put = next_put (finding_line c.args.app.now) c.args.findings.now first now next c.loop-finding.finding-index (c.loop-finding.finding-index + 1) _ _ lt (omega arith) refl c.loop-finding.invariant.put c.in_ok-print_finding.ensures.ok;
      room = c.in_ok-print_finding.ensures.room ∙ c.loop-finding.invariant.room;
    }

pub returns-clause-ok : goal.returns-clause-ok
returns-clause-ok g c =
    let all : length c.args.findings.now ≤ c.loop-finding.finding-index = omega (arith, c.loop-finding-test.false) in
    subst (Puts (given (sunk g.O.Sink c.args.out.now) c.args.buffer.now) (given (sunk g.O.Sink c.loop-finding.out) c.loop-finding.buffer))
    (ap (flat_map (finding_line c.args.app.now)) (take_all c.loop-finding.finding-index c.args.findings.now all)) c.loop-finding.invariant.put
