-- all was printed, or a prefix of it
use Rattle.std.proofs.Common.{ℕ, List, [], refl, subst, inl, inr}
use Rattle.flow_report.specs.FindingLines.{report_text}
use Rattle.osek_io.specs.Sunk.{sunk}
use Rattle.command_runs.specs.Playing.{given, Puts, PutsPrefix}
use Rattle.command_runs.proofs.GivenTexts.{puts_flushed, flush_breaks}
use Rattle.commands.proofs.reporting.print_report.Goals as goal

pub returns-in-Err-Write : goal.returns-in-Err-Write
returns-in-Err-Write g c =
    let mid = given (sunk g.O.Sink c.print_findings.new.out) c.print_findings.new.buffer in
    let prefix : PutsPrefix (given (sunk g.O.Sink c.args.out.now) []) mid (report_text c.args.app.now c.args.findings.now) =
    subst (λ (held : List ℕ). PutsPrefix (given (sunk g.O.Sink c.args.out.now) held) mid (report_text c.args.app.now c.args.findings.now)) c.in-Ok-new.ensures c.in-Err-Write.ensures.prefix in
    inr (inr (refl, prefix.0))

pub returns-in-Ok-flush : goal.returns-in-Ok-flush
returns-in-Ok-flush g c =
    let first = sunk g.O.Sink c.args.out.now in
    let mid = given (sunk g.O.Sink c.print_findings.new.out) c.print_findings.new.buffer in
    let put : Puts (given first []) mid (report_text c.args.app.now c.args.findings.now) = subst (λ (held : List ℕ). Puts (given first held) mid (report_text c.args.app.now c.args.findings.now)) c.in-Ok-new.ensures c.in-Ok-print_findings.ensures.ok in
    inr (inl (refl, puts_flushed first mid (sunk g.O.Sink c.flush.new.sink) (report_text c.args.app.now c.args.findings.now) put (c.in-Ok-flush.ensures.no_fault, c.in-Ok-flush.ensures.ok)))

pub returns : goal.returns
returns g c =
    let first = sunk g.O.Sink c.args.out.now in
    let mid = given (sunk g.O.Sink c.print_findings.new.out) c.print_findings.new.buffer in
    let put : Puts (given first []) mid (report_text c.args.app.now c.args.findings.now) = subst (λ (held : List ℕ). Puts (given first held) mid (report_text c.args.app.now c.args.findings.now)) c.in-Ok-new.ensures c.in-Ok-print_findings.ensures.ok in
    inr (inr (refl, flush_breaks first mid (sunk g.O.Sink c.flush.new.sink) (report_text c.args.app.now c.args.findings.now) put c.in-Err-Write-flush.ensures.cause c.in-Err-Write-flush.ensures.prefix))
