-- a point that is spelled as it is printed is read
use Rattle.std.proofs.Common.{◌≡◌, ℕ, List, Ok, Some, sym, subst}
use Rattle.trace_text.specs.PointWords.{read_point_line}
use Rattle.trace_text.proofs.RecordLaws.{reads_as_printed}
use Rattle.trace_text.proofs.point_words.read_point.Goals as goal

pub returns-in-Some : goal.returns-in-Some
returns-in-Some c =
    let app = c.args.app.now in
    let p = c.in-Some.point in
    let is = c.in-Some.ensures in
    sym (subst (λ (line : List ℕ). read_point_line app line ≡ Ok (Some p)) is.1 (reads_as_printed app p is.0))
