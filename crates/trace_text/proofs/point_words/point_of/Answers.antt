use Rattle.std.proofs.Common.{Some, None, Err, sym, ◌∙◌, ap}
use Rattle.trace_text.specs.{declared.fault.PointFault.{PointFault}, PointWords.{said_point}}
use Rattle.trace_text.proofs.PointReading.{named_is}
use Rattle.trace_text.proofs.point_words.point_of.Goals as goal

pub returns-in-None : goal.returns-in-None
returns-in-None c = ap (λ (f : PointFault). Err f) c.fault_of.ensures ∙ sym (ap (said_point c.args.word.now) (named_is c.args.app.now c.args.word.now None c.in-None.ensures))

pub returns-in-Some : goal.returns-in-Some
returns-in-Some c = sym (ap (said_point c.args.word.now) (named_is c.args.app.now c.args.word.now (Some c.in-Some.point) c.in-Some.ensures))
