use Rattle.std.proofs.Common.{arith, [], ◌++◌}
use Rattle.oil_lexer.specs.Text.{none, tokens_of}
use Rattle.oil_lexer.proofs.Steps.{parts_behind}
use Rattle.oil_lexer.proofs.lexer.judge.Goals as goal

pub loop-rest-init : goal.loop-rest-init
loop-rest-init c = record { parts = ([], none); lines = omega arith; within = c.requires; first = omega arith }

pub loop-rest-preserved : goal.loop-rest-preserved
loop-rest-preserved c =
    let p = c.in-Ok.ensures in
    let before = c.loop-rest.invariant.parts in
    let step = parts_behind (p.parts c.loop-rest.line) before.1 in
    record {
      parts = (before.0 ++ tokens_of c.in-Ok.field-0-0 c.loop-rest.line, rw (c.line_ends-line.ensures.value, c.split_at.ensures.front, c.split_at.ensures.back) step);
      lines = omega arith;
      within = c.loop-rest.invariant.within;
      first = omega arith;
    }
