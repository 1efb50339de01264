use Rattle.std.proofs.{Common.{◌≡◌, ◌+◌, take, arith}, lemmas.Grind.{common_steps}}
use Rattle.oil_lexer.specs.Text.{line_ends}
use Rattle.oil_lexer.proofs.AheadSteps.{no_break, none_ahead, behind, with_first, past_gap}
use Rattle.oil_lexer.proofs.cursor.Tokens.first.Goals as goal

pub loop-rest-init : goal.loop-rest-init
loop-rest-init c = record { ahead = rw (← c.self.view_is) c.self.inside.ahead.1.ahead; lines = c.self.invariant.1; first = c.self.invariant.0 }

pub unreachable-requires : goal.unreachable-requires
unreachable-requires c = no_break c.in_default.field-0 (λ e. grind (arith, common_steps)) c.in_default.ensures c.loop-rest.invariant.ahead

pub from_line-requires-clause-ahead : goal.from_line-requires-clause-ahead
from_line-requires-clause-ahead c =
    let is = rw c.in-Whole.is at c.in-Ok.ensures in
    let lines : c.loop-rest.line + c.line_ends.result ≡ c.loop-rest.line + line_ends (take c.in-Ok.len c.loop-rest.rest.now) = rw (c.line_ends.ensures.value, c.split_at.ensures.front) in
    behind c.in-Whole.kind c.in-Ok.len is c.loop-rest.invariant.ahead lines c.split_at.ensures.back

pub returns-in-Whole : goal.returns-in-Whole
returns-in-Whole c =
    let is = rw c.in-Whole.is at c.in-Ok.ensures in
    let lines : c.loop-rest.line + c.line_ends.result ≡ c.loop-rest.line + line_ends (take c.in-Ok.len c.loop-rest.rest.now) = rw (c.line_ends.ensures.value, c.split_at.ensures.front) in
    with_first c.in-Whole.kind c.in-Ok.len is c.loop-rest.invariant.ahead lines c.split_at.ensures.back c.from_line.ensures

pub loop-rest-preserved : goal.loop-rest-preserved
loop-rest-preserved c = record {
  ahead = rw (c.line_ends.ensures.value, c.split_at.ensures.front, c.split_at.ensures.back) (past_gap c.in-Ok.piece c.in-Ok.len c.in_default-piece.not-Whole c.in-Ok.ensures c.loop-rest.invariant.ahead);
  lines = omega arith;
  first = omega arith;
}

pub returns : goal.returns
returns c = none_ahead (grind (arith, common_steps)) c.loop-rest.invariant.ahead
