use Rattle.std.proofs.Common.{◌≡◌, ◌<◌, ◌^◌, drop}
use Rattle.oil_lexer.specs.Numbers.{value_of, value_from}
use Rattle.oil_lexer.proofs.piece.value_of.Given as goal

abbrev pub invariant-loop-digit : goal.invariant-loop-digit
invariant-loop-digit l = record { same : value_from l.base l.value (drop l.digit-index l.digits) ≡ value_of l.base l.digits; fits : l.value < 2 ^ 64 }
