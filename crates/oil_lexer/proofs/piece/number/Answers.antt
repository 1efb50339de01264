use Rattle.std.proofs.Common.{take}
use Rattle.oil_lexer.specs.{declared.classes.ByteSet.TheVariants.{HexDigits}, Numbers.{value_of}, Pieces.{part}}
use Rattle.oil_lexer.proofs.Longest.{part_all, hex_longest, decimal_digits, decimal_longest}
use Rattle.oil_lexer.proofs.piece.number.Goals as goal

pub value_of-requires-clause-digits : goal.value_of-requires-clause-digits
value_of-requires-clause-digits c = part_all HexDigits c.args.bytes.now 2 c.in-Some.end c.in-Some.ensures.is_hex.digits

pub returns-in-Some : goal.returns-in-Some
returns-in-Some c = (value_of 16 (part c.args.bytes.now 2 c.in-Some.end), hex_longest _ _ c.requires.digit c.in-Some.ensures, c.value_of.ensures)

pub value_of-requires-in-None-clause-digits : goal.value_of-requires-in-None-clause-digits
value_of-requires-in-None-clause-digits c = decimal_digits _ _ c.requires.digit c.run_end-end.ensures.all

pub returns-in-None : goal.returns-in-None
returns-in-None c = (value_of 10 (take c.run_end-end.result c.args.bytes.now), decimal_longest _ _ c.requires.digit c.in-None.ensures c.run_end-end.ensures, c.value_of-in-None.ensures)
