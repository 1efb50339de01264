-- a number has at most 20 digits
use Rattle.std.proofs.{Common.{rules}, lemmas.Fmt.{length-decimal-le}}
use Rattle.text_pieces.proofs.pieces.put_digits.Goals as goal

pub write_digits-first-requires : goal.write_digits-first-requires
write_digits-first-requires c = search (rules, length-decimal-le 20)
