use Rattle.std.proofs.{Common.{take, arith, sym}, lemmas.List.{length-take-le}}
use Rattle.oil_lexer.proofs.Longest.{is_name-take, name_longest}
use Rattle.oil_lexer.proofs.piece.piece.Goals as goal

pub returns-then-end-gt-MAX_NAME : goal.returns-then-end-gt-MAX_NAME
returns-then-end-gt-MAX_NAME c =
    let run = c.run_end-end.ensures in
    let n = c.run_end-end.result in
    (take n c.args.bytes.now, n, name_longest _ _ (sym c.in-Letter.ensures) run, omega (arith, length-take-le n c.args.bytes.now run.in_range))

pub new-word-requires : goal.new-word-requires
new-word-requires c = is_name-take c.args.bytes.now c.run_end-end.result (sym c.in-Letter.ensures) c.run_end-end.ensures (omega arith)

pub returns-else-end-gt-MAX_NAME : goal.returns-else-end-gt-MAX_NAME
returns-else-end-gt-MAX_NAME c =
    let run = c.run_end-end.ensures in
    let short = length-take-le c.run_end-end.result c.args.bytes.now run.in_range in
    rw c.new-word.ensures (name_longest _ _ (sym c.in-Letter.ensures) run, omega (arith, short))
