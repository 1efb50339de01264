-- what fits is added
use Rattle.std.proofs.{Common.{◌≡◌, ◌-◌, length, min, arith}, lemmas.Grind.{common_steps}}
use Rattle.osek_io.proofs.mem_shelf.MemShelf.append_piece.Goals as goal

pub add_to_file-requires : goal.add_to_file-requires
add_to_file-requires c =
    let fitting : c.min-fits.result ≡ min (length c.args.piece.now) (c.in-Some.room - c.in-Some.len) = c.min-fits.ensures in
    let limited : c.min-count.result ≡ min c.min-fits.result c.self.inside.most = c.min-count.ensures in
    grind (arith, common_steps)

pub returns-clause-answer : goal.returns-clause-answer
returns-clause-answer c =
    let fitting : c.min-fits.result ≡ min (length c.args.piece.now) (c.in-Some.room - c.in-Some.len) = c.min-fits.ensures in
    let limited : c.min-count.result ≡ min c.min-fits.result c.self.inside.most = c.min-count.ensures in
    grind (arith, common_steps)

pub returns-clause-after : goal.returns-clause-after
returns-clause-after c =
    let fitting : c.min-fits.result ≡ min (length c.args.piece.now) (c.in-Some.room - c.in-Some.len) = c.min-fits.ensures in
    let limited : c.min-count.result ≡ min c.min-fits.result c.self.inside.most = c.min-count.ensures in
    grind (arith, common_steps)
