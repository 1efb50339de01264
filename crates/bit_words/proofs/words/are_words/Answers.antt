use Rattle.std.proofs.{Common.{◌<◌, ◌^◌, arith}, lemmas.List.Elements.{All-from_get_or}}
use Rattle.bit_words.proofs.words.are_words.Goals as goal

pub returns : goal.returns
returns c = All-from_get_or (λ w. w < 2 ^ 64) c.args.words.now 0 (λ i _. let fits = c.type_inv.words i in omega (arith, fits))
