use Rattle.std.proofs.Common.{List, map, ap, ◌∙◌}
use Rattle.std.specs.Borrow.{Bor}
use Rattle.clap.specs.Words.{Text, found_of, subcommand_rows_of}
use Rattle.command_words.proofs.FoundWords.{words_are}
use Rattle.command_words.proofs.command.found_words.Goals as goal

pub returns-in_ok-from_slice-in-Some-get_strs : goal.returns-in_ok-from_slice-in-Some-get_strs
returns-in_ok-from_slice-in-Some-get_strs c = λ name words e.
    ap (λ (l : List (Bor Text)). map (λ (w : Bor Text). w.now) l) c.in_ok-from_slice-in-Some-get_strs.ensures.items
    ∙ words_are (found_of c.in-Some.found.now) (subcommand_rows_of c.args.matches.now) c.in-Some-get_strs.words.now name words c.in-Some.ensures.rows c.in-Some-get_strs.ensures e
