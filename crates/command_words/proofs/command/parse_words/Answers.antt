use Rattle.std.proofs.{Common.{map, drop, ap, ◌∙◌}, lemmas.Result.{IfOk-weaker}}
use Rattle.std.specs.String.{string_bytes}
use Rattle.clap.specs.Words.{App, is_simple, subcommand_of}
use Rattle.command_words.proofs.FormRows.{form_finds}
use Rattle.command_words.proofs.command.parse_words.Goals as goal

pub returns : goal.returns
returns c =
    let words = map string_bytes c.args.words.now in
    let finds = form_finds words c.requires.form in
    let has = c.in-Ok.ensures.matches (ap is_simple c.in_ok-command.ensures) in
    IfOk-weaker c.found_words.result _ _ (λ v h. h finds.0 (drop 2 words) (has.1 ∙ ap (λ (a : App). subcommand_of a words) c.in_ok-command.ensures ∙ finds.1)) c.found_words.ensures
