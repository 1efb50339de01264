use Rattle.std.specs.String.{string_bytes}
use Rattle.commands.proofs.FewWords.{of_few}
use Rattle.commands.proofs.words.command_from.Goals as goal

pub returns-in_default : goal.returns-in_default
returns-in_default c = of_few string_bytes c.args.words.now c.in_default.len_below
