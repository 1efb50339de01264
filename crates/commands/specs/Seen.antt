-- A command of the code, and what it names, as the definitions see them: the bytes of the words.
use Rattle.commands.specs.Names as names
use Rattle.commands.specs.Words as words
use Rattle.commands.specs.declared.{names.Names.{Names}, words.Command.{Command}}
use Rattle.commands.specs.declared.words.Command.TheVariants as command

abbrev pub seen : Command → words.Command
seen (command.Build oil code image) = words.Build oil.now code.now image.now
seen (command.Replay image mode events) = words.Replay image.now mode.now events.now
seen (command.Trace oil code mode events) = words.Trace oil.now code.now mode.now events.now
seen (command.Show oil code) = words.Show oil.now code.now
seen (command.Report oil code) = words.Report oil.now code.now
seen (command.Info image) = words.Info image.now
seen (command.Gen seed tasks) = words.Gen seed tasks
seen (command.Upgrade image upgraded) = words.Upgrade image.now upgraded.now
seen (command.Certify oil code image table) = words.Certify oil.now code.now image.now table.now
seen (command.Check image table) = words.Check image.now table.now
seen (command.Record image mode events) = words.Record image.now mode.now events.now
seen (command.Watch oil code points) = words.Watch oil.now code.now points.now

abbrev pub seen_names : Names → names.Names
seen_names n = record { oil = n.oil.now; code = n.code.now; image = n.image.now; table = n.table.now; upgraded = n.upgraded.now; mode = n.mode.now; events = n.events.now; points = n.points.now }
