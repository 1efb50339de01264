use Rattle.std.proofs.Common.{◌≡◌, ◌≤◌, map, drop, length}
use Rattle.std.specs.Prelude.{fold}
use Rattle.clap.specs.Words.{app_of}
use Rattle.command_words.specs.{Command.{with_verb}, Forms.{verb_of}}
use Rattle.command_words.proofs.command.add_verbs.Given as goal

-- what the forms from this place on add to the command is what all add to the first one
abbrev pub invariant-loop-form : goal.invariant-loop-form
invariant-loop-form l = (l.form-index ≤ l.form-index-end) × (l.form-index-end ≡ length l.forms) × (fold with_verb (app_of l.command) (map verb_of (drop l.form-index l.forms)) ≡ fold with_verb (app_of l.fn.command) (map verb_of l.forms))
