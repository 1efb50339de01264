-- The command that clap is given: each verb is a subcommand with one argument, which takes all the words behind it.
use Rattle.std.specs.Prelude.{ℕ, true, fold, List, Some, None, codes}
use Rattle.clap.specs.{Walk.{reading_by}, declared.builder.action.ArgAction.TheVariants.{Set}}
use Rattle.clap.specs.declared.builder.value_parser.ValueParser.TheVariants as parser
use Rattle.clap.specs.{declared.parser.matches.ValueSource.TheVariants.{CommandLine}, Words.{App, Row, Rule, Shape, Text, new_app, new_rule, with_rule, with_subcommand}}
use Rattle.command_words.specs.Forms.{Verb, verbs}

-- one argument of k values
abbrev pub words_rule : ℕ → Rule
words_rule k = record (new_rule (codes "words")) { value_names = k; required = true }

abbrev pub verb_app : Verb → App
verb_app v = with_rule (new_app v.0) (words_rule v.1)

abbrev pub with_verb : App → Verb → App
with_verb a v = with_subcommand a (verb_app v).top

-- no flag and no subcommand of clap's own
abbrev pub bare : Shape → Shape
bare s = record s { disable_help_flag = true; disable_help_subcommand = true; subcommand_required = true }

abbrev pub bare_app : App
bare_app = let a = new_app (codes "osekfit") in record a { top = bare a.top }

abbrev pub the_app : App
the_app = fold with_verb bare_app verbs

-- the argument as building fills it in
abbrev pub built_rule : ℕ → Rule
built_rule k = record (words_rule k) { action = Some Set; parser = Some parser.String; range = Some (record { start_inclusive = k; end_inclusive = k }); index = Some 1 }

-- what a parse finds for the argument
abbrev pub words_row : List Text → Row
words_row words = record { id = codes "words"; values = words; count = None; source = Some CommandLine; reading = reading_by (built_rule 1) }
