use Rattle.std.proofs.Common.{sym, ◌∙◌, ap, List}
use Rattle.std.specs.List.{list_any}
use Rattle.command_words.specs.Forms.{Verb, takes, verb_of}
use Rattle.osek_values.proofs.Lists.{any_of_map}
use Rattle.command_words.proofs.forms.is_verb.Goals as goal

pub returns : goal.returns
returns c =
    let meets = λ (v : Verb). takes v c.args.verb.now c.args.count in
    c.any_takes.ensures ∙ sym (any_of_map meets verb_of c.forms.result.now) ∙ ap (λ (vs : List Verb). list_any meets vs) c.forms.ensures
