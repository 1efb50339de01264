use Rattle.std.proofs.Common.{◌∙◌}
use Rattle.oil_model.proofs.NameSets.{any_key}
use Rattle.oil_model.proofs.name_set.NameSet.has.Goals as goal

pub returns : goal.returns
returns c = c.contains.ensures ∙ any_key c.args.name.now c.args.self.now.names.keys
