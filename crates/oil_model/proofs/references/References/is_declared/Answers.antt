-- the names of events
use Rattle.std.proofs.Common.{sym, ◌∙◌}
use Rattle.oil_model.specs.Rules.{is_declared}
use Rattle.oil_model.proofs.references.References.is_declared.Goals as goal

pub returns-in-EventName : goal.returns-in-EventName
returns-in-EventName c = c.has-in-EventName.ensures ∙ c.requires.events c.args.name.now ∙ sym (λ i. is_declared c.args.objects.now (c.in-EventName.is i) c.args.name.now)
