use Rattle.std.proofs.Common.{◌∙◌, ap}
use Rattle.osek_vectors.specs.{Writing.{Written, onto}, CodeTexts.{code_text}, EventLines.{event_text}}
use Rattle.osek_vectors.proofs.InTurn.{taken-in_turn}
use Rattle.osek_vectors.proofs.generated.generate.Goals as goal

pub returns-clause-texts : goal.returns-clause-texts
returns-clause-texts c =
    rw (c.take_text-oil.ensures.text, c.take_text-code.ensures.text, c.take_text-events.ensures.text)
    (taken-in_turn c.args.seed c.args.tasks c.new-writer.result c.put_oil.new.writer c.put_code.new.writer c.put_events.new.writer
    c.new-writer.ensures
    c.in_ok-put_oil.ensures
    (c.in_ok-put_code.ensures ∙ ap (λ (w : Written). onto w (code_text c.args.tasks)) c.take_text-oil.ensures.rest)
    (c.in_ok-put_events.ensures ∙ ap (λ (w : Written). onto w (event_text c.args.tasks)) c.take_text-code.ensures.rest))
