use Rattle.image_fields.proofs.numbers.blank_kind.Goals as goal

pub returns : goal.returns
returns c = c.kind_of.ensures
