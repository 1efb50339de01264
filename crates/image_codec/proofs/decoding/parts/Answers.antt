use Rattle.image_codec.proofs.DecodeLaws.{parts_read}
use Rattle.image_codec.proofs.decoding.parts.Goals as goal

pub returns-in-Ok : goal.returns-in-Ok
returns-in-Ok c =
    parts_read c.args.reader.now c.in_ok-header.header _ c.in_ok-tables.tables _ c.in-Ok.blocks c.in-Ok.sites _ c.in_ok-header.ensures.gives c.in_ok-tables.ensures.gives c.in-Ok.ensures.gives c.in-Ok.ensures.same
