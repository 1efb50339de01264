use Rattle.std.proofs.Common.{◌∙◌, sym, map}
use Rattle.image_fields.proofs.NameReading.{name_read}
use Rattle.image_fields.proofs.reader.Reader.name.Goals as goal

pub returns : goal.returns
returns g c =
    name_read (map g.T.Named.name_of c.args.earlier.now) c.args.self.now c.in_ok-len.len _ c.in_ok-text.text.now _ _
    c.in_ok-len.ensures (rw c.left-left.ensures at c.in_ok-text.ensures) (sym c.is_fresh.ensures ∙ c.if-not-is_fresh.false) (c.new.ensures ∙ c.in_ok-from_slice.ensures.items)
