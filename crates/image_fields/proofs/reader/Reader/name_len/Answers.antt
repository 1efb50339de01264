-- a length from 1 to the most
use Rattle.std.proofs.Common.{rules}
use Rattle.image_fields.specs.Reading.{tested_byte_at}
use Rattle.image_fields.proofs.reader.Reader.name_len.Goals as goal

pub returns : goal.returns
unfolding tested_byte_at
returns c = search rules
