use Rattle.std.proofs.Common.{length, arith, length-append}
use Rattle.std.specs.{Int.{to_be_bytes, w32}, List.{flat_map}}
use Rattle.std.proofs.lemmas.List.Elements.{recursion_from_All}
use Rattle.numbered_sets.specs.SetLists.{set_of}
use Rattle.table_codec.specs.{Ascending.{values_in}, Spelling.{value_bytes}, Writing.{CanBeWritten}}
use Rattle.table_codec.proofs.WriteLaws.{bytes_many}
use Rattle.table_codec.proofs.writing.put_listed.Goals as goal

pub returns-then-found-gt-MAX_TABLE : goal.returns-then-found-gt-MAX_TABLE
returns-then-found-gt-MAX_TABLE c =
    let vs = values_in (set_of c.args.sets.now c.args.component) c.args.values.now in
    omega (arith, c.if-found-gt-MAX_TABLE.true, c.in_ok-found.ensures.count, bytes_many vs (recursion_from_All CanBeWritten vs c.requires.values), length-append (to_be_bytes w32 (length vs)) (flat_map value_bytes vs))
