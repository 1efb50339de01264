use Rattle.flow_cases.proofs.table_bytes.refusal.Goals as goal

pub write_table-requires : goal.write_table-requires
write_table-requires c = c.in-Ok.ensures.spellable.written
