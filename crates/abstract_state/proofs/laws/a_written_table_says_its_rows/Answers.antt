use Rattle.abstract_state.proofs.EqualityLaws.{written_entry, written_value}
use Rattle.abstract_state.proofs.laws.a_written_table_says_its_rows.Goals as goal

pub returns : goal.returns
returns c = record { entry = written_entry; has = written_value }
