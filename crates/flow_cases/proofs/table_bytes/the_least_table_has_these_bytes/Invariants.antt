-- the evaluations are counted in a ledger of their own
use Rattle.flow_cases.proofs.table_bytes.the_least_table_has_these_bytes.Given as goal

abbrev pub ghosts-least_bytes : goal.ghosts-least_bytes
ghosts-least_bytes g a = record { name = a.blank.name; parts = a.blank.parts }
