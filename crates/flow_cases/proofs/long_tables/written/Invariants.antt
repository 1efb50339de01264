-- the evaluations are counted in a ledger of their own
use Rattle.flow_cases.proofs.long_tables.written.Given as goal

abbrev pub ghosts-least_bytes : goal.ghosts-least_bytes
ghosts-least_bytes a = record { name = a.blank.name; parts = a.blank.parts }
