-- the evaluations are counted in a ledger of their own
use Rattle.flow_cases.proofs.checks.said_of.Given as goal

abbrev pub ghosts-said_by : goal.ghosts-said_by
ghosts-said_by a = record { name = a.blank.name; parts = a.blank.parts }
