-- the scans are counted in a ledger of their own
use Rattle.flow_cases.proofs.rules_at_points.row_after_two_runs.Given as goal

abbrev pub ghosts-run_twice : goal.ghosts-run_twice
ghosts-run_twice a = record { name = a.blank.name; parts = a.blank.parts }
