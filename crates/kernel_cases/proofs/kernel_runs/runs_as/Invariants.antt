-- the scans are counted in a ledger of their own
use Rattle.kernel_cases.proofs.kernel_runs.runs_as.Given as goal

abbrev pub ghosts-three_runs : goal.ghosts-three_runs
ghosts-three_runs a = record { name = a.blank.name; parts = a.blank.parts }
