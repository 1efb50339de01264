-- the scans are counted in ledgers of their own
use Rattle.kernel_cases.proofs.full_lines.fills_and_halts.Given as goal

abbrev pub ghosts-first_wrong_step : goal.ghosts-first_wrong_step
ghosts-first_wrong_step a = record { name = a.blank.name; parts = a.blank.parts }

abbrev pub ghosts-halts : goal.ghosts-halts
ghosts-halts a = record { name = a.blank.name; parts = a.blank.parts }
