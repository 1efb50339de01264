-- the scans are counted in a ledger of their own
use Rattle.kernel_cases.proofs.tied_tasks.wrong_turn.Given as goal

abbrev pub ghosts-first_wrong_turn : goal.ghosts-first_wrong_turn
ghosts-first_wrong_turn a = record { name = a.blank.name; parts = a.blank.parts }
