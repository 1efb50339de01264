-- the scans of the start are counted in a ledger of its own
use Rattle.generic_kernel.proofs.startup.start.Given as goal

abbrev pub ghosts-start_from : goal.ghosts-start_from
ghosts-start_from a = record { name = a.blank.name; parts = a.blank.parts }
