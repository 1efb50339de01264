-- the scans are counted in a ledger of their own
use Rattle.kernel_cases.proofs.changed_images.takes_all.Given as goal

abbrev pub ghosts-takes_events : goal.ghosts-takes_events
ghosts-takes_events a = record { name = a.blank.name; parts = a.blank.parts }
