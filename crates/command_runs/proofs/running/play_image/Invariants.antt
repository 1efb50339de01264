-- the scans are counted in a ledger of their own
use Rattle.command_runs.proofs.running.play_image.Given as goal

abbrev pub ghosts-play_started : goal.ghosts-play_started
ghosts-play_started g a = record { name = a.blank.name; parts = a.blank.parts }
