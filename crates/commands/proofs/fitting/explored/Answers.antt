use Rattle.commands.proofs.fitting.explored.Goals as goal

pub returns : goal.returns
returns g c = let of = c.in_ok-least.ensures in record { least = record { written = of.written; least = of.least }; known = of.exits }
