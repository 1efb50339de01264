use Rattle.std.proofs.Common.{◌≡◌, map, take}
use Rattle.call_tailor.specs.Tailored.{site_of}
use Rattle.call_tailor.proofs.tailoring.sites.Given as goal

abbrev pub invariant-loop-site : goal.invariant-loop-site
invariant-loop-site l = l.sites.items ≡ map site_of (take l.site-index l.found)
