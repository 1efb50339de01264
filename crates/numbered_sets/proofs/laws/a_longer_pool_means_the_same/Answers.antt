use Rattle.numbered_sets.proofs.ViewLaws.{same_view, still_known, longer_with}
use Rattle.numbered_sets.proofs.laws.a_longer_pool_means_the_same.Goals as goal

pub returns-clause-entries : goal.returns-clause-entries
returns-clause-entries c = same_view

pub returns-clause-known : goal.returns-clause-known
returns-clause-known c = still_known

pub returns-clause-grows : goal.returns-clause-grows
returns-clause-grows c = longer_with
