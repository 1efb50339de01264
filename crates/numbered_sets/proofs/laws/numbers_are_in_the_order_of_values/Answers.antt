use Rattle.numbered_sets.proofs.KnownNumbers.{order_onward, order_back}
use Rattle.numbered_sets.proofs.laws.numbers_are_in_the_order_of_values.Goals as goal

pub returns-clause-onward : goal.returns-clause-onward
returns-clause-onward c = order_onward

pub returns-clause-back : goal.returns-clause-back
returns-clause-back c = order_back
