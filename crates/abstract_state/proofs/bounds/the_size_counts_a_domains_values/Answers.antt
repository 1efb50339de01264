use Rattle.abstract_state.proofs.DomainValues.{domain_counted}
use Rattle.abstract_state.proofs.bounds.the_size_counts_a_domains_values.Goals as goal

pub returns : goal.returns
returns c = domain_counted
