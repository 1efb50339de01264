use Rattle.std.proofs.Common.{arith}
use Rattle.abstract_state.proofs.{DomainValues.{domain_counted}, LatticeLaws.{on_the_way, join_done, join_of_none, most_values, sound_ascends}}
use Rattle.state_flow.proofs.entry.PlainEntryLattice.join_into.Goals as goal

pub join_into-requires-clause-few : goal.join_into-requires-clause-few
join_into-requires-clause-few c = omega (arith, most_values domain_counted c.args.other.now c.requires.of_element, c.requires.of_element.few)

pub join_into-requires-clause-ascending : goal.join_into-requires-clause-ascending
join_into-requires-clause-ascending c = sound_ascends c.args.self.now c.requires.element

pub join_into-requires-clause-ascending_too : goal.join_into-requires-clause-ascending_too
join_into-requires-clause-ascending_too c = sound_ascends c.args.other.now c.requires.of_element

pub returns-clause-element : goal.returns-clause-element
returns-clause-element c =
    (on_the_way c.args.self.now c.args.other.now c.requires.element c.requires.of_element c.requires.alike c.join_into.new.self c.join_into.result c.join_into.ensures.entry c.join_into.ensures.err).element

pub returns-clause-stays_alike : goal.returns-clause-stays_alike
returns-clause-stays_alike c =
    (on_the_way c.args.self.now c.args.other.now c.requires.element c.requires.of_element c.requires.alike c.join_into.new.self c.join_into.result c.join_into.ensures.entry c.join_into.ensures.err).alike

pub returns-clause-grows : goal.returns-clause-grows
returns-clause-grows c =
    (on_the_way c.args.self.now c.args.other.now c.requires.element c.requires.of_element c.requires.alike c.join_into.new.self c.join_into.result c.join_into.ensures.entry c.join_into.ensures.err).grows

pub returns-clause-least : goal.returns-clause-least
returns-clause-least c =
    (on_the_way c.args.self.now c.args.other.now c.requires.element c.requires.of_element c.requires.alike c.join_into.new.self c.join_into.result c.join_into.ensures.entry c.join_into.ensures.err).least

pub returns-clause-joins : goal.returns-clause-joins
returns-clause-joins c = join_done c.args.self.now c.args.other.now c.requires.element c.requires.of_element c.requires.alike c.join_into.new.self c.join_into.result c.join_into.ensures.entry

pub returns-clause-same : goal.returns-clause-same
returns-clause-same c =
    join_of_none c.args.self.now c.args.other.now c.requires.element c.requires.of_element c.requires.alike c.join_into.new.self c.join_into.result c.join_into.ensures.entry c.join_into.ensures.count
