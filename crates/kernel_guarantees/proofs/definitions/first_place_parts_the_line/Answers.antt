use Rattle.kernel_guarantees.proofs.Parting.{no_place, none_lost, parted_place, parted_without, some_parts}
use Rattle.kernel_guarantees.proofs.definitions.first_place_parts_the_line.Goals as goal

pub returns : goal.returns
returns c = record { place = parted_place; without = parted_without; some = some_parts; none = no_place; none_is_lost = none_lost }
