use Rattle.osek_standard.proofs.ArrivalLaws.{arrival_is, is_arrival, no_arrival, none_taken, none_latched, all_below}
use Rattle.osek_standard.proofs.laws.arrival_has_the_property.Goals as goal

pub returns : goal.returns
returns c = record {
  is = arrival_is;
  found = is_arrival;
  none = no_arrival;
  none_taken = none_taken;
  all_below = all_below;
  none_latched = none_latched;
}
