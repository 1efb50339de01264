use Rattle.osek_standard.proofs.LineRoom.{room_for_current, room_to_activate, room_for_waiting}
use Rattle.osek_standard.proofs.laws.the_line_has_room.Goals as goal

pub returns : goal.returns
returns c = record {
  to_activate = room_to_activate;
  for_waiting = room_for_waiting;
  for_current = room_for_current;
}
