-- the digits that are written stand behind those of what is left
use Rattle.std.proofs.Common.{◌≡◌, ◌+◌, ◌^◌, ◌<◌, false, length, take, drop}
use Rattle.std.specs.Fmt.{digits_onto}
use Rattle.osek_values.specs.Numbers.{hexadecimal}
use Rattle.text_pieces.proofs.pieces.put_hexadecimal.Given as goal

abbrev pub invariant-loop-left : goal.invariant-loop-left
invariant-loop-left l = record {
  few : l.first < 16;
  size : length l.digits ≡ 32;
  small : l.left < 16 ^ (l.first + 1);
  text : digits_onto (l.first + 49) 16 false l.left (drop (l.first + 1) (take 16 l.digits)) ≡ hexadecimal l.n;
}

abbrev pub decreases-loop-left : goal.decreases-loop-left
decreases-loop-left l = l.left
