-- those so far are digits, and the value is theirs
use Rattle.std.proofs.Common.{◌≡◌, take, true}
use Rattle.std.specs.{Char.{is_ascii_digit}, List.{list_all}, Str.Parse.{digits_value}}
use Rattle.trace_text.proofs.point_words.front_digits.Given as goal

abbrev pub invariant-loop-count : goal.invariant-loop-count
invariant-loop-count l = record {
  digits : list_all is_ascii_digit (take l.count l.text) ≡ true;
  value : l.value ≡ digits_value 10 (take l.count l.text);
}
