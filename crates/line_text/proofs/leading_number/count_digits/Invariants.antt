use Rattle.std.{proofs.Common.{◌≡◌, ◌≤◌, true, take}, specs.Char.{is_ascii_digit}, specs.List.{list_all}, specs.Str.Parse.{digits_value}}
use Rattle.line_text.proofs.leading_number.count_digits.Given as goal

abbrev pub invariant-loop-byte : goal.invariant-loop-byte
invariant-loop-byte l = record {
  end : l.end ≡ l.byte-index;
  few : l.byte-index ≤ 19;
  digits : list_all is_ascii_digit (take l.byte-index l.text) ≡ true;
  value : l.value ≡ digits_value 10 (take l.byte-index l.text);
}
