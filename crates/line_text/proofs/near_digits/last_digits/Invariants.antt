use Rattle.std.{proofs.Common.{◌≡◌, true, take}, specs.Char.{is_ascii_digit}, specs.List.{list_all}, specs.Str.Parse.{digits_value}}
use Rattle.line_text.proofs.near_digits.last_digits.Given as goal

abbrev pub invariant-loop-place : goal.invariant-loop-place
invariant-loop-place l = record {
  digits : list_all is_ascii_digit (take l.place l.bytes) ≡ true;
  value : l.value ≡ digits_value 10 (take l.place l.bytes);
}
