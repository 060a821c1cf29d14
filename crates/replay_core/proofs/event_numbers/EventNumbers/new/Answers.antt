use Rattle.std.proofs.{Common.{sym, arith}, lemmas.Fmt.{decimal_digit}}
use Rattle.replay_core.proofs.event_numbers.EventNumbers.new.Goals as goal

pub invariant_of-result-clause-digits : goal.invariant_of-result-clause-digits
invariant_of-result-clause-digits c = sym (decimal_digit 1 (omega arith))
