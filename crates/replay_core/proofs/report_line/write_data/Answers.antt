use Rattle.std.{proofs.Common.{append_assoc, length-take-le, arith}}
use Rattle.replay_theory.specs.Report.{report_line}
use Rattle.replay_core.proofs.DigitsOfBytes.{digits_to}
use Rattle.replay_core.proofs.report_line.write_data.Goals as goal

pub returns-clause-text : goal.returns-clause-text
unfolding report_line
returns-clause-text c = grind (arith, length-take-le, digits_to, append_assoc)
