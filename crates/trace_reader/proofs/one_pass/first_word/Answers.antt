use Rattle.std.proofs.{Common.{arith}, lemmas.Grind.{common_steps}}
use Rattle.trace_reader.proofs.one_pass.first_word.Goals as goal

pub returns : goal.returns
returns c = grind (arith, common_steps)
