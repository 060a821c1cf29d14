use Rattle.std.proofs.{Common.{arith}, lemmas.Grind.{common_steps}}
use Rattle.trace_reader.proofs.one_pass.store.Goals as goal

pub returns-clause-spelled : goal.returns-clause-spelled
returns-clause-spelled c = grind (arith, common_steps)
