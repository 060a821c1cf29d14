use Rattle.std.proofs.Common.{rules}
use Rattle.mte_engine.proofs.fit_checking.answer_for.Goals as goal

pub returns-in_ok-format-in-Refused : goal.returns-in_ok-format-in-Refused
returns-in_ok-format-in-Refused c = search rules
