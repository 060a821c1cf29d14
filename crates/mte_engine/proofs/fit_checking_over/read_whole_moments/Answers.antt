use Rattle.std.proofs.{Common.{arith}}
use Rattle.mte_engine.proofs.fit_checking_over.read_whole_moments.Goals as goal

pub returns-in_err-numbers : goal.returns-in_err-numbers
returns-in_err-numbers c = grind arith

pub returns-in_err-end_text : goal.returns-in_err-end_text
returns-in_err-end_text c = grind arith

pub returns : goal.returns
returns c = grind arith
