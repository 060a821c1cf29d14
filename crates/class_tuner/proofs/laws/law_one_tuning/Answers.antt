use Rattle.class_tuner.proofs.OneSheet.{one_count, one_sheet}
use Rattle.class_tuner.proofs.laws.law_one_tuning.Goals as goal

pub returns-clause-sheet : goal.returns-clause-sheet
returns-clause-sheet c counts step limit a b of_a of_b = one_sheet counts step limit a b of_a of_b

pub returns-clause-count : goal.returns-clause-count
returns-clause-count c counts step limit rows a b of_a of_b = one_count counts step limit rows a b of_a of_b
