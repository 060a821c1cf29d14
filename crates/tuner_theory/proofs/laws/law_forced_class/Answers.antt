use Rattle.std.proofs.Common.{true}
use Rattle.tuner_theory.proofs.{ForcedSheets.{forced_fit_is_best, forced_sheet_is_best}, Served.{served_waste, serves_largest}}
use Rattle.tuner_theory.proofs.laws.law_forced_class.Goals as goal

pub returns-clause-serving : goal.returns-clause-serving
returns-clause-serving c counts classes step are legal = serves_largest counts classes are legal.in_range

pub returns-clause-waste : goal.returns-clause-waste
returns-clause-waste c counts classes step legal = served_waste true counts classes legal.in_range

pub returns-clause-sheet : goal.returns-clause-sheet
returns-clause-sheet c = forced_sheet_is_best

pub returns-clause-fit : goal.returns-clause-fit
returns-clause-fit c = forced_fit_is_best
