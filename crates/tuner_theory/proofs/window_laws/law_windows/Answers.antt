use Rattle.tuner_theory.proofs.Windows.{interval, lower_bounds, upper_serves, upper_takes_more, windows_are_upper}
use Rattle.tuner_theory.proofs.window_laws.law_windows.Goals as goal

pub returns-clause-windows : goal.returns-clause-windows
returns-clause-windows c = windows_are_upper

pub returns-clause-footprint : goal.returns-clause-footprint
returns-clause-footprint c = upper_takes_more

pub returns-clause-sizes : goal.returns-clause-sizes
returns-clause-sizes c = upper_serves

pub returns-clause-bound : goal.returns-clause-bound
returns-clause-bound c = lower_bounds

pub returns-clause-interval : goal.returns-clause-interval
returns-clause-interval c = interval
