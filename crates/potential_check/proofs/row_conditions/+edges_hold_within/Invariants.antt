use Rattle.std.proofs.Common.{◌-◌}
use Rattle.potential_check.proofs.row_conditions.+edges_hold_within.Given as goal

abbrev pub decreases-edges_hold_within : goal.decreases-edges_hold_within
decreases-edges_hold_within l = l.part.end - l.part.start
