use Rattle.std.proofs.Common.{◌-◌}
use Rattle.class_tuner.proofs.halving.+fill_part.Given as goal

abbrev pub decreases-fill_part : goal.decreases-fill_part
decreases-fill_part g l = l.part.end - l.part.start
