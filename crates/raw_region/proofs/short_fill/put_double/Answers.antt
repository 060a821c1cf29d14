use Rattle.std.proofs.Common.{arith}
use Rattle.raw_region.proofs.Windows.{window_put}
use Rattle.raw_region.proofs.short_fill.put_double.Goals as goal

pub returns : goal.returns
returns c = window_put c.args.bytes.now c.args.double c.args.at (omega arith)
