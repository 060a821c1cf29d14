use Rattle.std.proofs.Common.{arith}
use Rattle.raw_region.proofs.Windows.{window_read}
use Rattle.raw_region.proofs.region.RawRegion.read_into.Goals as goal

pub returns-then-bytes-i-ge64 : goal.returns-then-bytes-i-ge64
returns-then-bytes-i-ge64 c = grind (arith, window_read)
