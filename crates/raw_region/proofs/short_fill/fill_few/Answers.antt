use Rattle.std.proofs.Common.{refl, arith}
use Rattle.raw_region.proofs.Windows.{overlaid}
use Rattle.raw_region.proofs.short_fill.fill_few.Goals as goal

pub returns-then-bytes-from : goal.returns-then-bytes-from
returns-then-bytes-from c =
    overlaid 64 c.args.bytes.now c.args.bytes.now c.put_double.new.bytes c.put_double-then-bytes-from.new.bytes c.double_at-rest.result
    c.args.from c.args.to c.args.value c.requires.place.0 (omega arith) (omega arith) (omega arith) refl c.put_double.ensures
    c.double_at-rest.ensures c.put_double-then-bytes-from.ensures
